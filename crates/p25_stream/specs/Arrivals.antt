-- Data units that were transmitted one after the other, and their reception: each is found among the items of a stream.
use Rattle.std.specs.{Prelude.{◌≡◌, ℕ, ◌+◌, ◌<◌, Bool, List, [], ◌∷◌, ◌++◌, length, All, ◌⊎◌}, List.{flat_map, sum_by}}
use Rattle.p25_units.specs.{Fixes.{fixes_of}, Items.{covered, place_of}, Units.{IsSendableUnit, IsSoundFrame}, WithinRadius.{IsWithinRadius, received_frame}}
use Rattle.p25_units.specs.{declared.frame.Frame.{Frame}, declared.item.Item.{Item}, declared.item.Item.TheVariants.{Whole, Broken, NoUnit, Gap, Cut}}
use Rattle.p25_stream.specs.Items.{items_by, items_of}

-- a transmitted frame, and the received bits of its image
pub record Arrival : Type 0 where
  pub frame : Frame
  pub bits : List Bool

-- the frame is sound, its data unit is sendable, and the bits lie within the correction radius of its image
pub record IsNearArrival (arrival : Arrival) : Type 0 where
  pub sound : IsSoundFrame arrival.frame
  pub sendable : IsSendableUnit arrival.frame.unit
  pub near : IsWithinRadius arrival.frame arrival.bits

-- the frame as received: the transmitted fields, with the received voice frames and status symbols
abbrev pub frame_arrived : Arrival → Frame
frame_arrived arrival = received_frame arrival.frame arrival.bits

-- the bits of data units, end to end
abbrev pub bits_arrived : List Arrival → List Bool
bits_arrived arrivals = flat_map (λ arrival. arrival.bits) arrivals

-- a data unit at a position: whole, as received, with the bit errors as its fixes
abbrev pub whole_of : ℕ → Arrival → Item
whole_of place arrival = Whole place (frame_arrived arrival) (fixes_of (frame_arrived arrival) arrival.bits)

-- data units from a position on, each at the end of the one before it
unfoldable pub wholes_of : ℕ → List Arrival → List Item
wholes_of place [] = []
wholes_of place (arrival ∷ arrivals) = whole_of place arrival ∷ wholes_of (place + length arrival.bits) arrivals

-- if data units begin, each within the correction radius, the items are these data units, whole and as received, and then those of the bits after
-- them; they are also returned by a stream that goes on
abbrev pub UnitsAreWhole : Type 0
UnitsAreWhole =
    (ended : Bool) (at : ℕ) (arrivals : List Arrival) (more : List Bool) → All IsNearArrival arrivals
    → items_by ended at (bits_arrived arrivals ++ more) ≡ wholes_of at arrivals ++ items_by ended (at + length (bits_arrived arrivals)) more

-- an item is a data unit, whole, broken or cut
abbrev pub IsUnitItem : Item → Type 0
IsUnitItem (Whole place frame fixes) = Unit {0}
IsUnitItem (Broken place count nac duid fields) = Unit {0}
IsUnitItem (NoUnit place field) = ⊥
IsUnitItem (Gap place count) = ⊥
IsUnitItem (Cut place have) = Unit {0}

-- some items include a data unit, whole, broken or cut, that begins before a position and covers it
pub record IsHidden (place : ℕ) (items : List Item) : Type 0 where
  pub before : List Item
  pub item : Item
  pub after : List Item
  pub among : items ≡ before ++ item ∷ after
  pub unit : IsUnitItem item
  pub begins : place_of item < place
  pub covers : place < place_of item + covered item

-- the items of some bits include the data unit of an arrival, whole and as received, at its position: the items before it end there, and those after
-- it are those of the bits that follow
pub record IsFound (at place : ℕ) (arrival : Arrival) (more : List Bool) (items : List Item) : Type 0 where
  pub before : List Item
  pub among : items ≡ before ++ whole_of place arrival ∷ items_of (place + length arrival.bits) more
  pub ends : at + sum_by covered before ≡ place

-- wherever a data unit within the correction radius is in a stream, it is found there, whole and as received, unless a data unit that begins before
-- it, whole, broken or cut, covers its first bit. A gap ends at the beginning of a data unit, and a position without a data unit has one bit
abbrev pub UnitIsFound : Type 0
UnitIsFound =
    (at : ℕ) (bits : List Bool) (arrival : Arrival) (more : List Bool) → IsNearArrival arrival
    → IsHidden (at + length bits) (items_of at (bits ++ (arrival.bits ++ more)))
    ⊎ IsFound at (at + length bits) arrival more (items_of at (bits ++ (arrival.bits ++ more)))
