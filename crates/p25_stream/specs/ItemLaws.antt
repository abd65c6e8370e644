-- The justification of the definition of a stream's items: laws over all bits and positions.
use Rattle.std.specs.{Prelude.{◌≡◌, ℕ, ◌+◌, ◌<◌, ◌≤◌, Bool, true, false, ◌||◌, List, [], ◌∷◌, ◌++◌, length, take, drop}, List.{sum_by}}
use Rattle.p25_status.specs.{Sync.{has_sync}, Woven.{statuses_of}, declared.symbols.Status.{Status}}
use Rattle.p25_units.specs.{Fixes.{fixes_of}, Items.{IsSoundItem, covered, place_of}}
use Rattle.p25_units.specs.Terminators.{HasTerminator, identifier_errors, sync_errors, terminator, terminator_bits}
use Rattle.p25_units.specs.{Units.{IsSendableUnit, IsSoundFrame, frame_length_of, image_of}, WholeLaws.{IsWholeOf}}
use Rattle.p25_units.specs.{WithinRadius.{IsWithinRadius, received_frame}, declared.frame.Frame.{Frame}, declared.item.Item.{Item}}
use Rattle.p25_units.specs.declared.item.Item.TheVariants.{Whole, Gap}
use Rattle.p25_stream.specs.{Items.{sync_place, first_item, is_decided, items_by, items_of, decided_of}, Scan.{Scan, Gave}}

-- the least position with a sync: no position before it has one, and it has one if it is among the bits
abbrev pub SyncPlaceIsLeast : Type 0
SyncPlaceIsLeast =
    (bits : List Bool)
    → (sync_place bits ≤ length bits)
    × ((place : ℕ) → place < sync_place bits → has_sync (drop place bits) ≡ false)
    × (sync_place bits < length bits → has_sync (drop (sync_place bits) bits) ≡ true)

-- no bits have no item; other bits have the first item, and then those of the remaining bits if the stream has ended or the first item is decided,
-- and none otherwise
abbrev pub ItemsUnfold : Type 0
ItemsUnfold =
    ((ended : Bool) (at : ℕ) → items_by ended at [] ≡ [])
    × ((ended : Bool) (at : ℕ) (bits : List Bool) → 0 < length bits → (ended || is_decided bits) ≡ true
    → items_by ended at bits ≡ first_item at bits ∷ items_by ended (at + covered (first_item at bits)) (drop (covered (first_item at bits)) bits))
    × ((ended : Bool) (at : ℕ) (bits : List Bool) → (ended || is_decided bits) ≡ false → items_by ended at bits ≡ [])

-- the items cover every bit
abbrev pub ItemsCoverAll : Type 0
ItemsCoverAll = (at : ℕ) (bits : List Bool) → sum_by covered (items_of at bits) ≡ length bits

-- each item covers at least one bit, and begins at the end of those before it
abbrev pub ItemsLieEndToEnd : Type 0
ItemsLieEndToEnd =
    (ended : Bool) (at : ℕ) (bits : List Bool) (before : List Item) (item : Item) (after : List Item)
    → items_by ended at bits ≡ before ++ item ∷ after → (0 < covered item) × (place_of item ≡ at + sum_by covered before)

-- no gap is longer than 4,096 bits, and one that another gap follows has exactly that many
abbrev pub GapsAreFull : Type 0
GapsAreFull =
    ((ended : Bool) (at : ℕ) (bits : List Bool) (before : List Item) (place count : ℕ) (after : List Item)
    → items_by ended at bits ≡ before ++ Gap place count ∷ after → count ≤ 4096)
    × ((ended : Bool) (at : ℕ) (bits : List Bool) (before : List Item) (place count next_place next_count : ℕ) (after : List Item)
    → items_by ended at bits ≡ before ++ Gap place count ∷ Gap next_place next_count ∷ after → count ≡ 4096)

-- each item is sound
abbrev pub ItemsAreSound : Type 0
ItemsAreSound =
    (ended : Bool) (at : ℕ) (bits : List Bool) (before : List Item) (item : Item) (after : List Item)
    → items_by ended at bits ≡ before ++ item ∷ after → IsSoundItem item

-- a first item that is decided stays the first whatever bits come later
abbrev pub FirstStays : Type 0
FirstStays =
    (at : ℕ) (bits more : List Bool)
    → is_decided bits ≡ true → (first_item at (bits ++ more) ≡ first_item at bits) × (is_decided (bits ++ more) ≡ true)

-- 25,920 bits, as many as the longest data unit has, decide a first item, whatever they are; so it depends on no more bits
abbrev pub EnoughDecide : Type 0
EnoughDecide = (bits : List Bool) → 25920 ≤ length bits → is_decided bits ≡ true

-- the items that some bits decide are the first ones, whatever bits come later, and whether the stream has ended or not
abbrev pub DecidedStay : Type 0
DecidedStay = (ended : Bool) (at : ℕ) (bits more : List Bool) → (rest : List Item) × (items_by ended at (bits ++ more) ≡ decided_of at bits ++ rest)

-- if bits begin with those of a sound frame with few bit errors, the first item is the whole data unit as received, it is decided, and it covers
-- exactly these bits
abbrev pub NearIsWhole : Type 0
NearIsWhole =
    (at : ℕ) (frame : Frame) (sent more : List Bool) → IsSoundFrame frame → IsSendableUnit frame.unit → IsWithinRadius frame sent
    → (first_item at (sent ++ more) ≡ Whole at (received_frame frame sent) (fixes_of (received_frame frame sent) sent))
    × (is_decided (sent ++ more) ≡ true)
    × (covered (first_item at (sent ++ more)) ≡ length sent)

-- the first item is a whole data unit only if the bits that it covers decode to its frame, and those of sync and NID lie within the correction radius
abbrev pub WholeIsRead : Type 0
WholeIsRead =
    (at : ℕ) (bits : List Bool) (place : ℕ) (frame : Frame) (fixes : ℕ) → first_item at bits ≡ Whole place frame fixes
    → IsWholeOf at (take (frame_length_of frame.unit) bits) place frame fixes

-- if bits begin with the image of a sound frame, the first item is that frame, whole and without fixes
abbrev pub ImageIsWhole : Type 0
ImageIsWhole =
    (at : ℕ) (frame : Frame) (more : List Bool) → IsSoundFrame frame → IsSendableUnit frame.unit
    → first_item at (image_of frame ++ more) ≡ Whole at frame 0

-- the item that a scanner returned is the first of the items of the bits that it held and any bits that come later, and the scanner has the others
-- left
abbrev pub GaveItems : Type 0
GaveItems =
    (before now : Scan) (item : Item) (raw : List Bool) (ended : Bool) (more : List Bool)
    → Gave before item raw now → (before.finished ≡ true → (ended ≡ true) × (more ≡ []))
    → items_by ended before.place (before.held ++ more) ≡ item ∷ items_by ended now.place (now.held ++ more)

-- if 144 bits are there, at most 4 of the first 48 differ from the sync, and the first 63 bits of the network identifier (NID) differ in at most 11
-- from those transmitted for a network access code of 12 bits and the data unit identifier 3, the first item is the terminator (TDU) with that code,
-- whole, with the two received status symbols, and the bit errors as its fixes; it is decided
abbrev pub TerminatorIsRead : Type 0
TerminatorIsRead =
    (at nac : ℕ) (bits : List Bool) → HasTerminator nac bits
    → (first_item at bits ≡ Whole at (terminator nac (statuses_of (take 144 bits))) (sync_errors bits + identifier_errors nac bits))
    × (is_decided bits ≡ true)

-- only then is the first item a terminator (TDU) with some code
abbrev pub TerminatorIsThere : Type 0
TerminatorIsThere =
    (at nac : ℕ) (bits : List Bool) (place : ℕ) (statuses : List Status) (fixes : ℕ)
    → first_item at bits ≡ Whole place (terminator nac statuses) fixes
    → HasTerminator nac bits × (place ≡ at) × (statuses ≡ statuses_of (take 144 bits)) × (fixes ≡ sync_errors bits + identifier_errors nac bits)

-- the transmitted bits of a terminator (TDU) decode to it, without fixes, whatever bits follow
abbrev pub SentTerminatorIsRead : Type 0
SentTerminatorIsRead =
    (at nac : ℕ) (statuses : List Status) (more : List Bool) → nac < 4096 → length statuses ≡ 2
    → first_item at (terminator_bits nac statuses ++ more) ≡ Whole at (terminator nac statuses) 0
