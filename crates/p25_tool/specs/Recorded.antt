-- The output of the commands for a recording of data units that were transmitted one after the other, each damaged within the correction radius: each
-- data unit as transmitted, with the received voice frames and status symbols.
use Rattle.std.specs.{Prelude.{◌≡◌, ℕ, ◌<◌, Bool, true, false, List, [], ◌++◌, length, map, All, Some, ◌⊎◌}, List.{flat_map}}
use Rattle.p25_bits.specs.Bits.{octet_bits, part}
use Rattle.p25_status.specs.declared.symbols.Status.{Status}
use Rattle.p25_units.specs.{Units.{image_of, whole_octets}, declared.item.Item.{Item}}
use Rattle.p25_stream.specs.{Arrivals.{Arrival, IsHidden, IsNearArrival, bits_arrived, frame_arrived, whole_of, wholes_of}, Items.{items_of}}
use Rattle.p25_stream.specs.Repeats.{bridged_frame}
use Rattle.p25_follow.specs.{Followed.{follow_of}, Relayed.{relay_of}}
use Rattle.p25_filter.specs.declared.ending.Ending.TheVariants.{Done}
use Rattle.p25_tool.specs.{declared.command.Command.TheVariants.{Show, Check, Repair, Bridge, Relay, Follow}, Outputs.{ending_by, output_by}}
use Rattle.p25_recording_filters.specs.ItemOutputs.{check_line, shown}

-- octets are a recording of data units: their bits are those of the data units, end to end, each within the correction radius of its image
pub record IsRecording (arrivals : List Arrival) (octets : List ℕ) : Type 0 where
  pub near : All IsNearArrival arrivals
  pub bits : octet_bits octets ≡ bits_arrived arrivals

-- the images of data units as received, end to end
abbrev pub images_arrived : List Arrival → List Bool
images_arrived arrivals = flat_map (λ arrival. image_of (frame_arrived arrival)) arrivals

-- the images of received data units, under another network access code (NAC), with one status symbol everywhere
abbrev pub images_bridged : ℕ → Status → List Arrival → List Bool
images_bridged nac status arrivals = flat_map (λ arrival. image_of (bridged_frame nac status (frame_arrived arrival))) arrivals

-- a data unit received without damage, as its image
abbrev pub undamaged : Arrival → Arrival
undamaged arrival = record { frame = frame_arrived arrival; bits = image_of (frame_arrived arrival) }

-- the octets that bits fill, with no bit left over
pub record AreOctetsOf (bits : List Bool) (octets : List ℕ) : Type 0 where
  pub octets_are : octets ≡ whole_octets bits
  pub bits_are : octet_bits octets ≡ bits

-- every list of data units within the correction radius is recorded: their bits fill whole octets
abbrev pub UnitsAreRecorded : Type 0
UnitsAreRecorded = (arrivals : List Arrival) → All IsNearArrival arrivals → IsRecording arrivals (whole_octets (bits_arrived arrivals))

-- `show` writes one line for each data unit: whole, as received, at its position
abbrev pub ShowsUnits : Type 0
ShowsUnits =
    (ended : Bool) (arrivals : List Arrival) (octets : List ℕ) → IsRecording arrivals octets
    → output_by Show ended octets ≡ flat_map shown (wholes_of 0 arrivals)

-- `check` writes only its last line, which counts the data units, and finds no fault
abbrev pub ChecksUnits : Type 0
ChecksUnits =
    (arrivals : List Arrival) (octets : List ℕ) → IsRecording arrivals octets
    → (output_by Check true octets ≡ check_line (length arrivals) 0)
    × (output_by Check false octets ≡ [])
    × (ending_by Check true octets ≡ Some Done)

-- `repair` writes the images of the data units as received
abbrev pub RepairsUnits : Type 0
RepairsUnits =
    (ended : Bool) (arrivals : List Arrival) (octets : List ℕ) → IsRecording arrivals octets
    → AreOctetsOf (images_arrived arrivals) (output_by Repair ended octets)

-- these are a recording of the same data units without damage, so repairing it again changes nothing
abbrev pub RepairedIsRecorded : Type 0
RepairedIsRecorded =
    (ended : Bool) (arrivals : List Arrival) (octets : List ℕ) → IsRecording arrivals octets
    → IsRecording (map undamaged arrivals) (output_by Repair ended octets)
    × (output_by Repair true (output_by Repair ended octets) ≡ output_by Repair ended octets)

-- `bridge` writes their images under its network access code (NAC) and with its status symbol
abbrev pub BridgesUnits : Type 0
BridgesUnits =
    (ended : Bool) (nac : ℕ) (status : Status) (arrivals : List Arrival) (octets : List ℕ) → nac < 4096 → IsRecording arrivals octets
    → AreOctetsOf (images_bridged nac status arrivals) (output_by (Bridge nac status) ended octets)

-- `relay` writes the same
abbrev pub RelaysUnits : Type 0
RelaysUnits =
    (ended : Bool) (nac : ℕ) (status : Status) (arrivals : List Arrival) (octets : List ℕ) → nac < 4096 → IsRecording arrivals octets
    → AreOctetsOf (images_bridged nac status arrivals) (output_by (Relay nac status) ended octets)

-- and, for data units without damage that have its network access code (NAC) and its status symbol everywhere, the recording itself
abbrev pub RelaysItself : Type 0
RelaysItself =
    (ended : Bool) (nac : ℕ) (status : Status) (arrivals : List Arrival) (octets : List ℕ) → nac < 4096 → IsRecording arrivals octets
    → All (λ arrival. image_of (bridged_frame nac status (frame_arrived arrival)) ≡ arrival.bits) arrivals
    → AreOctetsOf (octet_bits octets) (output_by (Relay nac status) ended octets)

-- `follow` writes the recording unchanged
abbrev pub FollowsUnits : Type 0
FollowsUnits =
    (ended : Bool) (arrivals : List Arrival) (octets : List ℕ) → IsRecording arrivals octets
    → AreOctetsOf (octet_bits octets) (output_by Follow ended octets)

-- lines that `show` writes include that of an item
pub record HasLine (item : Item) (octets : List ℕ) : Type 0 where
  pub before : List Item
  pub after : List Item
  pub among : octets ≡ flat_map shown before ++ (shown item ++ flat_map shown after)

-- wherever a data unit within the correction radius is among the bits of a recording, `show` writes its line: whole, as received, at its position;
-- unless a data unit that begins before it, whole, broken or cut, covers its first bit
abbrev pub ShowsEachUnit : Type 0
ShowsEachUnit =
    (octets : List ℕ) (bits : List Bool) (arrival : Arrival) (more : List Bool) → IsNearArrival arrival
    → octet_bits octets ≡ bits ++ (arrival.bits ++ more)
    → IsHidden (length bits) (items_of 0 (octet_bits octets)) ⊎ HasLine (whole_of (length bits) arrival) (output_by Show true octets)

-- `repair` writes the image of each data unit within the correction radius at its position
abbrev pub RepairsEachUnit : Type 0
RepairsEachUnit =
    (octets : List ℕ) (bits : List Bool) (arrival : Arrival) (more : List Bool) → IsNearArrival arrival
    → octet_bits octets ≡ bits ++ (arrival.bits ++ more)
    → IsHidden (length bits) (items_of 0 (octet_bits octets))
    ⊎ (part (length bits) (length arrival.bits) (octet_bits (output_by Repair true octets)) ≡ image_of (frame_arrived arrival))

-- the output of `repair` for any recording has as many octets
abbrev pub RepairKeepsLength : Type 0
RepairKeepsLength = (octets : List ℕ) → length (output_by Repair true octets) ≡ length octets

-- the output of `follow` for any recording is `follow_of` its bits, as octets: as many as the recording has
abbrev pub FollowsRecording : Type 0
FollowsRecording =
    (octets : List ℕ) → AreOctetsOf (follow_of (octet_bits octets)) (output_by Follow true octets) × (length (output_by Follow true octets) ≡ length octets)

-- the output of `relay` for any recording is `relay_of` its bits, as octets: as many as the recording has
abbrev pub RelaysRecording : Type 0
RelaysRecording =
    (nac : ℕ) (status : Status) (octets : List ℕ) → nac < 4096
    → AreOctetsOf (relay_of nac status (octet_bits octets)) (output_by (Relay nac status) true octets)
    × (length (output_by (Relay nac status) true octets) ≡ length octets)
