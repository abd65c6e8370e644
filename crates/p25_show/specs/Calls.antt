-- The consequences of a call of `show` on a source and a sink that expose their contents.
use Rattle.std.specs.Prelude.{◌≡◌, ℕ, ◌+◌, ◌<◌, ◌≤◌, Bool, true, false, if◌then◌else◌, nat_lt, List, [], ◌++◌, length, take, Option, Some, All}
use Rattle.std.specs.List.{flat_map}
use Rattle.p25_bits.specs.Bits.{octet_bits}
use Rattle.p25_stream.specs.{Arrivals.{Arrival, IsNearArrival, bits_arrived, wholes_of}, Items.{items_by}}
use Rattle.p25_recording_filters.specs.ItemOutputs.{shown}
use Rattle.p25_filter.specs.Runs.{input_most, read_most}
use Rattle.p25_tool.specs.{declared.outcome.Outcome.{Outcome}, declared.outcome.Outcome.TheVariants.{Done, TooLong, ReadFault, WriteFault}}

-- the lines of the items of some octets, whether they are all or more may come
abbrev pub lines_shown : Bool → List ℕ → List ℕ
lines_shown ended octets = flat_map shown (items_by ended 0 (octet_bits octets))

-- all output for an input: for one that is too long, the lines that its first octets determine
abbrev pub all_shown : List ℕ → List ℕ
all_shown input = if nat_lt input_most (length input) then lines_shown false (take input_most input) else lines_shown true input

-- the text that a call wrote, by its outcome, if these octets were taken and the rest was left
abbrev pub IsShown : (octets rest text : List ℕ) → Outcome → Type 0
IsShown octets rest text Done = (rest ≡ []) × (length octets ≤ input_most) × (text ≡ all_shown octets)
IsShown octets rest text TooLong = (input_most < length octets) × (text ≡ all_shown octets)
IsShown octets rest text ReadFault = (length octets ≤ input_most) × (text ≡ lines_shown false octets)
IsShown octets rest text WriteFault = (count : ℕ) × (text ≡ take count (all_shown (octets ++ rest)))
IsShown octets rest text outcome = ⊥

-- the laws of a call of `show` on a source that held an input and a sink that held some octets before: the octets left of the source and those in the
-- sink last, whether a read or a write failed, whether the sink is unchanged, and the outcome. `parts`, `left`, `few`: the octets taken from the
-- source; at most one read more than an input may have. `wrote`, `text_is`: the text after the sink's former octets, by the outcome. `quiet`: if
-- there is no output, the sink is not used. `complete`: the outcome if nothing failed. `recorded`: for data units within the correction radius there
-- is a line for each, whole and as received. `read_fault`, `write_fault`: the reason why a call was given up
pub record ShowSays (input before : List ℕ) (left last : Option (List ℕ)) (read_failed write_failed sink_kept : Type 0) (outcome : Outcome) : Type 0 where
  pub octets : List ℕ
  pub rest : List ℕ
  pub text : List ℕ
  pub parts : input ≡ octets ++ rest
  pub left_is : left ≡ Some rest
  pub few : length octets ≤ input_most + read_most
  pub wrote : last ≡ Some (before ++ text)
  pub text_is : IsShown octets rest text outcome
  pub quiet : all_shown input ≡ [] → sink_kept
  pub complete : ¬ read_failed → ¬ write_failed → outcome ≡ (if nat_lt input_most (length input) then TooLong else Done)
  pub recorded : (arrivals : List Arrival) → All IsNearArrival arrivals → octet_bits input ≡ bits_arrived arrivals → outcome ≡ Done
      → text ≡ flat_map shown (wholes_of 0 arrivals)
  pub read_fault : outcome ≡ ReadFault → read_failed
  pub write_fault : outcome ≡ WriteFault → write_failed
