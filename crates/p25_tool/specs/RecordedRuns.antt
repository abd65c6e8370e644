-- The result of a call for a recording of data units within the correction radius.
use Rattle.std.specs.{Prelude.{◌≡◌, ℕ, List, length, Option}, List.{flat_map}}
use Rattle.p25_io.specs.Octets.{Appended}
use Rattle.p25_stream.specs.Arrivals.{Arrival, bits_arrived, wholes_of}
use Rattle.p25_recording_filters.specs.ItemOutputs.{check_line, shown}
use Rattle.p25_tool.specs.{declared.command.Command.{Command}, declared.command.Command.TheVariants.{Show, Check, Repair, Bridge, Relay, Follow}}
use Rattle.p25_tool.specs.{declared.outcome.Outcome.{Outcome}, declared.outcome.Outcome.TheVariants.{Done}}
use Rattle.p25_tool.specs.Recorded.{AreOctetsOf, images_arrived, images_bridged}

-- the commands that work on each data unit by itself
abbrev pub IsUnitCommand : Command → Type 0
IsUnitCommand Show = Unit {0}
IsUnitCommand Check = Unit {0}
IsUnitCommand Repair = Unit {0}
IsUnitCommand (Bridge nac status) = Unit {0}
IsUnitCommand (Relay nac status) = Unit {0}
IsUnitCommand Follow = Unit {0}
IsUnitCommand command = ⊥

-- their output for a recording of data units: a line for each, whole and as received; the line that counts them and no fault; their images as
-- received; these under another network access code (NAC) and with one status symbol, for `bridge` and for `relay`; and for `follow` their bits
-- unchanged
abbrev pub AreWrittenOf : Command → List Arrival → List ℕ → Type 0
AreWrittenOf Show arrivals octets = octets ≡ flat_map shown (wholes_of 0 arrivals)
AreWrittenOf Check arrivals octets = octets ≡ check_line (length arrivals) 0
AreWrittenOf Repair arrivals octets = AreOctetsOf (images_arrived arrivals) octets
AreWrittenOf (Bridge nac status) arrivals octets = AreOctetsOf (images_bridged nac status arrivals) octets
AreWrittenOf (Relay nac status) arrivals octets = AreOctetsOf (images_bridged nac status arrivals) octets
AreWrittenOf Follow arrivals octets = AreOctetsOf (bits_arrived arrivals) octets
AreWrittenOf command arrivals octets = ⊥

-- a recording of data units was processed to its end, and this was written
pub record HasWrittenUnits (first last : Option (List ℕ)) (command : Command) (arrivals : List Arrival) (outcome : Outcome) : Type 0 where
  pub done : outcome ≡ Done
  pub octets : List ℕ
  pub of_units : AreWrittenOf command arrivals octets
  pub wrote : Appended first octets last
