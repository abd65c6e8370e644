-- Data units divided into runs at the breaks between neighbours.
use Rattle.std.specs.Prelude.{Bool, if◌then◌else◌, List, [], ◌∷◌}
use Rattle.p25_calls.specs.{declared.seen.UnitSeen.{UnitSeen}, Seen.{is_break, is_terminator}}

-- data units that follow one another, at least one
pub record Run : Type 0 where
  pub first : UnitSeen
  pub others : List UnitSeen

-- the run of a data unit and those after it
abbrev pub run_from : UnitSeen → List UnitSeen → Run
run_from unit units = record { first = unit; others = units }

-- the data units of a run, in order
abbrev pub units_in : Run → List UnitSeen
units_in run = run.first ∷ run.others

-- the last of some data units, the first of which is given
unfoldable pub last_of : UnitSeen → List UnitSeen → UnitSeen
last_of unit [] = unit
last_of unit (next ∷ units) = last_of next units

-- the last data unit of a run
abbrev pub last_unit : Run → UnitSeen
last_unit run = last_of run.first run.others

-- a data unit before some runs: it begins the first of them, or is a run by itself if there is a break after it
unfoldable pub with_unit : UnitSeen → List Run → List Run
with_unit unit [] = run_from unit [] ∷ []
with_unit unit (run ∷ runs) = if is_break unit run.first then run_from unit [] ∷ run ∷ runs else run_from unit (units_in run) ∷ runs

-- the runs of some data units: they are divided if and only if there is a break between neighbours
unfoldable pub runs_of : List UnitSeen → List Run
runs_of [] = []
runs_of (unit ∷ units) = with_unit unit (runs_of units)

-- the runs that no further data unit can join, whatever it is: all but the last, and the last one too if it ends with a terminator (TDU or TDULC)
unfoldable pub closed_runs : List Run → List Run
closed_runs [] = []
closed_runs (run ∷ []) = if is_terminator (last_unit run) then run ∷ [] else []
closed_runs (run ∷ next ∷ runs) = run ∷ closed_runs (next ∷ runs)

-- the runs of some data units that no others follow, or only those that no further data unit can join
unfoldable pub runs_by : Bool → List UnitSeen → List Run
runs_by ended units = if ended then runs_of units else closed_runs (runs_of units)
