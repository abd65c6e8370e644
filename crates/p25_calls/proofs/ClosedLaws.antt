-- A closed run stays a run, whatever data units come later. By induction on the data units: a data unit before runs, and before those with more data
-- units after, makes the same runs up to the last.
use Rattle.std.proofs.{Common.{◌≡◌, Bool, true, false, List, [], ◌∷◌, ◌++◌, refl, sym, ap, ◌∙◌}}
use Rattle.p25_calls.specs.{declared.seen.UnitSeen.{UnitSeen}, Seen.{is_break, is_terminator}, Runs.{Run, closed_runs, last_of, last_unit, run_from, runs_of, units_in, with_unit}}
use Rattle.p25_calls.specs.CallLaws.{ClosedStay}
use Rattle.p25_calls.proofs.{RunsLaws.{runs_of-begins, runs_of-run, with_unit-break, with_unit-joins}, EndedLaws.{cut-terminator}}

-- some runs begin with the closed ones of others
record Stay (runs all : List Run) : Type 0 where
  rest : List Run
  is : all ≡ closed_runs runs ++ rest

cons-parts : (run first : Run) (runs rest : List Run) → run ∷ runs ≡ first ∷ rest → (run ≡ first) × (runs ≡ rest)
cons-parts run first runs rest same = (cc, cc)

closed-end : (run : Run) → is_terminator (last_unit run) ≡ true → closed_runs (run ∷ []) ≡ run ∷ []
unfolding closed_runs
closed-end run ends = rw ends

-- the last run, with no data unit after it or one that begins another
open-stay : (run : Run) (all : List Run) → is_terminator (last_unit run) ≡ false → Stay (run ∷ []) all
unfolding closed_runs
open-stay run all going = record { rest = all; is = rw going }

one-stay : (unit : UnitSeen) (more : List UnitSeen) (b : Bool) → is_terminator (last_unit (run_from unit [])) ≡ b → Stay (runs_of (unit ∷ [])) (runs_of (unit ∷ more))
unfolding runs_of with_unit
one-stay unit more false going = open-stay (run_from unit []) (runs_of (unit ∷ more)) going
one-stay unit more true ends = record {
  rest = runs_of more;
  is = rw (closed-end (run_from unit []) ends) (runs_of-run (run_from unit []) more tt (cut-terminator (last_unit (run_from unit [])) more ends));
}

-- a data unit that joins the first run
longer-last : (unit : UnitSeen) (run : Run) → last_unit (run_from unit (units_in run)) ≡ last_unit run
unfolding last_of
longer-last unit run = refl

longer-one : (unit : UnitSeen) (run first : Run) (runs rest : List Run) → first ∷ runs ≡ closed_runs (run ∷ []) ++ rest → (b : Bool) → is_terminator (last_unit run) ≡ b
    → Stay (run_from unit (units_in run) ∷ []) (run_from unit (units_in first) ∷ runs)
longer-one unit run first runs rest before false going =
    open-stay (run_from unit (units_in run)) (run_from unit (units_in first) ∷ runs) (ap is_terminator (longer-last unit run) ∙ going)
longer-one unit run first runs rest before true ends =
    let parts = cons-parts first run runs rest (rw (closed-end run ends) at before) in
    record {
      rest = rest;
      is = rw (parts.0, parts.1, closed-end (run_from unit (units_in run)) (ap is_terminator (longer-last unit run) ∙ ends));
    }

longer-stay : (unit : UnitSeen) (run first : Run) (others runs rest : List Run) → first ∷ runs ≡ closed_runs (run ∷ others) ++ rest
    → Stay (run_from unit (units_in run) ∷ others) (run_from unit (units_in first) ∷ runs)
unfolding closed_runs
longer-stay unit run first [] runs rest before = longer-one unit run first runs rest before (is_terminator (last_unit run)) refl
longer-stay unit run first (next ∷ others) runs rest before =
    let parts = cons-parts first run runs (closed_runs (next ∷ others) ++ rest) before in
    record { rest = rest; is = rw (parts.0, parts.1) }

-- a data unit before the first run
behind-break : (unit : UnitSeen) (run : Run) (others rest all : List Run) → all ≡ closed_runs (run ∷ others) ++ rest → Stay (run_from unit [] ∷ run ∷ others) (run_from unit [] ∷ all)
unfolding closed_runs
behind-break unit run others rest all before = record { rest = rest; is = rw before }

stay-as : (runs all made longer : List Run) → made ≡ runs → longer ≡ all → Stay runs all → Stay made longer
stay-as runs all made longer same_made same_longer stay = rw (same_made, same_longer) stay

with_unit-stay : (unit : UnitSeen) (run first : Run) (others runs rest : List Run)
    → first.first ≡ run.first → first ∷ runs ≡ closed_runs (run ∷ others) ++ rest → (b : Bool) → is_break unit run.first ≡ b
    → Stay (with_unit unit (run ∷ others)) (with_unit unit (first ∷ runs))
with_unit-stay unit run first others runs rest same before true breaks =
    stay-as (run_from unit [] ∷ run ∷ others) (run_from unit [] ∷ first ∷ runs) (with_unit unit (run ∷ others)) (with_unit unit (first ∷ runs))
    (with_unit-break unit run others breaks) (with_unit-break unit first runs (ap (is_break unit) same ∙ breaks))
    (behind-break unit run others rest (first ∷ runs) before)
with_unit-stay unit run first others runs rest same before false joins =
    stay-as (run_from unit (units_in run) ∷ others) (run_from unit (units_in first) ∷ runs) (with_unit unit (run ∷ others)) (with_unit unit (first ∷ runs))
    (with_unit-joins unit run others joins) (with_unit-joins unit first runs (ap (is_break unit) same ∙ joins))
    (longer-stay unit run first others runs rest before)

stay-units : (unit : UnitSeen) (units more : List UnitSeen) → Stay (runs_of (unit ∷ units)) (runs_of ((unit ∷ units) ++ more))
unfolding runs_of
stay-units unit [] more = one-stay unit more (is_terminator (last_unit (run_from unit []))) refl
stay-units unit (next ∷ units) more =
    let now = runs_of-begins next units in
    let all = runs_of-begins next (units ++ more) in
    let stay = stay-units next units more in
    stay-as (with_unit unit (run_from next now.others ∷ now.rest))
    (with_unit unit (run_from next all.others ∷ all.rest)) (with_unit unit (runs_of (next ∷ units))) (with_unit unit (runs_of ((next ∷ units) ++ more)))
    (ap (with_unit unit) now.is) (ap (with_unit unit) all.is)
    (with_unit-stay unit (run_from next now.others) (run_from next all.others) now.rest all.rest stay.rest refl
    (sym all.is ∙ stay.is ∙ ap (λ (runs : List Run). closed_runs runs ++ stay.rest) now.is) (is_break unit next) refl)

pub closed-stay : ClosedStay
unfolding runs_of closed_runs
closed-stay [] more = (runs_of more, refl)
closed-stay (unit ∷ units) more = let stay = stay-units unit units more in (stay.rest, stay.is)
