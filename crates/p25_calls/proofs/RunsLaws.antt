-- Runs of data units: their beginnings, and that data units divide at the breaks. By induction on the data units, and by the two cases of a break.
use Rattle.std.proofs.{Common.{◌≡◌, Bool, true, false, cond, List, [], ◌∷◌, ◌++◌, refl, sym, ap, ◌∙◌}, lemmas.Bool.{cond-true, cond-false}}
use Rattle.p25_calls.specs.{declared.seen.UnitSeen.{UnitSeen}, Seen.{is_break}, Runs.{Run, last_of, last_unit, run_from, runs_of, units_in, with_unit}}

-- the first of some runs begins with a data unit
pub record Begins (unit : UnitSeen) (runs : List Run) : Type 0 where
  pub others : List UnitSeen
  pub rest : List Run
  pub is : runs ≡ run_from unit others ∷ rest

pub with_unit-begins : (unit : UnitSeen) (runs : List Run) → Begins unit (with_unit unit runs)
unfolding with_unit
with_unit-begins unit [] = record { others = []; rest = []; is = refl }
with_unit-begins unit (run ∷ runs) =
    elim (is_break unit run.first) as (λ (b : Bool). Begins unit (cond b (run_from unit [] ∷ run ∷ runs) (run_from unit (units_in run) ∷ runs))) [
      | true ↦ record { others = []; rest = run ∷ runs; is = refl }
      | false ↦ record { others = units_in run; rest = runs; is = refl }
    ]

pub runs_of-begins : (unit : UnitSeen) (units : List UnitSeen) → Begins unit (runs_of (unit ∷ units))
unfolding runs_of
runs_of-begins unit units = with_unit-begins unit (runs_of units)

-- a data unit before runs, if there is a break after it, and if there is none
pub with_unit-break : (unit : UnitSeen) (run : Run) (runs : List Run) → is_break unit run.first ≡ true → with_unit unit (run ∷ runs) ≡ run_from unit [] ∷ run ∷ runs
unfolding with_unit
with_unit-break unit run runs breaks = cond-true (is_break unit run.first) (run_from unit [] ∷ run ∷ runs) (run_from unit (units_in run) ∷ runs) breaks

pub with_unit-joins : (unit : UnitSeen) (run : Run) (runs : List Run) → is_break unit run.first ≡ false → with_unit unit (run ∷ runs) ≡ run_from unit (units_in run) ∷ runs
unfolding with_unit
with_unit-joins unit run runs joins = cond-false (is_break unit run.first) (run_from unit [] ∷ run ∷ runs) (run_from unit (units_in run) ∷ runs) joins

-- the runs after the first run stay after it
pub with_unit-append : (unit : UnitSeen) (run : Run) (runs more : List Run) → with_unit unit ((run ∷ runs) ++ more) ≡ with_unit unit (run ∷ runs) ++ more
unfolding with_unit
with_unit-append unit run runs more =
    elim (is_break unit run.first) as (λ (b : Bool).
    cond b (run_from unit [] ∷ run ∷ (runs ++ more)) (run_from unit (units_in run) ∷ (runs ++ more))
    ≡ cond b (run_from unit [] ∷ run ∷ runs) (run_from unit (units_in run) ∷ runs) ++ more) [ true ↦ refl | false ↦ refl ]

-- there is no break between neighbours among data units of which the first is there
abbrev pub IsUnbroken : UnitSeen → List UnitSeen → Type 0
IsUnbroken unit [] = Unit {0}
IsUnbroken unit (next ∷ units) = (is_break unit next ≡ false) × IsUnbroken next units

-- there is a break before the first of some data units, if there is one, after a data unit
abbrev pub IsCutBefore : UnitSeen → List UnitSeen → Type 0
IsCutBefore unit [] = Unit {0}
IsCutBefore unit (next ∷ units) = is_break unit next ≡ true

-- data units without a break are one run
pub runs_of-unbroken : (unit : UnitSeen) (units : List UnitSeen) → IsUnbroken unit units → runs_of (unit ∷ units) ≡ run_from unit units ∷ []
unfolding runs_of with_unit
runs_of-unbroken unit [] unbroken = refl
runs_of-unbroken unit (next ∷ units) unbroken =
    ap (with_unit unit) (runs_of-unbroken next units unbroken.1) ∙ with_unit-joins unit (run_from next units) [] unbroken.0

-- data units divide at a break
one-split : (unit : UnitSeen) (more : List UnitSeen) → IsCutBefore unit more → with_unit unit (runs_of more) ≡ run_from unit [] ∷ runs_of more
unfolding runs_of with_unit
one-split unit [] cut = refl
one-split unit (next ∷ more) cut =
    let first = runs_of-begins next more in
    ap (with_unit unit) first.is ∙ with_unit-break unit (run_from next first.others) first.rest cut ∙ ap (λ (runs : List Run). run_from unit [] ∷ runs) (sym first.is)

pub runs_of-split : (unit : UnitSeen) (units more : List UnitSeen) → IsCutBefore (last_of unit units) more → runs_of ((unit ∷ units) ++ more) ≡ runs_of (unit ∷ units) ++ runs_of more
unfolding runs_of last_of with_unit
runs_of-split unit [] more cut = one-split unit more cut
runs_of-split unit (next ∷ units) more cut =
    let first = runs_of-begins next units in
    ap (with_unit unit) (runs_of-split next units more cut)
    ∙ ap (λ (runs : List Run). with_unit unit (runs ++ runs_of more)) first.is
    ∙ with_unit-append unit (run_from next first.others) first.rest (runs_of more)
    ∙ ap (λ (runs : List Run). with_unit unit runs ++ runs_of more) (sym first.is)

-- a run without a break, and a break after it
pub runs_of-run : (run : Run) (more : List UnitSeen) → IsUnbroken run.first run.others → IsCutBefore (last_unit run) more → runs_of (units_in run ++ more) ≡ run ∷ runs_of more
runs_of-run run more unbroken cut =
    runs_of-split run.first run.others more cut ∙ ap (λ (runs : List Run). runs ++ runs_of more) (runs_of-unbroken run.first run.others unbroken)

-- the last of some data units and one more
pub last_of-append : (unit : UnitSeen) (units : List UnitSeen) (last : UnitSeen) → last_of unit (units ++ last ∷ []) ≡ last
unfolding last_of
last_of-append unit [] last = refl
last_of-append unit (next ∷ units) last = last_of-append next units last

pub unbroken-append : (unit : UnitSeen) (units : List UnitSeen) (last : UnitSeen) → IsUnbroken unit units → is_break (last_of unit units) last ≡ false → IsUnbroken unit (units ++ last ∷ [])
unfolding last_of
unbroken-append unit [] last unbroken joins = (joins, tt)
unbroken-append unit (next ∷ units) last unbroken joins = (unbroken.0, unbroken-append next units last unbroken.1 joins)
