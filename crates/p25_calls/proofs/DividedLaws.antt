-- The runs of some data units are the data units, divided at the breaks. Each law by induction on the data units, with its statement about all runs
-- as a recursion on them.
use Rattle.std.proofs.Common.{◌≡◌, Bool, true, false, cond, List, [], ◌∷◌, ◌++◌, flat_map, refl, ap, subst, ◌∙◌}
use Rattle.p25_calls.specs.{declared.seen.UnitSeen.{UnitSeen}, Seen.{is_break}, Runs.{Run, last_of, last_unit, run_from, runs_of, units_in, with_unit}}
use Rattle.p25_calls.specs.CallLaws.{RunsJoin, NoBreakInside, BreakBetween}
use Rattle.p25_calls.proofs.RunsLaws.{IsUnbroken}

-- ---- joined they are the data units

with_unit-join : (unit : UnitSeen) (runs : List Run) → flat_map units_in (with_unit unit runs) ≡ unit ∷ flat_map units_in runs
unfolding with_unit
with_unit-join unit [] = refl
with_unit-join unit (run ∷ runs) =
    elim (is_break unit run.first) as (λ (b : Bool).
    flat_map units_in (cond b (run_from unit [] ∷ run ∷ runs) (run_from unit (units_in run) ∷ runs)) ≡ unit ∷ flat_map units_in (run ∷ runs)) [ true ↦ refl | false ↦ refl ]

pub runs-join : RunsJoin
unfolding runs_of
runs-join [] = refl
runs-join (unit ∷ units) = with_unit-join unit (runs_of units) ∙ ap (λ (all : List UnitSeen). unit ∷ all) (runs-join units)

-- ---- no break inside

AllUnbroken : List Run → Type 0
AllUnbroken [] = Unit {0}
AllUnbroken (run ∷ runs) = IsUnbroken run.first run.others × AllUnbroken runs

unbroken-by : (unit : UnitSeen) (run : Run) (runs : List Run) → AllUnbroken (run ∷ runs) → (b : Bool) → is_break unit run.first ≡ b
    → AllUnbroken (cond b (run_from unit [] ∷ run ∷ runs) (run_from unit (units_in run) ∷ runs))
unfolding AllUnbroken
unbroken-by unit run runs all true breaks = (tt, all)
unbroken-by unit run runs all false joins = ((joins, all.0), all.1)

with_unit-unbroken : (unit : UnitSeen) (runs : List Run) → AllUnbroken runs → AllUnbroken (with_unit unit runs)
unfolding with_unit AllUnbroken
with_unit-unbroken unit [] all = (tt, tt)
with_unit-unbroken unit (run ∷ runs) all = unbroken-by unit run runs all (is_break unit run.first) refl

all-unbroken : (units : List UnitSeen) → AllUnbroken (runs_of units)
unfolding runs_of AllUnbroken
all-unbroken [] = tt
all-unbroken (unit ∷ units) = with_unit-unbroken unit (runs_of units) (all-unbroken units)

unbroken-run : (before : List Run) (run : Run) (after : List Run) → AllUnbroken (before ++ run ∷ after) → IsUnbroken run.first run.others
unfolding AllUnbroken
unbroken-run [] run after all = all.0
unbroken-run (first ∷ before) run after all = unbroken-run before run after all.1

-- a list of data units, which may be empty, is unbroken
abbrev AreUnbroken : List UnitSeen → Type 0
AreUnbroken [] = Unit {0}
AreUnbroken (unit ∷ units) = IsUnbroken unit units

unbroken-tail : (unit : UnitSeen) (units : List UnitSeen) → IsUnbroken unit units → AreUnbroken units
unbroken-tail unit [] unbroken = tt
unbroken-tail unit (next ∷ units) unbroken = unbroken.1

unbroken-at : (front : List UnitSeen) (unit next : UnitSeen) (back : List UnitSeen) → AreUnbroken (front ++ unit ∷ next ∷ back) → is_break unit next ≡ false
unbroken-at [] unit next back unbroken = unbroken.0
unbroken-at (first ∷ front) unit next back unbroken = unbroken-at front unit next back (unbroken-tail first (front ++ unit ∷ next ∷ back) unbroken)

pub no_break-inside : NoBreakInside
no_break-inside units before run after front unit next back divided inside =
    unbroken-at front unit next back (subst AreUnbroken inside (unbroken-run before run after (subst AllUnbroken divided (all-unbroken units))))

-- ---- a break between

AllDivided : List Run → Type 0
AllDivided (run ∷ next ∷ runs) = (is_break (last_unit run) next.first ≡ true) × AllDivided (next ∷ runs)
AllDivided other = Unit {0}

-- a run keeps its last data unit if one more is added before it
divided-joined : (unit : UnitSeen) (run : Run) (runs : List Run) → AllDivided (run ∷ runs) → AllDivided (run_from unit (units_in run) ∷ runs)
unfolding AllDivided last_of
divided-joined unit run [] all = tt
divided-joined unit run (next ∷ runs) all = all

divided-by : (unit : UnitSeen) (run : Run) (runs : List Run) → AllDivided (run ∷ runs) → (b : Bool) → is_break unit run.first ≡ b
    → AllDivided (cond b (run_from unit [] ∷ run ∷ runs) (run_from unit (units_in run) ∷ runs))
unfolding AllDivided last_of
divided-by unit run runs all true breaks = (breaks, all)
divided-by unit run runs all false joins = divided-joined unit run runs all

with_unit-divided : (unit : UnitSeen) (runs : List Run) → AllDivided runs → AllDivided (with_unit unit runs)
unfolding with_unit AllDivided
with_unit-divided unit [] all = tt
with_unit-divided unit (run ∷ runs) all = divided-by unit run runs all (is_break unit run.first) refl

all-divided : (units : List UnitSeen) → AllDivided (runs_of units)
unfolding runs_of AllDivided
all-divided [] = tt
all-divided (unit ∷ units) = with_unit-divided unit (runs_of units) (all-divided units)

divided-tail : (run : Run) (runs : List Run) → AllDivided (run ∷ runs) → AllDivided runs
unfolding AllDivided
divided-tail run [] all = tt
divided-tail run (next ∷ runs) all = all.1

divided-at : (before : List Run) (run next : Run) (after : List Run) → AllDivided (before ++ run ∷ next ∷ after) → is_break (last_unit run) next.first ≡ true
unfolding AllDivided
divided-at [] run next after all = all.0
divided-at (first ∷ before) run next after all = divided-at before run next after (divided-tail first (before ++ run ∷ next ∷ after) all)

pub break-between : BreakBetween
break-between units before run next after divided = divided-at before run next after (subst AllDivided divided (all-divided units))
