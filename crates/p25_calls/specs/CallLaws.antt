-- The justification of the definition of calls, and the results of a caller: laws over all data units and items.
use Rattle.std.specs.Prelude.{◌≡◌, ℕ, ◌+◌, Bool, true, false, List, [], ◌∷◌, ◌++◌, flat_map, option_to_list}
use Rattle.p25_units.specs.{Items.{covered, place_of}, declared.item.Item.{Item}}
use Rattle.p25_calls.specs.{declared.seen.UnitSeen.{UnitSeen}, Seen.{is_break}, Runs.{Run, closed_runs, last_unit, runs_of, units_in}, Calls.{calls_by}}
use Rattle.p25_calls.specs.Taking.{answer_to, answers_by, behind_items, fresh_caller, open_call}

-- the runs of some data units are these data units, in order
abbrev pub RunsJoin : Type 0
RunsJoin = (units : List UnitSeen) → flat_map units_in (runs_of units) ≡ units

-- between neighbours in a run there is no break
abbrev pub NoBreakInside : Type 0
NoBreakInside =
    (units : List UnitSeen) (before : List Run) (run : Run) (after : List Run) (front : List UnitSeen) (unit next : UnitSeen) (back : List UnitSeen)
    → runs_of units ≡ before ++ run ∷ after → units_in run ≡ front ++ unit ∷ next ∷ back → is_break unit next ≡ false

-- between neighbouring runs there is one
abbrev pub BreakBetween : Type 0
BreakBetween =
    (units : List UnitSeen) (before : List Run) (run next : Run) (after : List Run)
    → runs_of units ≡ before ++ run ∷ next ∷ after → is_break (last_unit run) next.first ≡ true

-- a closed run stays a run, whatever data units come later
abbrev pub ClosedStay : Type 0
ClosedStay = (units more : List UnitSeen) → (rest : List Run) × (runs_of (units ++ more) ≡ closed_runs (runs_of units) ++ rest)

-- items lie end to end from a position on
unfoldable pub LieFrom : ℕ → List Item → Type 0
LieFrom at [] = Unit {0}
LieFrom at (item ∷ items) = (place_of item ≡ at) × LieFrom (at + covered item) items

-- the results of a new caller for items that lie end to end from position 0 on are the calls among them: with its result at the end all calls, and
-- without it those that no further item can change
abbrev pub AnswersAreCalls : Type 0
AnswersAreCalls = (ended : Bool) (items : List Item) → LieFrom 0 items → answers_by ended fresh_caller items ≡ calls_by ended items

-- so the result for an item is the call that it closes
abbrev pub EachIsClosed : Type 0
EachIsClosed =
    (before : List Item) (item : Item) → LieFrom 0 (before ++ item ∷ [])
    → calls_by false (before ++ item ∷ []) ≡ calls_by false before ++ option_to_list (answer_to (behind_items fresh_caller before) item)

-- the result at the end of the items is the call that is open after them
abbrev pub LastIsOpen : Type 0
LastIsOpen = (items : List Item) → LieFrom 0 items → calls_by true items ≡ calls_by false items ++ option_to_list (open_call (behind_items fresh_caller items))
