-- The results of a caller are the calls: it holds the run that a further data unit may still join. By induction on the items, with the run that each
-- data unit ends and the one that it leaves.
use Rattle.std.proofs.{Common.{◌≡◌, ℕ, ◌+◌, ◌≤◌, Bool, true, false, cond, List, [], ◌∷◌, ◌++◌, Option, Some, None, refl, sym, ap, subst, ◌∙◌, arith, append-nil}, lemmas.Bool.{cond-false}}
use Rattle.std.specs.{Prelude.{option_to_list}, List.{cons_option}}
use Rattle.p25_units.specs.{Items.{covered, place_of}, declared.item.Item.{Item}, declared.item.Item.TheVariants.{Whole, Broken}}
use Rattle.p25_calls.specs.{declared.call.Call.{Call}, declared.seen.UnitSeen.{UnitSeen}, Seen.{is_terminator, unit_end, unit_of, units_of}}
use Rattle.p25_calls.specs.{Runs.{Run, closed_runs, last_unit, runs_by, runs_of, units_in}, Calls.{call_of, calls_among, calls_by}}
use Rattle.p25_calls.specs.Taking.{CallerParts, answer_to, answers_by, behind_item, ended_call, if_linked, open_call, pending_run, run_with, unit_answer, unit_pending}
use Rattle.p25_calls.specs.CallLaws.{AnswersAreCalls, LieFrom}
use Rattle.p25_calls.proofs.{RunsLaws.{runs_of-unbroken}, CallLaws.{calls_among-voice}, LastRunLaws.{Holds, Pends, none, pending_units, some}, EndedLaws.{stepped}}

-- ---- all items

holds-later : (reached later : ℕ) (pending : Option Call) (before : Option Run) → reached ≤ later → Holds reached pending before → Holds later pending before
holds-later reached later pending before more none = none
holds-later reached later pending before more (some call run pends) = some call run record {
  is = pends.is;
  unbroken = pends.unbroken;
  voice = pends.voice;
  last_voice = pends.last_voice;
  going = pends.going;
  nac = pends.nac;
  end = pends.end;
  before = omega (arith, pends.before, more);
}

-- a data unit begins and ends with its item
IsUnitAt : ℕ → ℕ → Option UnitSeen → Type 0
IsUnitAt at end None = Unit {0}
IsUnitAt at end (Some unit) = (unit.place ≡ at) × (unit_end unit ≡ end)

unit-at : (item : Item) → IsUnitAt (place_of item) (place_of item + covered item) (unit_of item)
unfolding IsUnitAt
unit-at (Whole place frame fixes) = (refl, refl)
unit-at (Broken place count nac duid fields) = (refl, refl)
unit-at item = tt

caller_at : ℕ → ℕ → Option Call → CallerParts
caller_at reached taken pending = record { reached = reached; taken = taken; pending = pending }

-- the results of all items but the first, whatever is held after it
abbrev RestIs : Bool → ℕ → ℕ → List Item → Type 0
RestIs ended end taken items =
    (pending : Option Call) (before : Option Run) → Holds end pending before
    → answers_by ended (caller_at end taken pending) items ≡ calls_among (runs_by ended (pending_units before ++ units_of items))

answers-unit : (ended : Bool) (reached end taken : ℕ) (pending : Option Call) (before : Option Run)
    → Holds reached pending before → reached ≤ end → (found : Option UnitSeen) → IsUnitAt reached end found
    → (items : List Item) → RestIs ended end taken items
    → option_to_list (unit_answer pending found) ++ answers_by ended (caller_at end taken (unit_pending pending found)) items
    ≡ calls_among (runs_by ended (pending_units before ++ cons_option found (units_of items)))
unfolding IsUnitAt
answers-unit ended reached end taken pending before holds more None at items rest = rest pending before (holds-later reached end pending before more holds)
answers-unit ended reached end taken pending before holds more (Some unit) at items rest =
    let step = stepped reached pending before holds unit at.0 in
    let left = pending_run (run_with pending unit) unit in
    ap (λ (calls : List Call). option_to_list (ended_call pending unit) ++ calls) (rest left step.behind (subst (λ (e : ℕ). Holds e left step.behind) at.1 step.holds))
    ∙ sym (step.calls ended (units_of items))

-- at the end the open run is the last one
open-run : (ended : Bool) (call : Call) (run : Run) (reached : ℕ) → Pends reached call run → cond ended (option_to_list (if_linked call)) [] ≡ calls_among (runs_by ended (units_in run ++ []))
unfolding runs_by closed_runs
open-run true call run reached pends =
    ap (λ (c : Call). option_to_list (if_linked c)) pends.is
    ∙ sym (append-nil (option_to_list (if_linked (call_of run))))
    ∙ sym (calls_among-voice run [] pends.voice)
    ∙ ap calls_among (sym (ap runs_of (append-nil (units_in run)) ∙ runs_of-unbroken run.first run.others pends.unbroken))
open-run false call run reached pends =
    ap calls_among (sym (ap closed_runs (ap runs_of (append-nil (units_in run)) ∙ runs_of-unbroken run.first run.others pends.unbroken)
    ∙ cond-false (is_terminator (last_unit run)) (run ∷ []) [] pends.going))

none-open : (ended : Bool) → cond ended [] [] ≡ calls_among (runs_by ended [])
unfolding runs_by runs_of closed_runs
none-open true = refl
none-open false = refl

open-answers : (ended : Bool) (reached taken : ℕ) (pending : Option Call) (before : Option Run) → Holds reached pending before
    → answers_by ended (caller_at reached taken pending) [] ≡ calls_among (runs_by ended (pending_units before ++ []))
unfolding answers_by open_call caller_at pending_units
open-answers ended reached taken pending before none = none-open ended
open-answers ended reached taken pending before (some call run pends) = open-run ended call run reached pends

lie-parts : (at : ℕ) (item : Item) (items : List Item) → LieFrom at (item ∷ items) → (place_of item ≡ at) × LieFrom (at + covered item) items
unfolding LieFrom
lie-parts at item items lie = lie

answers-cons : (ended : Bool) (caller : CallerParts) (item : Item) (items : List Item)
    → answers_by ended caller (item ∷ items)
    ≡ option_to_list (unit_answer caller.pending (unit_of item)) ++ answers_by ended (caller_at (place_of item + covered item) (caller.taken + 1) (unit_pending caller.pending (unit_of item))) items
unfolding answers_by answer_to behind_item caller_at
answers-cons ended caller item items = refl

answers-are : (ended : Bool) (items : List Item) (reached taken : ℕ) (pending : Option Call) (before : Option Run) → Holds reached pending before → LieFrom reached items
    → answers_by ended (caller_at reached taken pending) items ≡ calls_among (runs_by ended (pending_units before ++ units_of items))
unfolding caller_at
answers-are ended [] reached taken pending before holds lie = open-answers ended reached taken pending before holds
answers-are ended (item ∷ items) reached taken pending before holds lie =
    let parts = lie-parts reached item items lie in
    let end = place_of item + covered item in
    answers-cons ended (caller_at reached taken pending) item items
    ∙ answers-unit ended (place_of item) end (taken + 1) pending before (subst (λ (at : ℕ). Holds at pending before) (sym parts.0) holds) (omega arith) (unit_of item) (unit-at item) items
    (λ left run held. answers-are ended items end (taken + 1) left run held (subst (λ (at : ℕ). LieFrom (at + covered item) items) (sym parts.0) parts.1))

pub answers-are-calls : AnswersAreCalls
unfolding calls_by caller_at pending_units
answers-are-calls ended items lie = answers-are ended items 0 0 None None none lie
