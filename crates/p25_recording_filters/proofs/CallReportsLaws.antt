-- The output of `calls` for items, by induction on the items: the lines of the results of a caller. Those of items that lie end to end are the calls
-- among them.
use Rattle.std.proofs.Common.{◌≡◌, ℕ, ◌+◌, Bool, true, false, cond, List, [], ◌∷◌, ◌++◌, length, drop, refl, ap, ap₂, sym, ◌∙◌, arith, append_assoc, length-append}
use Rattle.std.proofs.lemmas.List.Concat.{flat_map-append}
use Rattle.std.specs.{List.{flat_map}, Prelude.{option_to_list}}
use Rattle.p25_units.specs.{declared.item.Item.{Item}, Items.{covered}}
use Rattle.p25_stream.specs.Items.{items_by}
use Rattle.p25_stream.proofs.ItemLaws.{item-covers}
use Rattle.p25_calls.specs.{CallLaws.{LieFrom}, Calls.{calls_by}, Taking.{CallerParts, answer_to, answers_by, behind_item, fresh_caller}, declared.call.Call.{Call}}
use Rattle.p25_calls.proofs.{LieLaws.{lie-from}, TakingLaws.{answers-are-calls}}
use Rattle.p25_recording_filters.specs.{ItemOutputs.{call_line, calls_line}, Commands.{CallsParts, calls_reporting}, Reports.{reported}}
use Rattle.p25_recording_filters.proofs.ReportsLaws.{reported-cons, reported-nil}

-- the lines of some calls, after a number of others
pub calls_written : Bool → ℕ → List Call → List ℕ
calls_written ended count calls = flat_map call_line calls ++ cond ended (calls_line (count + length calls)) []

written-none : (ended : Bool) (report : CallsParts) → cond ended (calls_reporting.closing report) [] ≡ calls_written ended report.count (answers_by ended report.caller [])
unfolding calls_written answers_by
written-none true report = refl
written-none false report = refl

written-more : (ended : Bool) (count : ℕ) (calls more : List Call) → flat_map call_line calls ++ calls_written ended (count + length calls) more ≡ calls_written ended count (calls ++ more)
unfolding calls_written
written-more ended count calls more =
    let all : count + length calls + length more ≡ count + length (calls ++ more) = omega (arith, length-append calls more) in
    sym (append_assoc (flat_map call_line calls) (flat_map call_line more) (cond ended (calls_line (count + length calls + length more)) []))
    ∙ ap₂ (λ (lines : List ℕ) (n : ℕ). lines ++ cond ended (calls_line n) []) (sym (flat_map-append call_line calls more)) all

answers-cons : (ended : Bool) (caller : CallerParts) (item : Item) (items : List Item)
    → answers_by ended caller (item ∷ items) ≡ option_to_list (answer_to caller item) ++ answers_by ended (behind_item caller item) items
unfolding answers_by
answers-cons ended caller item items = refl

reported-answers : (ended : Bool) (report : CallsParts) (items : List Item) (bits : List Bool)
    → reported calls_reporting ended report items bits ≡ calls_written ended report.count (answers_by ended report.caller items)
reported-answers ended report [] bits = reported-nil calls_reporting ended report bits ∙ written-none ended report
reported-answers ended report (item ∷ items) bits =
    let answer = option_to_list (answer_to report.caller item) in
    let next : CallsParts = record { caller = behind_item report.caller item; count = report.count + length answer } in
    reported-cons calls_reporting ended report item items bits
    ∙ ap (λ (zs : List ℕ). flat_map call_line answer ++ zs) (reported-answers ended next items (drop (covered item) bits))
    ∙ written-more ended report.count answer (answers_by ended next.caller items)
    ∙ ap (calls_written ended report.count) (sym (answers-cons ended report.caller item items))

-- the items of a recording lie end to end
items-lie : (ended : Bool) (bits : List Bool) → LieFrom 0 (items_by ended 0 bits)
items-lie ended bits = lie-from 0 (items_by ended 0 bits) (λ before item after same. (item-covers ended 0 bits before item after same).1)

written-all : (ended : Bool) (calls : List Call) → calls_written ended 0 calls ≡ flat_map call_line calls ++ cond ended (calls_line (length calls)) []
unfolding calls_written
written-all ended calls = let all : 0 + length calls ≡ length calls = omega arith in ap (λ (n : ℕ). flat_map call_line calls ++ cond ended (calls_line n) []) all

-- the lines of all calls
pub reported-calls : (ended : Bool) (report : CallsParts) (bits : List Bool) → report ≡ record { caller = fresh_caller; count = 0 }
    → reported calls_reporting ended report (items_by ended 0 bits) bits
    ≡ flat_map call_line (calls_by ended (items_by ended 0 bits)) ++ cond ended (calls_line (length (calls_by ended (items_by ended 0 bits)))) []
reported-calls ended report bits empty =
    let items = items_by ended 0 bits in
    reported-answers ended report items bits
    ∙ ap (λ (r : CallsParts). calls_written ended r.count (answers_by ended r.caller items)) empty
    ∙ ap (calls_written ended 0) (answers-are-calls ended items (items-lie ended bits))
    ∙ written-all ended (calls_by ended items)
