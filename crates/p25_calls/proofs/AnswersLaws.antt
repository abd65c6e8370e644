-- The result for each item, from the results for all items: the results for joined items are split at the join, by induction on the first ones.
use Rattle.std.proofs.Common.{◌≡◌, ℕ, ◌+◌, true, false, List, [], ◌∷◌, ◌++◌, refl, sym, ap, ap₂, ◌∙◌, append_assoc, append-nil}
use Rattle.std.specs.Prelude.{option_to_list}
use Rattle.p25_units.specs.{Items.{covered}, declared.item.Item.{Item}}
use Rattle.p25_calls.specs.{declared.call.Call.{Call}, CallLaws.{EachIsClosed, LastIsOpen, LieFrom}, Taking.{CallerParts, answer_to, answers_by, behind_item, behind_items, fresh_caller, open_call}}
use Rattle.p25_calls.proofs.TakingLaws.{answers-are-calls}

lie-front : (at : ℕ) (items more : List Item) → LieFrom at (items ++ more) → LieFrom at items
unfolding LieFrom
lie-front at [] more lie = tt
lie-front at (item ∷ items) more lie = (lie.0, lie-front (at + covered item) items more lie.1)

answers-append : (caller : CallerParts) (items more : List Item) → answers_by false caller (items ++ more) ≡ answers_by false caller items ++ answers_by false (behind_items caller items) more
unfolding answers_by behind_items
answers-append caller [] more = refl
answers-append caller (item ∷ items) more =
    let answer = option_to_list (answer_to caller item) in
    let next = behind_item caller item in
    ap (λ (calls : List Call). answer ++ calls) (answers-append next items more) ∙ sym (append_assoc answer (answers_by false next items) (answers_by false (behind_items next items) more))

answers-end : (caller : CallerParts) (items : List Item) → answers_by true caller items ≡ answers_by false caller items ++ option_to_list (open_call (behind_items caller items))
unfolding answers_by behind_items
answers-end caller [] = refl
answers-end caller (item ∷ items) =
    let answer = option_to_list (answer_to caller item) in
    let next = behind_item caller item in
    ap (λ (calls : List Call). answer ++ calls) (answers-end next items) ∙ sym (append_assoc answer (answers_by false next items) (option_to_list (open_call (behind_items next items))))

one-answer : (caller : CallerParts) (item : Item) → answers_by false caller (item ∷ []) ≡ option_to_list (answer_to caller item)
unfolding answers_by
one-answer caller item = append-nil (option_to_list (answer_to caller item))

pub each-closed : EachIsClosed
each-closed before item lie =
    sym (answers-are-calls false (before ++ item ∷ []) lie)
    ∙ answers-append fresh_caller before (item ∷ [])
    ∙ ap₂ (λ (first last : List Call). first ++ last) (answers-are-calls false before (lie-front 0 before (item ∷ []) lie)) (one-answer (behind_items fresh_caller before) item)

pub last-open : LastIsOpen
last-open items lie =
    sym (answers-are-calls true items lie)
    ∙ answers-end fresh_caller items
    ∙ ap (λ (first : List Call). first ++ option_to_list (open_call (behind_items fresh_caller items))) (answers-are-calls false items lie)
