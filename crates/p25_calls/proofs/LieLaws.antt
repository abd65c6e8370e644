-- Items lie end to end if each begins at the end of those before it. By induction on the items.
use Rattle.std.proofs.{Common.{◌≡◌, ℕ, ◌+◌, List, [], ◌∷◌, ◌++◌, refl, ap, ◌∙◌, arith}, lemmas.List.Sums.{sum_by_from}}
use Rattle.std.specs.List.{sum_by}
use Rattle.p25_units.specs.{Items.{covered, place_of}, declared.item.Item.{Item}}
use Rattle.p25_calls.specs.CallLaws.{LieFrom}

sum-none : (at : ℕ) → at + 0 ≡ at
sum-none at = omega arith

sum-first : (at : ℕ) (item : Item) (before : List Item) → at + sum_by covered (item ∷ before) ≡ at + covered item + sum_by covered before
sum-first at item before = omega (arith, sum_by_from covered (0 + covered item) before)

pub lie-from : (at : ℕ) (items : List Item) → ((before : List Item) (item : Item) (after : List Item) → items ≡ before ++ item ∷ after → place_of item ≡ at + sum_by covered before) → LieFrom at items
unfolding LieFrom
lie-from at [] places = tt
lie-from at (item ∷ items) places = (
  places [] item items refl ∙ sum-none at,
  lie-from (at + covered item) items (λ before next after same. places (item ∷ before) next after (ap (λ (rest : List Item). item ∷ rest) same) ∙ sum-first at item before),
)
