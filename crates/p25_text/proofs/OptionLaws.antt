-- Reading in steps: if the whole has a result, each step has one.
use Rattle.std.proofs.{Common.{◌≡◌, ℕ, ◌==◌, Bool, true, cond, List, length, Option, Some, None, inl, inr, refl, sym, ap, ◌∙◌}, lemmas.Bool.{cases_Bool, cond-true, cond-false, eqb-true}}
use Rattle.std.specs.Option.{option_and_then, option_map}
use Rattle.p25_line.specs.CommaLists.{counted}

-- a value was changed
pub option_map-found : {X Y : Type 0} (change : X → Y) (value : Option X) (result : Y) → option_map change value ≡ Some result → (x : X) × (value ≡ Some x) × (change x ≡ result)
option_map-found change None result found = cc found
option_map-found change (Some x) result found = let same : change x ≡ result = cc found in (x, refl, same)

-- a value was handed on
pub option_and_then-found : {X Y : Type 0} (next : X → Option Y) (value : Option X) (result : Y) → option_and_then next value ≡ Some result → (x : X) × (value ≡ Some x) × (next x ≡ Some result)
option_and_then-found next None result found = cc found
option_and_then-found next (Some x) result found = (x, refl, found)

-- a test was passed
pub cond-found : {X : Type 0} (test : Bool) (value : Option X) (result : X) → cond test value None ≡ Some result → (test ≡ true) × (value ≡ Some result)
cond-found test value result found =
    elim (cases_Bool test) [
      | inl passed ↦ (passed, sym (cond-true test value None passed) ∙ found)
      | inr failed ↦ let none = cond-false test value None failed in cc
    ]

-- a list that is found has that number of elements
pub counted-found : {X : Type 0} (count : ℕ) (value : Option (List X)) (result : List X) → counted count value ≡ Some result → (value ≡ Some result) × (length result ≡ count)
counted-found count None result found = cc found
counted-found count (Some items) result found =
    let facts = cond-found (length items == count) (Some items) result found in
    let same : items ≡ result = cc facts.1 in
    (facts.1, ap length (sym same) ∙ eqb-true (length items) count facts.0)
