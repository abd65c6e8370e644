-- Ascending positions: by the standard library, and with one more at the end. By induction on the positions.
use Rattle.std.proofs.{Common.{◌≡◌, ℕ, zero, suc, ◌+◌, ◌<◌, ◌≤◌, ◌&&◌, true, List, [], ◌∷◌, ◌++◌, refl, ap₂, subst, slice_index, arith}, lemmas.Bool.{and_parts, lt-ltb, ltb-true}}
use Rattle.std.proofs.lemmas.List.Elements.{All-nil, All-cons, All-head}
use Rattle.std.specs.{Prelude.{nat_lt, All}, List.Sorted.{IsStrictlyIncreasing}}
use Rattle.p25_script.specs.Values.{is_ascending}

-- the test is that of the standard library's relation
pub is_ascending-increasing : (places : List ℕ) → IsStrictlyIncreasing places → is_ascending places ≡ true
is_ascending-increasing (place ∷ next ∷ places) increasing =
    ap₂ ◌&&◌ (lt-ltb place next (increasing 0 (omega arith))) (is_ascending-increasing (next ∷ places) (λ k below.
    let same : suc k + 1 ≡ suc (k + 1) = omega arith in
    subst (λ (i : ℕ). slice_index (next ∷ places) k < slice_index (place ∷ next ∷ places) i) same (increasing (suc k) (omega arith))))
is_ascending-increasing places increasing = refl

pub increasing-is_ascending : (places : List ℕ) → is_ascending places ≡ true → IsStrictlyIncreasing places
increasing-is_ascending (place ∷ next ∷ places) ascending zero below =
    ltb-true place next (and_parts (nat_lt place next) (is_ascending (next ∷ places)) ascending).0
increasing-is_ascending (place ∷ next ∷ places) ascending (suc k) below =
    let same : suc (k + 1) ≡ suc k + 1 = omega arith in
    let rest = increasing-is_ascending (next ∷ places) (and_parts (nat_lt place next) (is_ascending (next ∷ places)) ascending).1 k (omega arith) in
    subst (λ (i : ℕ). slice_index (next ∷ places) k < slice_index (place ∷ next ∷ places) i) same rest
increasing-is_ascending places ascending k below = absurd (omega arith)

-- one more than the last position, or 0 if there is none
abbrev pub next_place : List ℕ → ℕ
next_place [] = 0
next_place (place ∷ []) = place + 1
next_place (place ∷ next ∷ places) = next_place (next ∷ places)

pub next_place-push : (places : List ℕ) (place : ℕ) → next_place (places ++ place ∷ []) ≡ place + 1
next_place-push (first ∷ next ∷ places) place = next_place-push (next ∷ places) place
next_place-push places place = refl

-- positions still ascend with one more that is not below the next one
pub is_ascending-push : (places : List ℕ) (place : ℕ) → is_ascending places ≡ true → next_place places ≤ place → is_ascending (places ++ place ∷ []) ≡ true
is_ascending-push [] place ascending above = refl
is_ascending-push (first ∷ []) place ascending above = ap₂ ◌&&◌ (lt-ltb first place (omega arith)) refl
is_ascending-push (first ∷ next ∷ places) place ascending above =
    let parts = and_parts (nat_lt first next) (is_ascending (next ∷ places)) ascending in
    ap₂ ◌&&◌ parts.0 (is_ascending-push (next ∷ places) place parts.1 above)

-- and if they ascend with more positions, the first of these is not below it
pub is_ascending-more : (places : List ℕ) (place : ℕ) (rest : List ℕ) → is_ascending (places ++ place ∷ rest) ≡ true → next_place places ≤ place
is_ascending-more [] place rest ascending = omega arith
is_ascending-more (first ∷ []) place rest ascending =
    let below = ltb-true first place (and_parts (nat_lt first place) (is_ascending (place ∷ rest)) ascending).0 in omega (arith, below)
is_ascending-more (first ∷ next ∷ places) place rest ascending =
    is_ascending-more (next ∷ places) place rest (and_parts (nat_lt first next) (is_ascending ((next ∷ places) ++ place ∷ rest)) ascending).1

-- all positions are below the next one
pub below_next : (places : List ℕ) → is_ascending places ≡ true → All (λ place. place < next_place places) places
below_next [] ascending = All-nil (λ place. place < 0)
below_next (place ∷ []) ascending = All-cons (λ p. p < place + 1) place [] (omega arith) (All-nil (λ p. p < place + 1))
below_next (place ∷ next ∷ places) ascending =
    let parts = and_parts (nat_lt place next) (is_ascending (next ∷ places)) ascending in
    let rest = below_next (next ∷ places) parts.1 in
    let first : next < next_place (next ∷ places) = All-head (λ p. p < next_place (next ∷ places)) next places rest in
    let lower = ltb-true place next parts.0 in
    All-cons (λ p. p < next_place (next ∷ places)) place (next ∷ places) (omega (arith, lower, first)) rest
