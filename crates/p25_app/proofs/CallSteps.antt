-- The end of a line, by whether there is a line; and the written text, by whether the write failed.
use Rattle.std.proofs.{Common.{false, ◌==◌, ◌≡◌, ℕ, ◌<◌, ◌≤◌, List, [], ◌∷◌, ◌++◌, length, Result, inl, inr, Ok, Err, refl, sym, subst, arith}, lemmas.List.{take_all}}
use Rattle.std.specs.Prelude.{OnOk, OnErr}
use Rattle.p25_io.specs.{Events.{Event, Wrote, WriteFailed}, declared.failed.Failed.{Failed}}
use Rattle.p25_app.specs.Calls.{IsTold, with_end}

-- a line gets its LF
pub with_end-some : (line : List ℕ) → 0 < length line → with_end line ≡ line ++ 10 ∷ []
with_end-some [] some = absurd (omega arith)
with_end-some (octet ∷ octets) some = refl

-- an empty line gets no end
pub with_end-none : (line : List ℕ) → length line ≡ 0 → with_end line ≡ line
with_end-none [] none = refl
with_end-none (octet ∷ octets) none = absurd (omega arith)

-- a list of no elements
pub none_of : {X : Type 0} (len : ℕ) (items : List X) → len ≡ length items → len ≡ 0 → items ≡ []
none_of len [] long none = refl
none_of len (item ∷ items) long none = absurd (omega arith)

-- a list has an element if the test of its length for zero fails
pub filled : (octets : List ℕ) → false ≡ (length octets == 0) → 0 < length octets
filled [] tested = absurd (cc)
filled (octet ∷ octets) tested = omega arith

-- the result of one write of a text is as `IsTold` states
pub told : {P T : Type 0} (moves : P → List Event → P → Type 0) (first last : P) (piece text : List ℕ) (result : Result T Failed) → piece ≡ text
    → OnOk result (moves first (Wrote piece ∷ []) last)
    → OnErr result ((count : ℕ) × (count ≤ length piece) × moves first (WriteFailed piece count ∷ []) last) → IsTold moves first text last
told moves first last piece text (Ok value) same ok err = inl (subst (λ (octets : List ℕ). moves first (Wrote octets ∷ []) last) same ok)
told moves first last piece text (Err failed) same ok err =
    inr (subst (λ (octets : List ℕ). (count : ℕ) × (count ≤ length octets) × moves first (WriteFailed octets count ∷ []) last) same err)
