-- A chain one step at a time, and its decided part: that comes first, and the output for the remaining bits follows it, whatever bits come. By
-- induction on the bits, which each step makes fewer.
use Rattle.std.proofs.Common.{◌≡◌, ℕ, zero, suc, ◌+◌, ◌<◌, ◌≤◌, Bool, true, false, cond, ◌||◌, inl, inr, List, [], ◌∷◌, ◌++◌, length, take, drop, Option, Some, None, refl, ◌∙◌, arith, append_assoc, length-append, length-drop}
use Rattle.std.proofs.{lemmas.Bool.{cases_lt, le-leb, lt-leb, or_right}, lemmas.List.{drop-append-le, take-append-le}}
use Rattle.std.specs.Prelude.{nat_le}
use Rattle.p25_follow.specs.{Chains.{chain_by, chain_in, settled_of, with_front, written_step}, Expected.{kind_length}, Following.{Follow, follow, left_in, left_of, left_step}, Steps.{step_of}}
use Rattle.p25_follow.proofs.StepLaws.{step_of-append, step_of-nil, step_of-there}

-- ---- with turns enough for every bit their number does not matter

written_step-same : (f g : ℕ × ℕ → List Bool → List Bool) (before : ℕ × ℕ) (bits : List Bool) (kind : Option ℕ)
    → ((k : ℕ) → kind ≡ Some k → f (before.0, k) (drop (kind_length k) bits) ≡ g (before.0, k) (drop (kind_length k) bits))
    → written_step f before bits kind ≡ written_step g before bits kind
unfolding written_step
written_step-same f g before bits None same = refl
written_step-same f g before bits (Some kind) same = rw (same kind refl)

same-both : (b : Bool) → ◌≡◌ {A = List Bool} (cond b [] []) []
same-both true = refl
same-both false = refl

chain_in-nil : (turns : ℕ) (whole : Bool) (before : Option (ℕ × ℕ)) (end : Option (ℕ × ℕ)) → chain_in turns whole before [] end ≡ []
unfolding chain_in written_step
chain_in-nil zero whole before end = refl
chain_in-nil (suc turns) whole None end = refl
chain_in-nil (suc turns) whole (Some before) end = rw (step_of-nil, same-both)

chain_in-enough : (more turns : ℕ) (whole : Bool) (before : Option (ℕ × ℕ)) (bits : List Bool) (end : Option (ℕ × ℕ)) → length bits ≤ more → length bits ≤ turns
    → chain_in more whole before bits end ≡ chain_in turns whole before bits end
unfolding chain_in
chain_in-enough more turns whole before [] end a b = rw (chain_in-nil more, chain_in-nil turns)
chain_in-enough zero turns whole before (bit ∷ bits) end a b = absurd (omega arith)
chain_in-enough (suc more) zero whole before (bit ∷ bits) end a b = absurd (omega arith)
chain_in-enough (suc more) (suc turns) whole None (bit ∷ bits) end a b = refl
chain_in-enough (suc more) (suc turns) whole (Some before) (bit ∷ bits) end a b =
    let all = bit ∷ bits in
    rw (written_step-same (λ name left. chain_in more whole (Some name) left end) (λ name left. chain_in turns whole (Some name) left end) before all (step_of before all end)
    (λ kind is. let there = step_of-there before all end kind is in
    let less : length (drop (kind_length kind) all) ≤ length bits = omega (arith, length-drop (kind_length kind) all, there.few, there.there) in
    chain_in-enough more turns whole (Some (before.0, kind)) (drop (kind_length kind) all) end (omega arith) (omega arith)))

-- ---- a step of a chain

pub chain_by-none : (whole : Bool) (bits : List Bool) (end : Option (ℕ × ℕ)) → chain_by whole None bits end ≡ bits
unfolding chain_by chain_in
chain_by-none whole [] end = refl
chain_by-none whole (bit ∷ bits) end = refl

pub chain_by-nil : (whole : Bool) (before : Option (ℕ × ℕ)) (end : Option (ℕ × ℕ)) → chain_by whole before [] end ≡ []
unfolding chain_by
chain_by-nil whole before end = chain_in-nil 0 whole before end

abbrev pub rest_of : Bool → Option (ℕ × ℕ) → ℕ × ℕ → List Bool → List Bool
rest_of whole end name left = chain_by whole (Some name) left end

pub chain_by-some : (whole : Bool) (before : ℕ × ℕ) (bits : List Bool) (end : Option (ℕ × ℕ))
    → chain_by whole (Some before) bits end ≡ cond (whole || nat_le 6912 (length bits)) (written_step (rest_of whole end) before bits (step_of before bits end)) []
unfolding chain_by chain_in
chain_by-some whole before [] end = rw (chain_in-nil, step_of-nil) (unfold written_step in rw same-both)
chain_by-some whole before (bit ∷ bits) end =
    let all = bit ∷ bits in
    rw (written_step-same (λ name left. chain_in (length bits) whole (Some name) left end) (rest_of whole end) before all (step_of before all end)
    (λ kind is. let there = step_of-there before all end kind is in
    let left = drop (kind_length kind) all in
    chain_in-enough (length bits) (length left) whole (Some (before.0, kind)) left end (omega (arith, length-drop (kind_length kind) all, there.few, there.there)) (omega arith)))

-- a step is made over whole bits, and over others if all bits that it examines are there
pub chain_by-step : (whole : Bool) (before : ℕ × ℕ) (bits : List Bool) (end : Option (ℕ × ℕ)) (kind : ℕ) → (whole || nat_le 6912 (length bits)) ≡ true → step_of before bits end ≡ Some kind
    → chain_by whole (Some before) bits end ≡ with_front (before.0, kind) (take (kind_length kind) bits) ++ chain_by whole (Some (before.0, kind)) (drop (kind_length kind) bits) end
unfolding written_step
chain_by-step whole before bits end kind goes is = rw (chain_by-some, goes, is)

pub chain_by-stop : (whole : Bool) (before : ℕ × ℕ) (bits : List Bool) (end : Option (ℕ × ℕ)) → (whole || nat_le 6912 (length bits)) ≡ true → step_of before bits end ≡ None
    → chain_by whole (Some before) bits end ≡ bits
unfolding written_step
chain_by-stop whole before bits end goes is = rw (chain_by-some, goes, is)

pub chain_by-waits : (before : ℕ × ℕ) (bits : List Bool) (end : Option (ℕ × ℕ)) → length bits < 6912 → chain_by false (Some before) bits end ≡ []
chain_by-waits before bits end few = rw (chain_by-some, lt-leb 6912 (length bits) few)

-- ---- along a chain

-- the type of the data unit with which bits begin, after one with a name or after none
unfoldable pub step_after : Option (ℕ × ℕ) → List Bool → Option (ℕ × ℕ) → Option ℕ
step_after None bits end = None
step_after (Some before) bits end = step_of before bits end

pub chain-stop : (before : Option (ℕ × ℕ)) (bits : List Bool) (end : Option (ℕ × ℕ)) → step_after before bits end ≡ None → chain_by true before bits end ≡ bits
unfolding step_after
chain-stop None bits end is = chain_by-none true bits end
chain-stop (Some before) bits end is = chain_by-stop true before bits end refl is

-- a property of bits that begin with no data unit, which each data unit carries back, holds for all bits of a chain
module _ (end : Option (ℕ × ℕ)) (P : ℕ → Option (ℕ × ℕ) → List Bool → Type 0)
    (stop : (at : ℕ) (before : Option (ℕ × ℕ)) (bits : List Bool) → step_after before bits end ≡ None → P at before bits)
    (step : (at : ℕ) (before : ℕ × ℕ) (bits : List Bool) (kind : ℕ) → step_of before bits end ≡ Some kind
    → P (at + kind_length kind) (Some (before.0, kind)) (drop (kind_length kind) bits) → P at (Some before) bits) where
  along-some : (n at : ℕ) (before : ℕ × ℕ) (bits : List Bool) → length bits ≤ n → (kind : Option ℕ) → step_of before bits end ≡ kind → P at (Some before) bits
  unfolding step_after
  along-some n at before bits few None is = stop at (Some before) bits is
  along-some zero at before bits few (Some kind) is = let there = step_of-there before bits end kind is in absurd (omega (arith, there.few, there.there))
  along-some (suc n) at before bits few (Some kind) is =
      let there = step_of-there before bits end kind is in
      let left = drop (kind_length kind) bits in
      step at before bits kind is
      (along-some n (at + kind_length kind) (before.0, kind) left (omega (arith, length-drop (kind_length kind) bits, there.few, there.there)) (step_of (before.0, kind) left end) refl)

  pub along-chain : (at : ℕ) (before : Option (ℕ × ℕ)) (bits : List Bool) → P at before bits
  unfolding step_after
  along-chain at None bits = stop at None bits refl
  along-chain at (Some before) bits = along-some (length bits) at before bits (omega arith) (step_of before bits end) refl

-- ---- the bits that are left

left_step-same : (f g : ℕ × ℕ → List Bool → Follow) (before : ℕ × ℕ) (bits : List Bool) (kind : Option ℕ)
    → ((k : ℕ) → kind ≡ Some k → f (before.0, k) (drop (kind_length k) bits) ≡ g (before.0, k) (drop (kind_length k) bits))
    → left_step f before bits kind ≡ left_step g before bits kind
unfolding left_step
left_step-same f g before bits None same = refl
left_step-same f g before bits (Some kind) same = same kind refl

left_in-enough : (more turns : ℕ) (before : ℕ × ℕ) (bits : List Bool) → length bits ≤ more → length bits ≤ turns → left_in more (Some before) bits ≡ left_in turns (Some before) bits
unfolding left_in
left_in-enough zero zero before bits a b = refl
left_in-enough zero (suc turns) before bits a b = rw (lt-leb 6912 (length bits) (omega arith))
left_in-enough (suc more) zero before bits a b = rw (lt-leb 6912 (length bits) (omega arith))
left_in-enough (suc more) (suc turns) before bits a b =
    rw (left_step-same (λ name left. left_in more (Some name) left) (λ name left. left_in turns (Some name) left) before bits (step_of before bits None)
    (λ kind is. let there = step_of-there before bits None kind is in
    let less : length (drop (kind_length kind) bits) + 144 ≤ length bits = omega (arith, length-drop (kind_length kind) bits, there.few, there.there) in
    left_in-enough more turns (before.0, kind) (drop (kind_length kind) bits) (omega arith) (omega arith)))

pub left_of-none : (bits : List Bool) → left_of None bits ≡ follow None []
unfolding left_of left_in
left_of-none [] = refl
left_of-none (bit ∷ bits) = refl

left_of-some : (before : ℕ × ℕ) (bits : List Bool)
    → left_of (Some before) bits ≡ cond (nat_le 6912 (length bits)) (left_step (λ name left. left_of (Some name) left) before bits (step_of before bits None)) (follow (Some before) bits)
unfolding left_of left_in
left_of-some before [] = refl
left_of-some before (bit ∷ bits) =
    let all = bit ∷ bits in
    rw (left_step-same (λ name left. left_in (length bits) (Some name) left) (λ name left. left_in (length left) (Some name) left) before all (step_of before all None)
    (λ kind is. let there = step_of-there before all None kind is in
    let left = drop (kind_length kind) all in
    left_in-enough (length bits) (length left) (before.0, kind) left (omega (arith, length-drop (kind_length kind) all, there.few, there.there)) (omega arith)))

pub left_of-step : (before : ℕ × ℕ) (bits : List Bool) (kind : ℕ) → 6912 ≤ length bits → step_of before bits None ≡ Some kind
    → left_of (Some before) bits ≡ left_of (Some (before.0, kind)) (drop (kind_length kind) bits)
unfolding left_step
left_of-step before bits kind long is = rw (left_of-some, le-leb 6912 (length bits) long, is)

pub left_of-stop : (before : ℕ × ℕ) (bits : List Bool) → 6912 ≤ length bits → step_of before bits None ≡ None → left_of (Some before) bits ≡ follow None []
unfolding left_step
left_of-stop before bits long is = rw (left_of-some, le-leb 6912 (length bits) long, is)

pub left_of-waits : (before : ℕ × ℕ) (bits : List Bool) → length bits < 6912 → left_of (Some before) bits ≡ follow (Some before) bits
left_of-waits before bits few = rw (left_of-some, lt-leb 6912 (length bits) few)

-- ---- the decided output comes first

abbrev Settles : Bool → Option (ℕ × ℕ) → List Bool → List Bool → Option (ℕ × ℕ) → Type 0
Settles whole before bits more end = chain_by whole before (bits ++ more) end ≡ settled_of before bits ++ chain_by whole (left_of before bits).before ((left_of before bits).stretch ++ more) end

settles-long : (n : ℕ) (whole : Bool) (before : ℕ × ℕ) (bits more : List Bool) (end : Option (ℕ × ℕ)) → 6912 ≤ length bits → length bits ≤ suc n → (kind : Option ℕ) → step_of before bits None ≡ kind
    → ((name : ℕ × ℕ) (left : List Bool) → length left ≤ n → Settles whole (Some name) left more end) → Settles whole (Some before) bits more end
settles-long n whole before bits more end long few kind is later =
    let goes : nat_le 6912 (length bits) ≡ true = le-leb 6912 (length bits) long in
    let goes_on : (whole || nat_le 6912 (length (bits ++ more))) ≡ true
    = or_right whole (nat_le 6912 (length (bits ++ more))) (le-leb 6912 (length (bits ++ more)) (omega (arith, length-append bits more))) in
    by-kind kind is goes goes_on (step_of-append before bits more end None long ∙ is)
  where
    by-kind : (kind : Option ℕ) → step_of before bits None ≡ kind → nat_le 6912 (length bits) ≡ true → (whole || nat_le 6912 (length (bits ++ more))) ≡ true
        → step_of before (bits ++ more) end ≡ kind → Settles whole (Some before) bits more end
    by-kind None is goes goes_on on = rw (chain_by-stop whole before (bits ++ more) end goes_on on, chain_by-stop false before bits None goes is, left_of-stop before bits long is, chain_by-none)
    by-kind (Some kind) is goes goes_on on =
        let there = step_of-there before bits None kind is in
        let count = kind_length kind in
        rw (
          chain_by-step whole before (bits ++ more) end kind goes_on on,
          chain_by-step false before bits None kind goes is,
          left_of-step before bits kind long is,
          take-append-le count bits more there.there,
          drop-append-le count bits more there.there,
          later (before.0, kind) (drop count bits) (omega (arith, length-drop count bits, there.few, there.there)),
          append_assoc,
        )

settles-in : (n : ℕ) (whole : Bool) (before : Option (ℕ × ℕ)) (bits more : List Bool) (end : Option (ℕ × ℕ)) → length bits ≤ n → Settles whole before bits more end
settles-in n whole None bits more end few = simp (left_of-none, chain_by-none)
settles-in zero whole (Some before) bits more end few = rw (chain_by-waits before bits None (omega arith), left_of-waits before bits (omega arith))
settles-in (suc n) whole (Some before) bits more end few =
    elim (cases_lt (length bits) 6912) [
      | inl short ↦ rw (chain_by-waits before bits None short, left_of-waits before bits short)
      | inr long ↦ settles-long n whole before bits more end long few (step_of before bits None) refl (λ name left fewer. settles-in n whole (Some name) left more end fewer)
    ]

pub chain-settles : (whole : Bool) (before : Option (ℕ × ℕ)) (bits more : List Bool) (end : Option (ℕ × ℕ)) → Settles whole before bits more end
chain-settles whole before bits more end = settles-in (length bits) whole before bits more end (omega arith)
