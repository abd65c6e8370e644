-- Columns that are remainders of powers by a generator: a word passes if and only if its polynomial is divisible.
use Rattle.std.proofs.{Common.{◌≡◌, ℕ, zero, suc, ◌+◌, ◌*◌, ◌^◌, ◌<◌, inl, inr, Bool, true, false, cond, ltb, List, [], ◌∷◌, length, bit_xor, ◌∙◌, arith}, Math.Nat.{pow-suc}}
use Rattle.std.proofs.{lemmas.Bool.{cases_lt, cond_below, cond_above}, lemmas.Nat.{pow_pos}}
use Rattle.p25_bits.specs.{Bits.{field_of}, Divisible.{IsDivisible, HasDegree, IsRemainder}}
use Rattle.p25_bits.proofs.{BitsLaws.{field_of-nil, field_of-cons, field_of-lt}, DivisionLaws.{IsRemainder-sum}}
use Rattle.p25_bits.proofs.DivisibleLaws.{IsRemainder-unique, IsRemainder-lower, divisible_from_remainder, remainder_from_divisible, remainder_kept, remainder_reduced}
use Rattle.p25_code.specs.Binary.{syndrome_of}
use Rattle.p25_code.proofs.SyndromeLaws.{above}

-- the remainder of a power of x, from that of the power below
unfoldable pub power_remainder : ℕ → ℕ → ℕ → ℕ
power_remainder generator degree zero = 1
power_remainder generator degree (suc n) =
    let below = power_remainder generator degree n in
    cond (ltb (2 * below) (2 ^ degree)) (2 * below) (bit_xor (2 * below) generator)

-- the remainders of the powers below a number, the highest first
unfoldable pub remainders : ℕ → ℕ → ℕ → List ℕ
remainders generator degree zero = []
remainders generator degree (suc n) = power_remainder generator degree n ∷ remainders generator degree n

-- the remainder of a number times x, if it stays of lower degree, and if not
next : (generator degree number r : ℕ) → HasDegree generator degree
    → IsRemainder generator degree number r → IsRemainder generator degree (2 * number) (cond (ltb (2 * r) (2 ^ degree)) (2 * r) (bit_xor (2 * r) generator))
next generator degree number r has is =
    let none : 0 < 2 = omega arith in
    let same : 2 * number + 0 ≡ 2 * number = omega arith in
    let same_r : 2 * r + 0 ≡ 2 * r = omega arith in
    elim (cases_lt (2 * r) (2 ^ degree)) [
      | inl low ↦
          rw same at (rw (same_r ∙ cond_below (2 * r) (2 ^ degree) (2 * r) (bit_xor (2 * r) generator) low) at (remainder_kept generator degree number r 0 none is (omega arith)))
      | inr high ↦
          rw same at (
          rw (cond_above (2 * r) (2 ^ degree) (2 * r) (bit_xor (2 * r) generator) (bit_xor (2 * r + 0) generator) high (rw same_r)) at (remainder_reduced generator degree number r 0 has none is (omega arith))
          )
    ]

module _ {generator degree : ℕ} (has : HasDegree generator degree) (some : 1 < 2 ^ degree) where
  -- the remainder of a power by its definition is the remainder
  pub IsRemainder-power : (n : ℕ) → IsRemainder generator degree (2 ^ n) (power_remainder generator degree n)
  unfolding power_remainder
  IsRemainder-power zero = IsRemainder-lower generator degree 1 some
  IsRemainder-power (suc n) =
      let doubled : 2 * 2 ^ n ≡ 2 ^ suc n = omega (arith, pow-suc 2 n) in
      rw doubled at
      (next generator degree _ _ has (IsRemainder-power n))

  -- a coefficient times a power
  chosen : (bit : Bool) (n : ℕ) → IsRemainder generator degree (cond bit (2 ^ n) 0) (cond bit (power_remainder generator degree n) 0)
  chosen true n = IsRemainder-power n
  chosen false n = IsRemainder-lower generator degree 0 (pow_pos degree)

  -- the sum of the remainders for the bits that are 1 is the remainder of the polynomial of the word
  pub IsRemainder-word : (word : List Bool) → IsRemainder generator degree (field_of word) (syndrome_of (remainders generator degree (length word)) word)
  unfolding syndrome_of remainders
  IsRemainder-word [] = rw field_of-nil (IsRemainder-lower generator degree 0 (pow_pos degree))
  IsRemainder-word (bit ∷ word) =
      let n = length word in
      rw (field_of-cons bit word, ← above bit n (field_of word) (field_of-lt word))
      (IsRemainder-sum generator degree _ (field_of word)
      _ (syndrome_of _ word) (chosen bit n) (IsRemainder-word word))

  -- so a word whose polynomial is divisible has the sum 0
  pub remainders-divisible : (word : List Bool) → IsDivisible generator (field_of word) → syndrome_of (remainders generator degree (length word)) word ≡ 0
  remainders-divisible word divisible =
      IsRemainder-unique generator degree (field_of word) _ 0 has (IsRemainder-word word) (remainder_from_divisible generator degree (field_of word) divisible)

  -- and conversely
  pub divisible-remainders : (word : List Bool) → syndrome_of (remainders generator degree (length word)) word ≡ 0 → IsDivisible generator (field_of word)
  divisible-remainders word none =
      divisible_from_remainder generator degree (field_of word) (rw none at (IsRemainder-word word))
