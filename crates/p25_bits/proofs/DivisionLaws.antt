-- Laws of remainders by which polynomials are divided many coefficients at a time. They give the remainder of a sum, of a polynomial times a power of
-- x, and of one with more coefficients after it.
use Rattle.std.proofs.Common.{◌≡◌, ℕ, zero, suc, ◌+◌, ◌*◌, ◌/◌, ◌^◌, ◌<◌, inl, inr, Bool, true, false, cond, ltb, List, [], ◌∷◌, bit_xor, refl, ap, ap₂, sym, ◌∙◌, subst, arith}
use Rattle.std.proofs.{Math.Nat.{mul_assoc, mul_comm, pow-suc}, lemmas.Bool.{cases_lt, cond_below, cond_above}, lemmas.Nat.{xor_lt, xor_block, xor_shr, shl-shr, pow_pos, shr_below}}
use Rattle.std.specs.Int.Bits.{xor_assoc, xor_self}
use Rattle.p25_bits.specs.Divisible.{multiple_of, IsDivisible, HasDegree, IsRemainder}
use Rattle.p25_bits.proofs.DivisibleLaws.{IsDivisible-doubled, IsDivisible-sum, IsRemainder-lower, remainder_kept, remainder_reduced, xor_apart, xor_middle}

-- a number that is added twice cancels
added_twice : (a b c : ℕ) → bit_xor (bit_xor a b) (bit_xor b c) ≡ bit_xor a c
added_twice a b c = cc (xor_assoc a b _, xor_assoc b b c, xor_self b)

-- the sum of two numbers times a power of two
pub xor_times_power : (a b k : ℕ) → bit_xor (a * 2 ^ k) (b * 2 ^ k) ≡ bit_xor a b * 2 ^ k
xor_times_power a b k =
    let right : b * 2 ^ k ≡ b * 2 ^ k + 0 = omega arith in
    ap₂ bit_xor (omega arith) right ∙ xor_block k a b 0 0 (pow_pos k) (pow_pos k) ∙ ap (λ n. bit_xor a b * 2 ^ k + n) (xor_self 0) ∙ omega arith

-- a number times the next power of two
times_next : (n k : ℕ) → n * 2 ^ suc k ≡ 2 * (n * 2 ^ k)
times_next n k = rw (pow-suc, mul_comm, mul_assoc, mul_comm, mul_assoc)

-- the remainder of a sum is the sum of the remainders
pub IsRemainder-sum : (generator degree a b r s : ℕ) → IsRemainder generator degree a r → IsRemainder generator degree b s → IsRemainder generator degree (bit_xor a b) (bit_xor r s)
IsRemainder-sum generator degree a b r s first second = record {
  lower = xor_lt degree r s first.lower second.lower;
  divisible = subst (IsDivisible generator) (xor_middle a r b s) (IsDivisible-sum generator (bit_xor a r) (bit_xor b s) first.divisible second.divisible);
}

-- a multiple times a power of x is a multiple
pub IsDivisible-times_power : (generator number k : ℕ) → IsDivisible generator number → IsDivisible generator (number * 2 ^ k)
IsDivisible-times_power generator number zero is = subst (IsDivisible generator) (omega arith) is
IsDivisible-times_power generator number (suc k) is =
    simp times_next (IsDivisible-doubled generator _ (IsDivisible-times_power generator number k is))

-- more coefficients after a polynomial, both times a power of x: the remainder of the polynomial alone is enough
pub IsRemainder-more : (generator degree before width number raised r s : ℕ) → number < 2 ^ width → IsRemainder generator degree (before * 2 ^ raised) r
    → IsRemainder generator degree (bit_xor (r * 2 ^ width) (number * 2 ^ raised)) s → IsRemainder generator degree ((before * 2 ^ width + number) * 2 ^ raised) s
IsRemainder-more generator degree before width number raised r s small first second =
    let b = before * 2 ^ raised * 2 ^ width in
    let n = number * 2 ^ raised in
    let moved : b ≡ before * 2 ^ width * 2 ^ raised
    = simp (mul_assoc, mul_comm) in
    let whole : bit_xor b n ≡ (before * 2 ^ width + number) * 2 ^ raised
    = simp (moved, xor_times_power, xor_apart) in
    let shifted : IsDivisible generator (bit_xor b (r * 2 ^ width))
    = simp xor_times_power (IsDivisible-times_power generator _ width first.divisible) in
    record {
      lower = second.lower;
      divisible = subst (IsDivisible generator) (rw (← xor_assoc, added_twice, whole)) (IsDivisible-sum generator _
          _ shifted second.divisible);
    }

-- the remainder of a polynomial times x, by that of the polynomial
unfoldable pub times_x : ℕ → ℕ → ℕ → ℕ
times_x generator degree r = cond (ltb (2 * r + 0) (2 ^ degree)) (2 * r + 0) (bit_xor (2 * r + 0) generator)

-- and times a power of x
unfoldable pub times_power : ℕ → ℕ → ℕ → ℕ → ℕ
times_power generator degree zero r = r
times_power generator degree (suc k) r = times_x generator degree (times_power generator degree k r)

IsRemainder-times_x : (generator degree number r : ℕ) → HasDegree generator degree → IsRemainder generator degree number r → IsRemainder generator degree (2 * number + 0) (times_x generator degree r)
unfolding times_x
IsRemainder-times_x generator degree number r has is =
    let digit : 0 < 2 = omega arith in
    elim (cases_lt (2 * r + 0) (2 ^ degree)) [
      | inl low ↦
          rw (← cond_below) (remainder_kept generator degree number r 0 digit is low)
      | inr high ↦
          rw (← cond_above _ _ _ _ _ high refl) (remainder_reduced generator degree number r 0 has digit is high)
    ]

-- the result of this computation, for a polynomial of lower degree, is the remainder of its product with that power
pub IsRemainder-times_power : (generator degree k number : ℕ) → HasDegree generator degree → number < 2 ^ degree → IsRemainder generator degree (number * 2 ^ k) (times_power generator degree k number)
unfolding times_power
IsRemainder-times_power generator degree zero number has small =
    subst (λ n. IsRemainder generator degree n number) (omega arith) (IsRemainder-lower generator degree number small)
IsRemainder-times_power generator degree (suc k) number has small =
    subst (λ n. IsRemainder generator degree n (times_power generator degree (suc k) number)) (omega (arith, times_next))
    (IsRemainder-times_x generator degree _ _ has (IsRemainder-times_power generator degree k number has small))

-- a chosen coefficient times a power of x
chosen_times_power : (bit : Bool) (generator k : ℕ) → cond bit (generator * 2 ^ k) 0 ≡ cond bit generator 0 * 2 ^ k
chosen_times_power true generator k = refl
chosen_times_power false generator k = omega arith

-- a multiple of a generator times a power of x is that multiple of the generator, times the power
multiple_of-times_power : (generator k : ℕ) (quotient : List Bool) → multiple_of (generator * 2 ^ k) quotient ≡ multiple_of generator quotient * 2 ^ k
unfolding multiple_of
multiple_of-times_power generator k [] = omega arith
multiple_of-times_power generator k (bit ∷ quotient) =
    cc (multiple_of-times_power generator k quotient, mul_assoc 2 _ _, chosen_times_power bit generator k, xor_times_power _ _ k)

-- the remainder of a polynomial by a generator, both times a power of x, begins with the remainder without that power
pub IsRemainder-without_power : (generator degree k number r : ℕ) → IsRemainder (generator * 2 ^ k) (degree + k) (number * 2 ^ k) r → IsRemainder generator degree number (r / 2 ^ k)
IsRemainder-without_power generator degree k number r is = record {
  lower = shr_below r degree k is.lower;
  divisible = record {
    quotient = is.divisible.quotient;
    product =
        sym (shl-shr (multiple_of generator is.divisible.quotient) k)
        ∙ ap (λ n. n / 2 ^ k) (sym (multiple_of-times_power generator k is.divisible.quotient) ∙ is.divisible.product)
        ∙ xor_shr (number * 2 ^ k) r k
        ∙ ap (λ n. bit_xor n (r / 2 ^ k)) (shl-shr number k);
  };
}
