-- Identifiers as their transmitted bits.
use Rattle.std.proofs.Common.{◌≡◌, ℕ, ◌+◌, ◌*◌, ◌/◌, ◌%◌, ◌^◌, ◌<◌, Bool, true, false, cond, bit_xor, ap, sym, ◌∙◌, subst, arith, lit<}
use Rattle.std.proofs.lemmas.Nat.{shr_high, shr-shr, xor_shr, mod_below, pow_pos, div-mul-add, mod-mul-add}
use Rattle.std.specs.Int.Bits.{xor_self}
use Rattle.p25_bits.specs.Divisible.{IsDivisible}
use Rattle.p25_bits.proofs.DivisibleLaws.{xor_apart, same_from_xor, IsDivisible-lower, IsDivisible-sum}
use Rattle.p25_bch_nid.specs.{Bch63FormLaws.{generator_degree}, Nid.{generator, parity_of, IsSent}}

cond-lt_two : (b : Bool) → cond b 1 0 < 2
cond-lt_two true = lit< tt
cond-lt_two false = lit< tt

-- P is one bit
pub parity_of-lt : (duid : ℕ) → parity_of duid < 2
parity_of-lt duid = cond-lt_two _

-- the information, its check bits after it, and P
pub IsSent-from_parts : (nac duid r parity : ℕ) → 16 * nac + duid < 2 ^ 16 → r < 2 ^ 47 → IsDivisible generator (bit_xor ((16 * nac + duid) * 2 ^ 47) r) → parity ≡ parity_of duid
    → IsSent nac duid (2 * ((16 * nac + duid) * 2 ^ 47 + r) + parity)
IsSent-from_parts nac duid r parity small low word is =
    let information = 16 * nac + duid in
    let bit : parity < 2 = omega (arith, parity_of-lt) in
    let halves : (2 * (information * 2 ^ 47 + r) + parity) ≡ (information * 2 ^ 47 + r) * 2 + parity = omega arith in
    record {
      word = subst (IsDivisible generator) (simp (xor_apart, div-mul-add, halves)) word;
      information = ap (λ n. n / 2 ^ 48) (omega arith) ∙ shr_high information 48 (2 * r + parity) (omega arith);
      parity = ap (λ n. n % 2) halves ∙ mod-mul-add _ 2 parity bit ∙ is;
      fits = omega arith;
    }

-- two numbers with the same high part differ by one of lower degree
xor_same_high : (a b k : ℕ) → a / 2 ^ k ≡ b / 2 ^ k → bit_xor a b < 2 ^ k
xor_same_high a b k same =
    let none : bit_xor a b / 2 ^ k ≡ 0 = simp (xor_shr, same, xor_self) in
    omega (arith, mod_below (bit_xor a b) _ (pow_pos k), ap (λ q. q * 2 ^ k) none)

-- an identifier is transmitted as one number alone
pub IsSent-unique : (nac duid a b : ℕ) → IsSent nac duid a → IsSent nac duid b → a ≡ b
IsSent-unique nac duid a b x y =
    omega (
      arith,
      same_from_xor _ (b / 2) (IsDivisible-lower generator 47 _ generator_degree (IsDivisible-sum generator _ _ x.word y.word) (xor_same_high _ _ 47 (shr-shr a 1 47 ∙ x.information ∙ sym y.information
          ∙ sym (shr-shr b 1 47)))),
    )
