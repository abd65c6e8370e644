-- Numbers that octets write in base 256: they have the same bits as the octets. By induction on the octets.
use Rattle.std.proofs.Common.{◌≡◌, ℕ, zero, suc, ◌+◌, ◌*◌, ◌^◌, ◌<◌, ◌≤◌, List, [], ◌∷◌, length, length-take, take, get_or, refl, ap, sym, ◌∙◌, arith, pow-add, All}
use Rattle.std.proofs.{Math.Nat.{mul_comm, mul_assoc, add-mul, pow-suc, mod-eq_of_lt}, lemmas.List.Elements.{All-head, All-tail}}
use Rattle.p25_bits.specs.{Bits.{bits_of, field_of, octet_bits}, Numbers.{number_after, octets_number}}
use Rattle.p25_bits.proofs.BitsLaws.{bits_of-field_of, field_of-bits_of, field_of-append, field_of-nil, length-octet_bits, octet_bits-cons, octet_bits-nil}

pub octets_number-nil : octets_number [] ≡ 0
unfolding octets_number number_after
octets_number-nil = refl

-- a number with one more octet, times a power of 256
raised : (high octet power next : ℕ) → next ≡ power * 256 → (256 * high + octet) * power ≡ high * next + octet * power
raised high octet power next e = rw (e, add-mul) (rw (mul_comm 256 high, mul_assoc, mul_comm 256 power))

-- a number before the octets is multiplied by the number of values of the octets
pub number_after-is : (high : ℕ) (octets : List ℕ) → number_after high octets ≡ high * 256 ^ length octets + octets_number octets
unfolding number_after octets_number
number_after-is high [] = omega arith
number_after-is high (x ∷ xs) =
    number_after-is _ xs
    ∙ omega (arith, number_after-is (256 * 0 + x) xs, raised high x _ _ (pow-suc 256 (length xs)))

-- a first octet is the highest
pub octets_number-cons : (octet : ℕ) (octets : List ℕ) → octets_number (octet ∷ octets) ≡ octet * 256 ^ length octets + octets_number octets
unfolding number_after octets_number
octets_number-cons octet octets = number_after-is _ octets ∙ ap (λ n. n * 256 ^ length octets + octets_number octets) (omega arith)

-- the powers of 256 are powers of two
pub pow_256 : (n : ℕ) → 256 ^ n ≡ 2 ^ (8 * n)
pow_256 zero = refl
pow_256 (suc n) =
    let next : 8 + 8 * n ≡ 8 * suc n = omega arith in
    cc (pow-suc 256 n, pow_256 n, mul_comm _ 256, pow-add 2 8 (8 * n), next)

-- the number that small octets write is the number that their bits write
pub octets_number-bits : (octets : List ℕ) → All (λ octet. octet < 256) octets → octets_number octets ≡ field_of (octet_bits octets)
octets_number-bits [] small = octets_number-nil ∙ sym field_of-nil ∙ simp octet_bits-nil
octets_number-bits (octet ∷ octets) small =
    let P : ℕ → Type 0 = λ n. n < 256 in
    simp (
      octets_number-cons,
      mod-eq_of_lt (All-head P octet octets small),
      field_of-bits_of,
      pow_256,
      length-octet_bits,
      octets_number-bits octets (All-tail P octet octets small),
      field_of-append,
      octet_bits-cons,
    )

-- the number that the first eight octets write
eight_number : (octets : List ℕ) → 8 ≤ length octets
    → octets_number (take 8 octets) ≡ get_or octets 0 0 * 72057594037927936 + get_or octets 1 0 * 281474976710656 + get_or octets 2 0 * 1099511627776 + get_or octets 3 0 * 4294967296
    + get_or octets 4 0 * 16777216 + get_or octets 5 0 * 65536 + get_or octets 6 0 * 256 + get_or octets 7 0
unfolding octets_number number_after
eight_number (a ∷ b ∷ c ∷ d ∷ e ∷ f ∷ g ∷ h ∷ rest) long = omega arith
eight_number octets long = absurd (omega arith)

-- the bits of the word that they make
pub bits_of-eight : (octets : List ℕ) (word : ℕ) → 8 ≤ length octets → All (λ octet. octet < 256) (take 8 octets)
    → word ≡ get_or octets 0 0 * 72057594037927936 + get_or octets 1 0 * 281474976710656 + get_or octets 2 0 * 1099511627776 + get_or octets 3 0 * 4294967296
    + get_or octets 4 0 * 16777216 + get_or octets 5 0 * 65536 + get_or octets 6 0 * 256 + get_or octets 7 0
    → bits_of 64 word ≡ octet_bits (take 8 octets)
bits_of-eight octets word long small is =
    let bits = octet_bits (take 8 octets) in
    let width : length bits ≡ 64 = omega (arith, length-octet_bits, length-take 8 octets) in
    let number : word ≡ field_of bits = rw (is, ← eight_number, octets_number-bits) in
    rw (number, ← width, bits_of-field_of)
