-- The laws of the code (63,16): its codewords by their information, and their distance.
use Rattle.std.specs.{Prelude.{◌≡◌, ◌≢◌, ℕ, ◌+◌, ◌*◌, ◌^◌, ◌<◌, ◌≤◌, Bool, List, ◌++◌, length, take, drop, bit_xor}, Int.Bits.{xor_self}, Bool.{beq}}
use Rattle.std.specs.Cmp.{bool_eq_equiv}
use Rattle.std.proofs.{Common.{ap, sym, subst, ◌∙◌, arith, lit≤, lit<, take-append-drop, length-drop, length-append}, Math.Nat.{mod-eq_of_lt}}
use Rattle.std.proofs.{Math.Seq.{take-append_seam}, lemmas.Nat.{xor_lt, xor_block}}
use Rattle.p25_bits.specs.{Bits.{bits_of, field_of}, Distance.{distance_of}, Divisible.{IsDivisible, IsRemainder}}
use Rattle.p25_bits.proofs.BitsLaws.{length-bits_of, field_of-append, field_of-bits_of, field_of-lt, same_from_field_of}
use Rattle.p25_bits.proofs.DivisibleLaws.{xor_apart, same_from_xor, some_remainder, IsDivisible-lower, IsDivisible-sum}
use Rattle.p25_code.specs.{Words.{IsEncoding}, Letters.{same_bit}}
use Rattle.p25_code.proofs.ReadingLaws.{IsBlockCode}
use Rattle.p25_reed_solomon.specs.WordLaws.{words_apart}
use Rattle.p25_bch_nid.specs.{Nid.{generator}, Bch63.{IsBch63, symbols_of}}
use Rattle.p25_bch_nid.specs.Bch63SymbolLaws.{bits_in, bits_in-symbols_of, distance_of_symbols, IsCode-63_41, IsWord-symbols_of}
use Rattle.p25_bch_nid.specs.Bch63FormLaws.{generator_degree, to_divisible, from_divisible}

-- ---- the word of some information

-- the information, and then the remainder by the generator of its polynomial times x^47
unfoldable pub encoded_by : List Bool → ℕ → List Bool
encoded_by info remainder = info ++ bits_of 47 remainder

-- if that is the remainder, it is a codeword that begins with the information
pub IsEncoding-encoded_by : (info : List Bool) (remainder : ℕ) → length info ≡ 16 → IsRemainder generator 47 (field_of info * 2 ^ 47) remainder
    → IsEncoding IsBch63 16 info (encoded_by info remainder)
unfolding encoded_by
IsEncoding-encoded_by info remainder long is =
    let checks = bits_of 47 remainder in
    record {
      word_of_set = from_divisible _ (omega (arith, length-append info checks, length-bits_of))
          (subst (IsDivisible generator) (simp (
            xor_apart (field_of info) 47 remainder is.lower,
            length-bits_of 47 remainder,
            mod-eq_of_lt is.lower,
            field_of-bits_of 47 remainder,
            field_of-append info checks,
          )) is.divisible);
      begins = ap (λ n. take n (info ++ checks)) (sym long) ∙ take-append_seam info checks;
    }

-- the codeword of an information
pub encoded : List Bool → List Bool
encoded info = encoded_by info (some_remainder generator 47 (field_of info * 2 ^ 47) generator_degree).0

-- it is a codeword that begins with the information
pub IsEncoding-encoded : (info : List Bool) → length info ≡ 16 → IsEncoding IsBch63 16 info (encoded info)
unfolding encoded
IsEncoding-encoded info long =
    let some = some_remainder generator 47 (field_of info * 2 ^ 47) generator_degree in
    IsEncoding-encoded_by info some.0 long some.1

-- the bits before the last 47 of 63 bits are the high part of their number
split_number : (word : List Bool) → length word ≡ 63 → field_of word ≡ field_of (take 16 word) * 2 ^ 47 + field_of (drop 16 word)
split_number word long =
    let rest : length (drop 16 word) ≡ 47 = omega (arith, length-drop 16 word) in
    cc (take-append-drop 16 word, field_of-append (take 16 word) (drop 16 word))

low_part : (word : List Bool) → length word ≡ 63 → field_of (drop 16 word) < 2 ^ 47
low_part word long =
    let rest : length (drop 16 word) ≡ 47 = omega (arith, length-drop 16 word) in
    simp rest at (field_of-lt (drop 16 word))

-- no other codeword has the same information
pub one_word : (v w : List Bool) → IsBch63 v → IsBch63 w → take 16 v ≡ take 16 w → v ≡ w
one_word v w isv isw same =
    let a = field_of (take 16 v) in
    let r = field_of (drop 16 v) in
    let s = field_of (drop 16 w) in
    let sum : bit_xor (field_of v) (field_of w) ≡ bit_xor r s
    = cc (
      split_number v isv.long,
      split_number w isw.long,
      same,
      xor_block 47 a a r s (low_part v isv.long) (low_part w isw.long),
      xor_self a,
      zero_high (bit_xor r s),
    ) in
    let none
    = IsDivisible-lower generator 47 (bit_xor (field_of v) (field_of w)) generator_degree
    (IsDivisible-sum generator (field_of v) (field_of w) (to_divisible v isv) (to_divisible w isw))
    (simp sum (xor_lt 47 r s (low_part v isv.long) (low_part w isw.long))) in
    same_from_field_of v w (isv.long ∙ sym isw.long) (same_from_xor (field_of v) (field_of w) none)
  where
    zero_high : (n : ℕ) → 0 * 2 ^ 47 + n ≡ n
    zero_high n = omega arith

-- ---- the least distance

-- two different codewords differ in at least 23 bits, because their symbols are codewords of the Reed-Solomon code (63,41)
pub far_apart : (v w : List Bool) → IsBch63 v → IsBch63 w → v ≢ w → 23 ≤ distance_of v w
far_apart v w isv isw differ =
    omega (
      arith,
      words_apart 63 41 IsCode-63_41 (symbols_of v) (symbols_of w) (IsWord-symbols_of v isv) (IsWord-symbols_of w isw)
          (λ same. differ (simp bits_in-symbols_of at (ap bits_in same))),
      distance_of_symbols,
    )

-- each codeword has 63 bits
length_of_word : (word : List Bool) → IsBch63 word → length word ≡ 63
length_of_word word is = is.long

-- so at most one codeword lies within 11 bits of any list
within : 2 * 11 < 23
within = lit< tt

-- the information is part of the codeword
begins : 16 ≤ 63
begins = lit≤ tt

-- the laws of the code
pub bch63_is_code : IsBlockCode beq IsBch63 63 16 11 23
bch63_is_code = record {
  compares = bool_eq_equiv;
  alike = same_bit;
  long = length_of_word;
  one_word = one_word;
  far_apart = far_apart;
  close = within;
  begins = begins;
}
