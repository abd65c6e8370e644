-- The shorter code by the tables of the longer one: six leading zeros add nothing to a sum, and with bit errors among them there is no codeword.
use Rattle.std.proofs.{Common.{◌≡◌, ℕ, ◌/◌, ◌^◌, ◌<◌, ◌≤◌, inl, inr, List, [], ◌∷◌, ◌++◌, length, Option, Some, None, bit_xor, refl, ap, sym, ◌∙◌, subst, arith}, lemmas.Bool.{cases_lt}}
use Rattle.std.specs.{Option.{MatchOption}, Int.Bits.{xor_zero_l}, Int.RustNames.{count_ones}}
use Rattle.p25_code.specs.{Binary.{check_columns}, WrongBits.{number_sum, AreWrong, NoneWrong}}
use Rattle.p25_code.proofs.{ParityLaws.{number_sum-zero}, WrongLaws.{number_sum-append}, NumberCodeLaws.{one_wrong}}
use Rattle.p25_golay.specs.{Golay18.{short_rows}, Golay24.{check_rows}, Golay24Laws.{golay24_code}}

-- the rows of the six zeros
abbrev first_rows : List ℕ
first_rows = 0xC75 ∷ 0x63B ∷ 0xF68 ∷ 0x7B4 ∷ 0x3DA ∷ 0xD99 ∷ []

-- the columns of both codes
abbrev short_columns : List ℕ
short_columns = short_rows ++ check_columns 12

abbrev long_columns : List ℕ
long_columns = check_rows ++ check_columns 12

length-short : length short_columns ≡ 18
unfolding check_columns
length-short = refl

length-long : length long_columns ≡ 24
unfolding check_columns
length-long = refl

-- bits after those of the first rows have the sum of the others
last_sum : (last : List ℕ) (number : ℕ) → number / 2 ^ length last ≡ 0 → number_sum (first_rows ++ last) number ≡ number_sum last number
last_sum last number none =
    number_sum-append first_rows last number
    ∙ ap (λ m. bit_xor m (number_sum last number)) (ap (number_sum first_rows) none ∙ number_sum-zero first_rows)
    ∙ xor_zero_l (number_sum last number)

-- so the check bits are those of the longer code
pub checks_short : (info : ℕ) → info < 2 ^ 6 → number_sum check_rows info ≡ number_sum short_rows info
checks_short info small = last_sum short_rows info (omega arith)

wrong_sum : (wrong : ℕ) → wrong < 2 ^ 18 → number_sum long_columns wrong ≡ number_sum short_columns wrong
wrong_sum wrong low =
    let none : wrong / 2 ^ 18 ≡ 0 = omega arith in
    last_sum short_columns wrong (ap (λ m. wrong / 2 ^ m) length-short ∙ none)

-- bit errors after the six zeros are those of a word of the shorter code
pub wrong_inside : (syndrome wrong : ℕ) → wrong < 2 ^ 18 → AreWrong long_columns 3 syndrome wrong → AreWrong short_columns 3 syndrome wrong
wrong_inside syndrome wrong low are = record {
  fits = subst (λ m. wrong < 2 ^ m) (sym length-short) low;
  sums = sym (wrong_sum wrong low) ∙ are.sums;
  within = are.within;
}

-- and conversely
wrong_back : (syndrome wrong : ℕ) → wrong < 2 ^ length short_columns → number_sum short_columns wrong ≡ syndrome → count_ones wrong ≤ 3 → AreWrong long_columns 3 syndrome wrong
wrong_back syndrome wrong fits sums few =
    let low : wrong < 2 ^ 18 = subst (λ m. wrong < 2 ^ m) length-short fits in
    let below : wrong < 2 ^ 24 = omega arith in
    record { fits = subst (λ m. wrong < 2 ^ m) (sym length-long) below; sums = wrong_sum wrong low ∙ sums; within = few }

-- if others make the syndrome, none after the six zeros do
pub wrong_outside : (syndrome wrong : ℕ) → 2 ^ 18 ≤ wrong → AreWrong long_columns 3 syndrome wrong → NoneWrong short_columns 3 syndrome
wrong_outside syndrome wrong high are = record {
  farther = λ other fits sums. elim (cases_lt 3 (count_ones other)) [
    | inl many ↦ many
    | inr few ↦
        let low : other < 2 ^ 18 = subst (λ m. other < 2 ^ m) length-short fits in
        absurd (omega (arith, low, one_wrong golay24_code syndrome wrong other are (wrong_back syndrome other fits sums few)))
  ];
}

-- nor if none do
pub wrong_nowhere : (syndrome : ℕ) (found : Option ℕ) → found ≡ None → NoneWrong long_columns 3 syndrome → MatchOption found (NoneWrong short_columns 3 syndrome) (AreWrong short_columns 3 syndrome)
wrong_nowhere syndrome (Some wrong) none long = absurd (cc)
wrong_nowhere syndrome None none long = record {
  farther = λ other fits sums. elim (cases_lt 3 (count_ones other)) [
    | inl many ↦ many
    | inr few ↦ long.farther other (wrong_back syndrome other fits sums few).fits (wrong_back syndrome other fits sums few).sums
  ];
}
