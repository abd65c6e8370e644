-- The bit errors by their sum. Those of a word are those of its information and of its check bits; at most one bit error of the information is one
-- row or none. If two lists of rows invert each other, the two halves of a word may be exchanged.
use Rattle.std.proofs.Common.{◌≡◌, ◌⊎◌, ℕ, zero, suc, ◌+◌, ◌-◌, ◌*◌, ◌/◌, ◌%◌, ◌^◌, ◌<◌, ◌≤◌, inl, inr, true, cond, eqb, ltb, List, [], ◌∷◌, ◌++◌, length, map, get_or, Option, Some, None, bit_or, bit_xor, refl, ap, ap₂, sym, ◌∙◌, arith, length-append, mod-eq_of_lt}
use Rattle.std.proofs.{Math.Nat.{pow-suc, mul_comm}, lemmas.Bool.{cases_lt, and_parts, ltb-true}}
use Rattle.std.proofs.lemmas.Nat.{xor_comm, ones_cat, zero_from_ones, pow_pos, pow-add, pow_below, shr_high, mod_low, shr_split, shr_below, mod_below, mul-add-lt, one_shl, or_shifted, shl_whole}
use Rattle.std.proofs.lemmas.Nat.Bits.{bit_at-pow_same, bit_at-pow_other}
use Rattle.std.specs.{Int.{bit_at}, Option.{MatchOption}, Int.Bits.{xor_assoc, xor_self, xor_zero_l, xor_zero_r}, Int.RustNames.{count_ones}}
use Rattle.p25_bits.specs.Bits.{bits_of}
use Rattle.p25_bits.proofs.BitsLaws.{length-bits_of, bits_of-add, bits_of-above, bits_of-mod, bits_of-suc, field_of-bits_of}
use Rattle.p25_code.specs.{Binary.{syndrome_of, check_columns, rows_fit}, WrongBits.{number_sum, AreWrong, NoneWrong, NoneByRows, AreInverse}}
use Rattle.p25_code.proofs.{SyndromeLaws.{syndrome_of-append, syndrome_of-check_columns, length-check_columns}, BinaryLaws.{syndrome_of-lt}}
use Rattle.p25_code.proofs.{ParityLaws.{number_sum-xor, number_sum-zero, syndrome_of-mixed}, WeightLaws.{weight_of-bits_of, syndrome_of-zeros}}

-- a column for each row and each check
pub length-columns : (rows : List ℕ) (checks : ℕ) → length (rows ++ check_columns checks) ≡ length rows + checks
length-columns rows checks = rw (length-append, length-check_columns checks) refl

-- the sum of two lists of columns: each takes its part of the number
pub number_sum-append : (first last : List ℕ) (number : ℕ) → number_sum (first ++ last) number ≡ bit_xor (number_sum first (number / 2 ^ length last)) (number_sum last number)
unfolding number_sum
number_sum-append first last number =
    rw (length-append first last, bits_of-add)
    (syndrome_of-append first last _ (bits_of (length last) number) (length-bits_of (length first) (number / 2 ^ length last)))

-- the bits of a number above those of the columns do not change the sum
pub number_sum-mod : (columns : List ℕ) (number : ℕ) → number_sum columns (number % 2 ^ length columns) ≡ number_sum columns number
unfolding number_sum
number_sum-mod columns number = rw (bits_of-mod _ number)

-- a word's sum is that of its information and its check bits
pub number_sum-parts : (rows : List ℕ) (checks number : ℕ) → number_sum (rows ++ check_columns checks) number ≡ bit_xor (number_sum rows (number / 2 ^ checks)) (number % 2 ^ checks)
unfolding number_sum
number_sum-parts rows checks number =
    rw (
      number_sum-append,
      length-check_columns checks,
      syndrome_of-check_columns checks (bits_of checks number) (length-bits_of checks number),
      field_of-bits_of checks number,
    ) refl

-- the first column is in the sum exactly if the highest bit is 1
number_sum-cons : (column : ℕ) (columns : List ℕ) (number : ℕ) → number_sum (column ∷ columns) number ≡ bit_xor (cond (eqb (bit_at number (length columns)) 1) column 0) (number_sum columns number)
unfolding number_sum syndrome_of
number_sum-cons column columns number = rw (bits_of-suc _ number)

-- a bit above those of all columns adds nothing
number_sum-above : (columns : List ℕ) → number_sum columns (2 ^ length columns) ≡ 0
unfolding number_sum
number_sum-above columns =
    let k = length columns in
    let alone : 2 ^ k ≡ 1 * 2 ^ k + 0 = omega arith in
    rw (alone, bits_of-above k k 1 0 (omega arith)) (syndrome_of-zeros columns _ (weight_of-bits_of k))

-- a single bit has the sum of its column
pub number_sum-one : (columns : List ℕ) (i : ℕ) → i < length columns → number_sum columns (2 ^ (length columns - 1 - i)) ≡ get_or columns i 0
number_sum-one [] i inside = absurd (omega arith)
number_sum-one (column ∷ columns) zero inside =
    let k = length columns in
    let place : suc k - 1 - 0 ≡ k = omega arith in
    rw (place, number_sum-cons column columns (2 ^ k), bit_at-pow_same k, number_sum-above columns) (xor_zero_r column)
number_sum-one (column ∷ columns) (suc i) inside =
    let k = length columns in
    let place : suc k - 1 - suc i ≡ k - 1 - i = omega arith in
    rw (place, number_sum-cons, bit_at-pow_other (k - 1 - i) k (omega arith), number_sum-one columns i (omega arith)) (xor_zero_l (get_or columns i 0))

-- a number with at most one 1 is 0 or a power of two
one_place : (k number : ℕ) → number < 2 ^ k → count_ones number ≤ 1 → (number ≡ 0) ⊎ ((i : ℕ) × (i < k) × (number ≡ 2 ^ (k - 1 - i)))
unfolding count_ones
one_place zero number small few = inl (omega arith)
one_place (suc k) number small few =
    elim (cases_lt number (2 ^ k)) [
      | inl low ↦ elim (one_place k number low few) [
        | inl none ↦ inl none
        | inr found ↦
            let place : k - 1 - found.0 ≡ suc k - 1 - suc found.0 = omega arith in
            inr (suc found.0, omega (arith, found.1), rw place at found.2)
      ]
      | inr high ↦
          let rest = number - 2 ^ k in
          let ones : count_ones number ≡ 1 + count_ones rest = ap count_ones (omega arith) ∙ ones_cat k 1 rest (omega (arith, pow-suc 2 k)) in
          let none : rest ≡ 0 = zero_from_ones rest (omega arith) in
          let place : k ≡ suc k - 1 - 0 = omega arith in
          let whole : number ≡ 2 ^ k = omega arith in
          inr (0, omega arith, rw place at whole)
    ]

-- a power of two has one 1
ones-pow : (k : ℕ) → count_ones (2 ^ k) ≡ 1
unfolding count_ones
ones-pow k = ap count_ones (omega arith) ∙ ones_cat k 1 0 (pow_pos k)

-- the ones of a number are those of its two parts
ones-parts : (checks number : ℕ) → count_ones number ≡ count_ones (number / 2 ^ checks) + count_ones (number % 2 ^ checks)
ones-parts checks number = cc (shr_split number checks, ones_cat checks (number / 2 ^ checks) (number % 2 ^ checks) (mod_below number _ (pow_pos checks)))

-- a number of two parts has a bit for each column
parts_fit : (rows : List ℕ) (checks high low : ℕ) → high < 2 ^ length rows → low < 2 ^ checks → high * 2 ^ checks + low < 2 ^ length (rows ++ check_columns checks)
parts_fit rows checks high low above below =
    rw (length-columns rows checks, pow-add, mul_comm (2 ^ length rows)) (mul-add-lt high _ low (2 ^ length rows) above below)

-- and the parts of such a number
pub high_fits : (rows : List ℕ) (checks number : ℕ) → number < 2 ^ length (rows ++ check_columns checks) → number / 2 ^ checks < 2 ^ length rows
high_fits rows checks number fits = shr_below number (length rows) checks (rw (length-columns rows checks) at fits)

low_fits : (checks number : ℕ) → number % 2 ^ checks < 2 ^ checks
low_fits checks number = mod_below number _ (pow_pos checks)

-- a number that is added twice cancels
pub twice : (a b : ℕ) → bit_xor a (bit_xor a b) ≡ b
twice a b = rw (← xor_assoc, xor_self a) (xor_zero_l b)

-- bit errors in check bits alone
pub checks_wrong : (rows : List ℕ) (checks radius sum : ℕ) → sum < 2 ^ checks → count_ones sum ≤ radius → AreWrong (rows ++ check_columns checks) radius sum sum
checks_wrong rows checks radius sum small few =
    let alone : 0 * 2 ^ checks + sum ≡ sum = omega arith in
    record {
      fits = rw alone at (parts_fit rows checks 0 sum (pow_pos (length rows)) small);
      sums = number_sum-parts rows checks sum ∙ ap₂ bit_xor (ap (number_sum rows) (cc (alone, shr_high 0 checks sum small)) ∙ number_sum-zero rows) (mod-eq_of_lt small) ∙ xor_zero_l sum;
      within = few;
    }

-- a bit error in one bit of information, and in the check bits that are then left of the sum
pub row_wrong : (rows : List ℕ) (checks radius sum i rest wrong : ℕ) → i < length rows → rest < 2 ^ checks → rest ≡ bit_xor sum (get_or rows i 0) → count_ones rest < radius
    → wrong ≡ 2 ^ (length rows - 1 - i) * 2 ^ checks + rest → AreWrong (rows ++ check_columns checks) radius sum wrong
row_wrong rows checks radius sum i rest wrong inside small e few whole =
    let place = length rows - 1 - i in
    let high : wrong / 2 ^ checks ≡ 2 ^ place = rw whole (shr_high (2 ^ place) checks rest small) in
    let low : wrong % 2 ^ checks ≡ rest = rw whole (mod_low (2 ^ place) checks rest small) in
    record {
      fits = rw whole (parts_fit rows checks (2 ^ place) rest (pow_below place (length rows) (omega arith)) small);
      sums = rw (number_sum-parts, high, number_sum-one, low, e, xor_comm sum) (twice (get_or rows i 0) sum);
      within = omega (arith, ones-parts checks wrong, ap count_ones high, ap count_ones low, ones-pow place);
    }

-- the bit of a row, shifted to its position, and check bits after it
pub row_bits : (place checks rest : ℕ) → place + checks < 32 → rest < 2 ^ checks → bit_or (1 * 2 ^ (place + checks) % 2 ^ 32) rest ≡ 2 ^ place * 2 ^ checks + rest
row_bits place checks rest fits small =
    rw (one_shl, pow-add) (or_shifted (2 ^ place) checks rest small)

-- neither are check bits alone few enough, nor those that each row leaves of the sum
pub none_by_rows : (rows : List ℕ) (checks radius sum : ℕ) → radius < count_ones sum → ((i : ℕ) → i < length rows → radius ≤ count_ones (bit_xor sum (get_or rows i 0)))
    → NoneByRows (rows ++ check_columns checks) checks radius sum
none_by_rows rows checks radius sum many each = record { farther = farther }
  where
    farther : (wrong : ℕ) → wrong < 2 ^ length (rows ++ check_columns checks) → count_ones (wrong / 2 ^ checks) ≤ 1 → number_sum (rows ++ check_columns checks) wrong ≡ sum → radius < count_ones wrong
    farther wrong fits few sums =
        let low = wrong % 2 ^ checks in
        let parts = sym (number_sum-parts rows checks wrong) ∙ sums in
        elim (one_place (length rows) (wrong / 2 ^ checks) (high_fits rows checks wrong fits) few) [
          | inl none ↦
              omega (arith, ones-parts checks wrong, ap count_ones (rw (none, number_sum-zero rows, xor_zero_l low) at parts), many)
          | inr found ↦
              let row = get_or rows found.0 0 in
              omega (arith, ones-parts checks wrong, ap count_ones (sym (twice row low) ∙ ap (bit_xor row) (rw (found.2, number_sum-one rows found.0 found.1) at parts) ∙ xor_comm row sum), ap count_ones found.2, ones-pow, each found.0)
        ]

-- the two halves of a number are exchanged
unfoldable pub halves_turned : ℕ → ℕ → ℕ
halves_turned half number = number % 2 ^ half * 2 ^ half + number / 2 ^ half

-- they do so by shifts
pub shifted_halves : (half number : ℕ) → half ≤ 16 → number / 2 ^ half < 2 ^ half → bit_or (number % (1 * 2 ^ half % 2 ^ 32) * 2 ^ half % 2 ^ 32) (number / 2 ^ half) ≡ halves_turned half number
unfolding halves_turned
shifted_halves half number fits high_small =
    let low = number % 2 ^ half in
    rw (one_shl half 32 (omega arith), shl_whole low half half 32 (low_fits half number) (omega arith)) (or_shifted low half (number / 2 ^ half) high_small)

-- then the sum is that by the other rows
turned_wrong : (rows turned : List ℕ) (half radius sum wrong : ℕ) → length rows ≡ half → length turned ≡ half → ((number : ℕ) → number < 2 ^ half → number_sum turned (number_sum rows number) ≡ number)
    → AreWrong (rows ++ check_columns half) radius sum wrong → AreWrong (turned ++ check_columns half) radius (number_sum turned sum) (halves_turned half wrong)
unfolding halves_turned
turned_wrong rows turned half radius sum wrong long long' undone are =
    let high = wrong / 2 ^ half in
    let low = wrong % 2 ^ half in
    let number = low * 2 ^ half + high in
    let high_small : high < 2 ^ half = rw long at (high_fits rows half wrong are.fits) in
    let new_high = shr_high low half high high_small in
    let new_low = mod_low low half high high_small in
    record {
      fits = parts_fit turned half low high (rw long' (low_fits half wrong)) high_small;
      sums =
          cc (
            number_sum-parts turned half number,
            ap₂ bit_xor (ap (number_sum turned) new_high) (new_low ∙ sym (undone high high_small)),
            xor_comm (number_sum turned low) (number_sum turned (number_sum rows high)),
            number_sum-xor turned (number_sum rows high) low,
            number_sum-parts rows half wrong,
            are.sums,
          );
      within = omega (arith, are.within, ones-parts half wrong, ones-parts half number, ap count_ones new_high, ap count_ones new_low);
    }

module _ (rows turned : List ℕ) (inverse : AreInverse rows turned) (radius sum turned_sum : ℕ) (turns : turned_sum ≡ number_sum turned sum) where
  -- the bit errors by the other rows are those by these rows, with the halves exchanged
  pub halves_wrong : (wrong : ℕ) → sum < 2 ^ length rows → AreWrong (turned ++ check_columns (length rows)) radius turned_sum wrong
      → AreWrong (rows ++ check_columns (length rows)) radius sum (halves_turned (length rows) wrong)
  halves_wrong wrong small are =
      rw (turns, inverse.second sum small) at (turned_wrong turned rows (length rows) radius turned_sum wrong inverse.long refl inverse.second are)

  -- one of the halves has at most one of at most three bits
  pub none_by_halves : radius ≤ 3 → NoneByRows (rows ++ check_columns (length rows)) (length rows) radius sum → NoneByRows (turned ++ check_columns (length rows)) (length rows) radius turned_sum
      → NoneWrong (rows ++ check_columns (length rows)) radius sum
  unfolding halves_turned
  none_by_halves three first second = record { farther = farther }
    where
      farther : (wrong : ℕ) → wrong < 2 ^ length (rows ++ check_columns (length rows)) → number_sum (rows ++ check_columns (length rows)) wrong ≡ sum → radius < count_ones wrong
      farther wrong fits sums =
          let half = length rows in
          let high = wrong / 2 ^ half in
          let low = wrong % 2 ^ half in
          let are = turned_wrong rows turned half (count_ones wrong) sum wrong refl inverse.long inverse.first (record { fits = fits; sums = sums; within = omega arith }) in
          elim (cases_lt (count_ones high) 2) [
            | inl few ↦ first.farther wrong fits (omega arith) sums
            | inr many ↦ elim (cases_lt (count_ones low) 2) [
              | inl few ↦
                  omega (arith, (second.farther (halves_turned half wrong) are.fits (omega (arith, ap count_ones (shr_high low half high (high_fits rows half wrong fits))))), are.within)
              | inr more ↦ omega (arith, ones-parts half wrong)
            ]
          ]

-- a sum of rows has a bit for each check and no other
pub number_sum-lt : (checks : ℕ) (rows : List ℕ) (number : ℕ) → rows_fit checks rows ≡ true → number_sum rows number < 2 ^ checks
unfolding number_sum
number_sum-lt checks rows number fit = syndrome_of-lt checks rows (bits_of (length rows) number) fit

-- and so has each row
pub row-lt : (checks : ℕ) (rows : List ℕ) (i : ℕ) → rows_fit checks rows ≡ true → i < length rows → get_or rows i 0 < 2 ^ checks
row-lt checks [] i fit inside = absurd (omega arith)
row-lt checks (row ∷ rows) zero fit inside = ltb-true row _ (and_parts (ltb row _) (rows_fit checks rows) fit).0
row-lt checks (row ∷ rows) (suc i) fit inside = row-lt checks rows i (and_parts (ltb row _) (rows_fit checks rows) fit).1 (omega arith)

-- if there is at most one bit error, at most one is in the information
none_by_one_row : (columns : List ℕ) (checks sum : ℕ) → NoneByRows columns checks 1 sum → NoneWrong columns 1 sum
none_by_one_row columns checks sum none = record {
  farther = λ wrong fits sums. elim (cases_lt 1 (count_ones wrong)) [
    | inl many ↦ many
    | inr few ↦ none.farther wrong fits (omega (arith, ones-parts checks wrong)) sums
  ];
}

-- so the bit errors that are found by rows are exact for a code that corrects one bit error
pub exact_by_one_row : (columns : List ℕ) (checks sum : ℕ) (found : Option ℕ) → MatchOption found (NoneByRows columns checks 1 sum) (AreWrong columns 1 sum)
    → MatchOption found (NoneWrong columns 1 sum) (AreWrong columns 1 sum)
exact_by_one_row columns checks sum (Some wrong) are = are
exact_by_one_row columns checks sum None none = none_by_one_row columns checks sum none

-- if the sums by one list of rows, of the rows of another, are single bits in order, the one is the inverse of the other
undone : (rows turned : List ℕ) → map (number_sum turned) rows ≡ check_columns (length rows) → (number : ℕ) → number < 2 ^ length rows → number_sum turned (number_sum rows number) ≡ number
unfolding number_sum
undone rows turned single number small =
    let bits = bits_of (length rows) number in
    let places = length-bits_of (length rows) number in
    rw (← syndrome_of-mixed, single, syndrome_of-check_columns, field_of-bits_of) (mod-eq_of_lt small)

pub are_inverse : (rows turned : List ℕ) → length turned ≡ length rows
    → map (number_sum turned) rows ≡ check_columns (length rows) → map (number_sum rows) turned ≡ check_columns (length rows) → AreInverse rows turned
are_inverse rows turned long single back = record {
  long = long;
  first = undone rows turned single;
  second = λ number small. undone turned rows (rw long back) number (rw long small);
}
