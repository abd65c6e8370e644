-- The tables hold the check bits of all messages, and the messages of all check bits. The checker computes each entry, and that each list of rows
-- inverts the other.
use Rattle.std.proofs.Common.{◌≡◌, ℕ, ◌/◌, ◌%◌, ◌^◌, ◌<◌, List, [], ◌∷◌, ◌++◌, length, take, drop, get_or, bit_xor, refl, ap, ap₂, sym, ◌∙◌, arith}
use Rattle.p25_bits.specs.{Bits.{bits_of}, Numbers.{each_below}}
use Rattle.p25_code.specs.{Binary.{syndrome_of, check_columns}, WrongBits.{number_sum, AreInverse}}
use Rattle.p25_code.proofs.{SumTablesLaws.{sums_of, entry-is}, WrongLaws.{number_sum-append, number_sum-mod, are_inverse}}
use Rattle.p25_golay.specs.{Golay24.{check_rows}, declared.golay24.fn.Golay24.{check_bits.TheConstants.{CHECKS}, wrong_bits.TheConstants.{MESSAGES}}}

-- the messages of the words with one 1 among the check bits
abbrev message_rows : List ℕ
message_rows = 0xA4F ∷ 0xF68 ∷ 0x7B4 ∷ 0x3DA ∷ 0x1ED ∷ 0xAB9 ∷ 0xF13 ∷ 0xDC6 ∷ 0x6E3 ∷ 0x93E ∷ 0x49F ∷ 0xC75 ∷ []

-- the entries of a number of twelve bits: of its first six in the first table, and of its last six in the second
abbrev entries_of : List (List ℕ) → ℕ → ℕ
entries_of tables number = bit_xor (get_or (get_or tables 0 []) (number / 64) 0) (get_or (get_or tables 1 []) (number % 64) 0)

-- two tables of six rows each
entries-are : (first last : List ℕ) (tables : List (List ℕ)) → length first ≡ 6 → length last ≡ 6 → tables ≡ sums_of first ∷ sums_of last ∷ []
    → (number : ℕ) → number < 4096 → entries_of tables number ≡ number_sum (first ++ last) number
entries-are first last tables six six' same number small =
    let front : 2 ^ length first ≡ 64 = ap (λ n. 2 ^ n) six in
    let back : 2 ^ length last ≡ 64 = ap (λ n. 2 ^ n) six' in
    let high : number / 64 < 2 ^ length first = omega arith in
    let low : number % 64 < 2 ^ length last = omega arith in
    ap (λ (t : List (List ℕ)). entries_of t number) same
    ∙ ap₂ bit_xor (entry-is first (sums_of first) refl (number / 64) high) (entry-is last (sums_of last) refl (number % 64) low)
    ∙ ap₂ (λ m n. bit_xor (number_sum first (number / m)) (number_sum last (number % n))) (sym back) (sym back)
    ∙ ap (bit_xor (number_sum first (number / 2 ^ length last))) (number_sum-mod last number)
    ∙ sym (number_sum-append first last number)

pub checks_are : (info : ℕ) → info < 4096 → entries_of CHECKS info ≡ number_sum check_rows info
unfolding each_below number_sum syndrome_of bits_of
checks_are = entries-are (take 6 check_rows) (drop 6 check_rows) CHECKS refl refl refl

pub messages_are : (checks : ℕ) → checks < 4096 → entries_of MESSAGES checks ≡ number_sum message_rows checks
unfolding each_below number_sum syndrome_of bits_of
messages_are = entries-are (take 6 message_rows) (drop 6 message_rows) MESSAGES refl refl refl

pub rows_inverse : AreInverse check_rows message_rows
unfolding number_sum syndrome_of bits_of check_columns
rows_inverse = are_inverse check_rows message_rows refl refl refl
