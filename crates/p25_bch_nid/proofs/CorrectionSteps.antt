-- Inverting the bits at the positions of the errors makes the transmitted word: the symbols of two bits add to zero if and only if the bits are the
-- same.
use Rattle.std.proofs.Common.{◌≡◌, ◌≢◌, ◌↔◌, ℕ, zero, suc, ◌+◌, ◌-◌, ◌%◌, ◌^◌, ◌<◌, eqb, bit_xor, ◌≤◌, Bool, true, false, cond, not, IsTrue, List, ◌∷◌, Option, length, get_or, refl, ap, sym, ◌∙◌, subst, arith, lit<}
use Rattle.std.proofs.{Math.Nat.{mod-eq_of_lt}, lemmas.Nat.Bits.{bit_at_xor, bit_at-lt}, lemmas.Bool.{false≢true}, lemmas.List.{ext_get_or, length-map}}
use Rattle.std.specs.{Bool.{beq}, Int.{bit_at}, Int.RustNames.{count_ones}, Int.Bits.{xor_zero_r}}
use Rattle.p25_code.specs.Readings.{IsReadAs}
use Rattle.p25_code.proofs.ReadingLaws.{one_reading}
use Rattle.p25_bch_nid.specs.{Bch63Laws.{bch63_is_code}, Bch63Readings.{bch63_reading_of, bch63_reads_as}, Nid.{generator}}
use Rattle.p25_reed_solomon.{specs.BitValues.{bit_coefficient}, proofs.RemainderValuesLaws.{number_value-suc}}
use Rattle.p25_bch_nid.specs.{Bch63.{IsBch63, symbols_of}, Bch63SymbolLaws.{distance_of_symbols, IsCode-63_41, IsWord-symbols_of}}
use Rattle.p25_bch_nid.specs.Bch63FormLaws.{value_of-symbols, to_divisible, from_divisible}
use Rattle.p25_bits.specs.{Bits.{bits_of, field_of}, Distance.{distance_of}, Divisible.{IsDivisible, IsRemainder}}
use Rattle.p25_bits.proofs.{BitsLaws.{bits_of-field_of, field_of-lt, get_or-bits_of, length-bits_of, field_of-bits_of}, DistanceLaws.{ones-xor}, DivisibleLaws.{divisible_from_remainder}}
use Rattle.p25_gf64.specs.{Field.{power}, Symbol.{alpha}, declared.symbol.Sym.{Sym}, Gf64.{gf64}}
use Rattle.p25_gf64.proofs.FieldLaws.{add_self, add_zero, zero_add}
use Rattle.p25_algebra.specs.Series.{coefficient}
use Rattle.p25_reed_solomon.specs.{Words.{value_of}, Errors.{AreErrors}}
use Rattle.p25_reed_solomon.proofs.WrongLaws.{difference_errors}
use Rattle.p25_bch_nid.proofs.SyndromesSteps.{value}

-- the generator divides the number of a word exactly if the remainder is zero
word_from_remainder : (word : List Bool) → length word ≡ 63 → IsRemainder generator 47 (field_of word) 0 → IsBch63 word
word_from_remainder word long is = from_divisible word long (divisible_from_remainder generator 47 (field_of word) is)

remainder_from_word : (word : List Bool) → IsBch63 word → IsRemainder generator 47 (field_of word) 0
remainder_from_word word is = record { lower = lit< tt; divisible = rw (xor_zero_r) (to_divisible word is) }

-- the symbols of bits, coefficient by coefficient
coefficient-symbols_of : (bits : List Bool) (j : ℕ) → coefficient gf64 (symbols_of bits) j ≡ bit_coefficient gf64 (get_or bits j false)
coefficient-symbols_of (bit ∷ bits) (suc j) = coefficient-symbols_of bits j
coefficient-symbols_of bits j = refl

-- a bit, inverted exactly if its symbol and that of another bit do not add to zero, is that other bit
inverted : (wrong x y : Bool) → IsTrue wrong ↔ (gf64.add (bit_coefficient gf64 x) (bit_coefficient gf64 y) ≢ gf64.zero) → cond wrong (not x) x ≡ y
inverted true true true is = absurd (is.0 refl (add_self gf64 gf64.one))
inverted true false false is = absurd (is.0 refl (add_self gf64 gf64.zero))
inverted false true false is = absurd (false≢true (is.1 (λ none. gf64.laws.one_ne_zero (rw add_zero at none))))
inverted false false true is = absurd (false≢true (is.1 (λ none. gf64.laws.one_ne_zero (rw zero_add at none))))
inverted wrong x y is = refl

-- the value of a word's number is that of its symbols
value_of_number : (word : List Bool) (i : ℕ) → length word ≡ 63 → value i (field_of word) ≡ value_of 63 (symbols_of word) i
value_of_number word i long =
    cc (number_value-suc gf64 _ 63 (field_of word) (simp long at (field_of-lt word)), bits_of-field_of word, value_of-symbols word 63 i long)

-- the errors between received bits and a codeword within 11 bits
pub errors_of_bits : (received sent : List Bool) (number : ℕ) (syndromes : List Sym)
    → length received ≡ 63 → number ≡ field_of received → ((r : ℕ) → r < 24 → coefficient gf64 syndromes r ≡ value (r + 1) number)
    → IsBch63 sent → distance_of received sent ≤ 11
    → AreErrors 63 22 syndromes (λ j. gf64.add (coefficient gf64 (symbols_of received) j) (coefficient gf64 (symbols_of sent) j))
errors_of_bits received sent number syndromes long is are of_code near =
    difference_errors 63 41 (symbols_of received) (symbols_of sent) syndromes IsCode-63_41 (simp (length-map, long)) (IsWord-symbols_of sent of_code)
    (λ r low. cc (are r (omega arith), is, value_of_number received _ long))
    (omega (arith, distance_of_symbols))

-- the corrected word is the transmitted word
corrected_is : (received sent made wrong : List Bool) → length received ≡ 63 → length made ≡ 63 → IsBch63 sent
    → ((j : ℕ) → j < 63 → get_or made j false ≡ cond (get_or wrong j false) (not (get_or received j false)) (get_or received j false))
    → ((j : ℕ) → j < 63 → IsTrue (get_or wrong j false) ↔ (gf64.add (coefficient gf64 (symbols_of received) j) (coefficient gf64 (symbols_of sent) j) ≢ gf64.zero)) → made ≡ sent
corrected_is received sent made wrong long full of_code is exactly =
    ext_get_or false made sent (full ∙ sym of_code.long) (λ j low.
    let inside : j < 63 = omega arith in
    is j inside
    ∙ inverted _ _ _
    (simp coefficient-symbols_of at (exactly j inside)))

-- a bit of a sum is the bit of the first number, inverted if the second number has a 1
xored : (a b e : ℕ) → eqb (bit_at (bit_xor a b) e) 1 ≡ cond (eqb (bit_at b e) 1) (not (eqb (bit_at a e) 1)) (eqb (bit_at a e) 1)
xored a b e = cc (bit_at_xor a b e, of_bits _ _ (bit_at-lt a e) (bit_at-lt b e))
  where
    of_bits : (x y : ℕ) → x < 2 → y < 2 → eqb ((x + y) % 2) 1 ≡ cond (eqb y 1) (not (eqb x 1)) (eqb x 1)
    of_bits zero zero x_low y_low = refl
    of_bits zero (suc zero) x_low y_low = refl
    of_bits (suc zero) zero x_low y_low = refl
    of_bits (suc zero) (suc zero) x_low y_low = refl
    of_bits x y x_low y_low = absurd (omega arith)

-- the corrected word is the transmitted word, by numbers
pub corrected_number : (received sent made : List Bool) (number wrong : ℕ) → length received ≡ 63 → number ≡ field_of received → made ≡ bits_of 63 (bit_xor number wrong) → IsBch63 sent
    → ((j : ℕ) → j < 63 → IsTrue (eqb (bit_at wrong (63 - 1 - j)) 1) ↔ (gf64.add (coefficient gf64 (symbols_of received) j) (coefficient gf64 (symbols_of sent) j) ≢ gf64.zero)) → made ≡ sent
corrected_number received sent made number wrong long is is_made of_code exactly =
    corrected_is received sent made _ long (simp (is_made, length-bits_of)) of_code
    (λ j low.
    ap (λ l. get_or l j false) is_made
    ∙ get_or-bits_of 63 _ j false low
    ∙ xored number wrong _
    ∙ sym (rw (get_or-bits_of, ← same, get_or-bits_of)))
    (λ j low. rw (sym (get_or-bits_of 63 wrong j false low)) at (exactly j low))
  where
    same : bits_of 63 number ≡ received
    same = cc (is, long, bits_of-field_of received)

-- ---- words as numbers

-- the number of the bits of a number
pub number_back : (n : ℕ) → n < 2 ^ 63 → field_of (bits_of 63 n) ≡ n
number_back n fits = field_of-bits_of 63 n ∙ mod-eq_of_lt fits

-- bits whose number has the remainder 0 are a word
pub word_of_number : (n : ℕ) → n < 2 ^ 63 → IsRemainder generator 47 n 0 → IsBch63 (bits_of 63 n)
word_of_number n fits is = word_from_remainder _ (length-bits_of 63 n) (simp number_back is)

-- and the number of a word has it
pub number_of_word : (n : ℕ) (word : List Bool) → n < 2 ^ 63 → bits_of 63 n ≡ word → IsBch63 word → IsRemainder generator 47 n 0
number_of_word n word fits same is =
    rw (← same, number_back) at (remainder_from_word word is)

-- the number of bits in which two numbers differ
pub numbers_apart : (m n : ℕ) → m < 2 ^ 63 → n < 2 ^ 63 → count_ones (bit_xor m n) ≡ distance_of (bits_of 63 m) (bits_of 63 n)
numbers_apart m n m_fits n_fits =
    cc (number_back m m_fits, number_back n n_fits, ones-xor (bits_of 63 m) (bits_of 63 n) (simp length-bits_of))

-- a result that meets the law of the decoding is the decoding
pub read_as : (received : ℕ) (answer : Option (List Bool)) → IsReadAs beq IsBch63 11 (bits_of 63 received) answer → answer ≡ bch63_reading_of (bits_of 63 received)
read_as received answer is =
    one_reading bch63_is_code _ answer _ (length-bits_of 63 received) is (bch63_reads_as _)
