-- Weights of words, sums of words, and a test of all lists of a number of bits.
use Rattle.std.proofs.{Common.{◌≡◌, ℕ, zero, suc, ◌+◌, Bool, true, false, not, eqb, List, [], ◌∷◌, ◌++◌, length, refl, ap, ap₂, ◌∙◌, arith}, lemmas.Bool.{and_parts}}
use Rattle.std.proofs.lemmas.Nat.Bits.{bit_at-zero}
use Rattle.std.specs.Int.Bits.{xor_zero_l}
use Rattle.p25_bits.specs.{Bits.{digit_of, bits_of}, Distance.{distance_by, distance_of}}
use Rattle.p25_bits.proofs.BitsLaws.{bits_of-suc, bits_of-zero}
use Rattle.p25_code.specs.{Binary.{syndrome_of, weight_of, change_of}, CodeLaws.{all_bits}}

-- a test that is true of all of them is true of each
pub all_bits-each : (bits : List Bool) (test : List Bool → Bool) → all_bits (length bits) test ≡ true → test bits ≡ true
unfolding all_bits
all_bits-each [] test h = h
all_bits-each (true ∷ bits) test h = all_bits-each bits (λ rest. test (true ∷ rest)) (and_parts _ _ h).0
all_bits-each (false ∷ bits) test h = all_bits-each bits (λ rest. test (false ∷ rest)) (and_parts _ _ h).1

-- two runs, one after the other: their weights add up
pub weight_of-append : (xs ys : List Bool) → weight_of (xs ++ ys) ≡ weight_of xs + weight_of ys
unfolding weight_of
weight_of-append [] ys = omega arith
weight_of-append (x ∷ xs) ys = omega (arith, weight_of-append xs ys)

-- the bits of 0 have no weight
pub weight_of-bits_of : (width : ℕ) → weight_of (bits_of width 0) ≡ 0
unfolding weight_of
weight_of-bits_of zero = ap weight_of (bits_of-zero 0)
weight_of-bits_of (suc width) =
    ap weight_of (bits_of-suc width 0) ∙ ap₂ ◌+◌ (ap (λ n. digit_of (eqb n 1)) (bit_at-zero width)) (weight_of-bits_of width)

-- the sum of two words over GF(2), bit by bit
unfoldable pub sum_of_words : List Bool → List Bool → List Bool
sum_of_words [] ys = []
sum_of_words (x ∷ xs) [] = []
sum_of_words (true ∷ xs) (y ∷ ys) = not y ∷ sum_of_words xs ys
sum_of_words (false ∷ xs) (y ∷ ys) = y ∷ sum_of_words xs ys

pub length-sum_of_words : (xs ys : List Bool) → length xs ≡ length ys → length (sum_of_words xs ys) ≡ length xs
unfolding sum_of_words
length-sum_of_words [] ys long = refl
length-sum_of_words (x ∷ xs) [] long = absurd (omega arith)
length-sum_of_words (true ∷ xs) (y ∷ ys) long = ap suc (length-sum_of_words xs ys (omega arith))
length-sum_of_words (false ∷ xs) (y ∷ ys) long = ap suc (length-sum_of_words xs ys (omega arith))

-- the sum has a 1 exactly if the words differ
pub weight_of-sum_of_words : (xs ys : List Bool) → length xs ≡ length ys → weight_of (sum_of_words xs ys) ≡ distance_of xs ys
unfolding sum_of_words weight_of distance_by
weight_of-sum_of_words [] ys long = refl
weight_of-sum_of_words (x ∷ xs) [] long = absurd (omega arith)
weight_of-sum_of_words (true ∷ xs) (true ∷ ys) long = rw (weight_of-sum_of_words xs ys (omega arith))
weight_of-sum_of_words (true ∷ xs) (false ∷ ys) long = rw (weight_of-sum_of_words xs ys (omega arith))
weight_of-sum_of_words (false ∷ xs) (true ∷ ys) long = rw (weight_of-sum_of_words xs ys (omega arith))
weight_of-sum_of_words (false ∷ xs) (false ∷ ys) long = rw (weight_of-sum_of_words xs ys (omega arith))

-- so its syndrome is the change between them
pub syndrome_of-sum_of_words : (columns : List ℕ) (xs ys : List Bool) → syndrome_of columns (sum_of_words xs ys) ≡ change_of columns xs ys
unfolding sum_of_words syndrome_of change_of
syndrome_of-sum_of_words (column ∷ columns) (true ∷ xs) (true ∷ ys) = rw (syndrome_of-sum_of_words columns xs ys)
syndrome_of-sum_of_words (column ∷ columns) (true ∷ xs) (false ∷ ys) = rw (syndrome_of-sum_of_words columns xs ys)
syndrome_of-sum_of_words (column ∷ columns) (false ∷ xs) (true ∷ ys) = rw (syndrome_of-sum_of_words columns xs ys)
syndrome_of-sum_of_words (column ∷ columns) (false ∷ xs) (false ∷ ys) = rw (syndrome_of-sum_of_words columns xs ys)
syndrome_of-sum_of_words columns xs ys = refl

-- a word without weight has no sum
pub syndrome_of-zeros : (columns : List ℕ) (word : List Bool) → weight_of word ≡ 0 → syndrome_of columns word ≡ 0
unfolding syndrome_of weight_of
syndrome_of-zeros (column ∷ columns) (true ∷ word) none = absurd (omega arith)
syndrome_of-zeros (column ∷ columns) (false ∷ word) none = xor_zero_l (syndrome_of columns word) ∙ syndrome_of-zeros columns word (omega arith)
syndrome_of-zeros columns word none = refl
