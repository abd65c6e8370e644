-- Checks that are sums of other checks, and a parity besides other checks.
use Rattle.std.proofs.Common.{◌≡◌, ℕ, zero, suc, ◌+◌, ◌*◌, ◌%◌, ◌<◌, Bool, true, false, cond, eqb, List, [], ◌∷◌, length, map, bit_xor, refl, ap₂, sym, ◌∙◌, arith}
use Rattle.std.proofs.lemmas.Nat.Bits.{bit_at_xor, bit_at-lt}
use Rattle.std.specs.{Int.Bits.{xor_zero_l}}
use Rattle.p25_bits.specs.Bits.{digit_of, bits_of}
use Rattle.p25_bits.proofs.{BitsLaws.{bits_of-suc, bits_of-zero, length-bits_of, digit_of-le}, DivisibleLaws.{xor_doubled}}
use Rattle.p25_code.specs.{Binary.{syndrome_of, weight_of}, WrongBits.{number_sum}}
use Rattle.p25_code.proofs.{SyndromeLaws.{change_of-is}, WeightLaws.{sum_of_words, syndrome_of-sum_of_words, syndrome_of-zeros, weight_of-bits_of}}

-- the sum of two bits
sum_of_bits : (a b : ℕ) → a < 2 → b < 2 → (xs ys : List Bool) → eqb ((a + b) % 2) 1 ∷ sum_of_words xs ys ≡ sum_of_words (eqb a 1 ∷ xs) (eqb b 1 ∷ ys)
unfolding sum_of_words
sum_of_bits zero (suc (suc b)) h k xs ys = absurd (omega arith)
sum_of_bits (suc zero) (suc (suc b)) h k xs ys = absurd (omega arith)
sum_of_bits (suc (suc a)) b h k xs ys = absurd (omega arith)
sum_of_bits a b h k xs ys = refl

-- the bits of a sum are the sums of the bits
pub bits_of-xor : (width a b : ℕ) → bits_of width (bit_xor a b) ≡ sum_of_words (bits_of width a) (bits_of width b)
unfolding sum_of_words
bits_of-xor zero a b = bits_of-zero _ ∙ ap₂ sum_of_words (sym (bits_of-zero a)) (sym (bits_of-zero b))
bits_of-xor (suc width) a b =
    bits_of-suc width _
    ∙ ap₂ (λ n bits. eqb n 1 ∷ bits) (bit_at_xor a b width) (bits_of-xor width a b)
    ∙ sum_of_bits _ _ (bit_at-lt a width) (bit_at-lt b width) _ (bits_of width b)
    ∙ ap₂ sum_of_words (sym (bits_of-suc width a)) (sym (bits_of-suc width b))

-- sums of columns add up
pub number_sum-xor : (columns : List ℕ) (a b : ℕ) → number_sum columns (bit_xor a b) ≡ bit_xor (number_sum columns a) (number_sum columns b)
unfolding number_sum
number_sum-xor columns a b =
    let n = length columns in
    cc (bits_of-xor n a b, syndrome_of-sum_of_words columns _ _, change_of-is columns _ _ (length-bits_of n a) (length-bits_of n b))

-- a number without a 1 has the sum 0
pub number_sum-zero : (columns : List ℕ) → number_sum columns 0 ≡ 0
unfolding number_sum
number_sum-zero columns = syndrome_of-zeros columns _ (weight_of-bits_of _)

sum-chosen : (mix : List ℕ) (bit : Bool) (column : ℕ) → cond bit (number_sum mix column) 0 ≡ number_sum mix (cond bit column 0)
sum-chosen mix true column = refl
sum-chosen mix false column = sym (number_sum-zero mix)

-- the sum by mixed columns is the mixed sum by the columns
pub syndrome_of-mixed : (mix columns : List ℕ) (word : List Bool) → syndrome_of (map (number_sum mix) columns) word ≡ number_sum mix (syndrome_of columns word)
unfolding syndrome_of
syndrome_of-mixed mix (column ∷ columns) (bit ∷ word) =
    ap₂ bit_xor (sum-chosen mix bit column) (syndrome_of-mixed mix columns word) ∙ sym (number_sum-xor mix _ (syndrome_of columns word))
syndrome_of-mixed mix columns word = sym (number_sum-zero mix)

-- so a word that passes the checks passes their sums
pub mixed_passes : (mix columns : List ℕ) (word : List Bool) → syndrome_of columns word ≡ 0 → syndrome_of (map (number_sum mix) columns) word ≡ 0
mixed_passes mix columns word passes = cc (syndrome_of-mixed mix columns word, passes, number_sum-zero mix)

-- a column with one more check, over all bits
abbrev pub with_parity : ℕ → ℕ
with_parity column = 2 * column + 1

digit-lt : (bit : Bool) → digit_of bit < 2
digit-lt bit = omega (arith, digit_of-le bit)

-- the column of a bit in a doubled sum
doubled : (bit : Bool) (column : ℕ) → cond bit (with_parity column) 0 ≡ 2 * cond bit column 0 + digit_of bit
doubled true column = refl
doubled false column = refl

-- two digits
parities : (bit : Bool) (weight : ℕ) → bit_xor (digit_of bit) (weight % 2) ≡ (digit_of bit + weight) % 2
parities false weight = xor_zero_l (weight % 2) ∙ omega arith
parities true weight = flipped (weight % 2) refl
  where
    flipped : (odd : ℕ) → odd ≡ weight % 2 → bit_xor 1 odd ≡ (1 + weight) % 2
    flipped (suc (suc odd)) e = absurd (omega arith)
    flipped odd e = omega arith

-- the sum by columns with the parity: the sum by the columns, and whether the weight is odd
pub syndrome_of-with_parity : (columns : List ℕ) (word : List Bool) → length word ≡ length columns → syndrome_of (map with_parity columns) word ≡ 2 * syndrome_of columns word + weight_of word % 2
unfolding syndrome_of weight_of
syndrome_of-with_parity [] [] long = refl
syndrome_of-with_parity (column ∷ columns) (bit ∷ word) long =
    cc (ap₂ bit_xor (doubled bit column) (syndrome_of-with_parity columns word (omega arith)), xor_doubled _ (syndrome_of columns word) _ (weight_of word % 2) (digit-lt bit) (omega arith), parities bit (weight_of word))
syndrome_of-with_parity columns word long = absurd (omega arith)
