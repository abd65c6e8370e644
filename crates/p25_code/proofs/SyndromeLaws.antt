-- Laws of syndromes: sums of columns at the positions at which a word is 1. By induction on the columns and the bits.
use Rattle.std.proofs.{Common.{◌≡◌, ℕ, zero, suc, ◌+◌, ◌*◌, ◌^◌, ◌<◌, Bool, true, false, cond, List, [], ◌∷◌, ◌++◌, length, bit_xor, refl, ap, ap₂, sym, ◌∙◌, arith}, lemmas.Nat.{xor_block, pow_pos}}
use Rattle.std.specs.{Bool.{beq}, Int.Bits.{xor_assoc, xor_self, xor_zero_l, xor_zero_r}}
use Rattle.p25_bits.specs.Bits.{digit_of, field_of}
use Rattle.p25_bits.proofs.{BitsLaws.{field_of-nil, field_of-cons, field_of-lt}, DivisibleLaws.{xor_middle}}
use Rattle.p25_code.specs.Binary.{syndrome_of, check_columns, change_of}

-- two runs, one after the other: their sums add up
pub syndrome_of-append : (rows columns : List ℕ) (info checks : List Bool)
    → length info ≡ length rows → syndrome_of (rows ++ columns) (info ++ checks) ≡ bit_xor (syndrome_of rows info) (syndrome_of columns checks)
unfolding syndrome_of
syndrome_of-append [] columns [] checks long = sym (xor_zero_l _)
syndrome_of-append (first ∷ rows) columns (bit ∷ info) checks long =
    cc (syndrome_of-append rows columns info checks (omega arith), xor_assoc (cond bit first 0) (syndrome_of rows info) _)
syndrome_of-append rows columns info checks long = absurd (omega arith)

-- a bit above a number of lower bits
pub above : (bit : Bool) (k low : ℕ) → low < 2 ^ k → bit_xor (cond bit (2 ^ k) 0) low ≡ digit_of bit * 2 ^ k + low
above true k low h =
    let right : low ≡ 0 * 2 ^ k + low = omega arith in
    ap₂ bit_xor (omega arith) right ∙ xor_block k 1 0 0 low (pow_pos k) h ∙ ap₂ (λ m n. m * 2 ^ k + n) (xor_zero_r 1) (xor_zero_l low)
above false k low h = xor_zero_l low ∙ omega arith

pub length-check_columns : (checks : ℕ) → length (check_columns checks) ≡ checks
unfolding check_columns
length-check_columns zero = refl
length-check_columns (suc checks) = ap suc (length-check_columns checks)

-- the sum of the check columns is the number that the check bits write
pub syndrome_of-check_columns : (checks : ℕ) (bits : List Bool) → length bits ≡ checks → syndrome_of (check_columns checks) bits ≡ field_of bits
unfolding syndrome_of check_columns
syndrome_of-check_columns zero [] long = sym field_of-nil
syndrome_of-check_columns (suc checks) (bit ∷ bits) long =
    let fewer : length bits ≡ checks = omega arith in
    ap₂ (λ k n. bit_xor (cond bit (2 ^ k) 0) n) (sym fewer) (syndrome_of-check_columns checks bits fewer)
    ∙ above bit (length bits) (field_of bits) (field_of-lt bits)
    ∙ sym (field_of-cons bit bits)
syndrome_of-check_columns checks bits long = absurd (omega arith)

-- if two letters differ, one of them is 1
differs : (x y : Bool) (column : ℕ) → cond (beq x y) 0 column ≡ bit_xor (cond x column 0) (cond y column 0)
differs true true column = sym (xor_self column)
differs true false column = sym (xor_zero_r column)
differs false true column = sym (xor_zero_l column)
differs false false column = sym (xor_self 0)

-- the change between two words is the sum of their syndromes
pub change_of-is : (columns : List ℕ) (old new : List Bool) → length old ≡ length columns
    → length new ≡ length columns → change_of columns old new ≡ bit_xor (syndrome_of columns old) (syndrome_of columns new)
unfolding syndrome_of change_of
change_of-is [] old new long long' = sym (xor_self 0)
change_of-is (column ∷ columns) (x ∷ old) (y ∷ new) long long' =
    ap₂ bit_xor (differs x y column) (change_of-is columns old new (omega arith) (omega arith))
    ∙ xor_middle _ (cond y column 0) (syndrome_of columns old) (syndrome_of columns new)
change_of-is (column ∷ columns) old new long long' = absurd (omega arith)
