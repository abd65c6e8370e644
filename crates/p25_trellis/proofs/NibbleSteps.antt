-- The nibbles of a block, a quarter of them at a time: those that a word writes, and the word that they write.
use Rattle.std.proofs.Common.{◌≡◌, ◌≢◌, ℕ, ◌+◌, ◌*◌, ◌<◌, ◌≤◌, Bool, List, ◌++◌, length, drop, get_or, set, ◌∙◌, arith, below_more, length-drop, get_or-set_same, get_or-set_other}
use Rattle.std.proofs.lemmas.List.{drop-drop}
use Rattle.p25_bits.specs.{Bits.{bits_of, field_of, part}, Numbers.{number_bits, numbers_from}}
use Rattle.p25_bits.proofs.NumbersLaws.{bits_of-field, number_bits-append, numbers_from-add, numbers_from-take}
use Rattle.p25_trellis.specs.Interleave.{each_fourth, interleaved}
use Rattle.p25_trellis.proofs.FourthLaws.{each_fourth-set_same, each_fourth-set_other}

-- one more of a fourth of the nibbles is set to its value
pub put_more : (from k : ℕ) (nibbles : List ℕ) (value : ℕ → ℕ) → k < length (each_fourth from nibbles)
    → ((i : ℕ) → i < k → get_or (each_fourth from nibbles) i 0 ≡ value i)
    → (i : ℕ) → i < k + 1 → get_or (each_fourth from (set nibbles (from + 4 * k) (value k))) i 0 ≡ value i
put_more from k nibbles value inside so_far = below_more (λ i. get_or (each_fourth from (set nibbles (from + 4 * k) (value k))) i 0 ≡ value i) k before here
  where
    as_set : (i : ℕ) → get_or (each_fourth from (set nibbles (from + 4 * k) (value k))) i 0 ≡ get_or (set (each_fourth from nibbles) k (value k)) i 0
    as_set i = rw (each_fourth-set_same)

    before : (i : ℕ) → i < k → get_or (each_fourth from (set nibbles (from + 4 * k) (value k))) i 0 ≡ value i
    before i early =
        as_set i ∙ get_or-set_other (each_fourth from nibbles) k i (value k) 0 (omega arith) ∙ so_far i early

    here : get_or (each_fourth from (set nibbles (from + 4 * k) (value k))) k 0 ≡ value k
    here = as_set k ∙ get_or-set_same (each_fourth from nibbles) k (value k) 0 inside

-- the fourths from elsewhere stay
pub others_stay : (from other k value : ℕ) (nibbles : List ℕ) → from < 4 → other < 4 → other ≢ from → each_fourth other (set nibbles (from + 4 * k) value) ≡ each_fourth other nibbles
others_stay from other k value nibbles early there apart =
    each_fourth-set_other other nibbles (from + 4 * k) value (λ i same. apart (omega (arith, same, early, there)))

-- the nibbles of a word that was read are those of the bits from its position on
pub fourths_read : (bits : List Bool) (at place count word : ℕ) (fourths : List ℕ) → place + 4 * count ≤ 196 → at + 196 ≤ length bits
    → word ≡ field_of (part (at + place) (4 * count) bits) → fourths ≡ numbers_from 4 count (bits_of (4 * count) word)
    → fourths ≡ numbers_from 4 count (drop place (drop at bits))
fourths_read bits at place count word fourths inside there is written =
    let fits : at + place + 4 * count ≤ length bits = omega (arith, inside, there) in
    cc (written, is, bits_of-field (4 * count) (at + place) bits fits, numbers_from-take 4 count (4 * count) (drop (at + place) bits) (omega arith) (omega (arith, fits, length-drop (at + place) bits)), drop-drop place at bits)

-- the four fourths that bits write, one after the other
pub numbers_from-fourths : (bits : List Bool) → numbers_from 4 49 bits
    ≡ numbers_from 4 13 bits ++ numbers_from 4 12 (drop 52 bits) ++ numbers_from 4 12 (drop 100 bits) ++ numbers_from 4 12 (drop 148 bits)
numbers_from-fourths bits =
    cc (numbers_from-add 4 37 12 bits, numbers_from-add 4 25 12 bits, numbers_from-add 4 13 12 bits)

-- and the bits that interleaved nibbles write
pub number_bits-interleaved : (nibbles : List ℕ) → number_bits 4 (interleaved nibbles)
    ≡ number_bits 4 (each_fourth 0 nibbles) ++ number_bits 4 (each_fourth 1 nibbles) ++ number_bits 4 (each_fourth 2 nibbles) ++ number_bits 4 (each_fourth 3 nibbles)
unfolding interleaved
number_bits-interleaved nibbles = simp number_bits-append
