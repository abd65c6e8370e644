-- Levels and their hard bits: two bits for each level.
use Rattle.std.proofs.Common.{◌≡◌, ℕ, ◌+◌, ◌*◌, ◌≤◌, List, Bool, [], ◌∷◌, ◌++◌, length, length-drop, take, drop, map, refl, ap, ◌∙◌, arith, ℤ}
use Rattle.std.proofs.lemmas.List.{length-map, map-append, take-map, drop-map}
use Rattle.p25_bits.specs.{Bits.{bits_of, part}, Numbers.{number_bits}}
use Rattle.p25_bits.proofs.NumbersLaws.{length-number_bits, number_bits-append, number_bits-one, take-number_bits, drop-number_bits}
use Rattle.p25_soft.specs.Levels.{hard_bits, hard_dibit}

-- bits have one level for each two of them
pub length-hard_bits : (levels : List ℤ) → length (hard_bits levels) ≡ 2 * length levels
unfolding hard_bits
length-hard_bits levels = length-number_bits 2 (map hard_dibit levels) ∙ ap (λ n. 2 * n) (length-map levels hard_dibit)

-- the hard bits of levels and one more
pub hard_bits-one_more : (levels : List ℤ) (level : ℤ) → hard_bits (levels ++ level ∷ []) ≡ hard_bits levels ++ bits_of 2 (hard_dibit level)
unfolding hard_bits
hard_bits-one_more levels level =
    ap (number_bits 2) (map-append hard_dibit levels (level ∷ []))
    ∙ number_bits-append 2 (map hard_dibit levels) (hard_dibit level ∷ [])
    ∙ ap (λ (bits : List Bool). number_bits 2 (map hard_dibit levels) ++ bits) (number_bits-one 2 (hard_dibit level))

pub hard_bits-none : hard_bits [] ≡ []
unfolding hard_bits number_bits
hard_bits-none = refl

-- the hard bits of joined levels
pub hard_bits-append : (xs ys : List ℤ) → hard_bits (xs ++ ys) ≡ hard_bits xs ++ hard_bits ys
unfolding hard_bits
hard_bits-append xs ys = ap (number_bits 2) (map-append hard_dibit xs ys) ∙ number_bits-append 2 (map hard_dibit xs) (map hard_dibit ys)

-- the hard bits of a part of levels
pub hard_bits-take : (i : ℕ) (levels : List ℤ) → i ≤ length levels → take (2 * i) (hard_bits levels) ≡ hard_bits (take i levels)
unfolding hard_bits
hard_bits-take i levels inside =
    let there : i ≤ length (map hard_dibit levels) = omega (arith, length-map levels hard_dibit) in
    take-number_bits 2 i (map hard_dibit levels) there ∙ ap (number_bits 2) (take-map hard_dibit i levels)

pub hard_bits-drop : (i : ℕ) (levels : List ℤ) → i ≤ length levels → drop (2 * i) (hard_bits levels) ≡ hard_bits (drop i levels)
unfolding hard_bits
hard_bits-drop i levels inside =
    let there : i ≤ length (map hard_dibit levels) = omega (arith, length-map levels hard_dibit) in
    drop-number_bits 2 i (map hard_dibit levels) there ∙ ap (number_bits 2) (drop-map hard_dibit i levels)

pub hard_bits-part : (at count : ℕ) (levels : List ℤ) → at + count ≤ length levels → part (2 * at) (2 * count) (hard_bits levels) ≡ hard_bits (part at count levels)
hard_bits-part at count levels inside =
    let left : count ≤ length (drop at levels) = omega (arith, length-drop at levels) in
    ap (take (2 * count)) (hard_bits-drop at levels (omega arith)) ∙ hard_bits-take count (drop at levels) left
