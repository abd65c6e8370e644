-- The dibit of a level by its tests, and the computed square of the difference of two levels.
use Rattle.std.proofs.{Common.{◌≡◌, ℕ, ◌≤◌, Bool, true, false, ap, sym, ◌∙◌, arith, ℤ, pos, ◌-ℤ◌, FitsSigned, to_z, of_z, w8, w32}, lemmas.Bool.{cond-true, cond-false}, lemmas.Int.{to_z-of_z, ints}}
use Rattle.std.specs.Prelude.{negsuc, int_le, unsigned_abs}
use Rattle.p25_soft.specs.Levels.{hard_dibit}

-- a test of a level that was passed
test_of : (least level : ℤ) (answer : Bool) → FitsSigned w8 level → int_le least (to_z w8 (of_z w8 level)) ≡ answer → int_le least level ≡ answer
test_of least level answer fits is = ap (int_le least) (sym (to_z-of_z w8 level fits)) ∙ is

pub hard-01 : (level : ℤ) → FitsSigned w8 level → int_le (pos 64) (to_z w8 (of_z w8 level)) ≡ true → 1 ≡ hard_dibit level
unfolding hard_dibit
hard-01 level fits one = sym (cond-true (int_le (pos 64) level) 1 _ (test_of (pos 64) level true fits one))

pub hard-00 : (level : ℤ) → FitsSigned w8 level → int_le (pos 64) (to_z w8 (of_z w8 level)) ≡ false → int_le (pos 0) (to_z w8 (of_z w8 level)) ≡ true
    → 0 ≡ hard_dibit level
unfolding hard_dibit
hard-00 level fits one two =
    sym (cond-false (int_le (pos 64) level) 1 _ (test_of (pos 64) level false fits one) ∙ cond-true (int_le (pos 0) level) 0 _ (test_of (pos 0) level true fits two))

pub hard-10 : (level : ℤ) → FitsSigned w8 level → int_le (pos 64) (to_z w8 (of_z w8 level)) ≡ false → int_le (pos 0) (to_z w8 (of_z w8 level)) ≡ false
    → int_le (negsuc 63) (to_z w8 (of_z w8 level)) ≡ true → 2 ≡ hard_dibit level
unfolding hard_dibit
hard-10 level fits one two three =
    sym
    (
    cond-false (int_le (pos 64) level) 1 _ (test_of (pos 64) level false fits one)
    ∙ cond-false (int_le (pos 0) level) 0 _ (test_of (pos 0) level false fits two)
    ∙ cond-true (int_le (negsuc 63) level) 2 3 (test_of (negsuc 63) level true fits three)
    )

pub hard-11 : (level : ℤ) → FitsSigned w8 level → int_le (pos 64) (to_z w8 (of_z w8 level)) ≡ false → int_le (pos 0) (to_z w8 (of_z w8 level)) ≡ false
    → int_le (negsuc 63) (to_z w8 (of_z w8 level)) ≡ false → 3 ≡ hard_dibit level
unfolding hard_dibit
hard-11 level fits one two three =
    sym
    (
    cond-false (int_le (pos 64) level) 1 _ (test_of (pos 64) level false fits one)
    ∙ cond-false (int_le (pos 0) level) 0 _ (test_of (pos 0) level false fits two)
    ∙ cond-false (int_le (negsuc 63) level) 2 3 (test_of (negsuc 63) level false fits three)
    )

-- two levels are at most 255 apart
pub apart-le : (level nominal : ℤ) → FitsSigned w8 level → FitsSigned w8 nominal → unsigned_abs (level -ℤ nominal) ≤ 255
apart-le level nominal fits near = grind (arith, ints)

apart-fits : (level nominal : ℤ) → FitsSigned w8 level → FitsSigned w8 nominal → FitsSigned w32 (level -ℤ nominal)
apart-fits level nominal fits near = grind (arith, ints)

wide : (level : ℤ) → FitsSigned w8 level → FitsSigned w32 level
wide level fits = grind (arith, ints)

-- how far apart they are, as it is computed
pub apart-is : (level nominal wide_level wide_nominal : ℤ) (apart : ℕ) → FitsSigned w8 level → FitsSigned w8 nominal → wide_level ≡ to_z w8 (of_z w8 level) → wide_nominal ≡ to_z w8 (of_z w8 nominal)
    → apart ≡ unsigned_abs (to_z w32 (of_z w32 (to_z w32 (of_z w32 wide_level) -ℤ to_z w32 (of_z w32 wide_nominal)))) → apart ≡ unsigned_abs (level -ℤ nominal)
apart-is level nominal wide_level wide_nominal apart fits near one two is =
    let first : to_z w32 (of_z w32 wide_level) ≡ level = ap (λ z. to_z w32 (of_z w32 z)) (one ∙ to_z-of_z w8 level fits) ∙ to_z-of_z w32 level (wide level fits) in
    let second : to_z w32 (of_z w32 wide_nominal) ≡ nominal = ap (λ z. to_z w32 (of_z w32 z)) (two ∙ to_z-of_z w8 nominal near) ∙ to_z-of_z w32 nominal (wide nominal near) in
    is
    ∙ ap (λ z. unsigned_abs (to_z w32 (of_z w32 (z -ℤ to_z w32 (of_z w32 wide_nominal))))) first
    ∙ ap (λ z. unsigned_abs (to_z w32 (of_z w32 (level -ℤ z)))) second
    ∙ ap unsigned_abs (to_z-of_z w32 (level -ℤ nominal) (apart-fits level nominal fits near))
