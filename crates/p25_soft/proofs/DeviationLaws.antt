-- The distance of the nominal levels of bits from those of others, and from levels: dibit by dibit.
use Rattle.std.proofs.Common.{◌≡◌, ℕ, zero, suc, ◌+◌, ◌-◌, ◌*◌, ◌≤◌, inl, inr, Bool, true, false, cond, leb, List, [], ◌∷◌, ◌++◌, length, refl, ap, ap₂, arith, map, ℤ, ◌-ℤ◌}
use Rattle.std.proofs.{Math.Nat.{mul-le-mul, mul-add, add-mul, mul_comm}, lemmas.Bool.{cases_lt, leb-true}, lemmas.Int.{ints}}
use Rattle.std.specs.{Prelude.{unsigned_abs}, Bool.{beq}}
use Rattle.p25_bits.specs.{Bits.{bits_of, digit_of}, Numbers.{number_bits}, Distance.{distance_by, distance_of}}
use Rattle.p25_soft.specs.Levels.{nominal_level, hard_dibit, hard_bits, dibits_of, nominal_levels, squared_deviation, deviation_of}

-- a level is no farther from a second one than by way of a third
apart-triangle : (a b level : ℤ) → unsigned_abs (b -ℤ a) ≤ unsigned_abs (level -ℤ a) + unsigned_abs (level -ℤ b)
apart-triangle a b level = grind (arith, ints)

apart-same : (a : ℤ) → unsigned_abs (a -ℤ a) ≡ 0
apart-same a = grind (arith, ints)

-- twice a product is at most the sum of the squares
twice-product : (b k : ℕ) → (b + (b + k)) * (b + (b + k)) ≤ 2 * (b * b) + 2 * ((b + k) * (b + k))
twice-product b k = simp (mul-add, add-mul) (omega (arith, mul_comm b k))

-- the square of a sum is at most twice the sum of the squares
pub square-sum : (a b c : ℕ) → a ≤ b + c → a * a ≤ 2 * (b * b) + 2 * (c * c)
square-sum a b c most = elim (cases_lt b c) [
  | inl less ↦
      let k = c - b in
      let is : c ≡ b + k = omega arith in
      let sum : a ≤ b + (b + k) = omega arith in
      omega (arith, mul-le-mul sum sum, twice-product b k, ap₂ ◌*◌ is is)
  | inr more ↦
      let k = b - c in
      let is : b ≡ c + k = omega arith in
      let sum : a ≤ c + (c + k) = omega arith in
      omega (arith, mul-le-mul sum sum, twice-product c k, ap₂ ◌*◌ is is)
]

squared-triangle : (a b : ℕ) (level : ℤ) → squared_deviation a (nominal_level b) ≤ 2 * squared_deviation a level + 2 * squared_deviation b level
unfolding squared_deviation
squared-triangle a b level =
    square-sum (unsigned_abs (nominal_level b -ℤ nominal_level a)) (unsigned_abs (level -ℤ nominal_level a)) (unsigned_abs (level -ℤ nominal_level b))
    (apart-triangle (nominal_level a) (nominal_level b) level)

-- the nominal levels of some dibits deviate from others by at most twice what both deviate from any levels
pub deviation-triangle : (xs ys : List ℕ) (levels : List ℤ) → length xs ≡ length levels → length ys ≡ length levels
    → deviation_of xs (map nominal_level ys) ≤ 2 * deviation_of xs levels + 2 * deviation_of ys levels
unfolding deviation_of
deviation-triangle [] ys levels long same = omega arith
deviation-triangle (x ∷ xs) (y ∷ ys) (level ∷ levels) long same =
    omega (arith, squared-triangle x y level, deviation-triangle xs ys levels (omega arith) (omega arith))
deviation-triangle (x ∷ xs) ys levels long same = absurd (omega arith)

squared-same : (x : ℕ) → squared_deviation x (nominal_level x) ≡ 0
unfolding squared_deviation
squared-same x = ap (λ n. n * n) (apart-same (nominal_level x))

-- nominal levels do not deviate from their own dibits
pub deviation-same : (xs : List ℕ) → deviation_of xs (map nominal_level xs) ≡ 0
unfolding deviation_of
deviation-same [] = refl
deviation-same (x ∷ xs) = omega (arith, squared-same x, deviation-same xs)

-- a dibit of two bits
abbrev dibit : Bool → Bool → ℕ
dibit high low = 2 * digit_of high + digit_of low

-- dibits that differ in bits have levels that are far apart
far_test : (a b c d : Bool) → leb (4096 * (cond (beq a c) 0 1 + cond (beq b d) 0 1)) (squared_deviation (dibit a b) (nominal_level (dibit c d))) ≡ true
unfolding squared_deviation nominal_level
far_test false false false false = refl
far_test false false false true = refl
far_test false false true false = refl
far_test false false true true = refl
far_test false true false false = refl
far_test false true false true = refl
far_test false true true false = refl
far_test false true true true = refl
far_test true false false false = refl
far_test true false false true = refl
far_test true false true false = refl
far_test true false true true = refl
far_test true true false false = refl
far_test true true false true = refl
far_test true true true false = refl
far_test true true true true = refl

far-dibits : (a b c d : Bool) → 4096 * (cond (beq a c) 0 1 + cond (beq b d) 0 1) ≤ squared_deviation (dibit a b) (nominal_level (dibit c d))
far-dibits a b c d = leb-true (4096 * (cond (beq a c) 0 1 + cond (beq b d) 0 1)) (squared_deviation (dibit a b) (nominal_level (dibit c d))) (far_test a b c d)

-- bits that differ have nominal levels that deviate by 4,096 for each
pub far-bits : (n : ℕ) (xs ys : List Bool) → length xs ≡ 2 * n → length ys ≡ 2 * n → 4096 * distance_of xs ys ≤ deviation_of (dibits_of xs) (nominal_levels ys)
unfolding distance_by dibits_of nominal_levels deviation_of
far-bits zero [] ys long same = omega arith
far-bits (suc n) (a ∷ b ∷ xs) (c ∷ d ∷ ys) long same = omega (arith, far-dibits a b c d, far-bits n xs ys (omega arith) (omega arith))
far-bits n xs ys long same = absurd (omega arith)

-- there is a dibit for each two bits
pub length-dibits_of : (n : ℕ) (xs : List Bool) → length xs ≡ 2 * n → length (dibits_of xs) ≡ n
unfolding dibits_of
length-dibits_of zero [] long = refl
length-dibits_of (suc n) (a ∷ b ∷ xs) long = ap suc (length-dibits_of n xs (omega arith))
length-dibits_of n xs long = absurd (omega arith)

hard-nominal : (a b : Bool) → bits_of 2 (hard_dibit (nominal_level (dibit a b))) ≡ a ∷ b ∷ []
unfolding hard_dibit nominal_level bits_of
hard-nominal false false = refl
hard-nominal true false = refl
hard-nominal a b = refl

-- the hard bits of nominal levels are the bits
pub hard_bits-nominal : (n : ℕ) (xs : List Bool) → length xs ≡ 2 * n → hard_bits (nominal_levels xs) ≡ xs
unfolding hard_bits nominal_levels dibits_of number_bits
hard_bits-nominal zero [] long = refl
hard_bits-nominal (suc n) (a ∷ b ∷ xs) long = ap₂ (λ (us vs : List Bool). us ++ vs) (hard-nominal a b) (hard_bits-nominal n xs (omega arith))
hard_bits-nominal n xs long = absurd (omega arith)
