-- The table of planes is right at each position: the checker computes each bit. The value of a polynomial at a point is the sum over its coefficients, bit by
-- bit. Each coefficient is the sum of its high and its low three bits.
use Rattle.std.proofs.Common.{◌≡◌, ℕ, suc, ◌+◌, ◌-◌, ◌*◌, ◌/◌, ◌%◌, ◌^◌, ◌<◌, ◌==◌, ◌↔◌, Bool, IsTrue, eqb, List, [], ◌∷◌, true, bit_xor, w64, get_or, refl, ap, ap₂, sym, ◌∙◌, arith}
use Rattle.std.proofs.{lemmas.Bool.{eqb-true, eq-eqb}, lemmas.Nat.{pow_pos}, lemmas.Nat.Bits.{bit_at_xor, bit_at_or, bit_at_not, bit_at-lt, bit_at-zero, bit_at_cat_low, same_from_bits_below}}
use Rattle.std.specs.{Int.{bit_at, bit_not}, Int.Bits.{bit_or}}
use Rattle.p25_bits.proofs.DivisibleLaws.{xor_apart}
use Rattle.p25_gf64.specs.{declared.symbol.Sym.{Sym}, Field.{power}, Product.{product, product_by, product_power, times_x}, ProductLaws.{all_below, all_below_at, product-xor}, Symbol.{number, alpha}}
use Rattle.p25_gf64.specs.Gf64.{gf64}
use Rattle.p25_gf64.proofs.{FieldLaws.{mul_comm, inverse_from_one}, PowerLaws.{power-add, power-mul, power-mod}}
use Rattle.p25_gf64.proofs.SymbolLaws.{number_zero, number_alpha, number-add, number-mul, number-power, zero_from_number, alpha_to_63}
use Rattle.p25_algebra.specs.Series.{coefficient, value_at}
use Rattle.p25_algebra.proofs.SumLaws.{sum-none, sum-suc}
use Rattle.p25_bch_nid.specs.declared.zeros.TheConstants.{PLANES}

-- the inverse of a power of α
abbrev pub point : ℕ → Sym
point e = gf64.inverse (power gf64 alpha e)

abbrev entry : ℕ → ℕ → ℕ
entry row v = get_or (get_or PLANES row []) v 0

-- ---- powers of the points, as numbers

-- the powers of α
unfoldable powers : List ℕ
powers =
    1 ∷ 2 ∷ 4 ∷ 8 ∷ 16 ∷ 32 ∷ 3 ∷ 6 ∷ 12 ∷ 24 ∷ 48 ∷ 35 ∷ 5 ∷ 10 ∷ 20 ∷ 40 ∷ 19 ∷ 38 ∷ 15 ∷ 30 ∷ 60 ∷
    59 ∷ 53 ∷ 41 ∷ 17 ∷ 34 ∷ 7 ∷ 14 ∷ 28 ∷ 56 ∷ 51 ∷ 37 ∷ 9 ∷ 18 ∷ 36 ∷ 11 ∷ 22 ∷ 44 ∷ 27 ∷ 54 ∷ 47 ∷ 29 ∷
    58 ∷ 55 ∷ 45 ∷ 25 ∷ 50 ∷ 39 ∷ 13 ∷ 26 ∷ 52 ∷ 43 ∷ 21 ∷ 42 ∷ 23 ∷ 46 ∷ 31 ∷ 62 ∷ 63 ∷ 61 ∷ 57 ∷ 49 ∷ 33 ∷
    []

powers_computed : all_below 63 (λ e. get_or powers e 0 == product_power 2 e) ≡ true
unfolding all_below product product_by product_power times_x powers
powers_computed = refl

point_power : (e k : ℕ) → e < 63 → number (power gf64 (point e) k) ≡ get_or powers ((63 - e) * k % 63) 0
point_power e k low =
    let m = (63 - e) * k % 63 in
    let whole : e + (63 - e) ≡ 63 = omega arith in
    cc (
      inverse_from_one gf64 (power gf64 alpha e) (power gf64 alpha (63 - e)) (rw (← power-add, whole, alpha_to_63)),
      power-mul gf64 alpha _ k,
      power-mod gf64 alpha 63 _ alpha_to_63 (omega arith),
      number-power alpha m,
      number_alpha,
      eqb-true _ _ (all_below_at 63 _ powers_computed m (omega arith)),
    )

-- ---- the table

unfoldable bits_right : ℕ → ℕ → ℕ → ℕ → ℕ → Bool
bits_right k half v e n = all_below 6 (λ p. bit_at (entry (12 * k + 6 * half + p) v) e == bit_at n p)

unfoldable values_right : ℕ → ℕ → ℕ → Bool
values_right k e y = all_below 2 (λ half. all_below 8 (λ v. bits_right k half v e (product y (v * 8 ^ half))))

planes_computed : all_below 12 (λ k. all_below 63 (λ e. values_right k e (get_or powers ((63 - e) * k % 63) 0))) ≡ true
unfolding all_below bits_right values_right product product_by times_x powers
planes_computed = refl

entry-is : (k half v e p : ℕ) → k < 12 → half < 2 → v < 8 → e < 63 → p < 6 → bit_at (entry (12 * k + 6 * half + p) v) e ≡ bit_at (product (number (power gf64 (point e) k)) (v * 8 ^ half)) p
unfolding bits_right values_right
entry-is k half v e p k_low half_low v_low e_low p_low =
    cc (
      eqb-true _ _
          (all_below_at 6 _
          (all_below_at 8 _
          (all_below_at 2 _
          (all_below_at 63 _
          (all_below_at 12 _ planes_computed k k_low) e e_low) half half_low) v v_low) p p_low),
      point_power e k e_low,
    )

-- ---- a plane

-- nothing yet
pub plane_none : (polynomial : List Sym) (e p : ℕ) → bit_at 0 e ≡ bit_at (number (value_at gf64 0 (coefficient gf64 polynomial) (point e))) p
plane_none polynomial e p =
    simp (bit_at-zero, number_zero, sum-none)

-- one coefficient more
plane_more_by : (polynomial : List Sym) (k p sum e : ℕ) (symbol : Sym) → k < 12 → p < 6 → e < 63 → symbol ≡ coefficient gf64 polynomial k
    → bit_at sum e ≡ bit_at (number (value_at gf64 k (coefficient gf64 polynomial) (point e))) p
    → bit_at (bit_xor sum (bit_xor (entry (12 * k + p) (number symbol % 8)) (entry (12 * k + 6 + p) (number symbol / 8)))) e
    ≡ bit_at (number (value_at gf64 (k + 1) (coefficient gf64 polynomial) (point e))) p
plane_more_by polynomial k p sum e symbol k_low p_low e_low is so_far =
    let n = number symbol in
    let y = power gf64 (point e) k in
    let before = value_at gf64 k (coefficient gf64 polynomial) (point e) in
    let small = symbol.below in
    let low : n % 8 < 8 = omega arith in
    let high : n / 8 < 8 = omega arith in
    let low_part = product (number y) (n % 8 * 8 ^ 0) in
    let high_part = product (number y) (n / 8 * 8 ^ 1) in
    let first_row : 12 * k + 6 * 0 + p ≡ 12 * k + p = omega arith in
    let second_row : 12 * k + 6 * 1 + p ≡ 12 * k + 6 + p = omega arith in
    let three : n % 8 * 8 ^ 0 < 2 ^ 3 = omega arith in
    let low_small : n % 8 * 8 ^ 0 < 64 = omega arith in
    let high_small : n / 8 * 8 ^ 1 < 64 = omega arith in
    let shifted : n / 8 * 8 ^ 1 ≡ n / 8 * 2 ^ 3 = omega arith in
    let parts : number (gf64.mul symbol y) ≡ bit_xor high_part low_part
    = ap number (mul_comm gf64 symbol y) ∙ number-mul y symbol ∙ ap (product (number y)) (sym (ap (λ m. bit_xor m (n % 8 * 8 ^ 0)) shifted ∙ xor_apart (n / 8) 3 (n % 8 * 8 ^ 0) three ∙ whole n))
    ∙ product-xor (number y) (n / 8 * 8 ^ 1) (n % 8 * 8 ^ 0) y.below high_small low_small in
    let next : k + 1 ≡ suc k = omega arith in
    bit_at_xor sum _ e
    ∙ ap₂ (λ a b. (a + b) % 2) so_far
    (bit_at_xor (entry (12 * k + p) (n % 8)) (entry (12 * k + 6 + p) (n / 8)) e
    ∙ ap₂ (λ a b. (a + b) % 2) (ap (λ r. bit_at (entry r (n % 8)) e) (sym first_row) ∙ entry-is k 0 (n % 8) e p k_low (omega arith) low e_low p_low)
    (ap (λ r. bit_at (entry r (n / 8)) e) (sym second_row) ∙ entry-is k 1 (n / 8) e p k_low (omega arith) high e_low p_low) ∙ turned (bit_at low_part p) (bit_at high_part p))
    ∙ sym (ap (λ m. bit_at m p) (cc (next, sum-suc gf64 k _, number-add before (gf64.mul (coefficient gf64 polynomial k) y), is, parts)) ∙ bit_at_xor (number before) (bit_xor high_part low_part) p
    ∙ ap (λ b. (bit_at (number before) p + b) % 2) (bit_at_xor high_part low_part p))
  where
    whole : (n : ℕ) → n / 8 * 2 ^ 3 + n % 8 * 8 ^ 0 ≡ n
    whole n = omega arith

    turned : (a b : ℕ) → (a + b) % 2 ≡ (b + a) % 2
    turned a b = omega arith

-- the same by the number of the coefficient
pub plane_more : (polynomial : List Sym) (k p sum e value : ℕ) (symbol : Sym) → k < 12 → p < 6 → e < 63 → symbol ≡ coefficient gf64 polynomial k → value ≡ number symbol
    → bit_at sum e ≡ bit_at (number (value_at gf64 k (coefficient gf64 polynomial) (point e))) p
    → bit_at (bit_xor sum (bit_xor (entry (12 * k + p) (value % 8)) (entry (12 * k + 6 + p) (value / 8)))) e ≡ bit_at (number (value_at gf64 (k + 1) (coefficient gf64 polynomial) (point e))) p
plane_more polynomial k p sum e value symbol k_low p_low e_low is is_value so_far =
    simp is_value (plane_more_by polynomial k p sum e symbol k_low p_low e_low is so_far)

-- ---- the zeros

-- the bits of a number without the highest of 64
pub low_bit : (n e : ℕ) → e < 63 → bit_at (n % 2 ^ 63) e ≡ bit_at n e
low_bit n e low =
    sym (bit_at_cat_low (n / 2 ^ 63) 63 _ e low) ∙ ap (λ m. bit_at m e) (omega arith)

-- a bit of neither
pub or_none : (a b i : ℕ) → bit_at (bit_or a b) i ≡ 0 → (bit_at a i ≡ 0) × (bit_at b i ≡ 0)
or_none a b i none = (omega (arith, bit_at_or a b i), omega (arith, bit_at_or a b i))

pub none_or : (a b i : ℕ) → bit_at a i ≡ 0 → bit_at b i ≡ 0 → bit_at (bit_or a b) i ≡ 0
none_or a b i first second = omega (arith, bit_at_or a b i)

-- a symbol without a bit is zero
pub zero_from_bits : (s : Sym) → ((p : ℕ) → p < 6 → bit_at (number s) p ≡ 0) → s ≡ gf64.zero
zero_from_bits s none =
    zero_from_number s (same_from_bits_below 6 (number s) 0 s.below (pow_pos 6) (λ p low. none p low ∙ sym (bit_at-zero p)))

pub bits_of_zero : (s : Sym) (p : ℕ) → s ≡ gf64.zero → bit_at (number s) p ≡ 0
bits_of_zero s p none = simp (none, number_zero, bit_at-zero)

-- a bit of the complement of all planes is 1 exactly if the value is zero
pub vanishes_exactly : (some : ℕ) (value : Sym) (e : ℕ) → e < 63 → some < 2 ^ 64 → (bit_at some e ≡ 0 → (q : ℕ) → q < 6 → bit_at (number value) q ≡ 0)
    → (((q : ℕ) → q < 6 → bit_at (number value) q ≡ 0) → bit_at some e ≡ 0) → IsTrue (eqb (bit_at (bit_not w64 some % 2 ^ 63) e) 1) ↔ (value ≡ gf64.zero)
vanishes_exactly some value e low fits zeros all = (
  (λ is.
      let one : bit_at (bit_not w64 some) e ≡ 1 = sym (low_bit (bit_not w64 some) e low) ∙ eqb-true _ _ is in
      let none : bit_at some e ≡ 0 = omega (arith, one, inverted, bit_at-lt some e) in
      zero_from_bits value (zeros none)),
  (λ is.
      let none = all (λ q below. bits_of_zero value q is) in
      let one : bit_at (bit_not w64 some) e ≡ 1 = omega (arith, none, inverted) in
      eq-eqb _ _ (low_bit (bit_not w64 some) e low ∙ one)),
)
  where
    inverted : bit_at (bit_not w64 some) e ≡ 1 - bit_at some e
    inverted = bit_at_not w64 some e fits (omega arith)
