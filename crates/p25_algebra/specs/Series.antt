-- Polynomials by their coefficients: the coefficient of x^i at each i.
use Rattle.std.specs.Prelude.{◌≡◌, ◌≢◌, ℕ, suc, ◌+◌, ◌-◌, ◌<◌, ◌≤◌, List, slice_index_or, nat_lt, if◌then◌else◌}
use Rattle.p25_gf64.specs.Field.{Field, power}
use Rattle.p25_algebra.specs.Sums.{sum_below}

-- the coefficient of x^i in a list of coefficients, lowest first; zero past the end
abbrev pub coefficient : {F : Type 0} → Field F → List F → ℕ → F
coefficient K cs i = slice_index_or cs i K.zero

-- the value at x of a polynomial with n coefficients
abbrev pub value_at : {F : Type 0} → Field F → ℕ → (ℕ → F) → F → F
value_at K n f x = sum_below K n (λ i. K.mul (f i) (power K x i))

-- the coefficient of x^n in the product of two polynomials
abbrev pub product_at : {F : Type 0} → Field F → (ℕ → F) → (ℕ → F) → ℕ → F
product_at K f g n = sum_below K (suc n) (λ i. K.mul (f i) (g (n - i)))

-- every coefficient is zero
abbrev pub IsZero : {F : Type 0} → Field F → (ℕ → F) → Type 0
IsZero K f = (i : ℕ) → f i ≡ K.zero

-- every coefficient from n on is zero
pub record IsShort {F : Type 0} (K : Field F) (n : ℕ) (f : ℕ → F) : Type 0 where
  pub above : (i : ℕ) → n ≤ i → f i ≡ K.zero

-- the coefficient of x^d is the last that isn't zero
pub record IsDegree {F : Type 0} (K : Field F) (f : ℕ → F) (d : ℕ) : Type 0 where
  pub leading : f d ≢ K.zero
  pub above : (i : ℕ) → d < i → f i ≡ K.zero

-- the coefficients times x^s
unfoldable pub shifted : {F : Type 0} → Field F → ℕ → (ℕ → F) → ℕ → F
shifted K s f n = if nat_lt n s then K.zero else f (n - s)

-- the coefficients times 1 + y x
abbrev pub times_linear : {F : Type 0} → Field F → F → (ℕ → F) → ℕ → F
times_linear K y f i = K.add (f i) (K.mul y (shifted K 1 f i))

-- the coefficient of x^k in the quotient by x + z of a polynomial with n coefficients: the value of Horner's rule at z before the coefficient of x^k
-- is added
abbrev pub rest_at : {F : Type 0} → Field F → ℕ → (ℕ → F) → F → ℕ → F
rest_at K n f z k = value_at K (n - suc k) (λ i. f (suc k + i)) z

-- the slope at z: the value there of the quotient by x + z. At a zero it is the value of the derivative
abbrev pub slope_at : {F : Type 0} → Field F → ℕ → (ℕ → F) → F → F
slope_at K n f z = value_at K n (rest_at K n f z) z
