-- Locators of the positions of a received word that are erased or have an error, and their evaluators.
use Rattle.std.specs.Prelude.{◌≡◌, ◌≢◌, ℕ, zero, suc, ◌+◌, ◌<◌, Bool, true, false, List, if◌then◌else◌}
use Rattle.p25_gf64.specs.{declared.symbol.Sym.{Sym}, Gf64.{gf64}}
use Rattle.p25_algebra.specs.Series.{value_at, slope_at, times_linear, IsZero, IsShort}
use Rattle.p25_reed_solomon.specs.Errors.{element_of, point_of, is_erased, Explains}

-- a polynomial times 1 + x times the element of each erased position below `upto`, among n
unfoldable pub times_erasures : ℕ → List Bool → ℕ → (ℕ → Sym) → ℕ → Sym
times_erasures n erased zero f = f
times_erasures n erased (suc j) f =
    if is_erased erased j then times_linear gf64 (element_of n j) (times_erasures n erased j f) else times_erasures n erased j f

-- a polynomial of degree at most `most` that vanishes at the points of the erased positions and, for any errors that explain the syndromes, at those
-- of the positions with an error. At each of these zeros, the error times the slope is the evaluator's value and the slope is not zero, so the error
-- is known. A position that is a zero and is not erased has an error
pub record IsLocator (n checks : ℕ) (syndromes : List Sym) (erased : List Bool) (most : ℕ) (locator evaluator : ℕ → Sym) : Type 0 where
  pub short : IsShort gf64 (most + 1) locator
  pub nonzero : IsZero gf64 locator → ⊥
  pub gone : (j : ℕ) → j < n → is_erased erased j ≡ true → value_at gf64 (most + 1) locator (point_of n j) ≡ gf64.zero
  pub wrong : (errors : ℕ → Sym) → Explains n checks syndromes erased errors → (j : ℕ) → j < n → errors j ≢ gf64.zero
      → value_at gf64 (most + 1) locator (point_of n j) ≡ gf64.zero
  pub slope : (errors : ℕ → Sym) → Explains n checks syndromes erased errors → (j : ℕ) → j < n
      → value_at gf64 (most + 1) locator (point_of n j) ≡ gf64.zero → slope_at gf64 (most + 1) locator (point_of n j) ≢ gf64.zero
  pub value : (errors : ℕ → Sym) → Explains n checks syndromes erased errors → (j : ℕ) → j < n
      → value_at gf64 (most + 1) locator (point_of n j) ≡ gf64.zero
      → gf64.mul (errors j) (slope_at gf64 (most + 1) locator (point_of n j)) ≡ value_at gf64 most evaluator (point_of n j)
  pub found : (errors : ℕ → Sym) → Explains n checks syndromes erased errors → (j : ℕ) → j < n → is_erased erased j ≡ false
      → value_at gf64 (most + 1) locator (point_of n j) ≡ gf64.zero → errors j ≢ gf64.zero
