-- The tables of the code are the powers and the logarithms of α.
use Rattle.std.proofs.Common.{◌≡◌, ◌≢◌, ℕ, ◌+◌, ◌-◌, ◌%◌, ◌<◌, ◌==◌, true, ◌&&◌, ◌||◌, nat_lt, slice_index_or, refl, sym, ap, ap₂, ◌∙◌, inl, inr, arith}
use Rattle.std.proofs.lemmas.Bool.{or_cases, and_parts, eqb-true, ltb-true}
use Rattle.p25_gf64.specs.{Field.{power}, Product.{product, product_by, product_power, times_x}, ProductLaws.{all_below, all_below_at, product_power-lt}}
use Rattle.p25_gf64.specs.{Symbol.{number, symbol_of, same_symbol, alpha}, Gf64.{gf64}, declared.symbol.Sym.{Sym}, declared.tables.TheConstants.{POWERS, LOGARITHMS}}
use Rattle.p25_gf64.proofs.{FieldLaws.{one_mul, mul_one, mul_assoc, mul_inverse}, PowerLaws.{power-add, power-mod}, SymbolLaws.{number-power, number_alpha, number_ne_zero, alpha_to_63}}

powers_computed : all_below 63 (λ e. slice_index_or POWERS e 0 == product_power 2 e) ≡ true
unfolding all_below product product_by product_power times_x
powers_computed = refl

power_entry : (e : ℕ) → e < 63 → slice_index_or POWERS e 0 ≡ product_power 2 e
power_entry e h = eqb-true _ _ (all_below_at 63 (λ e. slice_index_or POWERS e 0 == product_power 2 e) powers_computed e h)

-- an entry of the powers is a symbol's number
pub power_entry-lt : (e : ℕ) → e < 63 → slice_index_or POWERS e 0 < 64
power_entry-lt e h = rw (power_entry e h) (product_power-lt 2 e (omega arith))

-- an entry of the powers is that power of α
pub power_entry_is : (e : ℕ) → e < 63 → (below : slice_index_or POWERS e 0 < 64) → symbol_of (slice_index_or POWERS e 0) below ≡ power gf64 alpha e
power_entry_is e h below =
    same_symbol (symbol_of (slice_index_or POWERS e 0) below) (power gf64 alpha e)
    (power_entry e h ∙ sym (number-power alpha e ∙ ap (λ a. product_power a e) number_alpha))

logarithms_computed : all_below 64 (λ a. a == 0 || (nat_lt (slice_index_or LOGARITHMS a 0) 63 && product_power 2 (slice_index_or LOGARITHMS a 0) == a)) ≡ true
unfolding all_below product product_by product_power times_x
logarithms_computed = refl

logarithm_entry : (a : ℕ) → a < 64 → a ≢ 0 → (slice_index_or LOGARITHMS a 0 < 63) × (product_power 2 (slice_index_or LOGARITHMS a 0) ≡ a)
logarithm_entry a h apart =
    elim (or_cases (a == 0) _ (all_below_at 64 (λ a. a == 0 || (nat_lt (slice_index_or LOGARITHMS a 0) 63 && product_power 2 (slice_index_or LOGARITHMS a 0) == a)) logarithms_computed a h)) [
      | inl none ↦ absurd (apart (eqb-true a 0 none))
      | inr both ↦
          let parts = and_parts (nat_lt (slice_index_or LOGARITHMS a 0) 63) (product_power 2 (slice_index_or LOGARITHMS a 0) == a) both in
          (ltb-true _ _ parts.0, eqb-true _ _ parts.1)
    ]

-- an entry of the logarithms is below 63
pub logarithm_entry-lt : (x : Sym) → x ≢ gf64.zero → slice_index_or LOGARITHMS (number x) 0 < 63
logarithm_entry-lt x apart = (logarithm_entry (number x) x.below (number_ne_zero x apart)).0

-- an entry of the logarithms is the exponent of α
pub logarithm_entry_is : (x : Sym) → x ≢ gf64.zero → power gf64 alpha (slice_index_or LOGARITHMS (number x) 0) ≡ x
logarithm_entry_is x apart =
    same_symbol (power gf64 alpha (slice_index_or LOGARITHMS (number x) 0)) x
    (number-power alpha _ ∙ ap (λ a. product_power a (slice_index_or LOGARITHMS (number x) 0)) number_alpha ∙ (logarithm_entry (number x) x.below (number_ne_zero x apart)).1)

-- each symbol but zero is a power of α
pub alpha_exponent_of : (x : Sym) → x ≢ gf64.zero → (i : ℕ) × (i < 63) × (power gf64 alpha i ≡ x)
alpha_exponent_of x apart = (slice_index_or LOGARITHMS (number x) 0, logarithm_entry-lt x apart, logarithm_entry_is x apart)

-- the inverse by the logarithm
pub inverse_by_logarithm : (x : Sym) (i : ℕ) → i < 63 → power gf64 alpha i ≡ x → gf64.mul x (power gf64 alpha ((63 - i) % 63)) ≡ gf64.one
inverse_by_logarithm x i h hx =
    ap₂ gf64.mul (sym hx) (sym (power-mod gf64 alpha 63 (63 - i) alpha_to_63 (omega arith)))
    ∙ sym (power-add gf64 alpha i (63 - i))
    ∙ ap (power gf64 alpha) whole
    ∙ alpha_to_63
  where
    whole : i + (63 - i) ≡ 63
    whole = omega arith

-- the quotient by the logarithms
pub quotient_by_logarithms : (x y : Sym) (b m : ℕ) → y ≢ gf64.zero → power gf64 alpha (m + b) ≡ x → power gf64 alpha b ≡ y → gf64.mul (power gf64 alpha m) y ≡ x
quotient_by_logarithms x y b m live whole is = ap (gf64.mul (power gf64 alpha m)) (sym is) ∙ sym (power-add gf64 alpha m b) ∙ whole

-- exponents count modulo 63
pub power_again : (a : ℕ) → power gf64 alpha (63 + a) ≡ power gf64 alpha a
power_again a = power-add gf64 alpha 63 a ∙ ap (λ w. gf64.mul w (power gf64 alpha a)) alpha_to_63 ∙ one_mul gf64 (power gf64 alpha a)

-- a quotient is the product with the inverse
pub quotient_from_product : (q x y : Sym) → y ≢ gf64.zero → gf64.mul q y ≡ x → q ≡ gf64.mul x (gf64.inverse y)
quotient_from_product q x y live is =
    sym (mul_one gf64 q)
    ∙ ap (gf64.mul q) (sym (mul_inverse gf64 y live))
    ∙ sym (mul_assoc gf64 q y (gf64.inverse y))
    ∙ ap (λ w. gf64.mul w (gf64.inverse y)) is
