-- The product of the code is that of the definition: the definition is unfolded, one bit of the second number at a time.
use Rattle.std.proofs.{Common.{◌≡◌, ℕ, ◌*◌, ◌/◌, ◌%◌, ◌<◌, ◌≤◌, ◌==◌, suc, cond, bit_xor, refl, sym, ap, ap₂, ◌∙◌}, lemmas.Bool.{lt-ltb, le-ltb}}
use Rattle.std.specs.Int.Bits.{xor_zero_r}
use Rattle.p25_gf64.specs.Product.{times_x, product, product_by}

-- below 32 the shift is a doubling
pub times_x-low : (a : ℕ) → a < 32 → 2 * a ≡ times_x a
unfolding times_x
times_x-low a low = sym (ap (λ t. cond t (2 * a) (bit_xor (2 * a) 67)) (lt-ltb a 32 low))

-- from 32 on x^6 + x + 1 is taken away
pub times_x-high : (a : ℕ) → 32 ≤ a → bit_xor (2 * a) 67 ≡ times_x a
unfolding times_x
times_x-high a high = sym (ap (λ t. cond t (2 * a) (bit_xor (2 * a) 67)) (le-ltb a 32 high))

-- one bit of the second number
pub product_by-step : (n a b a1 first rest : ℕ) → a1 ≡ times_x a → first ≡ cond (b % 2 == 1) a 0 → rest ≡ product_by n a1 (b / 2) → bit_xor first rest ≡ product_by (suc n) a b
unfolding product_by
product_by-step n a b a1 first rest next is_first is_rest =
    ap₂ bit_xor is_first (is_rest ∙ ap (λ w. product_by n w (b / 2)) next)

-- the last bit
pub product_by-last : (a b last : ℕ) → last ≡ cond (b % 2 == 1) a 0 → last ≡ product_by 1 a b
unfolding product_by
product_by-last a b last is = is ∙ sym (xor_zero_r (cond (b % 2 == 1) a 0))

pub product_by-six : (a b : ℕ) → product_by 6 a b ≡ product a b
unfolding product
product_by-six a b = refl
