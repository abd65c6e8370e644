-- The operations of GF(64) by the numbers of the symbols, and the order of α.
use Rattle.std.proofs.{Common.{◌≡◌, ◌≢◌, ℕ, zero, suc, ◌<◌, ◌==◌, true, not, ◌||◌, bit_xor, refl, sym, ap, ◌∙◌, inl, inr, arith}, lemmas.Bool.{or_cases, eqb-true, eq-eqb, not-true, both_ways}}
use Rattle.p25_gf64.specs.{Field.{power}, Product.{product, product_by, product_power, times_x}, ProductLaws.{all_below, all_below_at}}
use Rattle.p25_gf64.specs.{Symbol.{number, symbol_of, same_symbol, zero_symbol, one_symbol, alpha, sum_of, product_of}, Gf64.{gf64}, declared.symbol.Sym.{Sym}}
use Rattle.p25_gf64.proofs.PowerLaws.{same_exponent}

pub number_zero : number gf64.zero ≡ 0
unfolding gf64 zero_symbol
number_zero = refl

pub number_one : number gf64.one ≡ 1
unfolding gf64 one_symbol
number_one = refl

pub number_alpha : number alpha ≡ 2
unfolding alpha
number_alpha = refl

pub number-add : (x y : Sym) → number (gf64.add x y) ≡ bit_xor (number x) (number y)
unfolding gf64 sum_of
number-add x y = refl

pub number-mul : (x y : Sym) → number (gf64.mul x y) ≡ product (number x) (number y)
unfolding gf64 product_of
number-mul x y = refl

pub number-power : (x : Sym) (n : ℕ) → number (power gf64 x n) ≡ product_power (number x) n
unfolding power product_power
number-power x zero = number_one
number-power x (suc n) = number-mul x (power gf64 x n) ∙ ap (product (number x)) (number-power x n)

-- the symbol 0 as code writes it
pub zero_made : (below : 0 < 64) → symbol_of 0 below ≡ gf64.zero
zero_made below = same_symbol (symbol_of 0 below) gf64.zero (sym number_zero)

-- the symbol 1 as code writes it
pub one_made : (below : 1 < 64) → symbol_of 1 below ≡ gf64.one
one_made below = same_symbol (symbol_of 1 below) gf64.one (sym number_one)

pub zero_from_number : (x : Sym) → number x ≡ 0 → x ≡ gf64.zero
zero_from_number x e = same_symbol x gf64.zero (e ∙ sym number_zero)

pub number_ne_zero : (x : Sym) → x ≢ gf64.zero → number x ≢ 0
number_ne_zero x apart e = apart (zero_from_number x e)

alpha_order_computed : product_power 2 63 ≡ 1
unfolding product product_by product_power times_x
alpha_order_computed = refl

-- α to the power 63 is one
pub alpha_to_63 : power gf64 alpha 63 ≡ gf64.one
alpha_to_63 =
    same_symbol (power gf64 alpha 63) gf64.one
    (number-power alpha 63 ∙ ap (λ a. product_power a 63) number_alpha ∙ alpha_order_computed ∙ sym number_one)

lower_powers_computed : all_below 63 (λ n. n == 0 || not (product_power 2 n == 1)) ≡ true
unfolding all_below product product_by product_power times_x
lower_powers_computed = refl

-- no lower power of α is one
pub alpha_order : (n : ℕ) → 0 < n → n < 63 → power gf64 alpha n ≢ gf64.one
alpha_order n positive h e =
    elim (or_cases (n == 0) (not (product_power 2 n == 1)) (all_below_at 63 (λ n. n == 0 || not (product_power 2 n == 1)) lower_powers_computed n h)) [
      | inl none ↦ absurd (zero_is_not none)
      | inr apart ↦ both_ways (product_power 2 n == 1) (not-true (product_power 2 n == 1) apart) (eq-eqb (product_power 2 n) 1 at_two)
    ]
  where
    zero_is_not : (n == 0) ≡ true → ⊥
    zero_is_not none = let same : n ≡ 0 = eqb-true n 0 none in omega arith

    at_two : product_power 2 n ≡ 1
    at_two = sym (number-power alpha n ∙ ap (λ a. product_power a n) number_alpha) ∙ ap number e ∙ number_one

pub alpha_ne_zero : alpha ≢ gf64.zero
alpha_ne_zero e = two_apart (sym number_alpha ∙ ap number e ∙ number_zero)
  where
    two_apart : ◌≡◌ {A = ℕ} 2 0 → ⊥
    two_apart h = omega arith

-- exponents of α below 63 with one power are one exponent
pub alpha_exponents : (i j : ℕ) → i < 63 → j < 63 → power gf64 alpha i ≡ power gf64 alpha j → i ≡ j
alpha_exponents = same_exponent gf64 alpha 63 alpha_ne_zero alpha_order

-- symbols that compare equal are one symbol
pub same_from_eq : (x y : Sym) → (number x == number y) ≡ true → x ≡ y
same_from_eq x y test = same_symbol x y (eqb-true (number x) (number y) test)
