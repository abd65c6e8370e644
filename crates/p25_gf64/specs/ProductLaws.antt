-- The laws of the product on numbers below 64. Facts of two numbers are computed over all pairs; the
-- others follow by the steps of the product.
use Rattle.std.specs.Prelude.{◌≡◌, ℕ, zero, suc, ◌/◌, ◌%◌, ◌<◌, ◌==◌, Bool, true, false, ◌&&◌, ◌||◌, ◌≢◌, if◌then◌else◌, nat_lt, bit_xor, refl}
use Rattle.std.specs.Int.Bits.{xor_lt, xor_assoc, xor_comm}
use Rattle.std.proofs.{Common.{sym, ap, ap₂, ◌∙◌, inl, inr, arith}, lemmas.Bool.{and_parts, or_cases, cases_eq, eqb-true, ltb-true}}
use Rattle.p25_gf64.specs.Product.{times_x, product_by, product, product_power}

-- a test holds of each number below a bound
unfoldable pub all_below : ℕ → (ℕ → Bool) → Bool
all_below zero test = true
all_below (suc n) test = test n && all_below n test

-- a test of all numbers holds of each
pub all_below_at : (n : ℕ) (test : ℕ → Bool) → all_below n test ≡ true → (k : ℕ) → k < n → test k ≡ true
unfolding all_below
all_below_at zero test e k h = absurd (omega arith)
all_below_at (suc n) test e k h =
    let parts = and_parts (test n) (all_below n test) e in
    elim (cases_eq k n) [ inl same ↦ rw same parts.0 | inr apart ↦ all_below_at n test parts.1 k (omega arith) ]

-- a test holds of each pair of numbers below a bound
unfoldable pub all_pairs_below : ℕ → (ℕ → ℕ → Bool) → Bool
all_pairs_below n test = all_below n (λ a. all_below n (λ b. test a b))

pub all_pairs_below_at : (n : ℕ) (test : ℕ → ℕ → Bool) → all_pairs_below n test ≡ true → (a b : ℕ) → a < n → b < n → test a b ≡ true
unfolding all_pairs_below
all_pairs_below_at n test e a b ha hb =
    all_below_at n (λ b. test a b) (all_below_at n (λ a. all_below n (λ b. test a b)) e a ha) b hb

product_comm_computed : all_pairs_below 64 (λ a b. product a b == product b a) ≡ true
unfolding all_pairs_below all_below product product_by times_x
product_comm_computed = refl

-- the product commutes
pub product_comm : (a b : ℕ) → a < 64 → b < 64 → product a b ≡ product b a
product_comm a b ha hb = eqb-true _ _ (all_pairs_below_at 64 (λ a b. product a b == product b a) product_comm_computed a b ha hb)

times_x_xor_computed : all_pairs_below 64 (λ a b. times_x (bit_xor a b) == bit_xor (times_x a) (times_x b)) ≡ true
unfolding all_pairs_below all_below times_x
times_x_xor_computed = refl

-- the shift distributes over the exclusive or
pub times_x-xor : (a b : ℕ) → a < 64 → b < 64 → times_x (bit_xor a b) ≡ bit_xor (times_x a) (times_x b)
times_x-xor a b ha hb = eqb-true _ _ (all_pairs_below_at 64 (λ a b. times_x (bit_xor a b) == bit_xor (times_x a) (times_x b)) times_x_xor_computed a b ha hb)

times_x_lt_computed : all_below 64 (λ a. nat_lt (times_x a) 64) ≡ true
unfolding all_below times_x
times_x_lt_computed = refl

-- the shift stays below 64
pub times_x-lt : (a : ℕ) → a < 64 → times_x a < 64
times_x-lt a ha = ltb-true _ _ (all_below_at 64 (λ a. nat_lt (times_x a) 64) times_x_lt_computed a ha)

-- the exclusive or stays below 64
pub xor_below : (a b : ℕ) → a < 64 → b < 64 → bit_xor a b < 64
xor_below a b ha hb = xor_lt 6 a b ha hb

product_zero_computed : all_below 64 (λ a. product a 0 == 0) ≡ true
unfolding all_below product product_by times_x
product_zero_computed = refl

-- a product with 0 is 0
pub product-zero : (a : ℕ) → a < 64 → product a 0 ≡ 0
product-zero a ha = eqb-true _ _ (all_below_at 64 (λ a. product a 0 == 0) product_zero_computed a ha)

product_one_computed : all_below 64 (λ a. product a 1 == a) ≡ true
unfolding all_below product product_by times_x
product_one_computed = refl

-- a product with 1 is the other factor
pub product-one : (a : ℕ) → a < 64 → product a 1 ≡ a
product-one a ha = eqb-true _ _ (all_below_at 64 (λ a. product a 1 == a) product_one_computed a ha)

product_inverse_computed : all_below 64 (λ a. a == 0 || product a (product_power a 62) == 1) ≡ true
unfolding all_below product product_by product_power times_x
product_inverse_computed = refl

-- the 62nd power is the inverse
pub product_inverse : (a : ℕ) → a < 64 → a ≢ 0 → product a (product_power a 62) ≡ 1
product_inverse a ha apart =
    let either = all_below_at 64 (λ a. a == 0 || product a (product_power a 62) == 1) product_inverse_computed a ha in
    elim (or_cases (a == 0) (product a (product_power a 62) == 1) either) [
      | inl same ↦ absurd (apart (eqb-true _ _ same))
      | inr one ↦ eqb-true _ _ one
    ]

xor_regroup : (p q r s : ℕ) → bit_xor (bit_xor p q) (bit_xor r s) ≡ bit_xor (bit_xor p r) (bit_xor q s)
xor_regroup p q r s =
    xor_assoc p q (bit_xor r s)
    ∙ ap (bit_xor p) (sym (xor_assoc q r s) ∙ ap (λ z. bit_xor z s) (xor_comm q r) ∙ xor_assoc r q s)
    ∙ sym (xor_assoc p r (bit_xor q s))

cond_xor : (t : Bool) (a c : ℕ) → (if t then bit_xor a c else 0) ≡ bit_xor (if t then a else 0) (if t then c else 0)
cond_xor true a c = refl
cond_xor false a c = refl

cond_lt : (t : Bool) (a : ℕ) → a < 64 → (if t then a else 0) < 64
cond_lt true a ha = ha
cond_lt false a ha = omega arith

product_by-lt : (n a b : ℕ) → a < 64 → product_by n a b < 64
unfolding product_by
product_by-lt zero a b ha = omega arith
product_by-lt (suc n) a b ha =
    xor_below _ _ (cond_lt (b % 2 == 1) a ha) (product_by-lt n (times_x a) (b / 2) (times_x-lt a ha))

-- the product stays below 64
pub product-lt : (a b : ℕ) → a < 64 → product a b < 64
unfolding product
product-lt a b ha = product_by-lt 6 a b ha

-- each power stays below 64
pub product_power-lt : (a n : ℕ) → a < 64 → product_power a n < 64
unfolding product_power
product_power-lt a zero ha = omega arith
product_power-lt a (suc n) ha = product-lt a (product_power a n) ha

product_by-xor : (n a c b : ℕ) → a < 64 → c < 64 → product_by n (bit_xor a c) b ≡ bit_xor (product_by n a b) (product_by n c b)
unfolding product_by
product_by-xor zero a c b ha hc = refl
product_by-xor (suc n) a c b ha hc =
    let rest =
    ap (λ z. product_by n z (b / 2)) (times_x-xor a c ha hc) ∙ product_by-xor n (times_x a) (times_x c) (b / 2) (times_x-lt a ha) (times_x-lt c hc) in
    ap₂ bit_xor (cond_xor (b % 2 == 1) a c) rest
    ∙ xor_regroup (if b % 2 == 1 then a else 0) (if b % 2 == 1 then c else 0) (product_by n (times_x a) (b / 2)) (product_by n (times_x c) (b / 2))

product-xor_left : (a c b : ℕ) → a < 64 → c < 64 → product (bit_xor a c) b ≡ bit_xor (product a b) (product c b)
unfolding product
product-xor_left a c b ha hc = product_by-xor 6 a c b ha hc

-- the product distributes over the exclusive or
pub product-xor : (a b c : ℕ) → a < 64 → b < 64 → c < 64 → product a (bit_xor b c) ≡ bit_xor (product a b) (product a c)
product-xor a b c ha hb hc =
    product_comm a (bit_xor b c) ha (xor_below b c hb hc)
    ∙ product-xor_left b c a hb hc
    ∙ ap₂ bit_xor (product_comm b a hb ha) (product_comm c a hc ha)

product_by-times_x : (n a b : ℕ) → a < 64 → product_by n (times_x a) b ≡ times_x (product_by n a b)
unfolding product_by times_x
product_by-times_x zero a b ha = refl
product_by-times_x (suc n) a b ha =
    let t = b % 2 == 1 in
    ap₂ bit_xor (times_x_cond t a) (product_by-times_x n (times_x a) (b / 2) (times_x-lt a ha))
    ∙ sym (times_x-xor (if t then a else 0) (product_by n (times_x a) (b / 2)) (cond_lt t a ha) (product_by-lt n (times_x a) (b / 2) (times_x-lt a ha)))
  where
    times_x_cond : (t : Bool) (a : ℕ) → (if t then times_x a else 0) ≡ times_x (if t then a else 0)
    times_x_cond true a = refl
    times_x_cond false a = refl

product-times_x_left : (a b : ℕ) → a < 64 → product (times_x a) b ≡ times_x (product a b)
unfolding product
product-times_x_left a b ha = product_by-times_x 6 a b ha

product-times_x : (a b : ℕ) → a < 64 → b < 64 → times_x (product a b) ≡ product a (times_x b)
product-times_x a b ha hb =
    ap times_x (product_comm a b ha hb) ∙ sym (product-times_x_left b a hb) ∙ product_comm (times_x b) a (times_x-lt b hb) ha

product_cond : (t : Bool) (a b : ℕ) → a < 64 → (if t then product a b else 0) ≡ product a (if t then b else 0)
product_cond true a b ha = refl
product_cond false a b ha = sym (product-zero a ha)

product_by-product : (n a b c : ℕ) → a < 64 → b < 64 → product_by n (product a b) c ≡ product a (product_by n b c)
unfolding product_by
product_by-product zero a b c ha hb = sym (product-zero a ha)
product_by-product (suc n) a b c ha hb =
    let t = c % 2 == 1 in
    let rest = ap (λ z. product_by n z (c / 2)) (product-times_x a b ha hb) ∙ product_by-product n a (times_x b) (c / 2) ha (times_x-lt b hb) in
    ap₂ bit_xor (product_cond t a b ha) rest
    ∙ sym (product-xor a (if t then b else 0) (product_by n (times_x b) (c / 2)) ha (cond_lt t b hb) (product_by-lt n (times_x b) (c / 2) (times_x-lt b hb)))

-- the product associates
pub product_assoc : (a b c : ℕ) → a < 64 → b < 64 → product (product a b) c ≡ product a (product b c)
unfolding product
product_assoc a b c ha hb = product_by-product 6 a b c ha hb
