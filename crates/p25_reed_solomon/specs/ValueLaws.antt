-- Values of words at powers of α.
use Rattle.std.proofs.{Common.{◌≡◌, ℕ, suc, ◌+◌, ◌-◌, ◌*◌, ◌<◌, ap, ap₂, ◌∙◌, arith}, Math.Nat.{mul_comm as nat_mul_comm, mul-suc}}
use Rattle.p25_gf64.specs.{declared.symbol.Sym.{Sym}, Field.{power}, Symbol.{alpha}, Gf64.{gf64}}
use Rattle.p25_gf64.proofs.{FieldLaws.{mul_one, mul_comm, mul_left_comm, add_mul}, PowerLaws.{power-zero, power-add, power-mul}}
use Rattle.p25_algebra.specs.Sums.{sum_below, power_sum}
use Rattle.p25_algebra.proofs.SumLaws.{sum-suc, sum_same, sum-mul, sum-add}
use Rattle.p25_reed_solomon.specs.Errors.{element_of}

-- the value at α^i of k symbols, the first the highest coefficient
abbrev pub front_value : (ℕ → Sym) → ℕ → ℕ → Sym
front_value symbol i k = sum_below gf64 k (λ j. gf64.mul (symbol j) (power gf64 alpha (i * (k - 1 - j))))

one_higher : (i k j : ℕ) → j < k → i * (suc k - 1 - j) ≡ i + i * (k - 1 - j)
one_higher i k j below =
    let e : suc k - 1 - j ≡ suc (k - 1 - j) = omega arith in
    ap (λ n. i * n) e ∙ mul-suc i (k - 1 - j) ∙ omega arith

-- Horner's rule: one more symbol
pub front_value-suc : (symbol : ℕ → Sym) (i k : ℕ) → front_value symbol i (suc k) ≡ gf64.add (gf64.mul (front_value symbol i k) (power gf64 alpha i)) (symbol k)
front_value-suc symbol i k =
    let x = power gf64 alpha i in
    let last : suc k - 1 - k ≡ 0 = omega arith in
    let none : i * 0 ≡ 0 = omega arith in
    let higher : (j : ℕ) → j < k
    → gf64.mul (symbol j) (power gf64 alpha (i * (suc k - 1 - j))) ≡ gf64.mul x (gf64.mul (symbol j) (power gf64 alpha (i * (k - 1 - j))))
    = λ j below.
    ap (λ n. gf64.mul (symbol j) (power gf64 alpha n)) (one_higher i k j below)
    ∙ ap (gf64.mul (symbol j)) (power-add gf64 alpha i (i * (k - 1 - j)))
    ∙ mul_left_comm gf64 (symbol j) x (power gf64 alpha (i * (k - 1 - j))) in
    sum-suc gf64 k (λ j. gf64.mul (symbol j) (power gf64 alpha (i * (suc k - 1 - j))))
    ∙ ap₂ gf64.add
    (
    sum_same gf64 k _ (λ j. gf64.mul x (gf64.mul (symbol j) (power gf64 alpha (i * (k - 1 - j))))) higher
    ∙ sum-mul gf64 k x (λ j. gf64.mul (symbol j) (power gf64 alpha (i * (k - 1 - j))))
    ∙ mul_comm gf64 x (front_value symbol i k)
    )
    (
    ap (λ n. gf64.mul (symbol k) (power gf64 alpha (i * n))) last
    ∙ ap (λ n. gf64.mul (symbol k) (power gf64 alpha n)) none
    ∙ ap (gf64.mul (symbol k)) (power-zero gf64 alpha)
    ∙ mul_one gf64 (symbol k)
    )

-- the value of a word at α^i is its i-th power sum over the elements of the positions
pub value-power_sum : (n : ℕ) (symbol : ℕ → Sym) (i : ℕ) → front_value symbol i n ≡ power_sum gf64 n (element_of n) symbol i
value-power_sum n symbol i =
    sum_same gf64 n _ _ (λ j below. ap (gf64.mul (symbol j)) (ap (power gf64 alpha) (nat_mul_comm i (n - 1 - j)) ∙ power-mul gf64 alpha (n - 1 - j) i))

-- values of a sum are the sums of the values
pub front_value-add : (n : ℕ) (f g : ℕ → Sym) (i : ℕ) → front_value (λ j. gf64.add (f j) (g j)) i n ≡ gf64.add (front_value f i n) (front_value g i n)
front_value-add n f g i =
    sum_same gf64 n _ _ (λ j below. add_mul gf64 (f j) (g j) (power gf64 alpha (i * (n - 1 - j)))) ∙ sum-add gf64 n _ _

-- equal symbols have equal values
pub front_value_same : (n : ℕ) (f g : ℕ → Sym) (i : ℕ) → ((j : ℕ) → j < n → f j ≡ g j) → front_value f i n ≡ front_value g i n
front_value_same n f g i same = sum_same gf64 n _ _ (λ j below. ap (λ (s : Sym). gf64.mul s (power gf64 alpha (i * (n - 1 - j)))) (same j below))
