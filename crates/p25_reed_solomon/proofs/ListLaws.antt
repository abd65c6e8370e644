-- The steps of the loops over lists of 32 and 64 symbols: a fact about each position is a fact about the coefficients.
use Rattle.std.proofs.{Common.{◌≡◌, ℕ, zero, suc, ◌+◌, ◌-◌, ◌<◌, ◌≤◌, List, length, set, ap, ap₂, sym, ◌∙◌, inl, inr, arith}, lemmas.Bool.{cases_eq, cases_lt}}
use Rattle.p25_gf64.specs.{declared.symbol.Sym.{Sym}, Field.{power}, Gf64.{gf64}}
use Rattle.p25_gf64.proofs.{FieldLaws.{mul_comm, mul_assoc, zero_mul}, PowerLaws.{power-suc}}
use Rattle.p25_algebra.specs.{Sums.{sum_below, power_sum}, Series.{coefficient, value_at, shifted, rest_at}}
use Rattle.p25_algebra.proofs.{SumLaws.{sum_same, sum_longer, sum-suc}, ValueLaws.{value-none, value_same}, QuotientLaws.{shifted-first, shifted-next}}
use Rattle.p25_poly.proofs.CoefficientLaws.{coefficient_past, written_at, written_elsewhere}

-- a list moved up by one position
pub moved_everywhere : (symbols moved : List Sym) → length symbols ≡ 32
    → length moved ≡ 33 → coefficient gf64 moved 0 ≡ gf64.zero → ((k : ℕ) → k < 32 → coefficient gf64 moved (1 + k) ≡ coefficient gf64 symbols k) → (k : ℕ)
    → coefficient gf64 moved k ≡ shifted gf64 1 (coefficient gf64 symbols) k
moved_everywhere symbols moved short full first others zero = simp (first, shifted-first)
moved_everywhere symbols moved short full first others (suc k) =
    elim (cases_lt k 32) [
      | inl low ↦ ap (coefficient gf64 moved) (omega arith) ∙ others k low ∙ sym (shifted-next gf64 (coefficient gf64 symbols) k)
      | inr high ↦ coefficient_past gf64 moved _ (omega arith) ∙ sym (shifted-next gf64 (coefficient gf64 symbols) k ∙ coefficient_past gf64 symbols k (omega arith))
    ]

-- the value once Horner's rule has come to the first coefficient
pub value_whole : (n i : ℕ) (f : ℕ → Sym) (x : Sym) → i ≡ 0 → value_at gf64 (n - i) (λ k. f (i + k)) x ≡ value_at gf64 n f x
value_whole n i f x none =
    cc (all, value_same gf64 n _ f x (λ k low. ap f (same k)))
  where
    all : n - i ≡ n
    all = omega arith

    same : (k : ℕ) → i + k ≡ k
    same k = omega arith

-- the value before Horner's rule begins
pub value_begun : (n : ℕ) (f : ℕ → Sym) (x : Sym) → value_at gf64 (n - n) (λ k. f (n + k)) x ≡ gf64.zero
value_begun n f x = simp (none, value-none)
  where
    none : n - n ≡ 0
    none = omega arith

-- the value of Horner's rule is the quotient's next coefficient
pub rest_here : (n i : ℕ) (f : ℕ → Sym) (x : Sym) → 0 < i → value_at gf64 (n - i) (λ k. f (i + k)) x ≡ rest_at gf64 n f x (i - 1)
rest_here n i f x positive = ap (λ m. value_at gf64 (n - m) (λ k. f (m + k)) x) next
  where
    next : i ≡ suc (i - 1)
    next = omega arith

-- a power sum over 32 terms, of which those after the listed positions are zero
pub sum_of_listed : (count : ℕ) (elements values : List Sym) (element : ℕ → Sym) (i : ℕ)
    → count ≤ 32 → ((c : ℕ) → c < count → coefficient gf64 elements c ≡ element c) → ((c : ℕ) → count ≤ c → coefficient gf64 values c ≡ gf64.zero)
    → sum_below gf64 32 (λ c. gf64.mul (coefficient gf64 values c) (power gf64 (coefficient gf64 elements c) i)) ≡ power_sum gf64 count element (coefficient gf64 values) i
sum_of_listed count elements values element i few are rest =
    sum_longer gf64 count 32 _ few
    (λ c low high. cc (rest c low, zero_mul gf64 (power gf64 (coefficient gf64 elements c) i)))
    ∙ sum_same gf64 count _ _ (λ c low. rw (are c low))

-- a term times its element once more
pub term_next : (v x p q : Sym) (i : ℕ) → p ≡ gf64.mul v (power gf64 x i) → q ≡ gf64.mul p x → q ≡ gf64.mul v (power gf64 x (i + 1))
term_next v x p q i is next =
    cc (next, is, mul_assoc gf64 v (power gf64 x i) x, mul_comm gf64 _ x, power-suc gf64 x i, more)
  where
    more : suc i ≡ i + 1
    more = omega arith

-- the sum of the terms after one more multiplication
pub sum_of_terms : (count : ℕ) (elements values old new : List Sym) (element : ℕ → Sym) (i : ℕ)
    → count ≤ 32 → ((c : ℕ) → c < count → coefficient gf64 elements c ≡ element c) → ((c : ℕ) → count ≤ c → coefficient gf64 values c ≡ gf64.zero)
    → ((c : ℕ) → c < 32 → coefficient gf64 old c ≡ gf64.mul (coefficient gf64 values c) (power gf64 (coefficient gf64 elements c) i))
    → ((c : ℕ) → c < 32 → coefficient gf64 new c ≡ gf64.mul (coefficient gf64 old c) (coefficient gf64 elements c))
    → sum_below gf64 32 (coefficient gf64 new) ≡ power_sum gf64 count element (coefficient gf64 values) (i + 1)
sum_of_terms count elements values old new element i few are rest terms next =
    sum_same gf64 32 _ _
    (λ c low. term_next (coefficient gf64 values c) _ _ _ i (terms c low) (next c low))
    ∙ sum_of_listed count elements values element _ few are rest

-- the terms and their sum while the first r are multiplied by their factors
pub record IsMultipliedTo (r : ℕ) (factors start terms : List Sym) (sum : Sym) : Type 0 where
  pub before : (k : ℕ) → k < r → coefficient gf64 terms k ≡ gf64.mul (coefficient gf64 start k) (coefficient gf64 factors k)
  pub after : (k : ℕ) → r ≤ k → coefficient gf64 terms k ≡ coefficient gf64 start k
  pub total : sum ≡ sum_below gf64 r (coefficient gf64 terms)

-- one term more
pub multiplied_more : (r : ℕ) (factors start terms : List Sym) (sum x : Sym) → r < length terms → x ≡ gf64.mul (coefficient gf64 terms r) (coefficient gf64 factors r)
    → IsMultipliedTo r factors start terms sum → IsMultipliedTo (r + 1) factors start (set terms r x) (gf64.add sum x)
multiplied_more r factors start terms sum x inside is made = record {
  before = λ k low. elim (cases_eq k r) [
    | inl same ↦ rw same (written_at gf64 terms r x inside ∙ is ∙ ap (λ w. gf64.mul w (coefficient gf64 factors r)) (made.after r (omega arith)))
    | inr apart ↦ written_elsewhere gf64 terms r k x apart ∙ made.before k (omega arith)
  ];
  after = λ k high. written_elsewhere gf64 terms r k x (omega arith) ∙ made.after k (omega arith);
  total =
      ap₂ gf64.add (made.total ∙ sum_same gf64 r _ _ (λ k low. sym (written_elsewhere gf64 terms r k x (omega arith)))) (sym (written_at gf64 terms r x inside))
      ∙ sym (sum-suc gf64 r (coefficient gf64 (set terms r x)))
      ∙ ap (λ m. sum_below gf64 m (coefficient gf64 (set terms r x))) next;
}
  where
    next : suc r ≡ r + 1
    next = omega arith
