-- The least number of coefficients other than 0 in a multiple of a divisor. After division by a power of x it begins with 1. With one other coefficient it is 1 + x^i, so the remainder of x^i is 1. With two it is 1 + x^i + x^j, so the
-- remainders of x^i and x^j differ by 1. The checker looks for such remainders, even and odd ones apart.
use Rattle.std.proofs.Common.{zero, suc, ◌≡◌, ℕ, ◌+◌, ◌*◌, ◌/◌, ◌%◌, ◌^◌, ◌<◌, ◌≤◌, ◌⊎◌, inl, inr, Bool, true, false, ◌&&◌, eqb, List, [], ◌∷◌, bit_xor, refl, ap, ap₂, sym, ◌∙◌, subst, arith, pow-suc}
use Rattle.std.proofs.{lemmas.Bool.{cases_lt, and_parts, true≢false}, lemmas.Nat.{ones_cat, ones_le_self, zero_from_ones}}
use Rattle.std.specs.{Cmp.{unsigned_Decides}, Int.RustNames.{count_ones}, Int.Bits.{xor_assoc, xor_zero_r}}
use Rattle.p25_bits.specs.Divisible.{multiple_of, IsDivisible, HasDegree, IsRemainder}
use Rattle.p25_bits.proofs.DivisibleLaws.{xor_doubled, xor_apart, same_from_xor, IsDivisible-zero, IsDivisible-lower, IsRemainder-unique, IsRemainder-lower, remainder_from_divisible}
use Rattle.p25_crc.specs.Checks.{block_divisor, header_divisor, packet_divisor}
use Rattle.p25_bits.proofs.DivisionLaws.{xor_times_power, times_x, times_power, IsRemainder-sum, IsRemainder-times_power}

-- a number is even or odd
even_or_odd : (v : ℕ) → (v % 2 ≡ 0) ⊎ (v % 2 ≡ 1)
even_or_odd v = elim (cases_lt (v % 2) 1) [
  | inl low ↦ inl (omega arith)
  | inr high ↦ inr (omega arith)
]

-- a number is in a list
Has : ℕ → List ℕ → Type 0
Has v [] = ⊥
Has v (x ∷ xs) = (x ≡ v) ⊎ Has v xs

-- the halves of the even numbers of a list, or of the odd ones
kept : Bool → ℕ → List ℕ → List ℕ
kept true v vs = v ∷ vs
kept false v vs = vs

halves : ℕ → List ℕ → List ℕ
halves r [] = []
halves r (x ∷ xs) = kept (eqb (x % 2) r) (x / 2) (halves r xs)

-- whether two lists have no number in common, as far as a given number of bits shows it
disjoint : ℕ → List ℕ → List ℕ → Bool
disjoint k [] ys = true
disjoint k (x ∷ xs) [] = true
disjoint zero (x ∷ xs) (y ∷ ys) = false
disjoint (suc k) (x ∷ xs) (y ∷ ys) = disjoint k (halves 0 (x ∷ xs)) (halves 0 (y ∷ ys)) && disjoint k (halves 1 (x ∷ xs)) (halves 1 (y ∷ ys))

Has-kept : (b : Bool) (u v : ℕ) (vs : List ℕ) → Has u vs → Has u (kept b v vs)
unfolding Has kept
Has-kept true u v vs has = inr has
Has-kept false u v vs has = has

Has-halves : (r v : ℕ) (xs : List ℕ) → v % 2 ≡ r → Has v xs → Has (v / 2) (halves r xs)
unfolding Has kept halves
Has-halves r v [] e has = has
Has-halves r v (x ∷ xs) e (inl same) =
    let test : eqb (x % 2) r ≡ true = (unsigned_Decides (x % 2) r).1 (ap (λ n. n % 2) same ∙ e) in
    subst (λ b. Has (v / 2) (kept b (x / 2) (halves r xs))) (sym test) (inl (ap (λ n. n / 2) same))
Has-halves r v (x ∷ xs) e (inr has) = Has-kept (eqb (x % 2) r) (v / 2) (x / 2) (halves r xs) (Has-halves r v xs e has)

none_in_both : (k v : ℕ) (xs ys : List ℕ) → disjoint k xs ys ≡ true → Has v xs → Has v ys → ⊥
unfolding Has disjoint
none_in_both k v [] ys e first second = first
none_in_both k v (x ∷ xs) [] e first second = second
none_in_both zero v (x ∷ xs) (y ∷ ys) e first second = true≢false (sym e)
none_in_both (suc k) v (x ∷ xs) (y ∷ ys) e first second =
    let both = and_parts _ _ e in
    elim (even_or_odd v) [
      | inl even ↦
          none_in_both k (v / 2) (halves 0 (x ∷ xs)) (halves 0 (y ∷ ys)) both.0 (Has-halves 0 v (x ∷ xs) even first) (Has-halves 0 v (y ∷ ys) even second)
      | inr odd ↦
          none_in_both k (v / 2) (halves 1 (x ∷ xs)) (halves 1 (y ∷ ys)) both.1 (Has-halves 1 v (x ∷ xs) odd first) (Has-halves 1 v (y ∷ ys) odd second)
    ]

-- the remainders of a number of powers of x times a polynomial, and each of some polynomials plus 1
powers : ℕ → ℕ → ℕ → ℕ → List ℕ
powers divisor width zero r = []
powers divisor width (suc n) r = r ∷ powers divisor width n (times_x divisor width r)

plus_one : List ℕ → List ℕ
plus_one [] = []
plus_one (x ∷ xs) = bit_xor x 1 ∷ plus_one xs

Has-plus_one : (v : ℕ) (xs : List ℕ) → Has v xs → Has (bit_xor v 1) (plus_one xs)
unfolding Has plus_one
Has-plus_one v [] has = has
Has-plus_one v (x ∷ xs) (inl same) = inl (ap (λ n. bit_xor n 1) same)
Has-plus_one v (x ∷ xs) (inr has) = inr (Has-plus_one v xs has)

times_power-first : (divisor width i r : ℕ) → times_power divisor width i (times_x divisor width r) ≡ times_power divisor width (suc i) r
unfolding times_power
times_power-first divisor width zero r = refl
times_power-first divisor width (suc i) r = ap (times_x divisor width) (times_power-first divisor width i r)

Has-powers : (divisor width n i r : ℕ) → i < n → Has (times_power divisor width i r) (powers divisor width n r)
unfolding Has powers times_power
Has-powers divisor width zero i r low = absurd (omega arith)
Has-powers divisor width (suc n) zero r low = inl refl
Has-powers divisor width (suc n) (suc i) r low =
    inr (subst (λ v. Has v (powers divisor width n (times_x divisor width r))) (times_power-first divisor width i r)
    (Has-powers divisor width n i (times_x divisor width r) (omega arith)))

-- the remainders of the powers of x from x on, as many as given
from_x : ℕ → ℕ → ℕ → List ℕ
from_x divisor width n = powers divisor width n (times_x divisor width 1)

-- none of them is 1
pub none_is_one : ℕ → ℕ → ℕ → Bool
none_is_one divisor width n = disjoint width (from_x divisor width n) (1 ∷ [])

-- no two of them differ by 1
pub none_differ_by_one : ℕ → ℕ → ℕ → Bool
none_differ_by_one divisor width n = disjoint width (from_x divisor width n) (plus_one (from_x divisor width n))

-- the tests that are computed: for the remainders of x to x^95, of x to x^143 and of x to x^12191
pub header_none : none_is_one header_divisor 16 95 ≡ true
unfolding none_is_one disjoint kept halves powers from_x times_x
header_none = refl

pub header_no_two : none_differ_by_one header_divisor 16 95 ≡ true
unfolding none_differ_by_one disjoint kept halves powers plus_one from_x times_x
header_no_two = refl

pub block_none : none_is_one block_divisor 9 143 ≡ true
unfolding none_is_one disjoint kept halves powers from_x times_x
block_none = refl

pub packet_none : none_is_one packet_divisor 32 12191 ≡ true
unfolding none_is_one disjoint kept halves powers from_x times_x
packet_none = refl

pub packet_no_two : none_differ_by_one packet_divisor 32 12191 ≡ true
unfolding none_differ_by_one disjoint kept halves powers plus_one from_x times_x
packet_no_two = refl

Has-from_x : (divisor width n i : ℕ) → i < n → Has (times_power divisor width (suc i) 1) (from_x divisor width n)
unfolding from_x
Has-from_x divisor width n i low =
    subst (λ v. Has v (powers divisor width n (times_x divisor width 1))) (times_power-first divisor width i 1)
    (Has-powers divisor width n i (times_x divisor width 1) low)

-- the weight of a number by its half and its lowest digit
digit_weights : (count_ones 0 ≡ 0) × (count_ones 1 ≡ 1)
unfolding count_ones
digit_weights = (refl, refl)

weight_of : (m : ℕ) → count_ones m ≡ count_ones (m / 2) + m % 2
weight_of m =
    let whole : m ≡ m / 2 * 2 ^ 1 + m % 2 = omega arith in
    let low : m % 2 < 2 ^ 1 = omega arith in
    ap count_ones whole ∙ ones_cat 1 (m / 2) (m % 2) low
    ∙ ap (λ n. count_ones (m / 2) + n) (elim (even_or_odd m) as (λ _. count_ones (m % 2) ≡ m % 2) [
      | inl even ↦ subst (λ n. count_ones n ≡ n) (sym even) digit_weights.0
      | inr odd ↦ subst (λ n. count_ones n ≡ n) (sym odd) digit_weights.1
    ])

-- a number of one 1 is a power of 2, and one of two is the sum of two
one_power : (n m : ℕ) → m < 2 ^ n → count_ones m ≡ 1 → (i : ℕ) × (i < n) × (m ≡ 2 ^ i)
one_power zero m short one = absurd (omega (arith, ones_le_self m))
one_power (suc n) m short one =
    let w = weight_of m in
    let low : m / 2 < 2 ^ n = omega (arith, pow-suc 2 n) in
    elim (even_or_odd m) [
      | inl even ↦
          let more = one_power n (m / 2) low (omega arith) in
          let below : suc more.0 < suc n = omega (arith, more.1) in
          let is : m ≡ 2 ^ suc more.0 = omega (arith, more.2, pow-suc 2 more.0) in
          (suc more.0, below, is)
      | inr odd ↦
          let none : m / 2 ≡ 0 = zero_from_ones (m / 2) (omega arith) in
          let below : 0 < suc n = omega arith in
          let is : m ≡ 2 ^ 0 = omega arith in
          (0, below, is)
    ]

two_powers : (n m : ℕ) → m < 2 ^ n → count_ones m ≡ 2 → (i : ℕ) × (j : ℕ) × (i < n) × (j < n) × (m ≡ bit_xor (2 ^ i) (2 ^ j))
two_powers zero m short two = absurd (omega (arith, ones_le_self m))
two_powers (suc n) m short two =
    let w = weight_of m in
    let low : m / 2 < 2 ^ n = omega (arith, pow-suc 2 n) in
    elim (even_or_odd m) [
      | inl even ↦
          let more = two_powers n (m / 2) low (omega arith) in
          let i = more.0 in
          let j = more.1 in
          let first : suc i < suc n = omega (arith, more.2) in
          let second : suc j < suc n = omega (arith, more.3) in
          let doubled : m ≡ bit_xor (2 ^ i) (2 ^ j) * 2 ^ 1 = omega (arith, more.4) in
          let is : m ≡ bit_xor (2 ^ suc i) (2 ^ suc j) = cc (doubled, xor_times_power (2 ^ i) (2 ^ j) 1, raised i, raised j) in
          (suc i, suc j, first, second, is)
      | inr odd ↦
          let more = one_power n (m / 2) low (omega arith) in
          let i = more.0 in
          let first : suc i < suc n = omega (arith, more.1) in
          let second : 0 < suc n = omega arith in
          let one : 1 < 2 ^ 1 = omega arith in
          let shifted : m ≡ 2 ^ i * 2 ^ 1 + 1 = omega (arith, more.2) in
          let is : m ≡ bit_xor (2 ^ suc i) (2 ^ 0) = cc (shifted, xor_apart (2 ^ i) 1 1 one, raised i) in
          (suc i, 0, first, second, is)
    ]
  where
    raised : (i : ℕ) → 2 ^ suc i ≡ 2 ^ i * 2 ^ 1
    raised i = omega (arith, pow-suc 2 i)

-- if x times a polynomial is divisible by a divisor that begins with 1, the polynomial is
halved_by : (divisor half : ℕ) → divisor % 2 ≡ 1 → (quotient : List Bool) → multiple_of divisor quotient ≡ 2 * half → IsDivisible divisor half
unfolding multiple_of
halved_by divisor half odd [] e = subst (IsDivisible divisor) (omega arith) (IsDivisible-zero divisor)
halved_by divisor half odd (false ∷ quotient) e =
    let twice = sym (xor_zero_r (2 * multiple_of divisor quotient)) ∙ e in
    record { quotient = quotient; product = omega arith }
halved_by divisor half odd (true ∷ quotient) e =
    let m = multiple_of divisor quotient in
    let none : 0 < 2 = omega arith in
    let one : 1 < 2 = omega arith in
    let left : 2 * m ≡ 2 * m + 0 = omega arith in
    let right : divisor ≡ 2 * (divisor / 2) + 1 = omega arith in
    let step : bit_xor (2 * m) divisor ≡ 2 * bit_xor m (divisor / 2) + 1 = ap₂ bit_xor left right ∙ xor_doubled m (divisor / 2) 0 1 none one in
    absurd (omega (arith, step, e))

halved : (divisor half : ℕ) → divisor % 2 ≡ 1 → IsDivisible divisor (2 * half) → IsDivisible divisor half
halved divisor half odd d = halved_by divisor half odd d.quotient d.product

-- a multiple without its lowest coefficients of 0
record Lowest (divisor n m : ℕ) : Type 0 where
  half : ℕ
  divisible : IsDivisible divisor (2 * half + 1)
  short : 2 * half + 1 < 2 ^ n
  weight : count_ones m ≡ count_ones half + 1

lowest : (divisor n m : ℕ) → divisor % 2 ≡ 1 → 0 < m → m < 2 ^ n → IsDivisible divisor m → Lowest divisor n m
lowest divisor zero m odd some short d = absurd (omega arith)
lowest divisor (suc n) m odd some short d =
    let w = weight_of m in
    elim (even_or_odd m) [
      | inl even ↦
          let twice : m ≡ 2 * (m / 2) = omega arith in
          let low : m / 2 < 2 ^ n = omega (arith, pow-suc 2 n) in
          let l = lowest divisor n (m / 2) odd (omega arith) low (halved divisor (m / 2) odd (subst (IsDivisible divisor) twice d)) in
          record { half = l.half; divisible = l.divisible; short = omega (arith, l.short, pow-suc 2 n); weight = omega (arith, l.weight) }
      | inr one ↦
          let twice : m ≡ 2 * (m / 2) + 1 = omega arith in
          record { half = m / 2; divisible = subst (IsDivisible divisor) twice d; short = omega arith; weight = omega arith }
    ]

module _ (divisor width n : ℕ) (has : HasDegree divisor width) (odd : divisor % 2 ≡ 1) (small : 1 < 2 ^ width) where
  power_is : (i : ℕ) → IsRemainder divisor width (2 ^ i) (times_power divisor width i 1)
  power_is i = subst (λ k. IsRemainder divisor width k (times_power divisor width i 1)) (omega arith) (IsRemainder-times_power divisor width i 1 has small)

  not_one : (half : ℕ) → count_ones half ≡ 0 → IsDivisible divisor (2 * half + 1) → ⊥
  not_one half none d =
      let zero_half : half ≡ 0 = zero_from_ones half none in
      let one : 2 * half + 1 ≡ 1 = omega arith in
      let low : 2 * half + 1 < 2 ^ width = omega arith in
      let absent = IsDivisible-lower divisor width (2 * half + 1) has d low in
      omega arith

  not_two : none_is_one divisor width n ≡ true → (half : ℕ) → half < 2 ^ n → count_ones half ≡ 1 → IsDivisible divisor (2 * half + 1) → ⊥
  unfolding none_is_one Has
  not_two none half short one d =
      let p = one_power n half short one in
      let i = p.0 in
      let unit : 1 < 2 ^ 1 = omega arith in
      let is : 2 * half + 1 ≡ 2 ^ i * 2 ^ 1 + 1 = omega (arith, p.2) in
      let raised : 2 ^ suc i ≡ 2 ^ i * 2 ^ 1 = omega (arith, pow-suc 2 i) in
      let whole : 2 * half + 1 ≡ bit_xor (2 ^ suc i) 1 = is ∙ sym (xor_apart (2 ^ i) 1 1 unit) ∙ sym (ap (λ k. bit_xor k 1) raised) in
      let sum = IsRemainder-sum divisor width _ _ _ _ (power_is (suc i)) (IsRemainder-lower divisor width 1 small) in
      let none_left = remainder_from_divisible divisor width _ (subst (IsDivisible divisor) whole d) in
      let same : times_power divisor width (suc i) 1 ≡ 1 = same_from_xor _ _ (IsRemainder-unique divisor width _ _ _ has sum none_left) in
      none_in_both width 1 (from_x divisor width n) (1 ∷ []) none (subst (λ v. Has v (from_x divisor width n)) same (Has-from_x divisor width n i p.1)) (inl refl)

  not_three : none_differ_by_one divisor width n ≡ true → (half : ℕ) → half < 2 ^ n → count_ones half ≡ 2 → IsDivisible divisor (2 * half + 1) → ⊥
  unfolding none_differ_by_one
  not_three none half short two d =
      let p = two_powers n half short two in
      let i = p.0 in
      let j = p.1 in
      let a = times_power divisor width (suc i) 1 in
      let b = times_power divisor width (suc j) 1 in
      let unit : 1 < 2 ^ 1 = omega arith in
      let is : 2 * half + 1 ≡ bit_xor (2 ^ i) (2 ^ j) * 2 ^ 1 + 1 = omega (arith, p.4) in
      let raised : (k : ℕ) → 2 ^ suc k ≡ 2 ^ k * 2 ^ 1 = λ k. omega (arith, pow-suc 2 k) in
      let whole : 2 * half + 1 ≡ bit_xor (bit_xor (2 ^ suc i) (2 ^ suc j)) 1
      = is ∙ sym (xor_apart (bit_xor (2 ^ i) (2 ^ j)) 1 1 unit)
      ∙ sym (ap (λ k. bit_xor k 1) (ap₂ bit_xor (raised i) (raised j) ∙ xor_times_power (2 ^ i) (2 ^ j) 1)) in
      let sum = IsRemainder-sum divisor width _ _ _ _ (IsRemainder-sum divisor width _ _ _ _ (power_is (suc i)) (power_is (suc j))) (IsRemainder-lower divisor width 1 small) in
      let none_left = remainder_from_divisible divisor width _ (subst (IsDivisible divisor) whole d) in
      let none_of_all : bit_xor (bit_xor a b) 1 ≡ 0 = IsRemainder-unique divisor width _ _ _ has sum none_left in
      let same : a ≡ bit_xor b 1 = same_from_xor a (bit_xor b 1) (sym (xor_assoc a b 1) ∙ none_of_all) in
      none_in_both width a (from_x divisor width n) (plus_one (from_x divisor width n)) none (Has-from_x divisor width n i p.2)
      (subst (λ v. Has v (plus_one (from_x divisor width n))) (sym same) (Has-plus_one b (from_x divisor width n) (Has-from_x divisor width n j p.3)))

  -- so a multiple with at most this number of coefficients has three that are not 0, or four
  pub three_at_least : none_is_one divisor width n ≡ true → (m : ℕ) → 0 < m → m < 2 ^ suc n → IsDivisible divisor m → 3 ≤ count_ones m
  three_at_least none m some short d =
      let l = lowest divisor (suc n) m odd some short d in
      let low : l.half < 2 ^ n = omega (arith, l.short, pow-suc 2 n) in
      elim (cases_lt (count_ones l.half) 1) [
        | inl zero_ones ↦ absurd (not_one l.half (omega arith) l.divisible)
        | inr some_ones ↦ elim (cases_lt (count_ones l.half) 2) [
          | inl one ↦ absurd (not_two none l.half low (omega arith) l.divisible)
          | inr more ↦ omega (arith, l.weight)
        ]
      ]

  pub four_at_least : none_is_one divisor width n ≡ true → none_differ_by_one divisor width n ≡ true
      → (m : ℕ) → 0 < m → m < 2 ^ suc n → IsDivisible divisor m → 4 ≤ count_ones m
  four_at_least none no_two m some short d =
      let l = lowest divisor (suc n) m odd some short d in
      let low : l.half < 2 ^ n = omega (arith, l.short, pow-suc 2 n) in
      let three = three_at_least none m some short d in
      elim (cases_lt (count_ones l.half) 3) [
        | inl two ↦ absurd (not_three no_two l.half low (omega (arith, l.weight)) l.divisible)
        | inr more ↦ omega (arith, l.weight)
      ]
