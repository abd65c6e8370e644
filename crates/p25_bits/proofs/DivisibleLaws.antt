-- Laws of multiples and remainders of polynomials over GF(2). Multiples add up as their quotients do. The only multiple of lower degree is 0, so
-- there is one remainder. It is made one coefficient at a time, and the generator is subtracted if it reaches the generator's degree.
use Rattle.std.proofs.Common.{zero, suc, ◌≡◌, ℕ, suc, ◌+◌, ◌-◌, ◌*◌, ◌/◌, ◌%◌, ◌^◌, ◌<◌, ◌≤◌, inl, inr, Bool, true, false, not, cond, List, [], ◌∷◌, bit_xor, bit_and, eqb, refl, ap, ap₂, sym, ◌∙◌, subst, arith, add-one, mod-eq_of_lt}
use Rattle.std.proofs.{lemmas.Bool.{cases_lt}, lemmas.Nat.{xor_comm, xor_lt, xor_block, xor_shr, shr_high, le-div, pow_pos, shr_split, shr-shr, shr_below, div_below}}
use Rattle.std.proofs.lemmas.Nat.Bits.{shr_and_one}
use Rattle.std.specs.Int.Bits.{xor_assoc, xor_self, xor_zero_l, xor_zero_r}
use Rattle.p25_bits.specs.{Bits.{digit_of, bits_of, field_after}, Divisible.{multiple_of, IsDivisible, HasDegree, IsRemainder}}
use Rattle.p25_bits.proofs.BitsLaws.{digit_of-bit_at, digit_of-le, field_of-after, field_of-bits_of}

-- the middle two of four numbers are exchanged
pub xor_middle : (a b c d : ℕ) → bit_xor (bit_xor a b) (bit_xor c d) ≡ bit_xor (bit_xor a c) (bit_xor b d)
xor_middle a b c d =
    cc (xor_assoc a b _, xor_assoc b c d, xor_comm b c, xor_assoc c b d, xor_assoc a c _)

-- two numbers with one more low digit each
pub xor_doubled : (a b r s : ℕ) → r < 2 → s < 2 → bit_xor (2 * a + r) (2 * b + s) ≡ 2 * bit_xor a b + bit_xor r s
xor_doubled a b r s low lower =
    let right : 2 * b + s ≡ b * 2 ^ 1 + s = omega arith in
    ap₂ bit_xor (omega arith) right ∙ xor_block 1 a b r s low lower ∙ (omega arith)

xor_twice : (a b : ℕ) → bit_xor (2 * a) (2 * b) ≡ 2 * bit_xor a b
xor_twice a b =
    let right : 2 * b ≡ 2 * b + 0 = omega arith in
    let none : 0 < 2 = omega arith in
    ap₂ bit_xor (omega arith) right ∙ xor_doubled a b 0 0 none none ∙ (omega arith)

-- 0 is the multiple by nothing
pub IsDivisible-zero : (generator : ℕ) → IsDivisible generator 0
unfolding multiple_of
IsDivisible-zero generator = record { quotient = []; product = refl }

-- the generator is the multiple by 1
pub IsDivisible-itself : (generator : ℕ) → IsDivisible generator generator
unfolding multiple_of
IsDivisible-itself generator = record { quotient = true ∷ []; product = xor_zero_l generator }

-- a multiple times x is a multiple
pub IsDivisible-doubled : (generator number : ℕ) → IsDivisible generator number → IsDivisible generator (2 * number)
unfolding multiple_of
IsDivisible-doubled generator number d =
    record { quotient = false ∷ d.quotient; product = cc (xor_zero_r _, d.product) }

-- the sum of two coefficients
abbrev added : Bool → Bool → Bool
added true y = not y
added false y = y

-- the sum of two quotients
sum_of : List Bool → List Bool → List Bool
sum_of [] ys = ys
sum_of (x ∷ xs) [] = x ∷ xs
sum_of (x ∷ xs) (y ∷ ys) = added x y ∷ sum_of xs ys

chosen : (x y : Bool) (g : ℕ) → cond (added x y) g 0 ≡ bit_xor (cond x g 0) (cond y g 0)
chosen true true g = sym (xor_self g)
chosen true false g = sym (xor_zero_r g)
chosen false true g = sym (xor_zero_l g)
chosen false false g = sym (xor_self 0)

multiple_of-sum : (generator : ℕ) (p q : List Bool) → multiple_of generator (sum_of p q) ≡ bit_xor (multiple_of generator p) (multiple_of generator q)
unfolding multiple_of sum_of
multiple_of-sum generator [] ys = sym (xor_zero_l (multiple_of generator ys))
multiple_of-sum generator (x ∷ xs) [] = sym (xor_zero_r _)
multiple_of-sum generator (x ∷ xs) (y ∷ ys) =
    ap₂ bit_xor (cc (multiple_of-sum generator xs ys, xor_twice (multiple_of generator xs) (multiple_of generator ys))) (chosen x y generator)
    ∙ xor_middle (2 * multiple_of generator xs) _ _ _

-- the sum of two multiples is a multiple
pub IsDivisible-sum : (generator a b : ℕ) → IsDivisible generator a → IsDivisible generator b → IsDivisible generator (bit_xor a b)
IsDivisible-sum generator a b d e =
    record { quotient = sum_of d.quotient e.quotient; product = multiple_of-sum generator d.quotient e.quotient ∙ ap₂ bit_xor d.product e.product }

-- two numbers with the same highest coefficient differ by one of lower degree
xor_same_top : (degree a b : ℕ) → 2 ^ degree ≤ a → a < 2 ^ suc degree → 2 ^ degree ≤ b → b < 2 ^ suc degree → bit_xor a b < 2 ^ degree
xor_same_top degree a b low below low' below' =
    let left : a ≡ 1 * 2 ^ degree + (a - 2 ^ degree) = omega arith in
    let right : b ≡ 1 * 2 ^ degree + (b - 2 ^ degree) = omega arith in
    let small : a - 2 ^ degree < 2 ^ degree = omega arith in
    let small' : b - 2 ^ degree < 2 ^ degree = omega arith in
    omega (arith, rw xor_block at (ap₂ bit_xor left right), xor_lt degree)

-- nothing is left of a number below the power by which it is divided
none_left : (n k : ℕ) → n < 2 ^ k → n / 2 ^ k ≡ 0
none_left n k below = ap (λ m. m / 2 ^ k) (omega arith) ∙ shr_high 0 k n below

-- a number that reaches a power of two does so whatever of lower degree is added
high_stays : (m c k : ℕ) → 2 ^ k ≤ m → c < 2 ^ k → bit_xor m c < 2 ^ k → ⊥
high_stays m c k high low below =
    let shifted = simp (none_left, xor_zero_r) at (xor_shr m c k) in
    omega (arith, le-div 1)

chosen-lt : (bit : Bool) (g k : ℕ) → g < 2 ^ k → cond bit g 0 < 2 ^ k
chosen-lt true g k h = h
chosen-lt false g k h = pow_pos k

-- the last step of a division leaves 0 if it starts from 0 and its result is of lower degree than the generator
last_coefficient : (generator degree : ℕ) (bit : Bool) → HasDegree generator degree → bit_xor (2 * 0) (cond bit generator 0) < 2 ^ degree → bit_xor (2 * 0) (cond bit generator 0) ≡ 0
last_coefficient generator degree true g small = absurd (omega arith)
last_coefficient generator degree false g small = xor_zero_l 0

-- the only multiple of lower degree is 0
pub lowest_multiple : (generator degree : ℕ) (q : List Bool) → HasDegree generator degree → multiple_of generator q < 2 ^ degree → multiple_of generator q ≡ 0
unfolding multiple_of
lowest_multiple generator degree [] g small = refl
lowest_multiple generator degree (bit ∷ q) g small =
    let M = multiple_of generator q in
    elim (cases_lt M _) [
      | inl low ↦
          let e = ap (λ n. bit_xor (2 * n) (cond bit generator 0)) (lowest_multiple generator degree q g low) in
          e ∙ last_coefficient generator degree bit g (simp e at small)
      | inr high ↦
          absurd (
          high_stays (2 * M) _ _
          (rw add-one (omega arith))
          (chosen-lt bit generator _ g.none_above)
          (rw add-one (omega arith))
          )
    ]

-- the only divisible polynomial of lower degree is 0
pub IsDivisible-lower : (generator degree number : ℕ) → HasDegree generator degree → IsDivisible generator number → number < 2 ^ degree → number ≡ 0
IsDivisible-lower generator degree number g d small =
    sym d.product ∙ lowest_multiple generator degree d.quotient g (rw d.product small)

-- two numbers whose sum is 0 are one
pub same_from_xor : (a b : ℕ) → bit_xor a b ≡ 0 → a ≡ b
same_from_xor a b none =
    cc (xor_zero_r a, xor_self b, xor_assoc a b b)

-- there is one remainder
pub IsRemainder-unique : (generator degree number r s : ℕ) → HasDegree generator degree → IsRemainder generator degree number r → IsRemainder generator degree number s → r ≡ s
IsRemainder-unique generator degree number r s g first second =
    let e = xor_middle number r number s ∙ simp xor_self in
    same_from_xor r s (IsDivisible-lower generator degree _ g (simp e at (IsDivisible-sum generator _ _ first.divisible second.divisible)) (xor_lt degree r s first.lower second.lower))

-- a polynomial is divisible exactly if its remainder is 0
pub divisible_from_remainder : (generator degree number : ℕ) → IsRemainder generator degree number 0 → IsDivisible generator number
divisible_from_remainder generator degree number r = simp xor_zero_r at r.divisible

pub remainder_from_divisible : (generator degree number : ℕ) → IsDivisible generator number → IsRemainder generator degree number 0
remainder_from_divisible generator degree number d = record { lower = pow_pos degree; divisible = rw (xor_zero_r number) d }

-- a polynomial of lower degree is its own remainder
pub IsRemainder-lower : (generator degree number : ℕ) → number < 2 ^ degree → IsRemainder generator degree number number
IsRemainder-lower generator degree number small =
    record { lower = small; divisible = rw (xor_self number) (IsDivisible-zero generator) }

-- one more coefficient: the sum of both sides is doubled
next_sum : (number r digit : ℕ) → digit < 2 → bit_xor (2 * number + digit) (2 * r + digit) ≡ 2 * bit_xor number r
next_sum number r digit small = simp (xor_doubled, xor_self) (omega arith)

-- one more coefficient, if the register stays of lower degree than the generator
pub remainder_kept : (generator degree number r digit : ℕ) → digit < 2
    → IsRemainder generator degree number r → 2 * r + digit < 2 ^ degree → IsRemainder generator degree (2 * number + digit) (2 * r + digit)
remainder_kept generator degree number r digit small is low =
    record { lower = low; divisible = rw (next_sum number r digit small) (IsDivisible-doubled generator _ is.divisible) }

-- a register that reaches the generator's degree falls below it
pub remainder_lower : (generator degree r digit : ℕ) → HasDegree generator degree → digit < 2 → r < 2 ^ degree → 2 ^ degree ≤ 2 * r + digit → bit_xor (2 * r + digit) generator < 2 ^ degree
remainder_lower generator degree r digit g small lower high =
    let e : degree + 1 ≡ suc degree = omega arith in
    xor_same_top degree _ generator high (omega arith) g.highest (simp e at g.none_above)

-- one more coefficient, if the register reaches the degree of the generator
pub remainder_reduced : (generator degree number r digit : ℕ) → HasDegree generator degree → digit < 2 → IsRemainder generator degree number r → 2 ^ degree ≤ 2 * r + digit
    → IsRemainder generator degree (2 * number + digit) (bit_xor (2 * r + digit) generator)
remainder_reduced generator degree number r digit g small is high =
    let doubled = rw (← next_sum number r digit small) at (IsDivisible-doubled generator _ is.divisible) in
    record {
      lower = remainder_lower generator degree r digit g small is.lower high;
      divisible = rw (xor_assoc _ _ generator) at (IsDivisible-sum generator _ generator doubled (IsDivisible-itself generator));
    }

-- the quotient by a power of two is 1 exactly if the number is between it and its double
pub reaches : (n k : ℕ) → n / 2 ^ k ≡ 1 → 2 ^ k ≤ n
reaches n k one =
    let once : n / 2 ^ k * 2 ^ k ≡ 1 * 2 ^ k = simp one in
    omega arith

pub stays_low : (n k : ℕ) → n < 2 ^ suc k → (n / 2 ^ k ≡ 1 → ⊥) → n < 2 ^ k
stays_low n k below other =
    elim (cases_lt n _) [
      | inl low ↦ low
      | inr high ↦
          let some = le-div 1 n _ (pow_pos k) (omega arith) in
          let few = div_below n _ 2 (pow_pos k) (omega arith) in
          absurd (other (omega arith))
    ]

-- the high part of a number with one more bit
pub high_more : (number k : ℕ) → k < 64 → number / 2 ^ (64 - (k + 1)) ≡ 2 * (number / 2 ^ (64 - k)) + digit_of (eqb (bit_and (number / 2 ^ (63 - k)) 1) 1)
high_more number k h =
    let low : 64 - (k + 1) ≡ 63 - k = omega arith in
    let next : (63 - k) + 1 ≡ 64 - k = omega arith in
    let n = number / 2 ^ (63 - k) in
    let digit : digit_of (eqb (bit_and n 1) 1) ≡ n % 2 = simp (shr_and_one, digit_of-bit_at) in
    simp low (omega (arith, shr_split n 1, shr-shr number _ 1 ∙ ap (λ j. number / 2 ^ j) next, digit))

-- the highest coefficients of a number of 64 bits, as many as the degree, are their own remainder
pub IsRemainder-highest : (generator degree number : ℕ) → degree < 63 → number < 2 ^ 64 → IsRemainder generator degree (number / 2 ^ (64 - degree)) (number / 2 / 2 ^ (63 - degree))
IsRemainder-highest generator degree number fits small =
    let whole : 64 ≡ degree + (64 - degree) = omega arith in
    subst (IsRemainder generator degree _) (sym (shr-shr number 1 _ ∙ ap (λ n. number / 2 ^ n) (omega arith)))
    (IsRemainder-lower generator degree _ (shr_below number degree _ (subst (λ n. number < 2 ^ n) whole small)))

-- a sum of two numbers that share no bit
pub xor_apart : (high k low : ℕ) → low < 2 ^ k → bit_xor (high * 2 ^ k) low ≡ high * 2 ^ k + low
xor_apart high k low small =
    let right : low ≡ 0 * 2 ^ k + low = omega arith in
    ap₂ bit_xor (omega arith) right ∙ xor_block k high 0 0 low (pow_pos k) small ∙ simp (xor_zero_r, xor_zero_l)

-- some remainder after one more coefficient
more_remainder : (generator degree number r : ℕ) (bit : Bool)
    → HasDegree generator degree → IsRemainder generator degree number r → (s : ℕ) × IsRemainder generator degree (2 * number + digit_of bit) s
more_remainder generator degree number r bit g is =
    let small : digit_of bit < 2 = omega (arith, digit_of-le) in
    elim (cases_lt _ _) [
      | inl low ↦ (2 * r + digit_of bit, remainder_kept generator degree number r _ small is low)
      | inr high ↦ (bit_xor _ generator, remainder_reduced generator degree number r _ g small is high)
    ]

some_remainder_after : (generator degree : ℕ) → HasDegree generator degree
    → (bits : List Bool) (number r : ℕ) → IsRemainder generator degree number r → (s : ℕ) × IsRemainder generator degree (field_after number bits) s
unfolding field_after
some_remainder_after generator degree g [] number r is = (r, is)
some_remainder_after generator degree g (bit ∷ bits) number r is =
    let next = more_remainder generator degree number r bit g is in
    some_remainder_after generator degree g bits _ next.0 next.1

-- a number is below the power of two of itself
lt-two_pow : (number : ℕ) → number < 2 ^ number
lt-two_pow zero = omega arith
lt-two_pow (suc number) = omega (arith, lt-two_pow number)

-- each polynomial has a remainder
pub some_remainder : (generator degree number : ℕ) → HasDegree generator degree → (r : ℕ) × IsRemainder generator degree number r
some_remainder generator degree number g =
    let some = some_remainder_after generator degree g (bits_of number number) 0 0 (IsRemainder-lower generator degree 0 (pow_pos degree)) in
    (some.0, subst (λ n. IsRemainder generator degree n some.0) (rw (← field_of-after, field_of-bits_of) (mod-eq_of_lt (lt-two_pow number))) some.1)
