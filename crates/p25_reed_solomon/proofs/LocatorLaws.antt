-- A solution of the key equation of the reduced syndromes, times a factor for each erasure, is a locator. Positions of errors without an erasure are zeros of the key's locator, which have slopes, because key and evaluator have no zero
-- in common. One more factor keeps the slopes of old zeros and makes a new zero with a slope.
use Rattle.std.proofs.Common.{◌≡◌, ◌≢◌, ℕ, zero, suc, ◌+◌, ◌-◌, ◌*◌, ◌/◌, ◌<◌, ◌≤◌, Bool, false, List, length, take, drop, sym, ap, ◌∙◌, inl, inr, arith}
use Rattle.std.proofs.{lemmas.Bool.{cases_eq, cases_lt, cases_Bool, both_ways}, lemmas.List.{get_or-take, get_or-drop, length-take, length-drop}}
use Rattle.p25_gf64.specs.{declared.symbol.Sym.{Sym}, Field.{power}, Gf64.{gf64}}
use Rattle.p25_gf64.proofs.{PowerLaws.{power-zero}, FieldLaws.{add_comm, zero_add, mul_comm, mul_one, mul_zero, zero_mul, inverse_ne_zero}}
use Rattle.p25_algebra.specs.{Sums.{power_sum, nonzeros}, Series.{coefficient, value_at, product_at, shifted, slope_at, IsZero, IsShort}}
use Rattle.p25_algebra.proofs.{SumLaws.{sum_of_one}, ValueLaws.{value-none, value_same}, ProductLaws.{product_agree, product_same, product_same_left, product_comm, product_first, product_at_zero}}
use Rattle.p25_algebra.proofs.{ProductValueLaws.{value_longer}, QuotientLaws.{shifted-first, shifted-next, slope_longer}, LocatorLaws.{locator_vanishes}, ForneyLaws.{forney}}
use Rattle.p25_poly.specs.{declared.polynomial.Poly.{Poly}, Polynomial.{coefficient_of}, Key.{IsKey}}
use Rattle.p25_poly.proofs.CoefficientLaws.{coefficient_past}
use Rattle.p25_reed_solomon.specs.{ElementLaws.{elements_apart, element_ne_zero}, Errors.{element_of, point_of, is_erased, erased_below, Explains}, Locator.{times_erasures, IsLocator}}
use Rattle.p25_reed_solomon.proofs.ErasuresLaws.{short_times_erasures, zero_from_times_erasures, product-times_erasures, IsTimes, times, lowered_by, lowered_sums, lowered_zero, lowered_gone, lowered_kept, nonzeros-lowered}

point_ne_zero : (n j : ℕ) → point_of n j ≢ gf64.zero
point_ne_zero n j = inverse_ne_zero gf64 _ (element_ne_zero n j)

-- functions of equal values are equal
pub same_function : (f g : ℕ → Sym) → ((i : ℕ) → f i ≡ g i) → f ≡ g
same_function f g e = λ i k. e k i

-- the first 32 coefficients of a short polynomial are all
pub front_everywhere : (m : ℕ) (f : ℕ → Sym) (out : List Sym) → length out ≡ 32 → IsShort gf64 m f → m ≤ 32 → ((k : ℕ) → k < 32 → coefficient gf64 out k ≡ f k) → (k : ℕ) → coefficient gf64 out k ≡ f k
front_everywhere m f out full short low is k =
    elim (cases_lt k 32) [ inl below ↦ is k below | inr above ↦ coefficient_past gf64 out k (omega arith) ∙ sym (short.above k (omega arith)) ]

-- a part of a list
pub part_read : (symbols : List Sym) (from count r : ℕ) → r < count → coefficient gf64 (take count (drop from symbols)) r ≡ coefficient gf64 symbols (from + r)
part_read symbols from count r low = simp (get_or-take, get_or-drop)

-- without symbols the solution of the key equation is 1
pub key_of_none : (symbols : List Sym) (locator evaluator : Poly) → length symbols ≡ 0
    → coefficient_of locator 0 ≡ gf64.one → ((k : ℕ) → 1 ≤ k → coefficient_of locator k ≡ gf64.zero) → IsZero gf64 (coefficient_of evaluator)
    → IsKey symbols locator evaluator
key_of_none symbols locator evaluator none one others zeros = record {
  nonzero = λ all. gf64.laws.one_ne_zero (sym one ∙ all 0);
  locator_degree = record { above = λ i high. others i (omega (arith, none)) };
  evaluator_degree = record { above = λ i high. zeros i };
  equation = λ i low. absurd (omega arith);
  apart = λ x live there also.
      gf64.laws.one_ne_zero (
      sym one
      ∙ sym (mul_one gf64 (coefficient_of locator 0))
      ∙ ap (gf64.mul (coefficient_of locator 0)) (sym (power-zero gf64 x))
      ∙ sym (sum_of_one gf64 64 0 (λ i. gf64.mul (coefficient_of locator i) (power gf64 x i))
      (omega arith) (λ i low other. ap (λ w. gf64.mul w (power gf64 x i)) (others i (omega arith)) ∙ zero_mul gf64 (power gf64 x i)))
      ∙ there);
}

-- one coefficient of the lowered syndromes more
pub evaluator_step : (i most : ℕ) (f t old new : ℕ → Sym) (factor : Sym) → most ≤ 32 → factor ≡ t i → ((k : ℕ) → k < 32 → new k ≡ gf64.add (shifted gf64 1 old k) (gf64.mul factor (f k)))
    → ((k : ℕ) → k + suc i < most → old k ≡ product_at gf64 f (λ r. t (suc i + r)) k) → (k : ℕ) → k + i < most → new k ≡ product_at gf64 f (λ r. t (i + r)) k
evaluator_step i most f t old new factor few is added before zero low =
    let first : i + 0 ≡ i = omega arith in
    cc (added 0 (omega arith), shifted-first gf64 old, mul_comm gf64 factor (f 0), is, first, zero_add gf64 (gf64.mul (f 0) _), product_at_zero gf64 f _)
evaluator_step i most f t old new factor few is added before (suc k) low =
    let first : i + 0 ≡ i = omega arith in
    cc (
      added (suc k) (omega arith),
      add_comm gf64 (shifted gf64 1 old (suc k)) (gf64.mul factor _),
      is,
      first,
      shifted-next gf64 old k,
      before k (omega arith),
      product_same gf64 f _ _ (λ r. ap t (next r)) k,
      product_comm gf64 f _ k,
      product_first gf64 _ f k,
      product_comm gf64 f _ (suc k),
    )
  where
    next : (r : ℕ) → suc i + r ≡ i + suc r
    next r = omega arith

module _ (n checks half : ℕ) (syndromes symbols : List Sym) (erased : List Bool) (locator evaluator : Poly)
    (places : n ≤ 63) (few : checks ≤ 22) (some : 1 ≤ half + erased_below erased n) (fits : erased_below erased n + 2 * half ≤ checks)
    (all : checks ≤ erased_below erased n + 2 * half + 1) (long : length symbols ≡ 2 * half) (is : (r : ℕ) → r < 2 * half
    → coefficient gf64 symbols r ≡ times_erasures n erased n (coefficient gf64 syndromes) (erased_below erased n + r)) (key : IsKey symbols locator evaluator) where
  halved : length symbols / 2 ≡ half
  halved = omega (arith, long)

  pub key_short : IsShort gf64 (half + 1) (coefficient_of locator)
  key_short = rw halved at key.locator_degree

  evaluator_short : IsShort gf64 half (coefficient_of evaluator)
  evaluator_short = rw halved at key.evaluator_degree

  with_erasures : IsTimes n erased (half + 1) (coefficient_of locator) n (half + 1 + erased_below erased n) (times_erasures n erased n (coefficient_of locator))
  with_erasures = times n erased (half + 1) _ key_short (omega arith) places n (omega arith)

  -- the key's locator and the evaluator have no zero in common
  apart : (z : Sym) → z ≢ gf64.zero → value_at gf64 (half + 1) (coefficient_of locator) z ≡ gf64.zero → value_at gf64 half (coefficient_of evaluator) z ≢ gf64.zero
  apart z live none also =
      key.apart z live (value_longer gf64 (half + 1) 64 _ z (omega (arith, fits, few)) key_short ∙ none)
      (value_longer gf64 half 64 _ z (omega (arith, fits, few)) evaluator_short ∙ also)

  -- ---- errors that explain the syndromes

  module _ (errors : ℕ → Sym) (explains : Explains n checks syndromes erased errors) where
    left : ℕ → Sym
    left = lowered_by n erased n errors

    few_left : nonzeros gf64 n left ≤ half
    unfolding left
    few_left = omega (arith, nonzeros-lowered, explains.few, all)

    sums_left : (i : ℕ) → i < 2 * half → coefficient gf64 symbols i ≡ power_sum gf64 n (element_of n) left (i + 1)
    unfolding left
    sums_left i low = is i low ∙ sym (lowered_sums n erased checks _ errors explains.sums n i (omega (arith, fits)))

    key_vanishes : (l : ℕ) → l < n → left l ≢ gf64.zero → value_at gf64 (half + 1) (coefficient_of locator) (point_of n l) ≡ gf64.zero
    key_vanishes l inside other =
        locator_vanishes gf64 n half _ left _ (coefficient gf64 symbols) (elements_apart n places) (λ j h. element_ne_zero n j) few_left key_short sums_left
        (λ i low high. key.equation i (omega (arith, long)) ∙ evaluator_short.above i low) l inside other

    -- a zero of the key's locator is a position with an error and without an erasure, and has a slope
    key_zero : (j : ℕ) → j < n → value_at gf64 (half + 1) (coefficient_of locator) (point_of n j) ≡ gf64.zero
        → (left j ≢ gf64.zero) × (slope_at gf64 (half + 1) (coefficient_of locator) (point_of n j) ≢ gf64.zero)
    key_zero j inside none =
        elim (cases_eq half 0) [
          | inl nothing ↦ absurd (apart _ (point_ne_zero n j) none
              (cc (nothing, value-none gf64 (coefficient_of evaluator) _)))
          | inr something ↦
              let product = forney gf64 n half (element_of n) left (coefficient_of locator) (coefficient gf64 symbols) (omega arith) (elements_apart n places) (λ l h. element_ne_zero n l) key_short
              (λ i low. sums_left i (omega arith)) key_vanishes j inside none in
              let value = value_same gf64 half _
              (coefficient_of evaluator) (point_of n j) (λ i low. key.equation i (omega (arith, long))) in (
                (λ gone. apart (point_of n j) (point_ne_zero n j) none (cc (value, product, gone, zero_mul gf64 (slope_at gf64 (half + 1) (coefficient_of locator) (point_of n j))))),
                (λ flat. apart (point_of n j) (point_ne_zero n j) none (cc (value, product, flat, mul_zero gf64 (left j)))),
              )
        ]

    -- a zero of the key's locator is not erased
    key_slope : (j : ℕ) → j < n → value_at gf64 (half + 1) (coefficient_of locator) (point_of n j) ≡ gf64.zero
        → (is_erased erased j ≡ false) × (slope_at gf64 (half + 1) (coefficient_of locator) (point_of n j) ≢ gf64.zero)
    unfolding left
    key_slope j inside none = (
      elim (cases_Bool (is_erased erased j)) [ inl here ↦ absurd ((key_zero j inside none).0 (lowered_gone n erased n errors j inside here)) | inr kept ↦ kept ],
      (key_zero j inside none).1,
    )

    -- positions with an error are zeros
    wrong : (j : ℕ) → j < n → errors j ≢ gf64.zero → value_at gf64 (half + 1 + erased_below erased n) (times_erasures n erased n (coefficient_of locator)) (point_of n j) ≡ gf64.zero
    unfolding left
    wrong j inside other =
        elim (cases_Bool _) [
          | inl here ↦ with_erasures.gone j inside here
          | inr kept ↦ with_erasures.stays _ (key_vanishes j inside (lowered_kept n erased n errors j places (omega arith) inside kept other))
        ]

    -- a zero without an erasure is a position with an error
    zero_is_wrong : (j : ℕ) → j < n → is_erased erased j ≡ false
        → value_at gf64 (half + 1 + erased_below erased n) (times_erasures n erased n (coefficient_of locator)) (point_of n j) ≡ gf64.zero → errors j ≢ gf64.zero
    unfolding left
    zero_is_wrong j inside kept none right =
        (key_zero j inside (with_erasures.other j inside (λ gone. absurd (both_ways _ kept gone)) none)).0 (lowered_zero n erased n errors j right)

    -- the error at a zero, for any bound of the degree
    error_there : (m : ℕ) (e : ℕ → Sym) → 1 ≤ m → m ≤ half + erased_below erased n → IsShort gf64 (m + 1) (times_erasures n erased n (coefficient_of locator))
        → ((k : ℕ) → k < half + erased_below erased n → e k ≡ product_at gf64 (coefficient_of locator) (times_erasures n erased n (coefficient gf64 syndromes)) k) → (j : ℕ) → j < n
        → value_at gf64 (m + 1) (times_erasures n erased n (coefficient_of locator)) (point_of n j) ≡ gf64.zero
        → gf64.mul (errors j) (slope_at gf64 (m + 1) (times_erasures n erased n (coefficient_of locator)) (point_of n j)) ≡ value_at gf64 m e (point_of n j)
    error_there m e positive bound short is_product j inside none =
        let f = times_erasures n erased n (coefficient_of locator) in
        forney gf64 n m (element_of n) errors f _ positive (elements_apart n places) (λ l h. element_ne_zero n l) short
        (λ i low. sym (explains.sums i (omega (arith, fits)))) (λ l low other.
        sym (value_longer gf64 _ (half + 1 + erased_below erased n) f _ (omega arith) short) ∙ wrong l low other) j inside none
        ∙ value_same gf64 m _ e _
        (λ k low. product-times_erasures n erased n (coefficient_of locator) (coefficient gf64 syndromes) k ∙ sym (is_product k (omega arith)))

  -- the product with the factors of the erasures is a locator, for any bound of its degree
  pub key_is_locator : (m : ℕ) (f e : ℕ → Sym) → 1 ≤ m → m ≤ half + erased_below erased n → IsShort gf64 (m + 1) f → ((k : ℕ) → f k ≡ times_erasures n erased n (coefficient_of locator) k)
      → ((k : ℕ) → k < half + erased_below erased n → e k ≡ product_at gf64 (coefficient_of locator) (times_erasures n erased n (coefficient gf64 syndromes)) k)
      → IsLocator n checks syndromes erased m f e
  key_is_locator m f e positive bound short_f is_f is_e =
      rw (same_function f _ is_f)
      (record {
        short = short;
        nonzero = λ none. key.nonzero (zero_from_times_erasures n erased n _ none);
        gone = λ j inside here. sized j ∙ with_erasures.gone j inside here;
        wrong = λ errors explains j inside other. sized j ∙ wrong errors explains j inside other;
        slope = λ errors explains j inside none flat. with_erasures.simple j inside (key_slope errors explains j inside) (sym (sized j) ∙ none)
            (slope_longer gf64 _ (half + 1 + erased_below erased n) _ _ (omega arith) short ∙ flat);
        value = λ errors explains j inside none. error_there errors explains m e positive bound short is_e j inside none;
        found = λ errors explains j inside kept none. zero_is_wrong errors explains j inside kept (sym (sized j) ∙ none);
      })
    where
      short : IsShort gf64 (m + 1) (times_erasures n erased n (coefficient_of locator))
      short = record { above = λ i high. sym (is_f i) ∙ short_f.above i high }

      sized : (j : ℕ) → value_at gf64 (m + 1) (times_erasures n erased n (coefficient_of locator)) (point_of n j)
          ≡ value_at gf64 (half + 1 + erased_below erased n) (times_erasures n erased n (coefficient_of locator)) (point_of n j)
      sized j = sym (value_longer gf64 _ (half + 1 + erased_below erased n) _ _ (omega arith) short)

  -- before any coefficient of the lowered syndromes is added, the evaluator is that of the key
  pub evaluator_first : (e : ℕ → Sym) → ((k : ℕ) → k < 32 → e k ≡ coefficient_of evaluator k) → (k : ℕ) → k + erased_below erased n < half + erased_below erased n
      → e k ≡ product_at gf64 (coefficient_of locator) (λ r. times_erasures n erased n (coefficient gf64 syndromes) (erased_below erased n + r)) k
  evaluator_first e is_e k low =
      is_e k (omega (arith, fits, few))
      ∙ sym (key.equation k (omega (arith, long)))
      ∙ product_agree gf64 _ (coefficient gf64 symbols)
      _ k (λ i within. is i (omega arith))

-- ---- the locator as the code has it: lists of 32 coefficients

module _ (n checks erasures half : ℕ) (syndromes lowered front : List Sym) (erased : List Bool)
    (locator evaluator : Poly) (places : n ≤ 63) (is_erasures : erasures ≡ erased_below erased n) (within : erasures ≤ checks) (some : 2 ≤ checks)
    (few : checks ≤ 22) (is_half : half ≡ (checks - erasures) / 2) (lowered_full : length lowered ≡ 32)
    (is_lowered : (k : ℕ) → k < 32 → coefficient gf64 lowered k ≡ times_erasures n erased n (coefficient gf64 syndromes) k)
    (key : IsKey (take (erasures + 2 * half - erasures) (drop erasures lowered)) locator evaluator)
    (front_full : length front ≡ 32) (is_front : (k : ℕ) → k < 32 → coefficient gf64 front k ≡ coefficient_of locator k) where
  symbols : List Sym
  symbols = take (erasures + 2 * half - erasures) (drop erasures lowered)

  long : length symbols ≡ 2 * half
  unfolding symbols
  long = omega (arith, length-take (erasures + 2 * half - erasures) (drop erasures lowered), length-drop erasures lowered)

  is : (r : ℕ) → r < 2 * half → coefficient gf64 symbols r ≡ times_erasures n erased n (coefficient gf64 syndromes) (erased_below erased n + r)
  unfolding symbols
  is r low =
      cc (part_read lowered erasures (erasures + 2 * half - erasures) r (omega arith), is_lowered (erasures + r) (omega arith), is_erasures)

  short : IsShort gf64 (half + 1) (coefficient_of locator)
  unfolding symbols
  short = key_short n checks half syndromes symbols erased locator evaluator places few (omega arith) (omega arith) (omega arith) long is key

  front_is : (k : ℕ) → coefficient gf64 front k ≡ coefficient_of locator k
  front_is = front_everywhere (half + 1) _ front front_full short (omega arith) is_front

  pub located_first : (e : List Sym) → ((k : ℕ) → k < 32 → coefficient gf64 e k ≡ coefficient_of evaluator k) → (k : ℕ) → k + erasures < half + erasures
      → coefficient gf64 e k ≡ product_at gf64 (coefficient gf64 front) (λ r. times_erasures n erased n (coefficient gf64 syndromes) (erasures + r)) k
  unfolding symbols
  located_first e is_e k low =
      evaluator_first n checks half syndromes symbols erased locator evaluator places few (omega arith) (omega arith) (omega arith) long is key _ is_e k (omega arith)
      ∙ ap (λ m. product_at gf64 (coefficient_of locator) (λ r. times_erasures n erased n (coefficient gf64 syndromes) (m + r)) k) (sym is_erasures)
      ∙ product_same_left gf64 (coefficient_of locator) (coefficient gf64 front) (λ r. times_erasures n erased n (coefficient gf64 syndromes) (erasures + r)) (λ i. sym (front_is i)) k

  pub located : (m : ℕ) (new e : List Sym) (i : ℕ) → i ≡ 0 → length new ≡ 32 → 1 ≤ m → IsShort gf64 (m + 1) (coefficient gf64 new)
      → ((k : ℕ) → 1 ≤ k → IsShort gf64 (k + 1) (coefficient gf64 new) → m ≤ k)
      → ((k : ℕ) → k < 32 → coefficient gf64 new k ≡ times_erasures n erased n (coefficient gf64 front) k)
      → ((k : ℕ) → k + i < half + erasures → coefficient gf64 e k ≡ product_at gf64 (coefficient gf64 front) (λ r. times_erasures n erased n (coefficient gf64 syndromes) (i + r)) k)
      → IsLocator n checks syndromes erased m (coefficient gf64 new) (coefficient gf64 e) × (m ≤ half + erasures)
  unfolding symbols
  located m new e i none new_full positive short_new least is_new is_e = (
    key_is_locator n checks half syndromes symbols erased locator evaluator places few (omega arith)
        (omega arith) (omega arith) long is key m (coefficient gf64 new) (coefficient gf64 e) positive (omega (arith, bound)) short_new everywhere
        (λ k low.
        is_e k (omega arith)
        ∙ product_same_left gf64 (coefficient gf64 front) (coefficient_of locator) (λ r. times_erasures n erased n (coefficient gf64 syndromes) (i + r)) front_is k
        ∙ product_same gf64 (coefficient_of locator) (λ r. times_erasures n erased n (coefficient gf64 syndromes) (i + r)) (times_erasures n erased n (coefficient gf64 syndromes))
        (λ r. ap (times_erasures n erased n (coefficient gf64 syndromes)) (at r)) k),
    bound,
  )
    where
      at : (r : ℕ) → i + r ≡ r
      at r = omega arith

      whole : IsShort gf64 (half + 1 + erased_below erased n) (times_erasures n erased n (coefficient_of locator))
      whole = short_times_erasures n erased (half + 1) n (coefficient_of locator) short

      everywhere : (k : ℕ) → coefficient gf64 new k ≡ times_erasures n erased n (coefficient_of locator) k
      everywhere =
          front_everywhere (half + 1 + erased_below erased n) (times_erasures n erased n (coefficient_of locator)) new new_full whole (omega arith)
          (λ k low. is_new k low ∙ ap (λ (g : ℕ → Sym). times_erasures n erased n g k) (same_function (coefficient gf64 front) (coefficient_of locator) front_is))

      bound : m ≤ half + erasures
      bound = least (half + erasures) (omega arith) (record { above = λ k high. everywhere k ∙ whole.above k (omega arith) })
