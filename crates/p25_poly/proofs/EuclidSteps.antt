-- The steps of Euclid's algorithm keep its pair of sides. Facts about each coefficient are shown coefficient by coefficient. The crosswise sum is
-- shown by values, so no product of the two sides is needed.
use Rattle.std.proofs.{Common.{◌≡◌, ◌≢◌, ℕ, ◌+◌, ◌-◌, ◌*◌, ◌/◌, ◌<◌, ◌≤◌, List, length, sym, ap, ap₂, ◌∙◌, inl, inr, arith}, lemmas.Bool.{cases_eq, cases_lt}}
use Rattle.p25_gf64.specs.{declared.symbol.Sym.{Sym}, Field.{Field, power}, Gf64.{gf64}}
use Rattle.p25_gf64.proofs.FieldLaws.{add_comm, add_assoc, add_zero, add_self, add_twice, mul_comm, mul_assoc, mul_left_comm, mul_one, one_mul, mul_add, add_mul, mul_zero, zero_mul, mul_inverse}
use Rattle.p25_gf64.proofs.PowerLaws.{power-zero, power_of_one, power_ne_zero}
use Rattle.p25_algebra.specs.Series.{coefficient, value_at, product_at, shifted, IsZero, IsShort}
use Rattle.p25_algebra.proofs.{SumLaws.{sum_of_one}, ValueLaws.{value_same, value_of_zeros}}
use Rattle.p25_algebra.proofs.ProductLaws.{shifted_below, shifted_from, shifted_agree, product_same_left, product_comm, product-add_left, product-mul_left, product-shifted, product_monomial, product_zero}
use Rattle.p25_algebra.proofs.ProductValueLaws.{value-add, value-mul, value_longer, value-shifted}
use Rattle.p25_poly.specs.{declared.polynomial.Poly.{Poly}, declared.side.Side.{Side}, Polynomial.{coefficient_of}, Euclid.{behind, IsPadded, IsPair, IsMoved, IsReduced}, Key.{IsKey}}
use Rattle.p25_poly.proofs.CoefficientLaws.{coefficient_past}

module _ {F : Type 0} (K : Field F) where
  open K use {zero as 𝟘, one as 𝟙, add as ◌⊕◌, mul as ◌⊗◌}

  infixl 65 ◌⊕◌
  infixl 70 ◌⊗◌
  -- a product with a multiple, moved up, added to one factor
  product-gained : (f g e h : ℕ → F) (c : F) (s n : ℕ) → ((k : ℕ) → e k ≡ f k ⊕ c ⊗ shifted K s g k) → product_at K e h n ≡ product_at K f h n ⊕ c ⊗ shifted K s (product_at K g h) n
  product-gained f g e h c s n gained =
      cc (product_same_left K e _ h gained n, product-add_left K f (λ k. c ⊗ shifted K s g k) h n, product-mul_left K c (shifted K s g) h n, product-shifted K s g h n)

  pub short_longer : (m n : ℕ) (f : ℕ → F) → m ≤ n → IsShort K m f → IsShort K n f
  short_longer m n f fits short = record { above = λ i high. short.above i (omega arith) }

  short-gained : (m p s : ℕ) (f g h : ℕ → F) (c : F) → IsShort K m f → IsShort K p g → s + p ≤ m → ((k : ℕ) → h k ≡ f k ⊕ c ⊗ shifted K s g k) → IsShort K m h
  short-gained m p s f g h c short_f short_g fits gained = record { above = above }
    where
      above : (k : ℕ) → m ≤ k → h k ≡ 𝟘
      above k high =
          gained k
          ∙ ap₂ (λ a b. a ⊕ c ⊗ b) (short_f.above k high) (shifted_from K s g k (omega arith) ∙ short_g.above (k - s) (omega arith))
          ∙ ap (λ w. 𝟘 ⊕ w) (mul_zero K c)
          ∙ add_zero K 𝟘

  value-gained : (size p s : ℕ) (f g h : ℕ → F) (c x : F) → IsShort K p g
      → s + p ≤ size → ((k : ℕ) → h k ≡ f k ⊕ c ⊗ shifted K s g k) → value_at K size h x ≡ value_at K size f x ⊕ c ⊗ (power K x s ⊗ value_at K size g x)
  value-gained size p s f g h c x short fits gained =
      cc (
        value_same K size h _ x (λ k low. gained k),
        value-add K size f (λ k. c ⊗ shifted K s g k) x,
        value-mul K size c (shifted K s g) x,
        value-shifted K s p size g x short fits,
        value_longer K p size g x (omega arith) short,
      )

  -- a term that is added to both products cancels
  crossed : (v a u b c p : F) → v ⊗ (a ⊕ c ⊗ (p ⊗ b)) ⊕ (u ⊕ c ⊗ (p ⊗ v)) ⊗ b ≡ v ⊗ a ⊕ u ⊗ b
  crossed v a u b c p =
      ap₂ ◌⊕◌ (mul_add K v a (c ⊗ (p ⊗ b))) (add_mul K u (c ⊗ (p ⊗ v)) b)
      ∙ ap (λ w. v ⊗ a ⊕ v ⊗ (c ⊗ (p ⊗ b)) ⊕ (u ⊗ b ⊕ w)) (same v b)
      ∙ regroup (v ⊗ a) (v ⊗ (c ⊗ (p ⊗ b))) (u ⊗ b)
    where
      same : (v b : F) → c ⊗ (p ⊗ v) ⊗ b ≡ v ⊗ (c ⊗ (p ⊗ b))
      same v b = simp (mul_assoc K, mul_left_comm K)

      regroup : (q t r : F) → q ⊕ t ⊕ (r ⊕ t) ≡ q ⊕ r
      regroup q t r =
          add_assoc K q t (r ⊕ t) ∙ ap (λ w. q ⊕ w) (ap (λ w. t ⊕ w) (add_comm K r t) ∙ add_twice K t r)

  -- a multiple takes the leading coefficient
  taken : (a b : F) → b ≢ 𝟘 → a ⊕ a ⊗ K.inverse b ⊗ b ≡ 𝟘
  taken a b live =
      simp (mul_assoc, mul_comm, mul_inverse, mul_one, add_self)

  -- the value of a power of x
  value_of_power : (n k : ℕ) (f : ℕ → F) (x : F) → k < n → f k ≡ 𝟙 → ((i : ℕ) → i ≢ k → f i ≡ 𝟘) → value_at K n f x ≡ power K x k
  value_of_power n k f x inside one others =
      cc (sum_of_one K n k _ inside (λ i low apart. ap (λ w. w ⊗ power K x i) (others i apart) ∙ zero_mul K _), one_mul K (power K x k))

-- ---- moved lists

behind_past : (symbols : List Sym) (k : ℕ) → length symbols ≡ 64 → 32 ≤ k → behind symbols k ≡ gf64.zero
behind_past symbols k full high = coefficient_past gf64 symbols _ (omega arith)

-- a part of a padded list is the list moved up
moved_part : (symbols : List Sym) (s k : ℕ) → IsPadded symbols → s ≤ 32 → k < 32 → coefficient gf64 symbols (32 + k - s) ≡ shifted gf64 s (behind symbols) k
moved_part symbols s k padded fits low =
    elim (cases_lt k s) [
      | inl below ↦ padded.blank _ (omega arith) ∙ sym (shifted_below gf64 s (behind symbols) k below)
      | inr from ↦
          ap (coefficient gf64 symbols) (omega arith) ∙ sym (shifted_from gf64 s (behind symbols) k from)
    ]

moved_everywhere : (c : Sym) (s p last : ℕ) (old other new : List Sym) → IsPadded other → IsShort gf64 p (behind other) → s + p ≤ last → last ≤ 32 → IsMoved 0 last c s old other new → (k : ℕ)
    → behind new k ≡ gf64.add (behind old k) (gf64.mul c (shifted gf64 s (behind other) k))
moved_everywhere c s p last old other new padded short fits most moved k =
    elim (cases_lt k last) [
      | inl low ↦ cc (moved.sum k (omega arith) low, moved_part other s k padded (omega arith) (omega arith))
      | inr high ↦
          cc (moved.after k high, add_zero gf64 (behind old k), mul_zero gf64 c, short.above (k - s) (omega arith), shifted_from gf64 s (behind other) k (omega arith))
    ]

moved_padded : (c : Sym) (s last : ℕ) (old other new : List Sym) → IsPadded old → IsMoved 0 last c s old other new → IsPadded new
moved_padded c s last old other new padded moved = record { blank = λ k low. moved.before k (omega arith) ∙ padded.blank k low }

-- 16 positions, and 16 more
pub moved_twice : (c : Sym) (s : ℕ) (old other mid new : List Sym) → IsMoved 0 16 c s old other mid → IsMoved 16 32 c s mid other new → IsMoved 0 32 c s old other new
moved_twice c s old other mid new first second = record {
  sum = λ k from low.
      elim (cases_lt k 16) [
        | inl below ↦ second.before (32 + k) (omega arith) ∙ first.sum k from below
        | inr above ↦ second.sum k above low ∙ ap (λ w. gf64.add w (gf64.mul c (coefficient gf64 other (32 + k - s)))) (first.after k above)
      ];
  before = λ k low. second.before k (omega arith) ∙ first.before k low;
  after = λ k high. second.after k high ∙ first.after k (omega arith);
}

-- ---- steps

-- the two sides are exchanged
pub pair_swapped : (count : ℕ) (series : ℕ → Sym) (front back : Side) → back.degree ≤ count → IsPair count series front back → IsPair count series back front
pair_swapped count series front back most pair = record {
  front_side = pair.back_side;
  back_side = pair.front_side;
  front_factor = pair.back_factor;
  back_factor = pair.front_factor;
  most = most;
  few = pair.few;
  crosswise = λ x. add_comm gf64 _ _ ∙ pair.crosswise x;
}

-- the side `front` loses its leading coefficient
module _ (count : ℕ) (series : ℕ → Sym) (front back less : Side) (lower : back.degree ≤ front.degree) (half : count ≤ 2 * back.degree)
    (live : behind back.rest back.degree ≢ gf64.zero) (pair : IsPair count series front back) (reduced : IsReduced front back less) where
  shift : ℕ
  shift = front.degree - back.degree

  c : Sym
  c = reduced.multiple

  rest_gained : (k : ℕ) → behind less.rest k ≡ gf64.add (behind front.rest k) (gf64.mul c (shifted gf64 shift (behind back.rest) k))
  unfolding c shift
  rest_gained =
      moved_everywhere c shift (back.degree + 1) reduced.rest.last front.rest back.rest less.rest pair.back_side.rest_padded pair.back_side.short
      (omega (arith, reduced.rest.enough)) reduced.rest.most reduced.rest.moved

  factor_gained : (k : ℕ) → behind less.factor k ≡ gf64.add (behind front.factor k) (gf64.mul c (shifted gf64 shift (behind back.factor) k))
  unfolding c shift
  factor_gained =
      moved_everywhere c shift (count + 1 - front.degree) 16 front.factor back.factor less.factor pair.back_side.factor_padded pair.back_factor
      (omega (arith, pair.most, pair.few)) (omega arith) reduced.factor

  equation : (i : ℕ) → i < count → product_at gf64 (behind less.factor) series i ≡ behind less.rest i
  equation i low =
      product-gained gf64 (behind front.factor) (behind back.factor) (behind less.factor) series c shift i factor_gained
      ∙ ap₂ (λ a b. gf64.add a (gf64.mul c b)) (pair.front_side.equation i low)
      (shifted_agree gf64 shift count i (product_at gf64 (behind back.factor) series) (behind back.rest) low pair.back_side.equation)
      ∙ sym (rest_gained i)

  leading_gone : behind less.rest front.degree ≡ gf64.zero
  unfolding c shift
  leading_gone =
      let at : front.degree - (front.degree - back.degree) ≡ back.degree = omega arith in
      rest_gained front.degree
      ∙ ap (gf64.add (behind front.rest front.degree)) (ap₂ gf64.mul reduced.is_multiple
      (shifted_from gf64 (front.degree - back.degree) (behind back.rest) front.degree (omega arith) ∙ ap (behind back.rest) at))
      ∙ taken gf64 (behind front.rest front.degree) (behind back.rest back.degree) live

  short : (i : ℕ) → less.degree + 1 ≤ i → behind less.rest i ≡ gf64.zero
  unfolding c shift
  short i high =
      elim (cases_eq i front.degree) [
        | inl at ↦ ap (behind less.rest) at ∙ leading_gone
        | inr past ↦
            rest_gained i
            ∙ ap₂ (λ a b. gf64.add a (gf64.mul c b)) (pair.front_side.short.above i (omega (arith, reduced.degree)))
            (shifted_from gf64 shift (behind back.rest) i (omega (arith, reduced.degree)) ∙ pair.back_side.short.above (i - shift) (omega (arith, reduced.degree)))
            ∙ ap (gf64.add gf64.zero) (mul_zero gf64 c)
            ∙ add_zero gf64 gf64.zero
      ]

  crosswise : (x : Sym) → gf64.add (gf64.mul (value_at gf64 32 (behind back.factor) x) (value_at gf64 32 (behind less.rest) x))
      (gf64.mul (value_at gf64 32 (behind less.factor) x) (value_at gf64 32 (behind back.rest) x)) ≡ power gf64 x count
  unfolding c shift
  crosswise x =
      ap₂ (λ a b. gf64.add (gf64.mul (value_at gf64 32 (behind back.factor) x) a) (gf64.mul b (value_at gf64 32 (behind back.rest) x)))
      (value-gained gf64 32 (back.degree + 1) shift (behind front.rest) (behind back.rest) (behind less.rest) c x pair.back_side.short (omega (arith, pair.most, pair.few)) rest_gained)
      (value-gained gf64 32 (count + 1 - front.degree) shift (behind front.factor) (behind back.factor) (behind less.factor) c x pair.back_factor (omega (arith, pair.most, pair.few)) factor_gained)
      ∙ crossed gf64 (value_at gf64 32 (behind back.factor) x) (value_at gf64 32 (behind front.rest) x)
      (value_at gf64 32 (behind front.factor) x) (value_at gf64 32 (behind back.rest) x) c (power gf64 x shift)
      ∙ pair.crosswise x

  pub pair_reduced : IsPair count series less back
  unfolding c shift
  pair_reduced = record {
    front_side = record {
      equation = equation;
      short = record { above = short };
      rest_padded = moved_padded c shift reduced.rest.last front.rest back.rest less.rest pair.front_side.rest_padded reduced.rest.moved;
      factor_padded = moved_padded c shift 16 front.factor back.factor less.factor pair.front_side.factor_padded reduced.factor;
    };
    back_side = pair.back_side;
    front_factor = short-gained gf64 (count + 1 - back.degree) (count + 1 - front.degree) shift
        (behind front.factor) (behind back.factor) (behind less.factor) c pair.front_factor pair.back_factor (omega (arith, pair.most)) factor_gained;
    back_factor = short_longer gf64 (count + 1 - front.degree) (count + 1 - less.degree) (behind back.factor) (omega (arith, reduced.degree)) pair.back_factor;
    most = omega (arith, pair.most, reduced.degree);
    few = pair.few;
    crosswise = crosswise;
  }

-- ---- the first sides and the last

pub pair_first : (count : ℕ) (series : ℕ → Sym) (front back : Side) → 1 ≤ count → count ≤ 22
    → behind front.rest count ≡ gf64.one → ((k : ℕ) → k ≢ 32 + count → coefficient gf64 front.rest k ≡ gf64.zero) → ((k : ℕ) → coefficient gf64 front.factor k ≡ gf64.zero) → front.degree ≡ count
    → ((k : ℕ) → behind back.rest k ≡ series k) → ((k : ℕ) → k < 32 → coefficient gf64 back.rest k ≡ gf64.zero) → ((k : ℕ) → count ≤ k → series k ≡ gf64.zero)
    → behind back.factor 0 ≡ gf64.one → ((k : ℕ) → k ≢ 32 → coefficient gf64 back.factor k ≡ gf64.zero) → back.degree + 1 ≡ count
    → IsPair count series front back
pair_first count series front back some few power_at power_others no_factor front_degree is_series blank past one one_others back_degree = record {
  front_side = record {
    equation = λ i low. product_zero gf64 (behind front.factor) series i (λ a b whole. inl (no_factor (32 + a))) ∙ sym (others i (omega arith));
    short = record { above = λ i high. others i (omega arith) };
    rest_padded = record { blank = λ k low. power_others k (omega arith) };
    factor_padded = record { blank = λ k low. no_factor k };
  };
  back_side = record {
    equation = λ i low.
        product_comm gf64 (behind back.factor) series i
        ∙ product_monomial gf64 series (behind back.factor) gf64.one 0 one (λ k apart. ones k apart) i
        ∙ one_mul gf64 (shifted gf64 0 series i)
        ∙ shifted_from gf64 0 series i (omega arith)
        ∙ ap series (same i)
        ∙ sym (is_series i);
    short = record { above = λ i high. is_series i ∙ past i (omega arith) };
    rest_padded = record { blank = blank };
    factor_padded = record { blank = λ k low. one_others k (omega arith) };
  };
  front_factor = record { above = λ i high. no_factor (32 + i) };
  back_factor = record { above = λ i high. ones i (omega arith) };
  most = omega arith;
  few = few;
  crosswise = λ x.
      ap₂ gf64.add
      (ap₂ gf64.mul (value_of_power gf64 32 0 (behind back.factor) x (omega arith) one ones ∙ power-zero gf64 x)
      (value_of_power gf64 32 count (behind front.rest) x (omega arith) power_at others) ∙ one_mul gf64 (power gf64 x count))
      (ap (λ w. gf64.mul w (value_at gf64 32 (behind back.rest) x)) (value_of_zeros gf64 32 (behind front.factor) x (λ k low. no_factor (32 + k)))
      ∙ zero_mul gf64 (value_at gf64 32 (behind back.rest) x))
      ∙ add_zero gf64 (power gf64 x count);
}
  where
    others : (k : ℕ) → k ≢ count → behind front.rest k ≡ gf64.zero
    others k apart = power_others (32 + k) (λ e. apart (omega arith))

    ones : (k : ℕ) → k ≢ 0 → behind back.factor k ≡ gf64.zero
    ones k apart = one_others (32 + k) (λ e. apart (omega arith))

    same : (i : ℕ) → i - 0 ≡ i
    same i = omega arith

-- if the degree of the side `back` is below half, it is the key
pub pair_key : (count : ℕ) (syndromes : List Sym) (front back : Side) (locator evaluator : Poly)
    → length syndromes ≡ count → 2 ≤ count → 2 * (count / 2) ≡ count → IsPair count (coefficient gf64 syndromes) front back
    → 2 * back.degree < count → count ≤ 2 * front.degree
    → ((k : ℕ) → coefficient_of locator k ≡ behind back.factor k) → ((k : ℕ) → coefficient_of evaluator k ≡ behind back.rest k) → IsKey syndromes locator evaluator
pair_key count syndromes front back locator evaluator long some even pair below above is_locator is_evaluator = record {
  nonzero = nonzero;
  locator_degree = record { above = λ i high. is_locator i ∙ pair.back_factor.above i (omega (arith, long, even)) };
  evaluator_degree = record { above = λ i high. is_evaluator i ∙ pair.back_side.short.above i (omega (arith, long, even)) };
  equation = λ i low.
      product_same_left gf64 (coefficient_of locator) (behind back.factor) (coefficient gf64 syndromes) is_locator i
      ∙ pair.back_side.equation i (omega (arith, long))
      ∙ sym (is_evaluator i);
  apart = λ x live none also.
      power_ne_zero gf64 x count live (
      sym (pair.crosswise x)
      ∙ ap₂ gf64.add (ap (λ w. gf64.mul w (value_at gf64 32 (behind front.rest) x)) (sym (locator_value x) ∙ none) ∙ zero_mul gf64 (value_at gf64 32 (behind front.rest) x))
      (ap (gf64.mul (value_at gf64 32 (behind front.factor) x)) (sym (evaluator_value x) ∙ also) ∙ mul_zero gf64 (value_at gf64 32 (behind front.factor) x))
      ∙ add_zero gf64 gf64.zero);
}
  where
    short_factor : IsShort gf64 32 (behind back.factor)
    short_factor = record { above = λ i high. behind_past back.factor i back.full_factor high }

    short_rest : IsShort gf64 32 (behind back.rest)
    short_rest = record { above = λ i high. behind_past back.rest i back.full_rest high }

    locator_value : (x : Sym) → value_at gf64 64 (coefficient_of locator) x ≡ value_at gf64 32 (behind back.factor) x
    locator_value x = value_same gf64 64 (coefficient_of locator) (behind back.factor) x (λ k low. is_locator k) ∙ value_longer gf64 32 64 (behind back.factor) x (omega arith) short_factor

    evaluator_value : (x : Sym) → value_at gf64 64 (coefficient_of evaluator) x ≡ value_at gf64 32 (behind back.rest) x
    evaluator_value x = value_same gf64 64 (coefficient_of evaluator) (behind back.rest) x (λ k low. is_evaluator k) ∙ value_longer gf64 32 64 (behind back.rest) x (omega arith) short_rest

    nonzero : IsZero gf64 (coefficient_of locator) → ⊥
    nonzero zeros =
        gf64.laws.one_ne_zero (
        sym (power_of_one gf64 count)
        ∙ sym (pair.crosswise gf64.one)
        ∙ ap₂ gf64.add (ap (λ w. gf64.mul w (value_at gf64 32 (behind front.rest) gf64.one))
        (value_of_zeros gf64 32 (behind back.factor) gf64.one (λ k low. factor_zero k)) ∙ zero_mul gf64 (value_at gf64 32 (behind front.rest) gf64.one))
        (ap (gf64.mul (value_at gf64 32 (behind front.factor) gf64.one)) (value_of_zeros gf64 32 (behind back.rest) gf64.one (λ k low. rest_zero k))
        ∙ mul_zero gf64 (value_at gf64 32 (behind front.factor) gf64.one))
        ∙ add_zero gf64 gf64.zero)
      where
        factor_zero : (k : ℕ) → behind back.factor k ≡ gf64.zero
        factor_zero k = sym (is_locator k) ∙ zeros k

        rest_zero : (k : ℕ) → behind back.rest k ≡ gf64.zero
        rest_zero k =
            elim (cases_lt k count) [
              | inl low ↦ sym (pair.back_side.equation k low) ∙ product_zero gf64 (behind back.factor) (coefficient gf64 syndromes) k (λ a b whole. inl (factor_zero a))
              | inr high ↦ pair.back_side.short.above k (omega arith)
            ]
