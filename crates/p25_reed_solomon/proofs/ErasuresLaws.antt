-- Erased positions: their number, the polynomial with a zero for each as a factor, and errors with the factors of these zeros. All by induction on
-- the positions.
use Rattle.std.proofs.Common.{◌≡◌, ◌≢◌, ℕ, zero, suc, ◌+◌, ◌<◌, ◌≤◌, Bool, true, false, cond, List, refl, sym, ap, ap₂, ◌∙◌, inl, inr, arith}
use Rattle.std.proofs.lemmas.Bool.{cases_eq, cases_Bool, cond-true, cond-false, both_ways}
use Rattle.p25_gf64.specs.{declared.symbol.Sym.{Sym}, Gf64.{gf64}}
use Rattle.p25_gf64.proofs.FieldLaws.{add_self, add_zero, mul_zero, zero_mul, mul_one, mul_inverse, mul_assoc, mul_comm, mul_ne_zero, other_zero, same_from_sum}
use Rattle.p25_algebra.specs.{Sums.{power_sum, nonzeros}, Series.{value_at, slope_at, product_at, times_linear, IsZero, IsShort}}
use Rattle.p25_algebra.proofs.VanishingLaws.{lowered, power_sum-lowered, nonzeros_mono}
use Rattle.p25_algebra.proofs.QuotientLaws.{shifted-first, shifted-next, short_times_linear, value-times_linear, slope-kept, slope-new, times_linear_same, product-times_linear, product-times_linear_right}
use Rattle.p25_reed_solomon.specs.{ElementLaws.{same_place, element_ne_zero}, Errors.{element_of, point_of, is_erased, erased_below, kept_errors}, Locator.{times_erasures}}

-- ---- one more position

pub erased_below-none : (erased : List Bool) → erased_below erased 0 ≡ 0
unfolding erased_below
erased_below-none erased = refl

pub erased_below-gone : (erased : List Bool) (j : ℕ) → is_erased erased j ≡ true → erased_below erased (suc j) ≡ suc (erased_below erased j)
unfolding erased_below
erased_below-gone erased j here = omega (arith, ap {B = ℕ} (λ t. cond t 1 0) here)

pub erased_below-kept : (erased : List Bool) (j : ℕ) → is_erased erased j ≡ false → erased_below erased (suc j) ≡ erased_below erased j
unfolding erased_below
erased_below-kept erased j none = omega (arith, ap {B = ℕ} (λ t. cond t 1 0) none)

module _ (n : ℕ) (erased : List Bool) where
  pub times_erasures-none : (f : ℕ → Sym) → times_erasures n erased 0 f ≡ f
  unfolding times_erasures
  times_erasures-none f = refl

  pub times_erasures-gone : (j : ℕ) (f : ℕ → Sym) → is_erased erased j ≡ true → times_erasures n erased (suc j) f ≡ times_linear gf64 (element_of n j) (times_erasures n erased j f)
  unfolding times_erasures
  times_erasures-gone j f here = cond-true _ _ _ here

  pub times_erasures-kept : (j : ℕ) (f : ℕ → Sym) → is_erased erased j ≡ false → times_erasures n erased (suc j) f ≡ times_erasures n erased j f
  unfolding times_erasures
  times_erasures-kept j f none = cond-false _ _ _ none

  -- if no position is erased, nothing changes
  pub times_erasures-without : (m : ℕ) (f : ℕ → Sym) → erased_below erased m ≡ 0 → times_erasures n erased m f ≡ f
  times_erasures-without zero f none = times_erasures-none f
  times_erasures-without (suc m) f none =
      elim (cases_Bool _) [
        | inl here ↦ absurd (omega (arith, erased_below-gone erased m here, none))
        | inr kept ↦ times_erasures-kept m f kept ∙ times_erasures-without m f (rw (← erased_below-kept, none))
      ]

  -- ---- as a polynomial

  pub short_times_erasures : (m j : ℕ) (f : ℕ → Sym) → IsShort gf64 m f → IsShort gf64 (m + erased_below erased j) (times_erasures n erased j f)
  short_times_erasures m zero f short = let e : m + erased_below erased 0 ≡ m = omega (arith, erased_below-none erased) in rw (e, times_erasures-none f) short
  short_times_erasures m (suc j) f short =
      elim (cases_Bool _) [
        | inl here ↦
            let e : m + erased_below erased (suc j) ≡ suc (m + erased_below erased j) = omega (arith, erased_below-gone erased j here) in
            rw (e, times_erasures-gone j f here) (short_times_linear gf64 _ _ _ (short_times_erasures m j f short))
        | inr none ↦ rw (erased_below-kept erased j none, times_erasures-kept j f none) (short_times_erasures m j f short)
      ]

  zero_from_times_linear : (y : Sym) (f : ℕ → Sym) → IsZero gf64 (times_linear gf64 y f) → IsZero gf64 f
  zero_from_times_linear y f none zero =
      cc (add_zero gf64 (f 0), mul_zero gf64 y, shifted-first gf64 f, none 0)
  zero_from_times_linear y f none (suc i) =
      cc (add_zero gf64 (f _), mul_zero gf64 y, zero_from_times_linear y f none i, shifted-next gf64 f i, none (suc i))

  pub zero_from_times_erasures : (j : ℕ) (f : ℕ → Sym) → IsZero gf64 (times_erasures n erased j f) → IsZero gf64 f
  zero_from_times_erasures zero f none = rw times_erasures-none at none
  zero_from_times_erasures (suc j) f none =
      elim (cases_Bool (is_erased erased j)) [
        | inl here ↦ zero_from_times_erasures j f (zero_from_times_linear _ _ (rw times_erasures-gone at none))
        | inr kept ↦ zero_from_times_erasures j f (rw times_erasures-kept at none)
      ]

  -- it makes no difference which factor of a product is multiplied
  pub product-times_erasures : (j : ℕ) (f g : ℕ → Sym) (i : ℕ) → product_at gf64 (times_erasures n erased j f) g i ≡ product_at gf64 f (times_erasures n erased j g) i
  product-times_erasures zero f g i = rw (times_erasures-none f, times_erasures-none g) refl
  product-times_erasures (suc j) f g i =
      elim (cases_Bool _) [
        | inl here ↦
            rw (times_erasures-gone, times_erasures-gone j g here)
            (product-times_linear gf64 _ _ g i
            ∙ times_linear_same gf64 _ _ _ (product-times_erasures j f g) i
            ∙ sym (product-times_linear_right gf64 _ f (times_erasures n erased j g) i))
        | inr none ↦ rw (times_erasures-kept j f none, times_erasures-kept j g none) (product-times_erasures j f g i)
      ]

  -- equal coefficients below a bound stay equal
  pub times_linear_agree : (y : Sym) (bound : ℕ) (f g : ℕ → Sym) → ((i : ℕ) → i < bound → f i ≡ g i) → (i : ℕ) → i < bound → times_linear gf64 y f i ≡ times_linear gf64 y g i
  times_linear_agree y bound f g same zero low = cc (same 0 low, shifted-first gf64 f, shifted-first gf64 g)
  times_linear_agree y bound f g same (suc i) low = cc (same _ low, shifted-next gf64 f i, same i (omega arith), shifted-next gf64 g i)

  -- ---- values at the points of positions

  -- the factor of a position, at the point of another

  pub point_inverse : (j : ℕ) → gf64.mul (element_of n j) (point_of n j) ≡ gf64.one
  point_inverse j = mul_inverse gf64 _ (element_ne_zero n j)

  pub factor_zero : (j : ℕ) → gf64.add gf64.one (gf64.mul (element_of n j) (point_of n j)) ≡ gf64.zero
  factor_zero j = simp (point_inverse, add_self)

  pub factor_ne_zero : (i j : ℕ) → n ≤ 63 → i < n → j < n → i ≢ j → gf64.add gf64.one (gf64.mul (element_of n i) (point_of n j)) ≢ gf64.zero
  factor_ne_zero i j most first second apart none =
      apart (same_place n i j most first second (cc (
        mul_one gf64 (element_of n i),
        point_inverse j,
        mul_comm gf64 _ _,
        mul_assoc gf64 (element_of n i) (point_of n j) (element_of n j),
        same_from_sum gf64 gf64.one _ none,
        mul_comm gf64 gf64.one (element_of n j),
        mul_one gf64 (element_of n j),
      )))

  -- a polynomial f of m coefficients times the factors of the erased positions below `upto` is g, of `size` coefficients. It vanishes at the zeros of f and at
  -- those positions alone; its zeros have slopes, if f is not zero at erased positions and the zeros of f have slopes
  pub record IsTimes (m : ℕ) (f : ℕ → Sym) (upto size : ℕ) (g : ℕ → Sym) : Type 0 where
    pub short : IsShort gf64 size g
    pub stays : (z : Sym) → value_at gf64 m f z ≡ gf64.zero → value_at gf64 size g z ≡ gf64.zero
    pub gone : (j : ℕ) → j < upto → is_erased erased j ≡ true → value_at gf64 size g (point_of n j) ≡ gf64.zero
    pub other : (j : ℕ) → j < n → (is_erased erased j ≡ true → upto ≤ j) → value_at gf64 size g (point_of n j) ≡ gf64.zero → value_at gf64 m f (point_of n j) ≡ gf64.zero
    pub simple : (j : ℕ) → j < n → (value_at gf64 m f (point_of n j) ≡ gf64.zero → (is_erased erased j ≡ false) × (slope_at gf64 m f (point_of n j) ≢ gf64.zero))
        → value_at gf64 size g (point_of n j) ≡ gf64.zero → slope_at gf64 size g (point_of n j) ≢ gf64.zero

  first_times : (m : ℕ) (f : ℕ → Sym) → IsShort gf64 m f → IsTimes m f 0 m f
  first_times m f short = record {
    short = short;
    stays = λ z none. none;
    gone = λ j low gone. absurd (omega arith);
    other = λ j inside late none. none;
    simple = λ j inside known none. (known none).1;
  }

  one_kept : (m : ℕ) (f : ℕ → Sym) (i size : ℕ) (g : ℕ → Sym) → is_erased erased i ≡ false → IsTimes m f i size g → IsTimes m f (suc i) size g
  one_kept m f i size g kept is = record {
    short = is.short;
    stays = is.stays;
    gone = λ j low gone. elim (cases_eq j i) [ inl same ↦ absurd (both_ways (is_erased erased j) (rw same kept) gone) | inr apart ↦ is.gone j (omega arith) gone ];
    other = λ j inside late none. is.other j inside (λ gone. let after : suc i ≤ j = late gone in omega arith) none;
    simple = is.simple;
  }

  one_gone : (m : ℕ) (f : ℕ → Sym) (i size : ℕ) (g : ℕ → Sym) → n ≤ 63 → i < n → 0 < size → is_erased erased i ≡ true
      → IsTimes m f i size g → IsTimes m f (suc i) (suc size) (times_linear gf64 (element_of n i) g)
  one_gone m f i size g most low some here is = record {
    short = short_times_linear gf64 size (element_of n i) g is.short;
    stays = λ z none. rw (value z, is.stays z none) (mul_zero gf64 _);
    gone = λ j inside gone. elim (cases_eq i j) [
      | inl same ↦ value (point_of n j) ∙ rw (same, factor_zero j) (zero_mul gf64 _)
      | inr apart ↦ rw (value (point_of n j), is.gone j (omega arith) gone) (mul_zero gf64 _)
    ];
    other = λ j inside late none. is.other j inside (λ gone. let after : suc i ≤ j = late gone in omega arith)
        (before j inside (λ same. let gone : is_erased erased j ≡ true = rw same at here in let after : suc i ≤ j = late gone in omega arith) none);
    simple = λ j inside known none flat. elim (cases_eq i j) [
      | inl same ↦ mul_ne_zero gf64 (element_of n i) (value_at gf64 size g (point_of n j)) (element_ne_zero n i)
          (λ zero. both_ways (is_erased erased j) (known (is.other j inside (λ gone. omega arith) zero)).0 (rw same at here))
          (sym (slope-new gf64 size (element_of n i) g (point_of n j) is.short (rw same (point_inverse j))) ∙ flat)
      | inr apart ↦
          let was = before j inside apart none in
          mul_ne_zero gf64 _ (slope_at gf64 size g (point_of n j)) (factor_ne_zero i j most low inside apart) (is.simple j inside known was)
          (sym (slope-kept gf64 size (element_of n i) g (point_of n j) some is.short was) ∙ flat)
    ];
  }
    where
      value : (z : Sym) → value_at gf64 (suc size) (times_linear gf64 (element_of n i) g) z ≡ gf64.mul (gf64.add gf64.one (gf64.mul (element_of n i) z)) (value_at gf64 size g z)
      value z = value-times_linear gf64 size (element_of n i) g z is.short

      before : (j : ℕ) → j < n → i ≢ j → value_at gf64 (suc size) (times_linear gf64 (element_of n i) g) (point_of n j) ≡ gf64.zero → value_at gf64 size g (point_of n j) ≡ gf64.zero
      before j inside apart none = other_zero gf64 _ _ (factor_ne_zero i j most low inside apart) (sym (value (point_of n j)) ∙ none)

  pub times : (m : ℕ) (f : ℕ → Sym) → IsShort gf64 m f → 0 < m → n ≤ 63 → (upto : ℕ) → upto ≤ n → IsTimes m f upto (m + erased_below erased upto) (times_erasures n erased upto f)
  times m f short some most zero low = let e : m + erased_below erased 0 ≡ m = omega (arith, erased_below-none erased) in rw (e, times_erasures-none f) (first_times m f short)
  times m f short some most (suc i) low =
      let is = times m f short some most i (omega arith) in
      elim (cases_Bool (is_erased erased i)) [
        | inl here ↦
            let e : m + erased_below erased (suc i) ≡ suc (m + erased_below erased i) = omega (arith, erased_below-gone) in
            rw (e, times_erasures-gone) (one_gone m f i _ _ most (omega arith) (omega arith) here is)
        | inr kept ↦ rw (erased_below-kept, times_erasures-kept) (one_kept m f i _ _ kept is)
      ]

  -- ---- errors with the factors of erased positions

  -- the errors, each times the sum of its element and that of each erased position below `upto`
  unfoldable pub lowered_by : ℕ → (ℕ → Sym) → ℕ → Sym
  lowered_by zero v = v
  lowered_by (suc j) v = cond (is_erased erased j) (lowered gf64 (element_of n) (lowered_by j v) (element_of n j)) (lowered_by j v)

  lowered_by-gone : (j : ℕ) (v : ℕ → Sym) → is_erased erased j ≡ true → lowered_by (suc j) v ≡ lowered gf64 (element_of n) (lowered_by j v) (element_of n j)
  unfolding lowered_by
  lowered_by-gone j v here = cond-true _ _ _ here

  lowered_by-kept : (j : ℕ) (v : ℕ → Sym) → is_erased erased j ≡ false → lowered_by (suc j) v ≡ lowered_by j v
  unfolding lowered_by
  lowered_by-kept j v none = cond-false _ _ _ none

  lowered_by-none : (v : ℕ → Sym) → lowered_by 0 v ≡ v
  unfolding lowered_by
  lowered_by-none v = refl

  -- their power sums are the coefficients of the product, one fewer for each erasure
  pub lowered_sums : (checks : ℕ) (s v : ℕ → Sym) → ((r : ℕ) → r < checks → power_sum gf64 n (element_of n) v (r + 1) ≡ s r) → (j r : ℕ) → erased_below erased j + r < checks
      → power_sum gf64 n (element_of n) (lowered_by j v) (r + 1) ≡ times_erasures n erased j s (erased_below erased j + r)
  lowered_sums checks s v sums zero r fits =
      let e : erased_below erased 0 + r ≡ r = omega (arith, erased_below-none erased) in
      rw (lowered_by-none v, times_erasures-none s, e) (sums r (omega (arith, erased_below-none erased)))
  lowered_sums checks s v sums (suc j) r fits =
      elim (cases_Bool (is_erased erased j)) [
        | inl here ↦
            let more = erased_below-gone erased j here in
            ap (λ w. power_sum gf64 n (element_of n) w (r + 1)) (lowered_by-gone j v here)
            ∙ power_sum-lowered gf64 n (element_of n) _ (element_of n j) (r + 1)
            ∙ ap₂ (λ a b. gf64.add a (gf64.mul (element_of n j) b))
            (ap (power_sum gf64 n (element_of n) (lowered_by j v)) (omega arith) ∙ lowered_sums checks s v sums j (suc r) (omega (arith, more)) ∙ ap (times_erasures n erased j s) (omega arith))
            (lowered_sums checks s v sums j r (omega (arith, more)) ∙ sym (shifted-next gf64 _ ((erased_below erased j) + r)))
            ∙ sym (ap₂ (λ g i. g i) (times_erasures-gone j s here) (omega (arith, more)))
        | inr none ↦
            let fewer = erased_below-kept erased j none in
            cc (lowered_by-kept j v none, lowered_sums checks s v sums j r (omega (arith, fewer)), times_erasures-kept j s none, fewer)
      ]

  -- if there is no error none is left
  pub lowered_zero : (j : ℕ) (v : ℕ → Sym) (l : ℕ) → v l ≡ gf64.zero → lowered_by j v l ≡ gf64.zero
  lowered_zero zero v l none = rw (lowered_by-none, none)
  lowered_zero (suc j) v l none =
      elim (cases_Bool _) [
        | inl here ↦
            ap (λ g. g l) (lowered_by-gone j v here)
            ∙ ap (λ w. gf64.mul w (gf64.add (element_of n l) (element_of n j))) (lowered_zero j v l none)
            ∙ zero_mul gf64 _
        | inr kept ↦ cc (lowered_by-kept j v kept, lowered_zero j v l none)
      ]

  -- erased positions have none left
  pub lowered_gone : (j : ℕ) (v : ℕ → Sym) (l : ℕ) → l < j → is_erased erased l ≡ true → lowered_by j v l ≡ gf64.zero
  lowered_gone zero v l low gone = absurd (omega arith)
  lowered_gone (suc j) v l low gone =
      elim (cases_eq l j) [
        | inl last ↦
            ap (λ g. g l) (lowered_by-gone j v (cc (last, gone)))
            ∙ ap (λ i. gf64.mul (lowered_by j v l) (gf64.add (element_of n l) (element_of n i))) (sym last)
            ∙ ap (gf64.mul _) (add_self gf64 (element_of n l))
            ∙ mul_zero gf64 (lowered_by j v l)
        | inr before ↦ elim (cases_Bool (is_erased erased j)) [
          | inl here ↦
              ap (λ g. g l) (lowered_by-gone j v here)
              ∙ ap (λ w. gf64.mul w (gf64.add (element_of n l) (element_of n j))) (lowered_gone j v l (omega arith) gone)
              ∙ zero_mul gf64 _
          | inr kept ↦ cc (lowered_by-kept j v kept, lowered_gone j v l (omega arith) gone)
        ]
      ]

  -- other errors stay
  pub lowered_kept : (j : ℕ) (v : ℕ → Sym) (l : ℕ) → n ≤ 63 → j ≤ n → l < n → is_erased erased l ≡ false → v l ≢ gf64.zero → lowered_by j v l ≢ gf64.zero
  lowered_kept zero v l most low inside kept wrong none = wrong (cc (lowered_by-none v, none))
  lowered_kept (suc j) v l most low inside kept wrong none =
      elim (cases_Bool (is_erased erased j)) [
        | inl here ↦
            mul_ne_zero gf64 _ _ (lowered_kept j v l most (omega arith) inside kept wrong)
            (λ same. both_ways _ kept (cc (same_place n l j most inside (omega arith) (same_from_sum gf64 _ _ same), here)))
            (sym (rw lowered_by-gone) ∙ none)
        | inr other ↦ lowered_kept j v l most (omega arith) inside kept wrong (rw (← lowered_by-kept, none))
      ]

  -- at most as many are left as there are positions with an error and without an erasure
  pub nonzeros-lowered : (v : ℕ → Sym) → nonzeros gf64 n (lowered_by n v) ≤ nonzeros gf64 n (kept_errors erased v)
  nonzeros-lowered v =
      nonzeros_mono gf64 n _ _ (λ l low none. elim (cases_Bool _) [
        | inl here ↦ lowered_gone n v l low here
        | inr kept ↦ lowered_zero n v l (sym (cond-false _ gf64.zero _ kept) ∙ none)
      ])
