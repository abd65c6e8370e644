-- Products of polynomials by their coefficients. A product is the sum of the second factor's multiples by the first factor's terms. Degrees add,
-- because the leading coefficient is a product of two that are not zero.
use Rattle.std.proofs.{Common.{◌≡◌, ◌≢◌, ◌⊎◌, ℕ, zero, suc, ◌+◌, ◌-◌, ◌<◌, ◌≤◌, cond, eqb, refl, sym, ap, ap₂, ◌∙◌, inl, inr, arith}, lemmas.Bool.{cases_eq, cases_lt, lt-ltb, le-ltb, eq-eqb, ne_eqb}}
use Rattle.p25_gf64.specs.Field.{Field}
use Rattle.p25_gf64.proofs.FieldLaws.{mul_assoc, add_assoc, add_zero, add_self, add_twice, same_from_sum, mul_comm, mul_one, mul_add, mul_zero, zero_mul, mul_ne_zero}
use Rattle.p25_algebra.specs.{Sums.{sum_below}, Series.{product_at, IsZero, IsShort, IsDegree, shifted}}
use Rattle.p25_algebra.proofs.SumLaws.{sum-mul, sum_first, sum_same, sum_of_zeros, sum-add, sum_longer, sum_of_one, sum_reverse}

module _ {F : Type 0} (K : Field F) where
  open K use {zero as 𝟘, one as 𝟙, add as ◌⊕◌, mul as ◌⊗◌}

  infixl 65 ◌⊕◌
  infixl 70 ◌⊗◌
  pub shifted_below : (s : ℕ) (f : ℕ → F) (n : ℕ) → n < s → shifted K s f n ≡ 𝟘
  unfolding shifted
  shifted_below s f n h = simp lt-ltb

  pub shifted_from : (s : ℕ) (f : ℕ → F) (n : ℕ) → s ≤ n → shifted K s f n ≡ f (n - s)
  unfolding shifted
  shifted_from s f n h = simp le-ltb

  -- the product is the sum of the second factor's multiples by the first factor's terms
  pub product_by_rows : (m : ℕ) (f g : ℕ → F) → IsShort K m f → (n : ℕ) → product_at K f g n ≡ sum_below K m (λ i. f i ⊗ shifted K i g n)
  product_by_rows m f g short n =
      sum_same K _ _ (λ i. f i ⊗ shifted K i g n) (λ i h. cc (shifted_from i g n (omega arith)))
      ∙ elim (cases_lt n m) [
        | inl below ↦ sym (sum_longer K (suc n) m (λ i. f i ⊗ shifted K i g n) below (λ i low high. ap (λ w. f i ⊗ w) (shifted_below i g n (omega arith)) ∙ mul_zero K (f i)))
        | inr above ↦ sum_longer K m (suc n) (λ i. f i ⊗ shifted K i g n) (omega arith) (λ i low high. ap (λ w. w ⊗ shifted K i g n) (short.above i low) ∙ zero_mul K (shifted K i g n))
      ]

  -- coefficients up to n make that of x^n
  pub product_agree : (f g h : ℕ → F) (n : ℕ) → ((i : ℕ) → i ≤ n → g i ≡ h i) → product_at K f g n ≡ product_at K f h n
  product_agree f g h n e = sum_same K _ _ _ (λ i low. rw (e (n - i) (omega arith)))

  pub product_same : (f g h : ℕ → F) → ((i : ℕ) → g i ≡ h i) → (n : ℕ) → product_at K f g n ≡ product_at K f h n
  product_same f g h e n = sum_same K _ _ _ (λ i low. rw (e _))

  pub product_same_left : (f g h : ℕ → F) → ((i : ℕ) → f i ≡ g i) → (n : ℕ) → product_at K f h n ≡ product_at K g h n
  product_same_left f g h e n = sum_same K _ _ _ (λ i low. rw (e i))

  pub product_comm : (f g : ℕ → F) (n : ℕ) → product_at K f g n ≡ product_at K g f n
  product_comm f g n =
      sym (sum_reverse K _ _)
      ∙ sum_same K _ _ _
      (λ i h. ap₂ (λ a b. f a ⊗ g b) (other i) (same i h) ∙ mul_comm K _ _)
    where
      other : (i : ℕ) → suc n - 1 - i ≡ n - i
      other i = omega arith

      same : (i : ℕ) → i < suc n → n - (suc n - 1 - i) ≡ i
      same i h = omega arith

  pub product-add : (f g h : ℕ → F) (n : ℕ) → product_at K f (λ i. g i ⊕ h i) n ≡ product_at K f g n ⊕ product_at K f h n
  product-add f g h n =
      sum_same K _ _ _ (λ i low. mul_add K _ _ _)
      ∙ sum-add K _ _ _

  pub product-add_left : (f g h : ℕ → F) (n : ℕ) → product_at K (λ i. f i ⊕ g i) h n ≡ product_at K f h n ⊕ product_at K g h n
  product-add_left f g h n =
      rw (product_comm _ h n, product-add h f g n, product_comm h f n, product_comm h g n)

  pub product-mul_left : (c : F) (f g : ℕ → F) (n : ℕ) → product_at K (λ i. c ⊗ f i) g n ≡ c ⊗ product_at K f g n
  product-mul_left c f g n =
      sum_same K _ _ _ (λ i h. mul_assoc K c _ _)
      ∙ sum-mul K _ c _

  -- the first factor's first term apart
  pub product_first : (f g : ℕ → F) (n : ℕ) → product_at K f g (suc n) ≡ f 0 ⊗ g (suc n) ⊕ product_at K (λ i. f (suc i)) g n
  product_first f g n =
      sum_first K _ _
      ∙ ap₂ ◌⊕◌ (rw whole) (sum_same K _ _ _ (λ i h. rw (less i)))
    where
      whole : suc n - 0 ≡ suc n
      whole = omega arith

      less : (i : ℕ) → suc n - suc i ≡ n - i
      less i = omega arith

  pub product_at_zero : (f g : ℕ → F) → product_at K f g 0 ≡ f 0 ⊗ g 0
  product_at_zero f g = sum_of_one K 1 0 _ (omega arith) (λ i h apart. absurd (omega arith))

  pub product_assoc : (f g h : ℕ → F) (n : ℕ) → product_at K (product_at K f g) h n ≡ product_at K f (product_at K g h) n
  product_assoc f g h zero =
      simp (product_at_zero, mul_assoc)
  product_assoc f g h (suc n) =
      cc (
        product_first (product_at K f g) h n,
        product_at_zero f g,
        product_same_left _ _ h (product_first f g) n,
        product-add_left (λ i. f 0 ⊗ g (suc i)) (product_at K (λ i. f (suc i)) g) h n,
        product-mul_left (f 0) _ h n,
        product_assoc (λ i. f (suc i)) g h n,
        regroup (f 0) (g 0) (h (suc n)) (product_at K (λ i. g (suc i)) h n) (product_at K (λ i. f (suc i)) (product_at K g h) n),
        product_first g h n,
        product_first f (product_at K g h) n,
      )
    where
      regroup : (a b c p q : F) → a ⊗ b ⊗ c ⊕ (a ⊗ p ⊕ q) ≡ a ⊗ (b ⊗ c ⊕ p) ⊕ q
      regroup a b c p q = simp (mul_add K, mul_assoc K, add_assoc K)

  -- the product with c x^s
  pub product_monomial : (f h : ℕ → F) (c : F) (s : ℕ) → h s ≡ c → ((i : ℕ) → i ≢ s → h i ≡ 𝟘) → (n : ℕ) → product_at K f h n ≡ c ⊗ shifted K s f n
  product_monomial f h c s at others n =
      elim (cases_lt n s) [
        | inl below ↦
            sum_of_zeros K (suc n) _ (λ i low. cc (others (n - i) (omega arith), mul_zero K (f i)))
            ∙ sym (simp (shifted_below, mul_zero))
        | inr above ↦
            cc (
              sum_of_one K (suc n) (n - s) _ (omega arith) (λ i low apart. ap (λ w. f i ⊗ w) (others (n - i) (omega arith)) ∙ mul_zero K (f i)),
              back above,
              at,
              mul_comm K _ c,
              shifted_from s f n above,
            )
      ]
    where
      back : s ≤ n → n - (n - s) ≡ s
      back above = omega arith

  -- terms below n make the shifted coefficient of x^n
  pub shifted_agree : (s count n : ℕ) (f g : ℕ → F) → n < count → ((i : ℕ) → i < count → f i ≡ g i) → shifted K s f n ≡ shifted K s g n
  shifted_agree s count n f g low same =
      elim (cases_lt n s) [
        | inl below ↦ simp shifted_below
        | inr from ↦ shifted_from s f n from ∙ same _ (omega arith) ∙ sym (shifted_from s g n from)
      ]

  -- a shift of a factor shifts the product
  pub product-shifted : (s : ℕ) (g h : ℕ → F) (n : ℕ) → product_at K (shifted K s g) h n ≡ shifted K s (product_at K g h) n
  product-shifted s g h n =
      product_same_left (shifted K s g) (product_at K g unit) h (λ i. sym (monomial g i)) n
      ∙ product_assoc g unit h n
      ∙ product_same g (product_at K unit h) (product_at K h unit) (product_comm unit h) n
      ∙ sym (product_assoc g h unit n)
      ∙ monomial _ n
    where
      unit : ℕ → F
      unit i = cond (eqb i s) 𝟙 𝟘

      monomial : (f : ℕ → F) (i : ℕ) → product_at K f unit i ≡ shifted K s f i
      monomial f i =
          product_monomial f unit 𝟙 s (rw (eq-eqb s s refl)) (λ k other. rw (ne_eqb k s other)) i
          ∙ mul_comm K 𝟙 (shifted K s f i)
          ∙ mul_one K (shifted K s f i)

  -- a coefficient of the product is zero if each of its terms has a factor that is zero
  pub product_zero : (f g : ℕ → F) (n : ℕ) → ((i j : ℕ) → i + j ≡ n → (f i ≡ 𝟘) ⊎ (g j ≡ 𝟘)) → product_at K f g n ≡ 𝟘
  product_zero f g n e =
      sum_of_zeros K _ _ (λ i low. elim (e i (n - i) (omega arith)) [
        | inl left ↦ simp (left, zero_mul)
        | inr right ↦ simp (right, mul_zero)
      ])

  -- the leading coefficient of a product
  pub product_leading : (f g : ℕ → F) (d e : ℕ) → IsDegree K f d → IsDegree K g e → product_at K f g (d + e) ≡ f d ⊗ g e
  product_leading f g d e df dg =
      cc (sum_of_one K _ d _ (omega arith) others, rest)
    where
      rest : d + e - d ≡ e
      rest = omega arith

      others : (i : ℕ) → i < suc (d + e) → i ≢ d → f i ⊗ g (d + e - i) ≡ 𝟘
      others i low apart =
          elim (cases_lt d i) [
            | inl above ↦ ap (λ w. w ⊗ g (d + e - i)) (df.above i above) ∙ zero_mul K _
            | inr below ↦ cc (dg.above (d + e - i) (omega arith), mul_zero K (f i))
          ]

  -- the degrees of factors add
  pub product_degree : (f g : ℕ → F) (d e : ℕ) → IsDegree K f d → IsDegree K g e → IsDegree K (product_at K f g) (d + e)
  product_degree f g d e df dg = record {
    leading = λ none. mul_ne_zero K _ _ df.leading dg.leading (sym (product_leading f g d e df dg) ∙ none);
    above = λ n h. product_zero f g n (λ i j whole. elim (cases_lt d i) [ inl above ↦ inl (df.above i above) | inr below ↦ inr (dg.above j (omega arith)) ]);
  }

  -- ---- degrees

  -- finitely many coefficients are all zero, or one of them is the last that isn't
  pub zero_or_degree : (n : ℕ) (f : ℕ → F) → IsShort K n f → IsZero K f ⊎ ((d : ℕ) × (d < n) × IsDegree K f d)
  zero_or_degree zero f short = inl (λ i. short.above i (omega arith))
  zero_or_degree (suc n) f short =
      elim (K.is_zero _) [
        | inl same ↦ elim (zero_or_degree n f (shorter same)) [ inl none ↦ inl none | inr (d, low, degree) ↦ inr (d, (omega arith), degree) ]
        | inr apart ↦ inr (n, (omega arith), record { leading = apart; above = λ i h. short.above i h })
      ]
    where
      shorter : f n ≡ 𝟘 → IsShort K n f
      shorter same = record { above = λ i h. elim (cases_eq i n) [ inl at ↦ rw at same | inr apart ↦ short.above i (omega arith) ] }

  -- a polynomial has one degree
  pub same_degree : (f : ℕ → F) (d e : ℕ) → IsDegree K f d → IsDegree K f e → d ≡ e
  same_degree f d e first second =
      elim (cases_lt d e) [
        | inl less ↦ absurd (second.leading (first.above e less))
        | inr more ↦ elim (cases_eq d e) [ inl same ↦ same | inr apart ↦ absurd (first.leading (second.above d (omega arith))) ]
      ]

  -- two quotients by a divisor are equal if the products, each plus a remainder of lower degree than the divisor, are equal
  pub same_quotient : (n : ℕ) (b q p r t : ℕ → F) (d : ℕ) → IsDegree K b d
      → IsShort K n q → IsShort K n p → IsShort K d r → IsShort K d t → ((i : ℕ) → product_at K b q i ⊕ r i ≡ product_at K b p i ⊕ t i) → (i : ℕ) → q i ≡ p i
  same_quotient n b q p r t d degree short_q short_p short_r short_t same i =
      same_from_sum K (q i) (p i) (none i)
    where
      difference : ℕ → F
      difference i = q i ⊕ p i

      short : IsShort K n difference
      short = record { above = λ i h. ap₂ ◌⊕◌ (short_q.above i h) (short_p.above i h) ∙ add_zero K 𝟘 }

      no_degree : (e : ℕ) → IsDegree K difference e → ⊥
      no_degree e top =
          mul_ne_zero K (b d) (difference e) degree.leading top.leading
          (cc (product_leading b difference d e degree top, product-add b q p _, equal, add_self K (product_at K b p (d + e))))
        where
          equal : product_at K b q (d + e) ≡ product_at K b p (d + e)
          equal =
              cc (add_zero K (product_at K b q (d + e)), short_r.above (d + e) (omega arith), same (d + e), short_t.above (d + e) (omega arith), add_zero K (product_at K b p (d + e)))

      none : (i : ℕ) → q i ⊕ p i ≡ 𝟘
      none i = elim (zero_or_degree n difference short) [ inl zeros ↦ zeros i | inr (e, low, top) ↦ absurd (no_degree e top) ]

  -- and so are the remainders
  pub same_remainder : (n : ℕ) (b q p r t : ℕ → F) (d : ℕ) → IsDegree K b d
      → IsShort K n q → IsShort K n p → IsShort K d r → IsShort K d t → ((i : ℕ) → product_at K b q i ⊕ r i ≡ product_at K b p i ⊕ t i) → (i : ℕ) → r i ≡ t i
  same_remainder n b q p r t d degree short_q short_p short_r short_t same i =
      cc (add_twice K (product_at K b q i) (r i), same i, product_same b q p (same_quotient n b q p r t d degree short_q short_p short_r short_t same) i, add_twice K (product_at K b p i) (t i))
