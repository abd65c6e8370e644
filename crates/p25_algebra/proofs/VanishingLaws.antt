-- Power sums over different elements: if at most m factors are not zero and the sums vanish for m successive exponents, every factor is zero. By induction on
-- the elements: each factor times the sum of its element and the last one keeps its zeros, the last drops out, and the sums vanish for one exponent less.
use Rattle.std.proofs.{Common.{◌≡◌, ◌≢◌, ◌⊎◌, ℕ, zero, suc, ◌+◌, ◌<◌, ◌≤◌, refl, sym, ap, ◌∙◌, inl, inr, arith}, lemmas.Bool.{cases_eq}}
use Rattle.p25_gf64.specs.Field.{Field, power}
use Rattle.p25_gf64.proofs.{FieldLaws.{add_zero, zero_add, add_self, same_from_sum, mul_comm, mul_assoc, mul_left_comm, mul_add, zero_mul, other_zero}, PowerLaws.{power-suc, power_ne_zero}}
use Rattle.p25_algebra.specs.Sums.{power_sum, weight_by, nonzeros, AreApart}
use Rattle.p25_algebra.proofs.SumLaws.{sum-suc, sum_same, sum_of_zeros, sum-add, sum-mul}

pub weight-le : {A B : Type 0} (choice : A ⊎ B) → weight_by choice ≤ 1
weight-le (inl a) = omega arith
weight-le (inr b) = omega arith

weight_more : {A B C D : Type 0} (less : A ⊎ B) (more : C ⊎ D) → (C → A) → (B → A → ⊥) → weight_by less ≤ weight_by more
weight_more (inr b) (inl c) down apart = absurd (apart b (down c))
weight_more less more down apart = omega arith

module _ {F : Type 0} (K : Field F) where
  open K use {zero as 𝟘, one as 𝟙, add as ◌⊕◌, mul as ◌⊗◌}

  infixl 65 ◌⊕◌
  infixl 70 ◌⊗◌
  pub nonzeros-suc : (n : ℕ) (f : ℕ → F) → nonzeros K (suc n) f ≡ nonzeros K n f + weight_by (K.is_zero (f n))
  unfolding nonzeros
  nonzeros-suc n f = refl

  pub weight_zero : (x : F) → x ≡ 𝟘 → weight_by (K.is_zero x) ≡ 0
  weight_zero x e = elim (K.is_zero x) as (λ w. weight_by w ≡ 0) [ inl same ↦ refl | inr apart ↦ absurd (apart e) ]

  pub weight_one : (x : F) → x ≢ 𝟘 → weight_by (K.is_zero x) ≡ 1
  weight_one x h = elim (K.is_zero x) as (λ w. weight_by w ≡ 1) [ inl same ↦ absurd (h same) | inr apart ↦ refl ]

  -- if one list of factors is zero wherever another is, it has at most as many that are not zero
  pub nonzeros_mono : (n : ℕ) (f g : ℕ → F) → ((i : ℕ) → i < n → g i ≡ 𝟘 → f i ≡ 𝟘) → nonzeros K n f ≤ nonzeros K n g
  unfolding nonzeros
  nonzeros_mono zero f g down = omega arith
  nonzeros_mono (suc n) f g down =
      omega (arith, nonzeros_mono n f g (λ i h. down i (omega arith)), weight_more (K.is_zero (f n)) (K.is_zero (g n)) (down n (omega arith)) (λ apart same. apart same))

  -- each factor times the sum of its element and another
  abbrev pub lowered : (ℕ → F) → (ℕ → F) → F → ℕ → F
  lowered x v y j = v j ⊗ (x j ⊕ y)

  lowered_term : (x v p y : F) → v ⊗ (x ⊕ y) ⊗ p ≡ v ⊗ (x ⊗ p) ⊕ y ⊗ (v ⊗ p)
  lowered_term x v p y =
      simp (mul_assoc, mul_comm, mul_add, mul_left_comm)

  -- the sum of the lowered factors is the next sum and y times this one
  pub power_sum-lowered : (n : ℕ) (x v : ℕ → F) (y : F) (i : ℕ) → power_sum K n x (lowered x v y) i ≡ power_sum K n x v (suc i) ⊕ y ⊗ power_sum K n x v i
  power_sum-lowered n x v y i =
      rw (
        sum_same K n _ _
            (λ j h. lowered_term (x j) (v j) (power K (x j) i) y ∙ ap (λ w. v j ⊗ w ⊕ y ⊗ (v j ⊗ power K (x j) i)) (sym (power-suc K (x j) i))),
        sum-add K n (λ j. v j ⊗ power K (x j) (suc i)) (λ j. y ⊗ (v j ⊗ power K (x j) i)),
        sum-mul K n y (λ j. v j ⊗ power K (x j) i),
      )

  -- without its last term
  last_apart : (p q r s y : F) → q ≡ r ⊗ y → p ⊕ q ≡ 𝟘 → s ⊕ r ≡ 𝟘 → p ⊕ y ⊗ s ≡ 𝟘
  last_apart p q r s y e high low =
      rw (same_from_sum K p q high, e, same_from_sum K s r low, mul_comm K y r, add_self)

  abbrev Vanishing : ℕ → (ℕ → F) → (ℕ → F) → ℕ → ℕ → Type 0
  Vanishing n x v m s = (i : ℕ) → s ≤ i → i < s + m → power_sum K n x v i ≡ 𝟘

  -- that the sums of n terms say so
  abbrev IsDecided : ℕ → (ℕ → F) → Type 0
  IsDecided n x = (m s : ℕ) (v : ℕ → F) → nonzeros K n v ≤ m → Vanishing n x v m s → (j : ℕ) → j < n → v j ≡ 𝟘

  -- the case of a last factor that is zero
  last_is_zero : (n : ℕ) (x : ℕ → F) → IsDecided n x → (m s : ℕ) (v : ℕ → F) → v n ≡ 𝟘 → nonzeros K (suc n) v ≤ m → Vanishing (suc n) x v m s → (j : ℕ) → j < suc n → v j ≡ 𝟘
  last_is_zero n x decided m s v same few none j h =
      elim (cases_eq j n) [ inl last ↦ rw last same | inr apart ↦ decided m s v (omega (arith, nonzeros-suc n v)) vanish j (omega arith) ]
    where
      vanish : Vanishing n x v m s
      vanish i low high =
          cc (add_zero K (power_sum K n x v i), same, zero_mul K (power K (x n) i), sum-suc K n _, none i low high)

  -- the sums of the lowered factors vanish, for one exponent less
  lowered_vanish : (n : ℕ) (x v : ℕ → F) (m s : ℕ) → Vanishing (suc n) x v (suc m) s → Vanishing n x (lowered x v (x n)) m s
  lowered_vanish n x v m s none i low high =
      power_sum-lowered n x v _ i
      ∙ last_apart _ _ _ _ (x n) next
      (sym (sum-suc K n _) ∙ none (suc i) (omega arith) (omega arith))
      (sym (sum-suc K n _) ∙ none i low (omega arith))
    where
      next : v n ⊗ power K (x n) (suc i) ≡ v n ⊗ power K (x n) i ⊗ x n
      next = cc (power-suc K (x n) i, mul_comm K (x n) _, mul_assoc K (v n) _ (x n))

  -- then the factors before the last are zero
  before_last : (n : ℕ) (x : ℕ → F) → IsDecided n x → AreApart (suc n) x → (m s : ℕ) (v : ℕ → F) → nonzeros K n v ≤ m → Vanishing (suc n) x v (suc m) s → (j : ℕ) → j < n → v j ≡ 𝟘
  before_last n x decided apart m s v few none j h =
      other_zero K _ (v j) different (mul_comm K _ (v j) ∙ decided m s _ fewer (lowered_vanish n x v m s none) j h)
    where
      different : x j ⊕ x n ≢ 𝟘
      different e = let same : j ≡ n = apart.apart j n (omega arith) (omega arith) (same_from_sum K (x j) (x n) e) in omega arith

      fewer : nonzeros K n (lowered x v (x n)) ≤ m
      fewer = omega (arith, nonzeros_mono n (lowered x v (x n)) v (λ i low e. cc (e, zero_mul K (x i ⊕ x n))))

  -- and so is the last
  last_too : (n : ℕ) (x v : ℕ → F) (s : ℕ) → x n ≢ 𝟘 → ((j : ℕ) → j < n → v j ≡ 𝟘) → power_sum K (suc n) x v s ≡ 𝟘 → v n ≡ 𝟘
  last_too n x v s live zeros none =
      other_zero K _ (v n) (power_ne_zero K (x n) s live)
      (cc (
        mul_comm K _ (v n),
        zero_add K (v n ⊗ power K (x n) s),
        sum_of_zeros K n _ (λ j h. ap (λ w. w ⊗ power K (x j) s) (zeros j h)
            ∙ zero_mul K _),
        sum-suc K n _,
        none,
      ))

  -- the case of a last factor that is not zero, which can't be
  last_is_other : (n : ℕ) (x : ℕ → F) → IsDecided n x → AreApart (suc n) x → x n ≢ 𝟘 → (m s : ℕ) (v : ℕ → F) → v n ≢ 𝟘 → nonzeros K (suc n) v ≤ m → Vanishing (suc n) x v m s → ⊥
  last_is_other n x decided apart live zero s v other few none =
      omega (arith, nonzeros-suc n v, weight_one (v n) other)
  last_is_other n x decided apart live (suc m) s v other few none =
      other (last_too n x v s live (before_last n x decided apart m s v (omega (arith, nonzeros-suc n v, weight_one (v n) other)) none) (none s (omega arith) (omega arith)))

  -- if at most m factors are not zero and the sums vanish for m successive exponents from s on, every factor is zero
  pub vanishing : (n m s : ℕ) (x v : ℕ → F) → AreApart n x → ((j : ℕ) → j < n → x j ≢ 𝟘) → nonzeros K n v ≤ m → ((i : ℕ) → s ≤ i → i < s + m → power_sum K n x v i ≡ 𝟘) → (j : ℕ) → j < n → v j ≡ 𝟘
  vanishing zero m s x v apart live few none j h = absurd (omega arith)
  vanishing (suc n) m s x v apart live few none j h =
      let decided : IsDecided n x = λ m s v few none. vanishing n m s x v (record { apart = λ i k hi hk e. apart.apart i k (omega arith) (omega arith) e }) (λ j h. live j (omega arith)) few none in
      elim (K.is_zero (v n)) [
        | inl same ↦ last_is_zero n x decided m s v same few none j h
        | inr other ↦ absurd (last_is_other n x decided apart (live n (omega arith)) m s v other few none)
      ]
