-- Coefficients in lists, and the steps of the loops over them: a step writes one position, and a list has zeros after its end.
use Rattle.std.proofs.Common.{◌≡◌, ◌≢◌, ◌⊎◌, ℕ, suc, ◌+◌, ◌-◌, ◌<◌, ◌≤◌, List, length, get_or, set, replicate, drop, ◌++◌, sym, ap, ap₂, ◌∙◌, inl, inr, arith, get_or-set_same, get_or-set_other}
use Rattle.std.proofs.{lemmas.Bool.{cases_eq, cases_lt}, lemmas.List.{get_or_append_left, get_or-append_right, get_or-drop, get_or_past, get_or_read, get_or-replicate, length-replicate, length-set}}
use Rattle.p25_gf64.specs.Field.{Field}
use Rattle.p25_gf64.proofs.FieldLaws.{add_comm, add_zero, mul_comm, mul_zero, one_mul}
use Rattle.p25_algebra.specs.{Sums.{sum_below}, Series.{coefficient, value_at, product_at, shifted, IsShort, IsDegree}}
use Rattle.p25_algebra.proofs.{SumLaws.{sum-suc}, ValueLaws.{value_first, value_same}, ProductLaws.{shifted_below, shifted_from, product_by_rows, product_zero, zero_or_degree}}

module _ {F : Type 0} (K : Field F) where
  open K use {zero as 𝟘, one as 𝟙, add as ◌⊕◌, mul as ◌⊗◌}

  infixl 65 ◌⊕◌
  infixl 70 ◌⊗◌
  -- a coefficient past the end is zero
  pub coefficient_past : (cs : List F) (i : ℕ) → length cs ≤ i → coefficient K cs i ≡ 𝟘
  coefficient_past cs i h = get_or_past cs i 𝟘 h

  -- a list of zeros has zeros for coefficients
  pub coefficient_blank : (z : F) (n i : ℕ) → z ≡ 𝟘 → coefficient K (replicate n z) i ≡ 𝟘
  coefficient_blank z n i e =
      elim (cases_lt i n) [
        | inl below ↦ simp (get_or-replicate, e)
        | inr above ↦ coefficient_past _ i (omega (arith, length-replicate n z))
      ]

  -- an element that is read in a list is its coefficient
  pub coefficient_read : (cs : List F) (i : ℕ) (x : F) → i < length cs → x ≡ get_or cs i x → x ≡ coefficient K cs i
  coefficient_read cs i x h e = get_or_read cs i x h e 𝟘

  -- a list whose first elements are replaced has the coefficients of these, and then its own
  pub front_replaced : (front cs : List F) (n i : ℕ) → length front ≡ n → i < n → coefficient K (front ++ drop n cs) i ≡ coefficient K front i
  front_replaced front cs n i long below = get_or_append_left front _ 𝟘 i (omega arith)

  pub rest_kept : (front cs : List F) (n i : ℕ) → length front ≡ n → n ≤ i → coefficient K (front ++ drop n cs) i ≡ coefficient K cs i
  rest_kept front cs n i long from =
      cc (get_or-append_right front _ n i 𝟘 long from, get_or-drop n cs _ 𝟘, same)
    where
      same : n + (i - n) ≡ i
      same = omega arith

  -- a list of n coefficients is short
  pub short_list : (n : ℕ) (cs : List F) → length cs ≡ n → IsShort K n (coefficient K cs)
  short_list n cs e = record { above = λ i h. coefficient_past cs i (omega arith) }

  -- below the shift nothing is added
  pub nothing_added : (a factor : F) (s : ℕ) (f : ℕ → F) (k : ℕ) → k < s → a ≡ a ⊕ factor ⊗ shifted K s f k
  nothing_added a factor s f k h =
      simp (add_zero, mul_zero, shifted_below)

  -- a coefficient that is written has the value, and the others are as before
  pub written_at : (cs : List F) (i : ℕ) (x : F) → i < length cs → coefficient K (set cs i x) i ≡ x
  written_at cs i x h = get_or-set_same cs i x 𝟘 h

  pub written_elsewhere : (cs : List F) (i k : ℕ) (x : F) → k ≢ i → coefficient K (set cs i x) k ≡ coefficient K cs k
  written_elsewhere cs i k x apart = get_or-set_other cs i k x 𝟘 apart

  -- a multiple without a shift is added to every coefficient
  pub multiple_everywhere : (old other new : List F) (factor : F) → length old ≡ length other → length new ≡ length old
      → ((k : ℕ) → k < length old → coefficient K new k ≡ coefficient K old k ⊕ factor ⊗ shifted K 0 (coefficient K other) k)
      → (i : ℕ) → coefficient K new i ≡ coefficient K old i ⊕ factor ⊗ coefficient K other i
  multiple_everywhere old other new factor same kept added i =
      elim (cases_lt i (length old)) [
        | inl below ↦ cc (added i below, shifted_from K 0 _ i (omega arith), unshifted)
        | inr above ↦
            cc (coefficient_past new i (omega arith), add_zero K 𝟘, mul_zero K factor, coefficient_past old i above, coefficient_past other i (omega arith))
      ]
    where
      unshifted : i - 0 ≡ i
      unshifted = omega arith

  -- so is the other list, if the factor is one
  pub one_added : (old other new : List F) (one : F) → one ≡ 𝟙 → length old ≡ length other
      → length new ≡ length old → ((k : ℕ) → k < length old → coefficient K new k ≡ coefficient K old k ⊕ one ⊗ shifted K 0 (coefficient K other) k)
      → (i : ℕ) → coefficient K new i ≡ coefficient K old i ⊕ coefficient K other i
  one_added old other new one e same kept added i =
      cc (multiple_everywhere old other new one same kept added i, one_mul K (coefficient K other i))

  -- a step of Horner's rule
  pub horner_step : (f : ℕ → F) (n i : ℕ) (x : F) → 0 < i → i ≤ n → value_at K (n - i) (λ k. f (i + k)) x ⊗ x ⊕ f (i - 1) ≡ value_at K (n - (i - 1)) (λ k. f (i - 1 + k)) x
  horner_step f n i x positive le =
      add_comm K (value_at K (n - i) (λ k. f (i + k)) x ⊗ x) (f (i - 1))
      ∙ ap₂ ◌⊕◌ (ap f first) (mul_comm K (value_at K (n - i) (λ k. f (i + k)) x) x ∙ ap (λ w. x ⊗ w) (value_same K (n - i) (λ k. f (i + k)) (λ k. f (i - 1 + suc k)) x (λ k h. ap f (next k))))
      ∙ sym (value_first K (n - i) (λ k. f (i - 1 + k)) x)
      ∙ ap (λ m. value_at K m (λ k. f (i - 1 + k)) x) more
    where
      first : i - 1 ≡ i - 1 + 0
      first = omega arith

      next : (k : ℕ) → i + k ≡ i - 1 + suc k
      next k = omega arith

      more : suc (n - i) ≡ n - (i - 1)
      more = omega arith

  -- if the degrees add to less than n, one of two coefficients whose indices add to n or more is zero
  pub beyond_degrees : (n m : ℕ) (f g : ℕ → F) → IsShort K m f → IsShort K m g → ((d e : ℕ) → IsDegree K f d → IsDegree K g e → d + e < n) → (i j : ℕ) → n ≤ i + j → (f i ≡ 𝟘) ⊎ (g j ≡ 𝟘)
  beyond_degrees n m f g short_f short_g fits i j h =
      elim (zero_or_degree K m f short_f) [
        | inl none ↦ inl (none i)
        | inr (d, low_d, df) ↦ elim (zero_or_degree K m g short_g) [
          | inl none ↦ inr (none j)
          | inr (e, low_e, dg) ↦ elim (cases_lt d i) [
            | inl above ↦ inl (df.above i above)
            | inr below ↦ inr (dg.above j (omega (arith, fits d e df dg)))
          ]
        ]
      ]

  -- n rows of the product are the product, if it fits
  pub rows_are_product : (n m : ℕ) (f g h : ℕ → F) → m ≡ n → IsShort K n f → IsShort K n g → IsShort K n h → ((d e : ℕ) → IsDegree K f d → IsDegree K g e → d + e < n)
      → ((k : ℕ) → k < n → h k ≡ sum_below K m (λ i. f i ⊗ shifted K i g k)) → (k : ℕ) → h k ≡ product_at K f g k
  rows_are_product n m f g h all short_f short_g short_h fits rows k =
      elim (cases_lt k n) [
        | inl below ↦ cc (rows k below, product_by_rows K n f g short_f k)
        | inr above ↦ short_h.above k above ∙ sym (product_zero K f g k (λ i j whole. beyond_degrees n n f g short_f short_g fits i j (omega arith)))
      ]

  -- a list while multiples of g, shifted by s, are added to its coefficients before i
  abbrev pub AddedBefore : ℕ → List F → (ℕ → F) → F → ℕ → (ℕ → F) → Type 0
  AddedBefore i into old factor s g =
      ((k : ℕ) → k < i → k < length into → coefficient K into k ≡ old k ⊕ factor ⊗ shifted K s g k)
      × ((k : ℕ) → i ≤ k → coefficient K into k ≡ old k)

  -- one more coefficient
  pub added_step : (i : ℕ) (into : List F) (old : ℕ → F) (factor : F) (s : ℕ) (g : ℕ → F) (x : F)
      → s ≤ i → i < length into → x ≡ coefficient K into i ⊕ factor ⊗ g (i - s) → AddedBefore i into old factor s g
      → AddedBefore (i + 1) (set into i x) old factor s g
  added_step i into old factor s g x from within e kept = (before, after)
    where
      before : (k : ℕ) → k < i + 1 → k < length (set into i x) → coefficient K (set into i x) k ≡ old k ⊕ factor ⊗ shifted K s g k
      before k low fits =
          elim (cases_eq k i) [
            | inl same ↦
                rw same
                (written_at into i x within
                ∙ e
                ∙ ap₂ (λ a b. a ⊕ factor ⊗ b) (kept.1 i (omega arith)) (sym (shifted_from K s g i from)))
            | inr apart ↦ written_elsewhere into i k x apart ∙ kept.0 k (omega arith) (omega (arith, length-set into i x))
          ]

      after : (k : ℕ) → i + 1 ≤ k → coefficient K (set into i x) k ≡ old k
      after k high = written_elsewhere into i k x (omega arith) ∙ kept.1 k (omega arith)

  -- one more row
  pub rows_step : (i : ℕ) (f g : ℕ → F) (factor new old : F) (k : ℕ) → factor ≡ f i
      → new ≡ old ⊕ factor ⊗ shifted K i g k → old ≡ sum_below K i (λ i. f i ⊗ shifted K i g k) → new ≡ sum_below K (i + 1) (λ i. f i ⊗ shifted K i g k)
  rows_step i f g factor new old k e added rows =
      cc (rows, sum-suc K i _, more)
    where
      more : suc i ≡ i + 1
      more = omega arith
