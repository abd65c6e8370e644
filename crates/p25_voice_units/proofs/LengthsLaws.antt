-- The number of bits of the types of voice data units, each by its data unit identifier.
use Rattle.std.proofs.{Common.{◌≡◌, ◌≢◌, ℕ, ◌%◌, ◌≤◌, eqb, cond, Some, None, refl, sym, subst, ◌∙◌, inl, inr, lit≤}, lemmas.Bool.{cond-false, ne_eqb, cases_eq}}
use Rattle.std.specs.Option.{unwrap_or}
use Rattle.p25_voice_units.specs.{declared.unit.VoiceUnit.{VoiceUnit}, declared.unit.VoiceUnit.TheVariants.{Header}, Lengths.{voice_duid, voice_length_of}}

pub length-header : voice_length_of 0 ≡ Some 770
unfolding voice_length_of
length-header = refl

pub length-end : voice_length_of 3 ≡ Some 140
unfolding voice_length_of
length-end = refl

pub length-ldu1 : voice_length_of 5 ≡ Some 1680
unfolding voice_length_of
length-ldu1 = refl

pub length-ldu2 : voice_length_of 10 ≡ Some 1680
unfolding voice_length_of
length-ldu2 = refl

pub length-tdulc : voice_length_of 15 ≡ Some 420
unfolding voice_length_of
length-tdulc = refl

-- an identifier has one length
pub one_length : {count len : ℕ} → (duid : ℕ) → voice_length_of duid ≡ Some count → voice_length_of duid ≡ Some len → len ≡ count
one_length duid known is = cc

-- a choice by the identifier of a voice data unit's type, or of none: a property of each choice is one of all
module _ {X : Type 0} (header end ldu1 ldu2 tdulc other : X) where
  abbrev by_duid : ℕ → X
  by_duid duid = cond (eqb duid 0) header (cond (eqb duid 3) end (cond (eqb duid 5) ldu1 (cond (eqb duid 10) ldu2 (cond (eqb duid 15) tdulc other))))

  pub by_duid-other : (duid : ℕ) → duid ≢ 0 → duid ≢ 3 → duid ≢ 5 → duid ≢ 10 → duid ≢ 15 → by_duid duid ≡ other
  by_duid-other duid no_header no_end no_ldu1 no_ldu2 no_tdulc =
      cond-false (eqb duid 0) _ _ (ne_eqb duid 0 no_header)
      ∙ cond-false (eqb duid 3) _ _ (ne_eqb duid 3 no_end)
      ∙ cond-false (eqb duid 5) _ _ (ne_eqb duid 5 no_ldu1)
      ∙ cond-false (eqb duid 10) _ _ (ne_eqb duid 10 no_ldu2)
      ∙ cond-false (eqb duid 15) _ _ (ne_eqb duid 15 no_tdulc)

  pub by_duid-cases : (P : ℕ → X → Type 0) → P 0 header → P 3 end → P 5 ldu1 → P 10 ldu2 → P 15 tdulc → ((duid : ℕ) → P duid other) → (duid : ℕ) → P duid (by_duid duid)
  by_duid-cases P of_header of_end of_ldu1 of_ldu2 of_tdulc of_other duid =
      elim (cases_eq duid 0) [
        | inl same ↦ at 0 same of_header
        | inr no_header ↦ elim (cases_eq duid 3) [
          | inl same ↦ at 3 same of_end
          | inr no_end ↦ elim (cases_eq duid 5) [
            | inl same ↦ at 5 same of_ldu1
            | inr no_ldu1 ↦ elim (cases_eq duid 10) [
              | inl same ↦ at 10 same of_ldu2
              | inr no_ldu2 ↦ elim (cases_eq duid 15) [
                | inl same ↦ at 15 same of_tdulc
                | inr no_tdulc ↦ subst (P duid) (sym (by_duid-other duid no_header no_end no_ldu1 no_ldu2 no_tdulc)) (of_other duid)
              ]
            ]
          ]
        ]
      ]
    where
      at : (kind : ℕ) → duid ≡ kind → P kind (by_duid kind) → P duid (by_duid duid)
      at kind same holds = subst (λ d. P d (by_duid d)) (sym same) holds

-- an identifier of no voice data unit
pub length-other : (duid : ℕ) → duid ≢ 0 → duid ≢ 3 → duid ≢ 5 → duid ≢ 10 → duid ≢ 15 → voice_length_of duid ≡ None
unfolding voice_length_of
length-other = by_duid-other (Some 770) (Some 140) (Some 1680) (Some 1680) (Some 420) None

-- an identifier of a length is one of these
pub length-cases : (P : ℕ → ℕ → Type 0) → P 0 770 → P 3 140 → P 5 1680 → P 10 1680 → P 15 420 → (duid count : ℕ) → voice_length_of duid ≡ Some count → P duid count
unfolding voice_length_of
length-cases P header end ldu1 ldu2 tdulc duid count =
    by_duid-cases (Some 770) (Some 140) (Some 1680) (Some 1680) (Some 420) None (λ d found. found ≡ Some count → P d count)
    (at 0 770 header) (at 3 140 end) (at 5 1680 ldu1) (at 10 1680 ldu2) (at 15 420 tdulc) (λ d none. absurd (cc)) duid
  where
    at : (k n : ℕ) → P k n → Some n ≡ Some count → P k count
    at k n holds is = let many : n ≡ count = cc in subst (P k) many holds

-- a data unit of each type has at least the bits of sync and NID, at most 1,680 bits, and fills blocks of 70
pub voice_lengths : (duid count : ℕ) → voice_length_of duid ≡ Some count → (112 ≤ count) × (count ≤ 1680) × (count % 70 ≡ 0)
voice_lengths =
    length-cases (λ duid count. (112 ≤ count) × (count ≤ 1680) × (count % 70 ≡ 0))
    (lit≤ tt, lit≤ tt, refl) (lit≤ tt, lit≤ tt, refl) (lit≤ tt, lit≤ tt, refl) (lit≤ tt, lit≤ tt, refl) (lit≤ tt, lit≤ tt, refl)

-- each voice data unit has a length
pub length-known : (unit : VoiceUnit) → voice_length_of (voice_duid unit) ≡ Some (unwrap_or (voice_length_of (voice_duid unit)) 0)
unfolding voice_length_of
length-known (Header word) = refl
length-known unit = refl
