-- A data unit whose coded fields are decoded keeps its number of bits, and its sync and NID: DUID by DUID.
use Rattle.std.proofs.Common.{◌≡◌, ℕ, ◌*◌, ◌≤◌, inl, inr, Bool, List, [], ◌∷◌, ◌++◌, length, take, Some, refl, ap, sym, subst, ◌∙◌, arith, ℤ, length-append}
use Rattle.std.proofs.lemmas.Bool.{cases_eq}
use Rattle.p25_bits.specs.Bits.{bits_of}
use Rattle.p25_bits.proofs.BitsLaws.{length-bits_of}
use Rattle.p25_coded_fields.specs.Layouts.{places_from}
use Rattle.p25_coded_fields.proofs.CodesLaws.{all_end}
use Rattle.p25_golay.specs.{Golay18.{golay18_word}, Golay18Laws.{golay18_code}, Golay24.{golay24_word}, Golay24Laws.{golay24_code}}
use Rattle.p25_hamming.specs.{Hamming10.{hamming10_word}, Hamming10Laws.{hamming10_code}, Lsd16Laws.{lsd16_code}}
use Rattle.p25_voice_units.specs.{FieldLayouts.{word_places}, Layouts.{hdu_rows, ldu_rows, tdulc_rows}, Lengths.{voice_length_of}}
use Rattle.p25_voice_units.proofs.{FieldCodesLaws.{header_there, link_there, tdulc_there}, KindsLaws.{long_by_kind}, LengthsLaws.{length-header, length-ldu1, length-ldu2, length-tdulc}}
use Rattle.p25_decide.specs.DecidedUnits.{decided_bare, low_decided, with_low_speed}
use Rattle.p25_decide.proofs.{KeptLaws.{all_behind, with_field-kept}, PlacesLaws.{length-with_words, take-with_words}}
use Rattle.p25_decide.proofs.UnitsLaws.{decided-header, decided-ldu1, decided-ldu2, decided-other, decided-tdulc}

-- bits that are as many as others, and begin with the same sync and NID
abbrev IsKept : List Bool → List Bool → Type 0
IsKept bare now = (length now ≡ length bare) × (take 112 now ≡ take 112 bare)

kept_at : (duid kind : ℕ) (levels : List ℤ) (bare value : List Bool) → duid ≡ kind → decided_bare kind levels bare ≡ value → IsKept bare value → IsKept bare (decided_bare duid levels bare)
kept_at duid kind levels bare value same is kept = subst (λ d. IsKept bare (decided_bare d levels bare)) (sym same) (subst (λ (bits : List Bool). IsKept bare bits) (sym is) kept)

length-low_decided : (levels : List ℤ) (at : ℕ) → length (low_decided levels at) ≡ 16
unfolding low_decided
length-low_decided levels at = lsd16_code.is.laws.long _ (lsd16_code.is.encodes (bits_of 8 _) (length-bits_of 8 _)).word_of_set

low_kept : (levels : List ℤ) (bare : List Bool) → length bare ≡ 1680 → IsKept bare (with_low_speed levels bare)
unfolding with_low_speed
low_kept levels bare long =
    let places : List ℕ = 1504 ∷ 1520 ∷ [] in
    let words = low_decided levels 1504 ++ low_decided levels 1520 in
    let enough : 16 * length places ≤ length words
    = omega (arith, length-append (low_decided levels 1504) (low_decided levels 1520), length-low_decided levels 1504, length-low_decided levels 1520) in
    let there = all_end 16 1680 (length bare) places refl (omega arith) in
    (length-with_words 16 places words bare enough there, take-with_words 16 112 places words bare enough there (all_behind 112 places refl))

-- both, one after the other
kept_twice : (bare field low : List Bool) → IsKept bare field → IsKept field low → IsKept bare low
kept_twice bare field low first second = (second.0 ∙ first.0, second.1 ∙ first.1)

pub decided_bare-kept : (duid : ℕ) (levels : List ℤ) (bare : List Bool) → voice_length_of duid ≡ Some (length bare)
    → (length (decided_bare duid levels bare) ≡ length bare) × (take 112 (decided_bare duid levels bare) ≡ take 112 bare)
unfolding word_places places_from
decided_bare-kept duid levels bare long =
    elim (cases_eq duid 0) [
      | inl same ↦
          let full = long_by_kind duid 0 770 (length bare) same length-header long in
          kept_at duid 0 levels bare _ same (decided-header levels bare)
          (with_field-kept 18 1 golay18_code.is.laws.long golay18_word golay18_code.is.encodes 36 36 20 3 112 (word_places 18 hdu_rows) levels bare refl refl (header_there bare full) (all_behind 112 (word_places 18 hdu_rows) refl))
      | inr no_header ↦ elim (cases_eq duid 5) [
        | inl same ↦
            let full = long_by_kind duid 5 1680 (length bare) same length-ldu1 long in
            let field = with_field-kept 10 1 hamming10_code.is.laws.long hamming10_word hamming10_code.is.encodes 24 24 12 2 112 (word_places 10 ldu_rows) levels bare refl refl
            (link_there bare full) (all_behind 112 (word_places 10 ldu_rows) refl) in
            kept_at duid 5 levels bare _ same (decided-ldu1 levels bare) (kept_twice bare _ _ field (low_kept levels _ (field.0 ∙ full)))
        | inr no_ldu1 ↦ elim (cases_eq duid 10) [
          | inl same ↦
              let full = long_by_kind duid 10 1680 (length bare) same length-ldu2 long in
              let field = with_field-kept 10 1 hamming10_code.is.laws.long hamming10_word hamming10_code.is.encodes 24 24 16 1 112 (word_places 10 ldu_rows) levels bare refl refl
              (link_there bare full) (all_behind 112 (word_places 10 ldu_rows) refl) in
              kept_at duid 10 levels bare _ same (decided-ldu2 levels bare) (kept_twice bare _ _ field (low_kept levels _ (field.0 ∙ full)))
          | inr no_ldu2 ↦ elim (cases_eq duid 15) [
            | inl same ↦
                let full = long_by_kind duid 15 420 (length bare) same length-tdulc long in
                kept_at duid 15 levels bare _ same (decided-tdulc levels bare)
                (with_field-kept 24 2 golay24_code.is.laws.long golay24_word golay24_code.is.encodes 12 24 12 3 112 (word_places 24 tdulc_rows) levels bare refl refl (tdulc_there bare full) (all_behind 112 (word_places 24 tdulc_rows) refl))
            | inr no_tdulc ↦ let same = decided-other duid levels bare no_header no_ldu1 no_ldu2 no_tdulc in (ap length same, ap (take 112) same)
          ]
        ]
      ]
    ]
