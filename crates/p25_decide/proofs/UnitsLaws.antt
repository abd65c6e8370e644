-- The coded fields of a unit, DUID by DUID: at the DUID of each the definition computes to its own field.
use Rattle.std.proofs.{Common.{◌≡◌, ◌≢◌, ℕ, ◌/◌, Bool, List, eqb, refl, ap, sym, ◌∙◌, ℤ}, lemmas.Bool.{cond-false, ne_eqb}}
use Rattle.p25_bits.specs.Bits.{bits_of}
use Rattle.p25_coded_fields.specs.Decided.{inner_words}
use Rattle.p25_code.specs.LeastCost.{cheapest_information}
use Rattle.p25_golay.specs.{Golay18.{golay18_word}, Golay24.{golay24_word}}
use Rattle.p25_hamming.specs.{Hamming10.{hamming10_word}, Lsd16.{lsd16_word}}
use Rattle.p25_reed_solomon.specs.RsReadings.{rs_erased_reading_of}
use Rattle.p25_voice_units.specs.{FieldLayouts.{word_places}, Layouts.{hdu_rows, ldu_rows, tdulc_rows}}
use Rattle.p25_decide.specs.{LevelCosts.{word_level_costs}, DecidedUnits.{decided_bare, low_decided, with_field, with_low_speed}}

pub decided-header : (levels : List ℤ) (bare : List Bool)
    → decided_bare 0 levels bare ≡ with_field (inner_words 36 18 1 golay18_word) (rs_erased_reading_of 36 20) 3 (word_places 18 hdu_rows) levels bare
unfolding decided_bare
decided-header levels bare = refl

pub decided-ldu1 : (levels : List ℤ) (bare : List Bool)
    → decided_bare 5 levels bare ≡ with_low_speed levels (with_field (inner_words 24 10 1 hamming10_word) (rs_erased_reading_of 24 12) 2 (word_places 10 ldu_rows) levels bare)
unfolding decided_bare
decided-ldu1 levels bare = refl

pub decided-ldu2 : (levels : List ℤ) (bare : List Bool)
    → decided_bare 10 levels bare ≡ with_low_speed levels (with_field (inner_words 24 10 1 hamming10_word) (rs_erased_reading_of 24 16) 1 (word_places 10 ldu_rows) levels bare)
unfolding decided_bare
decided-ldu2 levels bare = refl

pub decided-tdulc : (levels : List ℤ) (bare : List Bool)
    → decided_bare 15 levels bare ≡ with_field (inner_words 12 24 2 golay24_word) (rs_erased_reading_of 24 12) 3 (word_places 24 tdulc_rows) levels bare
unfolding decided_bare
decided-tdulc levels bare = refl

-- a unit of another DUID has no coded field
pub decided-other : (duid : ℕ) (levels : List ℤ) (bare : List Bool) → duid ≢ 0 → duid ≢ 5 → duid ≢ 10 → duid ≢ 15 → decided_bare duid levels bare ≡ bare
unfolding decided_bare
decided-other duid levels bare no_header no_ldu1 no_ldu2 no_tdulc =
    cond-false (eqb duid 0) _ _ (ne_eqb duid 0 no_header)
    ∙ cond-false (eqb duid 5) _ _ (ne_eqb duid 5 no_ldu1)
    ∙ cond-false (eqb duid 10) _ _ (ne_eqb duid 10 no_ldu2)
    ∙ cond-false (eqb duid 15) _ _ (ne_eqb duid 15 no_tdulc)

-- the output for a data unit of a DUID
pub decided_by_duid : (duid kind : ℕ) (levels : List ℤ) (bare now value : List Bool) → duid ≡ kind → now ≡ value → decided_bare kind levels bare ≡ value → now ≡ decided_bare duid levels bare
decided_by_duid duid kind levels bare now value same is decided = is ∙ sym decided ∙ ap (λ d. decided_bare d levels bare) (sym same)

-- a codeword of low speed data as it is encoded
pub low_word-is : (levels : List ℤ) (at info word : ℕ) (costs : List ℕ) → costs ≡ word_level_costs levels (at / 2) 8 → info ≡ cheapest_information lsd16_word 8 costs
    → bits_of 16 word ≡ lsd16_word (bits_of 8 info) → bits_of 16 word ≡ low_decided levels at
unfolding low_decided
low_word-is levels at info word costs are is encoded =
    encoded ∙ ap (λ n. lsd16_word (bits_of 8 n)) (is ∙ ap (cheapest_information lsd16_word 8) are)
