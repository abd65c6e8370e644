-- Voice units (HDU, LDU1, LDU2 and TDULC) whose coded fields are decoded from their soft symbols.
use Rattle.std.specs.Prelude.{ℕ, ◌+◌, ◌/◌, ◌==◌, if◌then◌else◌, Bool, List, [], ◌∷◌, ◌++◌, take, drop, ℤ, Option}
use Rattle.p25_bch_nid.specs.Duids.{duid_hdu, duid_ldu1, duid_ldu2, duid_tdulc}
use Rattle.p25_code.specs.LeastCost.{cheapest_word}
use Rattle.p25_coded_fields.specs.{Decided.{InnerWords, inner_words, symbols_decided}, Layouts.{field_bits}}
use Rattle.p25_gf64.specs.declared.symbol.Sym.{Sym}
use Rattle.p25_golay.specs.{Golay18.{golay18_word}, Golay24.{golay24_word}}
use Rattle.p25_hamming.specs.{Hamming10.{hamming10_word}, Lsd16.{lsd16_word}}
use Rattle.p25_reed_solomon.specs.RsReadings.{rs_erased_reading_of}
use Rattle.p25_status.specs.Woven.{woven, bare_of, statuses_of}
use Rattle.p25_voice_units.specs.{FieldLayouts.{word_places}, Layouts.{hdu_rows, ldu_rows, tdulc_rows}}
use Rattle.p25_decide.specs.LevelCosts.{field_costs, word_level_costs}

-- bits with codewords of `size` bits, one after the other, instead of the bits at some positions
unfoldable pub with_words : ℕ → List ℕ → List Bool → List Bool → List Bool
with_words size [] words bare = bare
with_words size (at ∷ places) words bare = with_words size places (drop size words) (take at bare ++ (take size words ++ drop (at + size) bare))

-- the inner codewords of a field as they are decoded from the soft symbols of the unit, with at most so many pairs of symbols erased
unfoldable pub field_decided : InnerWords → (List (Option Sym) → Option (List Sym)) → ℕ → List ℕ → List ℤ → List Bool
field_decided words outer_reading most places levels =
    field_bits words.encoding words.each words.count (symbols_decided words outer_reading most (field_costs words.size places levels))

-- a unit without its status symbols, with the coded field as it is decoded from the soft symbols
unfoldable pub with_field : InnerWords → (List (Option Sym) → Option (List Sym)) → ℕ → List ℕ → List ℤ → List Bool → List Bool
with_field words outer_reading most places levels bare = with_words words.size places (field_decided words outer_reading most places levels) bare

-- the codeword of low speed data (LSD) at a position as it is decoded from the soft symbols of the unit
unfoldable pub low_decided : List ℤ → ℕ → List Bool
low_decided levels at = cheapest_word lsd16_word 8 (word_level_costs levels (at / 2) 8)

-- a unit with both codewords of low speed data, which are at the positions 1504 and 1520
unfoldable pub with_low_speed : List ℤ → List Bool → List Bool
with_low_speed levels bare = with_words 16 (1504 ∷ 1520 ∷ []) (low_decided levels 1504 ++ low_decided levels 1520) bare

-- a unit of a DUID without its status symbols, its coded fields as they are decoded; a terminator (TDU) has none
unfoldable pub decided_bare : ℕ → List ℤ → List Bool → List Bool
decided_bare duid levels bare =
    if duid == duid_hdu
    then with_field (inner_words 36 18 1 golay18_word) (rs_erased_reading_of 36 20) 3 (word_places 18 hdu_rows) levels bare
    else if duid == duid_ldu1
    then with_low_speed levels (with_field (inner_words 24 10 1 hamming10_word) (rs_erased_reading_of 24 12) 2 (word_places 10 ldu_rows) levels bare)
    else if duid == duid_ldu2
    then with_low_speed levels (with_field (inner_words 24 10 1 hamming10_word) (rs_erased_reading_of 24 16) 1 (word_places 10 ldu_rows) levels bare)
    else if duid == duid_tdulc
    then with_field (inner_words 12 24 2 golay24_word) (rs_erased_reading_of 24 12) 3 (word_places 24 tdulc_rows) levels bare
    else bare

-- the transmitted bits of the unit: its status symbols stay
unfoldable pub decided_sent : ℕ → List ℤ → List Bool → List Bool
decided_sent duid levels sent = woven (decided_bare duid levels (bare_of sent)) (statuses_of sent)
