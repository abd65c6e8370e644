-- The decodings of the layouts of the coded fields are those of their codes, each by the laws of its inner and its outer code. And the positions of
-- the words of a field within a data unit.
use Rattle.std.proofs.Common.{◌≡◌, ◌+◌, ◌≤◌, Bool, List, length, All, refl, arith}
use Rattle.p25_golay.specs.{Golay18.{IsGolay18}, Golay18Laws.{golay18_code, golay18_reading_of}, Golay24.{IsGolay24}, Golay24Laws.{golay24_code, golay24_reading_of}}
use Rattle.p25_hamming.specs.{Hamming10.{IsHamming10}, Hamming10Laws.{hamming10_code, hamming10_reading_of}}
use Rattle.p25_reed_solomon.specs.Words.{IsWord}
use Rattle.p25_coded_fields.specs.{Layouts.{places_from}, Within.{HasCodes}}
use Rattle.p25_coded_fields.proofs.CodesLaws.{layout_codes, all_end}
use Rattle.p25_voice_units.specs.{Layouts.{hdu_rows, ldu_rows, tdulc_rows}, FieldLayouts.{word_places, header_layout, link_layout, sync_layout, tdulc_layout}}
use Rattle.p25_voice_units.proofs.CodesLaws.{header_code, link_code, sync_code}

pub header_codes : HasCodes IsGolay18 3 (IsWord 36 20) 16 header_layout
unfolding word_places places_from
header_codes = layout_codes golay18_code.is.laws golay18_reading_of golay18_code.is.reads (word_places 18 hdu_rows) 1 36 20 header_code refl

pub link_codes : HasCodes IsHamming10 1 (IsWord 24 12) 12 link_layout
unfolding word_places places_from
link_codes = layout_codes hamming10_code.is.laws hamming10_reading_of hamming10_code.is.reads (word_places 10 ldu_rows) 1 24 12 link_code refl

pub sync_codes : HasCodes IsHamming10 1 (IsWord 24 16) 8 sync_layout
unfolding word_places places_from
sync_codes = layout_codes hamming10_code.is.laws hamming10_reading_of hamming10_code.is.reads (word_places 10 ldu_rows) 1 24 16 sync_code refl

pub tdulc_codes : HasCodes IsGolay24 3 (IsWord 24 12) 12 tdulc_layout
unfolding word_places places_from
tdulc_codes = layout_codes golay24_code.is.laws golay24_reading_of golay24_code.is.reads (word_places 24 tdulc_rows) 2 24 12 link_code refl

-- the inner words are within the data unit
pub header_there : (bare : List Bool) → length bare ≡ 770 → All (λ at. at + 18 ≤ length bare) header_layout.places
unfolding word_places places_from
header_there bare long = let fits : 770 ≤ length bare = omega arith in all_end 18 770 (length bare) (word_places 18 hdu_rows) refl fits

pub link_there : (bare : List Bool) → length bare ≡ 1680 → All (λ at. at + 10 ≤ length bare) link_layout.places
unfolding word_places places_from
link_there bare long = let fits : 1680 ≤ length bare = omega arith in all_end 10 1680 (length bare) (word_places 10 ldu_rows) refl fits

pub tdulc_there : (bare : List Bool) → length bare ≡ 420 → All (λ at. at + 24 ≤ length bare) tdulc_layout.places
unfolding word_places places_from
tdulc_there bare long = let fits : 420 ≤ length bare = omega arith in all_end 24 420 (length bare) (word_places 24 tdulc_rows) refl fits
