-- Whether a field is among those that fail: a search field by field.
use Rattle.std.proofs.{Common.{◌≡◌, ℕ, ◌+◌, ◌<◌, ◌≤◌, ◌||◌, Bool, true, false, List, length, take, refl, ap, ap₂, sym, ◌∙◌, Some}, lemmas.List.{take_all}}
use Rattle.std.proofs.{lemmas.List.Folds.{list_any_at, list_any_more}, lemmas.Option.{get_or_from_slice_get}}
use Rattle.std.specs.{Prelude.{slice_get, nat_eq}, List.{list_any}}
use Rattle.p25_status.specs.{declared.fields.Field.{Field}, declared.fields.Field.TheVariants.{PacketCrc, Block}}
use Rattle.p25_soft.specs.Softened.{is_block, is_packet_crc}

pub is_packet_crc-is : (field : Field) → field ≡ PacketCrc → is_packet_crc field ≡ true
unfolding is_packet_crc
is_packet_crc-is field is = ap is_packet_crc is

pub is_packet_crc-other : (field : Field) → (field ≡ PacketCrc → ⊥) → is_packet_crc field ≡ false
unfolding is_packet_crc
is_packet_crc-other PacketCrc other = absurd (other refl)
is_packet_crc-other field other = refl

pub is_block-is : (j place : ℕ) (field : Field) → field ≡ Block place → nat_eq place j ≡ is_block j field
unfolding is_block
is_block-is j place field is = sym (ap (is_block j) is)

pub is_block-other : (j : ℕ) (field : Field) → ((place : ℕ) → field ≡ Block place → ⊥) → false ≡ is_block j field
unfolding is_block
is_block-other j (Block place) other = absurd (other place refl)
is_block-other j field other = refl

-- a field that was found is among them
pub found : (test : Field → Bool) (fields : List Field) (i : ℕ) (field : Field) → i < length fields → slice_get fields i ≡ Some field → test field ≡ true → list_any test fields ≡ true
found test fields i field inside is yes' = list_any_at test fields i field inside (ap test (get_or_from_slice_get fields i field field is) ∙ yes')

-- one more field is none of them
pub none_more : (test : Field → Bool) (fields : List Field) (i : ℕ) (field : Field) → i < length fields → slice_get fields i ≡ Some field → test field ≡ false
    → list_any test (take i fields) ≡ false → list_any test (take (i + 1) fields) ≡ false
none_more test fields i field inside is not_it none =
    list_any_more test fields i field inside ∙ ap₂ ◌||◌ none (ap test (get_or_from_slice_get fields i field field is) ∙ not_it)

-- none of all fields
pub none_at_all : (test : Field → Bool) (fields : List Field) (i : ℕ) → length fields ≤ i → list_any test (take i fields) ≡ false → list_any test fields ≡ false
none_at_all test fields i all none = ap (list_any test) (sym (take_all i fields all)) ∙ none
