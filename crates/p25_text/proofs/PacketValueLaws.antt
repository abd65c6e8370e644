-- The texts of blocks and slots: each decodes to its block or slot, and a text that is read is its text. By cases on the result of each step.
use Rattle.std.proofs.Common.{◌≡◌, ℕ, zero, suc, ◌+◌, ◌*◌, ◌<◌, ◌≤◌, ◌==◌, ◌&&◌, Bool, true, false, List, [], ◌∷◌, ◌++◌, length, take, drop, slice_index, get_or, map, Option, Some, None, inl, inr, refl, sym, ap, ap₂, subst, ◌∙◌, arith, length-append}
use Rattle.std.proofs.{lemmas.Bool.{and_parts, cases_Bool, cases_lt, cond-true, cond-false, eq-eqb, eqb-true, lt-ltb}, lemmas.List.Elements.{All-nil, All-cons}, lemmas.List.Folds.{list_all-append}}
use Rattle.std.specs.{Prelude.{nat_le, nat_lt}, List.{join_with_byte, list_all}, Option.{option_map}}
use Rattle.hex.specs.Hex.{encode_lower, encode_with, lower_digits}
use Rattle.hex.proofs.HexLemmas.{length-encode_with}
use Rattle.p25_line.specs.{Values.{is_lower_digit}, Words.{is_printed}, CommaLists.{comma_text, list_text}}
use Rattle.p25_line.proofs.{HexLaws.{list_all-encode_lower}, JoinLaws.{Lacks}, CommaListLaws.{AllFit, EntryLaws}, WordsLaws.{all-also}}
use Rattle.p25_packet_blocks.specs.{declared.block.Block.{Block}, declared.block.Slot.{Slot}, declared.block.Slot.TheVariants.{Good, Bad}, Sendable.{AreDataBlocks, IsDataBlock}}
use Rattle.p25_text.specs.{Packets.{block_from, block_in, block_text, slot_in, slot_text}, Values.{octets_in}}
use Rattle.p25_text.proofs.{ValueLaws.{octets_in-encode_lower, octets_in-text, one_octet}, WordLaws.{length-join, size_of}}

-- ---- the texts of slots

-- an octet of a block's text: a digit or the colon
abbrev is_mark : ℕ → Bool
is_mark octet = nat_le 48 octet && nat_le octet 122

abbrev are_marks : List ℕ → Bool
are_marks octets = list_all is_mark octets

mark-digit : (digit : ℕ) → is_lower_digit digit ≡ true → is_mark digit ≡ true
mark-digit digit lower = grind arith

marks-digits : (digits : List ℕ) → list_all is_lower_digit digits ≡ true → are_marks digits ≡ true
marks-digits digits lower = all-also is_lower_digit is_mark mark-digit digits lower

-- none of them is a comma
mark-comma : (octet : ℕ) → is_mark octet ≡ true → (octet == 44) ≡ false
mark-comma octet mark = grind arith

marks-comma : (octets : List ℕ) → are_marks octets ≡ true → Lacks 44 octets
marks-comma [] marks = All-nil (λ octet. (octet == 44) ≡ false)
marks-comma (octet ∷ octets) marks =
    let parts = and_parts (is_mark octet) (are_marks octets) marks in
    All-cons (λ o. (o == 44) ≡ false) octet octets (mark-comma octet parts.0) (marks-comma octets parts.1)

-- a slot that is `Good`, with a block that has the invariant of blocks
abbrev pub IsGoodSlot : Slot → Type 0
IsGoodSlot slot = (block : Block) × (slot ≡ Good block) × IsDataBlock block

block-marks : (block : Block) → IsDataBlock block → are_marks (block_text block) ≡ true
block-marks block fits =
    let serial = marks-digits (encode_lower (block.serial ∷ [])) (list_all-encode_lower (block.serial ∷ []) (one_octet block.serial (omega (arith, fits.serial_fits)))) in
    let octets = marks-digits (encode_lower block.octets) (list_all-encode_lower block.octets fits.small) in
    list_all-append is_mark (encode_lower (block.serial ∷ [])) (58 ∷ encode_lower block.octets) ∙ ap₂ ◌&&◌ serial octets

-- the length of the text of a block
pub length-block_text : (block : Block) → IsDataBlock block → length (block_text block) ≡ 35
unfolding encode_with
length-block_text block fits = omega (arith, length-encode_with lower_digits block.octets, fits.long)

-- the parts of a block's text
block_parts : (block : Block) → (slice_index (block_text block) 2 ≡ 58) × (take 2 (block_text block) ≡ encode_lower (block.serial ∷ [])) × (drop 3 (block_text block) ≡ encode_lower block.octets)
unfolding encode_with
block_parts block = (refl, refl, refl)

-- a text of 35 octets by these parts
text_parts : (text : List ℕ) → length text ≡ 35 → take 2 text ++ slice_index text 2 ∷ drop 3 text ≡ text
text_parts (a ∷ b ∷ c ∷ text) same = refl
text_parts text same = absurd (omega arith)

-- a block is read from its text
block_in-text : (block : Block) → IsDataBlock block → block_in (block_text block) ≡ Some block
block_in-text block fits =
    let text = block_text block in
    let parts = block_parts block in
    let serial = ap (octets_in 1) parts.1 ∙ octets_in-encode_lower 1 (block.serial ∷ []) (one_octet block.serial (omega (arith, fits.serial_fits))) refl in
    let octets = ap (octets_in 16) parts.2 ∙ octets_in-encode_lower 16 block.octets fits.small fits.long in
    cond-true ((length text == 35) && (slice_index text 2 == 58)) (block_from (octets_in 1 (take 2 text)) (octets_in 16 (drop 3 text))) None
    (ap₂ ◌&&◌ (eq-eqb (length text) 35 (length-block_text block fits)) (eq-eqb (slice_index text 2) 58 parts.0))
    ∙ ap₂ block_from serial octets
    ∙ cond-true (nat_lt block.serial 128) (Some block) None (lt-ltb block.serial 128 fits.serial_fits)

-- the words that decode to a block are its text
block_made : (first second : List ℕ) (serial octets : Option (List ℕ)) (block : Block) → octets_in 1 first ≡ serial → octets_in 16 second ≡ octets
    → block_from serial octets ≡ Some block → (encode_lower (block.serial ∷ []) ≡ first) × (encode_lower block.octets ≡ second) × IsDataBlock block
block_made first second (Some (serial ∷ [])) (Some octets) block one two found =
    let made : Block = record { serial = serial; octets = octets } in
    elim (cases_lt serial 128) [
      | inl small ↦
          let same : made ≡ block = let known = cond-true (nat_lt serial 128) (Some made) None (lt-ltb serial 128 small) in cc in
          let head = octets_in-text 1 first (serial ∷ []) one in
          let rest = octets_in-text 16 second octets two in
          subst (λ (b : Block). (encode_lower (b.serial ∷ []) ≡ first) × (encode_lower b.octets ≡ second) × IsDataBlock b) same
          (head.0, rest.0, record { serial_fits = small; long = rest.2; small = rest.1 })
      | inr large ↦ let known = cond-false (nat_lt serial 128) (Some made) None (not_lt serial large) in cc
    ]
  where
    not_lt : (n : ℕ) → 128 ≤ n → nat_lt n 128 ≡ false
    not_lt n large = grind arith
block_made first second serial octets block one two found = cc found

text-block_in : (text : List ℕ) (block : Block) → block_in text ≡ Some block → (block_text block ≡ text) × IsDataBlock block
text-block_in text block found =
    let inner = block_from (octets_in 1 (take 2 text)) (octets_in 16 (drop 3 text)) in
    elim (cases_Bool ((length text == 35) && (slice_index text 2 == 58))) [
      | inl passed ↦
          let tests = and_parts (length text == 35) (slice_index text 2 == 58) passed in
          let read : inner ≡ Some block = sym (cond-true ((length text == 35) && (slice_index text 2 == 58)) inner None passed) ∙ found in
          let facts = block_made (take 2 text) (drop 3 text) (octets_in 1 (take 2 text)) (octets_in 16 (drop 3 text)) block refl refl read in
          let colon : 58 ≡ slice_index text 2 = sym (eqb-true (slice_index text 2) 58 tests.1) in
          (ap₂ (λ a b. a ++ 58 ∷ b) facts.0 facts.1 ∙ ap (λ c. take 2 text ++ c ∷ drop 3 text) colon ∙ text_parts text (eqb-true (length text) 35 tests.0), facts.2)
      | inr failed ↦ let read = cond-false ((length text == 35) && (slice_index text 2 == 58)) inner None failed in cc
    ]

-- the laws of slots
slot-marks : (slot : Slot) → IsGoodSlot slot → are_marks (slot_text slot) ≡ true
slot-marks slot good = ap (λ s. are_marks (slot_text s)) good.1 ∙ block-marks good.0 good.2

slot_in-text : (slot : Slot) → IsGoodSlot slot → slot_in (slot_text slot) ≡ Some slot
slot_in-text slot good = ap (λ s. slot_in (slot_text s)) good.1 ∙ ap (option_map Good) (block_in-text good.0 good.2) ∙ ap Some (sym good.1)

slot_made : (text : List ℕ) (block : Option Block) (slot : Slot) → block_in text ≡ block → option_map Good block ≡ Some slot → (slot_text slot ≡ text) × IsGoodSlot slot
slot_made text None slot same found = cc found
slot_made text (Some block) slot same found =
    let is : Good block ≡ slot = cc found in
    let facts = text-block_in text block same in
    (ap slot_text (sym is) ∙ facts.0, (block, sym is, facts.1))

pub slot_laws : EntryLaws slot_text slot_in IsGoodSlot are_marks
slot_laws = record {
  lacks = marks-comma;
  written = slot-marks;
  back = slot_in-text;
  again = λ text slot found. slot_made text (block_in text) slot refl found;
}

-- slots are `Good` at each index if all are
pub AllFit-slots : (slots : List Slot) (count : ℕ) → AreDataBlocks slots count → length slots ≡ count → AllFit IsGoodSlot slots
AllFit-slots [] count good same = tt
AllFit-slots (slot ∷ slots) zero good same = absurd (omega arith)
AllFit-slots (slot ∷ slots) (suc count) good same =
    (good.at 0 (omega arith), AllFit-slots slots count (record { at = λ j inside. good.at (suc j) (omega arith) }) (omega arith))

slots-at : (slots : List Slot) → AllFit IsGoodSlot slots → (j : ℕ) → j < length slots → IsGoodSlot (get_or slots j Bad)
slots-at [] all j inside = absurd (omega arith)
slots-at (slot ∷ slots) all zero inside = all.0
slots-at (slot ∷ slots) all (suc j) inside = slots-at slots all.1 j (omega arith)

pub slots-AllFit : (slots : List Slot) (count : ℕ) → AllFit IsGoodSlot slots → length slots ≡ count → AreDataBlocks slots count
slots-AllFit slots count all same = record { at = λ j inside. slots-at slots all j (omega arith) }

-- ---- the text of slots

mark-printed : (octet : ℕ) → is_mark octet ≡ true → is_printed octet ≡ true
mark-printed octet mark = grind arith

marks-printed : (octets : List ℕ) → are_marks octets ≡ true → list_all is_printed octets ≡ true
marks-printed octets marks = all-also is_mark is_printed mark-printed octets marks

joined-printed : (slots : List Slot) → AllFit IsGoodSlot slots → list_all is_printed (join_with_byte 44 (map slot_text slots)) ≡ true
joined-printed [] good = refl
joined-printed (slot ∷ []) good = marks-printed (slot_text slot) (slot-marks slot good.0)
joined-printed (slot ∷ next ∷ slots) good =
    list_all-append is_printed (slot_text slot) (44 ∷ join_with_byte 44 (map slot_text (next ∷ slots)))
    ∙ ap₂ ◌&&◌ (marks-printed (slot_text slot) (slot-marks slot good.0)) (joined-printed (next ∷ slots) good.1)

pub slots-printed : (slots : List Slot) → AllFit IsGoodSlot slots → list_all is_printed (list_text slot_text slots) ≡ true
unfolding comma_text
slots-printed [] good = refl
slots-printed (slot ∷ slots) good = joined-printed (slot ∷ slots) good

slot-size : (slot : Slot) → IsGoodSlot slot → length (slot_text slot) ≡ 35
slot-size slot good = ap (λ s. length (slot_text s)) good.1 ∙ length-block_text good.0 good.2

texts-size : (slots : List Slot) → AllFit IsGoodSlot slots → size_of (map slot_text slots) ≡ 36 * length slots
texts-size [] good = omega arith
texts-size (slot ∷ slots) good = omega (arith, slot-size slot good.0, texts-size slots good.1)

joined-long : (slot : Slot) (slots : List Slot) → IsGoodSlot slot → 35 ≤ length (join_with_byte 44 (map slot_text (slot ∷ slots)))
joined-long slot [] good = omega (arith, slot-size slot good)
joined-long slot (next ∷ slots) good = omega (arith, slot-size slot good, length-append (slot_text slot) (44 ∷ join_with_byte 44 (map slot_text (next ∷ slots))))

-- it has at least 35 octets if there is a slot, and at most 36 for each slot and one
pub slots-size : (slots : List Slot) → AllFit IsGoodSlot slots → (0 < length slots → 35 ≤ length (list_text slot_text slots)) × (length (list_text slot_text slots) ≤ 36 * length slots + 1)
unfolding comma_text
slots-size [] good = (λ some. absurd (omega arith), omega arith)
slots-size (slot ∷ slots) good =
    (λ some. joined-long slot slots good.0, omega (arith, length-join 44 (map slot_text (slot ∷ slots)), texts-size (slot ∷ slots) good))
