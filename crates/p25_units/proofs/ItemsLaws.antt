-- The item of a data unit covers its bits, begins at its position, is sound and is no gap: by cases of its NID and decoding.
use Rattle.std.proofs.{Common.{◌≡◌, ℕ, ◌%◌, ◌<◌, ◌≤◌, Bool, List, length, take, Option, Some, None, Result, Ok, Err, refl, ap, sym, ◌∙◌, subst, arith}, lemmas.List.{length-take-le}}
use Rattle.p25_status.specs.declared.fields.Field.{Field}
use Rattle.p25_unit_front.specs.Front.{identifier_of}
use Rattle.p25_unit_front.proofs.FrontLaws.{identifier_of-take, identifier_of-fits}
use Rattle.p25_units.specs.{Readings.{reading_from}, Items.{covered, place_of, IsSoundItem, item_from, identified_item, unit_item_of}, Needs.{need_of}, declared.frame.Frame.{Frame}}
use Rattle.p25_units.specs.{declared.needs.Need.TheVariants.{Length}, declared.item.Item.{Item}, declared.item.Item.TheVariants.{Gap}}
use Rattle.p25_units.proofs.{NeedsLaws.{IsIdentified-from, IsHead-kind, need_of-there}, KindsLaws.{IsUnitOf-need}, ReadingsLaws.{IsFrameOf, IsFrameOf-reading}}

-- by the decoding
pub unit_item_of-read : (place : ℕ) (sent : List Bool) (read : Option (ℕ × ℕ)) → identifier_of sent ≡ read → unit_item_of place sent ≡ identified_item place sent read
unfolding unit_item_of
unit_item_of-read place sent read is = ap (identified_item place sent) is

pub unit_item_of-some : (place : ℕ) (sent : List Bool) (nid : ℕ × ℕ) (reading : Result Frame (List Field))
    → identifier_of sent ≡ Some nid → reading_from (Some nid) sent ≡ reading → unit_item_of place sent ≡ item_from place nid sent reading
unit_item_of-some place sent nid reading is read = unit_item_of-read place sent (Some nid) is ∙ ap (item_from place nid sent) read

-- the item of a frame or of the fields that fail, if a frame is sound and as long as its bits
pub record IsItemOf (place : ℕ) (sent : List Bool) (item : Item) : Type 0 where
  pub covers : covered item ≡ length sent
  pub sound : IsSoundItem item

IsItemOf-from : (place : ℕ) (nid : ℕ × ℕ) (sent : List Bool) (reading : Result Frame (List Field)) → ((frame : Frame) → reading ≡ Ok frame → IsFrameOf nid sent frame) → nid.0 < 4096 → nid.1 < 16
    → IsItemOf place sent (item_from place nid sent reading)
IsItemOf-from place nid sent (Ok frame) frames nac duid = let is = frames frame refl in record { covers = is.long; sound = is.sound }
IsItemOf-from place nid sent (Err fields) frames nac duid = record { covers = refl; sound = record { nac_fits = nac; duid_fits = duid } }

pub IsItemOf-unit : (place : ℕ) (bits : List Bool) (count : ℕ) → need_of bits ≡ Length count → IsItemOf place (take count bits) (unit_item_of place (take count bits))
IsItemOf-unit place bits count e =
    let sent = take count bits in
    let found = IsIdentified-from bits count e in
    let unit = IsUnitOf-need count bits found.nid.1 found.kind in
    let bounds = (IsHead-kind found.nid.1).there bits count found.kind in
    let whole : count % 72 ≡ 0 = bounds.2 in
    let some : 72 < count = bounds.0 in
    let enough : 114 ≤ count = omega (arith, whole) in
    let read : identifier_of sent ≡ Some found.nid = identifier_of-take count bits enough ∙ found.read in
    let fits = identifier_of-fits sent found.nid read in
    subst
    (λ (item : Item). IsItemOf place sent item)
    (sym (unit_item_of-read place sent (Some found.nid) read))
    (IsItemOf-from place found.nid sent (reading_from (Some found.nid) sent) (λ frame is. IsFrameOf-reading found.nid sent frame unit is) fits.0 fits.1)

pub covered-unit_item_of : (place : ℕ) (bits : List Bool) (count : ℕ) → need_of bits ≡ Length count → covered (unit_item_of place (take count bits)) ≡ count
covered-unit_item_of place bits count e =
    (IsItemOf-unit place bits count e).covers ∙ length-take-le count bits (need_of-there bits count e).3

pub IsSoundItem-unit_item_of : (place : ℕ) (bits : List Bool) (count : ℕ) → need_of bits ≡ Length count → IsSoundItem (unit_item_of place (take count bits))
IsSoundItem-unit_item_of place bits count e = (IsItemOf-unit place bits count e).sound

-- its position, whatever the decoding
place_of-from : (place : ℕ) (nid : ℕ × ℕ) (sent : List Bool) (reading : Result Frame (List Field)) → place_of (item_from place nid sent reading) ≡ place
place_of-from place nid sent (Ok frame) = refl
place_of-from place nid sent (Err fields) = refl

place_of-identified : (place : ℕ) (sent : List Bool) (read : Option (ℕ × ℕ)) → place_of (identified_item place sent read) ≡ place
place_of-identified place sent None = refl
place_of-identified place sent (Some nid) = place_of-from place nid sent (reading_from (Some nid) sent)

pub place_of-unit_item_of : (place : ℕ) (sent : List Bool) → place_of (unit_item_of place sent) ≡ place
unfolding unit_item_of
place_of-unit_item_of place sent = place_of-identified place sent (identifier_of sent)

-- it is no gap
no_gap-from : (place : ℕ) (nid : ℕ × ℕ) (sent : List Bool) (reading : Result Frame (List Field)) (gap_place count : ℕ) → item_from place nid sent reading ≡ Gap gap_place count → ⊥
no_gap-from place nid sent (Ok frame) gap_place count e = cc
no_gap-from place nid sent (Err fields) gap_place count e = cc

no_gap-identified : (place : ℕ) (sent : List Bool) (read : Option (ℕ × ℕ)) (gap_place count : ℕ) → identified_item place sent read ≡ Gap gap_place count → ⊥
no_gap-identified place sent None gap_place count e = cc
no_gap-identified place sent (Some nid) gap_place count e = no_gap-from place nid sent (reading_from (Some nid) sent) gap_place count e

pub unit_item_of-no_gap : (place : ℕ) (sent : List Bool) (gap_place count : ℕ) → unit_item_of place sent ≡ Gap gap_place count → ⊥
unfolding unit_item_of
unit_item_of-no_gap place sent gap_place count e = no_gap-identified place sent (identifier_of sent) gap_place count e
