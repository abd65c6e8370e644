-- The items of data units with a decoded NID, by their decoding.
use Rattle.std.proofs.{Common.{◌≡◌, ℕ, ◌≤◌, Bool, List, length, drop, Some, Result, Ok, Err, ap, sym, ◌∙◌, arith, length-drop}, lemmas.List.{length-take-le}}
use Rattle.p25_bits.specs.Bits.{part}
use Rattle.p25_status.specs.declared.fields.Field.{Field}
use Rattle.p25_units.specs.{Fixes.{fixes_of}, Items.{item_from}, Needs.{kind_need}, Readings.{reading_from}, declared.frame.Frame.{Frame}, declared.item.Item.{Item}}
use Rattle.p25_units.specs.{declared.item.Item.TheVariants.{Whole, Broken}, declared.needs.Need.TheVariants.{Length}}
use Rattle.p25_units.proofs.UnitPlaceLaws.{IsCountAt-kind}

-- the bits of a data unit are as many as its count
long_part : (duid : ℕ) (bits : List Bool) (at count : ℕ) → at ≤ length bits → kind_need duid (drop at bits) ≡ Length count → length (part at count bits) ≡ count
long_part duid bits at count inside kind =
    let counted = IsCountAt-kind duid bits at count inside kind in
    length-take-le count (drop at bits) (omega (arith, counted.there, length-drop at bits))

-- the item of a data unit some fields of which fail
pub broken-is : (place nac duid : ℕ) (bits : List Bool) (at count : ℕ) (fields : List Field) → at ≤ length bits → kind_need duid (drop at bits) ≡ Length count
    → Err fields ≡ reading_from (Some (nac, duid)) (part at count bits)
    → Broken place count nac duid fields ≡ item_from place (nac, duid) (part at count bits) (reading_from (Some (nac, duid)) (part at count bits))
broken-is place nac duid bits at count fields inside kind read =
    ap (λ n. Broken place n nac duid fields) (sym (long_part duid bits at count inside kind)) ∙ ap (item_from place (nac, duid) (part at count bits)) read

-- the item of a whole data unit by its frame, and of any data unit by its item
pub read_whole : (place : ℕ) (nid : ℕ × ℕ) (sent : List Bool) (reading : Result Frame (List Field)) (at : ℕ) (frame : Frame) (fixes : ℕ)
    → Whole at frame fixes ≡ item_from place nid sent reading → Ok frame ≡ reading
read_whole place nid sent (Ok other) at frame fixes is = cc
read_whole place nid sent (Err fields) at frame fixes is = absurd (cc)

pub read_broken : (place : ℕ) (nid : ℕ × ℕ) (sent : List Bool) (reading : Result Frame (List Field)) (at count nac duid : ℕ) (fields : List Field)
    → Broken at count nac duid fields ≡ item_from place nid sent reading
    → Err fields ≡ reading
read_broken place nid sent (Ok other) at count nac duid fields is = absurd (cc)
read_broken place nid sent (Err fields) at count nac duid others is = cc

pub read_other : (place : ℕ) (nid : ℕ × ℕ) (sent : List Bool) (reading : Result Frame (List Field)) (item : Item)
    → item ≡ item_from place nid sent reading → ((at : ℕ) (frame : Frame) (fixes : ℕ) → item ≡ Whole at frame fixes → ⊥)
    → ((at count nac duid : ℕ) (fields : List Field) → item ≡ Broken at count nac duid fields → ⊥) → ⊥
read_other place nid sent (Ok frame) item is no_whole no_broken = no_whole place frame (fixes_of frame sent) is
read_other place nid sent (Err fields) item is no_whole no_broken = no_broken place (length sent) nid.0 nid.1 fields is
