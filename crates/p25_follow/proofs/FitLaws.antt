-- Items of a scan have as many bits as their types need: by the cases of a first item, and for later ones by their positions.
use Rattle.std.proofs.Common.{◌≡◌, ℕ, ◌%◌, ◌≤◌, Bool, List, length, take, Option, Some, None, Result, Ok, Err, sym, subst, arith, length-take}
use Rattle.p25_status.specs.declared.fields.Field.{Field}
use Rattle.p25_unit_front.specs.Front.{identifier_of}
use Rattle.p25_units.specs.{Items.{identified_item, item_from, unit_item_of}, Readings.{reading_from}, declared.frame.Frame.{Frame}}
use Rattle.p25_units.proofs.NeedsLaws.{need_of-there}
use Rattle.p25_stream.specs.Items.{first_item}
use Rattle.p25_stream.proofs.{ItemLaws.{item-among}, ItemsLaws.{first_item-cases}}
use Rattle.p25_follow.specs.{RelayLaws.{ItemsFit}, Relayed.{IsFitItem}}

-- an item of whole blocks, whatever is read of them
fit-from : (place : ℕ) (nid : ℕ × ℕ) (sent : List Bool) (reading : Result Frame (List Field))
    → length sent % 72 ≡ 0 → 144 ≤ length sent → length sent ≤ 25920 → IsFitItem (item_from place nid sent reading)
fit-from place nid sent (Ok frame) blocks some most = tt
fit-from place nid sent (Err fields) blocks some most = (blocks, some, most)

fit-identified : (place : ℕ) (sent : List Bool) (read : Option (ℕ × ℕ)) → length sent % 72 ≡ 0 → 144 ≤ length sent → length sent ≤ 25920 → IsFitItem (identified_item place sent read)
fit-identified place sent None blocks some most = tt
fit-identified place sent (Some nid) blocks some most = fit-from place nid sent (reading_from (Some nid) sent) blocks some most

fit-unit : (place : ℕ) (sent : List Bool) → length sent % 72 ≡ 0 → 144 ≤ length sent → length sent ≤ 25920 → IsFitItem (unit_item_of place sent)
unfolding unit_item_of
fit-unit place sent blocks some most = fit-identified place sent (identifier_of sent) blocks some most

-- a first item
pub fit-first : (at : ℕ) (bits : List Bool) → IsFitItem (first_item at bits)
fit-first at bits =
    first_item-cases IsFitItem at bits
    (λ no'. omega arith)
    (λ count yes' is. tt)
    (λ count yes' is.
    let there = need_of-there bits count is in
    let long : length (take count bits) ≡ count = omega (arith, length-take count bits, there.3) in
    fit-unit at (take count bits) (omega (arith, long, there.2)) (omega (arith, long, there.0, there.2)) (omega (arith, long, there.1)))
    (λ field yes' is. tt)

pub items-fit : ItemsFit
items-fit ended at bits before item after is =
    let begins = item-among ended at bits before item after is in
    subst IsFitItem (sym begins.1) (fit-first _ _)
