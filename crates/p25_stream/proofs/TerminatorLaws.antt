-- Terminators among the items: the laws of all whole data units, at a frame with two status symbols.
use Rattle.std.proofs.{Common.{◌≡◌, ◌≤◌, ◌++◌, length, take, drop, ap, sym, ◌∙◌, subst, arith}, lemmas.List.{take-append-drop, length-take}}
use Rattle.p25_status.specs.Woven.{statuses_of}
use Rattle.p25_units.specs.{Terminators.{terminator}, WholeLaws.{IsWholeOf}, declared.item.Item.TheVariants.{Whole}}
use Rattle.p25_units.proofs.TerminatorsLaws.{length-terminator, IsSoundFrame-terminator, IsSendableUnit-terminator, image_of-terminator, two-statuses, IsWithinRadius-terminator, HasTerminator-from, fixes_of-terminator}
use Rattle.p25_units.proofs.UnitsLaws.{length-image_of}
use Rattle.p25_stream.specs.{Items.{first_item, is_decided}, ItemLaws.{TerminatorIsRead, TerminatorIsThere, SentTerminatorIsRead}}
use Rattle.p25_stream.proofs.ItemLaws.{near-whole, whole-within, image-whole}

-- the first 144 bits are within the correction radius of the frame
pub terminator-read : TerminatorIsRead
terminator-read at nac bits has =
    let sent = take 144 bits in
    let statuses = statuses_of sent in
    let frame = terminator nac statuses in
    let two = two-statuses bits has.there in
    let whole : sent ++ drop 144 bits ≡ bits = take-append-drop 144 bits in
    let near =
    near-whole at frame sent (drop 144 bits) (IsSoundFrame-terminator nac statuses two) (IsSendableUnit-terminator nac statuses has.fits) (IsWithinRadius-terminator nac statuses bits two has) in (
      ap (first_item at) (sym whole) ∙ near.0 ∙ ap (Whole at frame) (fixes_of-terminator nac statuses bits has.there),
      ap is_decided (sym whole) ∙ near.1,
    )

-- the bits of a whole item are there, and are within the correction radius
pub terminator-there : TerminatorIsThere
terminator-there at nac bits place statuses fixes first =
    let frame = terminator nac statuses in
    let is = subst (λ n. IsWholeOf at (take n bits) place frame fixes) (length-terminator nac statuses) (whole-within at bits place frame fixes first) in
    let long : length (take 144 bits) ≡ 144 = is.front.long ∙ length-image_of frame is.sound is.sendable ∙ length-terminator nac statuses in
    let there : 144 ≤ length bits = omega (arith, long, length-take 144 bits) in (
      HasTerminator-from nac statuses bits is.sound (omega (arith, is.sendable.nac_fits)) there is.front,
      is.place_is,
      is.statuses,
      is.fixes_is ∙ fixes_of-terminator nac statuses bits there,
    )

-- undamaged bits are the frame's own
pub terminator-sent : SentTerminatorIsRead
terminator-sent at nac statuses more fits two =
    ap (λ bits. first_item at (bits ++ more)) (sym (image_of-terminator nac statuses))
    ∙ image-whole at (terminator nac statuses) more (IsSoundFrame-terminator nac statuses two) (IsSendableUnit-terminator nac statuses fits)
