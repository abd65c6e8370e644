use Rattle.std.proofs.Common.{◌≡◌, ℕ, List, length, Result, Ok, ap, sym, ◌∙◌}
use Rattle.p25_bits.proofs.PartLaws.{part_whole}
use Rattle.p25_status.specs.declared.fields.Field.{Field}
use Rattle.p25_units.specs.{Needs.{need_of}, Readings.{unit_reading_of}, declared.frame.Frame.{Frame}, declared.needs.Need.{Need}, declared.needs.Need.TheVariants.{Length}}
use Rattle.p25_units.specs.contracts.frame.FrameEq.TheImpl.Laws.{laws-law}
use Rattle.p25_vectors.proofs.report.reads_as.Goals as goal

same_frame : (a b : Frame) (reading : Result Frame (List Field)) → reading ≡ Ok a → reading ≡ Ok b → a ≡ b
same_frame a b reading first second = cc

same_length : (a b : ℕ) (needed : Need) → Length a ≡ needed → needed ≡ Length b → a ≡ b
same_length a b needed first second = cc

pub returns-in-Ok : goal.returns-in-Ok
returns-in-Ok c =
    let bits = c.args.bits.now in
    let long = same_length c.in-Length.count (length bits) (need_of bits) c.in-Length.ensures c.requires.length in
    let whole = c.in-Ok.ensures.reading ∙ ap unit_reading_of (part_whole c.in-Length.count bits (sym long)) in
    let read = same_frame c.in-Ok.read c.args.frame.now (unit_reading_of bits) (sym whole) c.requires.read in
    (rw read at c.eq.ensures) ∙ laws-law.refl c.args.frame.now
