use Rattle.std.proofs.Common.{◌≡◌, rules, subst, sym, to_z, of_z, w32, ◌∙◌}
use Rattle.p25_c.specs.{Building.{built}, Rooms.{IsWriting}}
use Rattle.p25_status.specs.{Status.{same_status}, declared.symbols.Status.{Status}}
use Rattle.p25_units.proofs.ReadingsLaws.{IsWholeBody-sendable}
use Rattle.p25_c.proofs.BuildingSteps.{writing-told}
use Rattle.p25_c.proofs.building.p25_build.Goals as goal

pub write_whole-requires : goal.write_whole-requires
write_whole-requires c = IsWholeBody-sendable _ c.in-Ok.ensures.fits.body

pub returns-in-Ok-clause-built : goal.returns-in-Ok-clause-built
returns-in-Ok-clause-built c = λ symbol number.
    let one : IsWriting (built c.in-Some.symbol c.args.line.now) c.args.octets.now c.write_whole.new.octets c.write_whole.result = search rules in
    subst (λ (s : Status). IsWriting (built s c.args.line.now) c.args.octets.now c.write_whole.new.octets (to_z w32 (of_z w32 c.write_whole.result)))
    (same_status c.in-Some.symbol symbol (c.in-Some.ensures.number ∙ sym number))
    (writing-told _ _ _ c.write_whole.result (search rules) one)

pub returns-in-Err-clause-built : goal.returns-in-Err-clause-built
returns-in-Err-clause-built c = λ symbol number.
    let one : IsWriting (built c.in-Some.symbol c.args.line.now) c.args.octets.now c.args.octets.now c.fault_answer.result = search rules in
    subst (λ (s : Status). IsWriting (built s c.args.line.now) c.args.octets.now c.args.octets.now (to_z w32 (of_z w32 c.fault_answer.result)))
    (same_status c.in-Some.symbol symbol (c.in-Some.ensures.number ∙ sym number))
    (writing-told _ _ _ c.fault_answer.result (search rules) one)
