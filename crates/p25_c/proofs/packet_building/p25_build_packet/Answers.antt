use Rattle.std.proofs.Common.{◌≡◌, ◌*◌, rules, sym, subst}
use Rattle.p25_units.specs.{UnitParts.{UnitParts}, Units.{IsWholeBody, frame_length_of}}
use Rattle.p25_c.specs.{Packets.{packet_built}, Rooms.{IsWriting}}
use Rattle.p25_c.proofs.{BoundsLaws.{packet-count}, BuildingSteps.{refused-none, told-back, under-refused, under-sent}}
use Rattle.p25_c.proofs.packet_building.p25_build_packet.Goals as goal

pub write_whole-requires : goal.write_whole-requires
unfolding IsWholeBody
write_whole-requires c = subst (λ (u : UnitParts). IsWholeBody u.body) (sym c.new.ensures) c.in-Some.ensures.whole

pub returns-in-Some-clause-built : goal.returns-in-Some-clause-built
returns-in-Some-clause-built c =
    let one : IsWriting (packet_built c.in-Ok.symbol c.args.packet.now) c.args.octets.now c.write_whole.new.octets c.write_whole.result = search rules in
    under-sent _ _ _ _ _ _ c.write_whole.result (search rules) c.in-Ok.ensures.symbol one

pub returns-in-Some-clause-count : goal.returns-in-Some-clause-count
returns-in-Some-clause-count c = λ count same.
    let long = c.write_whole.ensures.count count (told-back c.write_whole.result (search rules) same) in
    packet-count _ c.in-Some.held count (subst (λ (u : UnitParts). 8 * count ≡ frame_length_of u) c.new.ensures long)

pub returns-in-Err-clause-built : goal.returns-in-Err-clause-built
returns-in-Err-clause-built c = under-refused _ _ _ _ _ c.in-Err.ensures.answer

pub returns-in-Err-clause-count : goal.returns-in-Err-clause-count
returns-in-Err-clause-count c = λ count same. absurd (refused-none c.args.packet.now.nac c.args.status count _ c.in-Err.ensures.answer same)
