use Rattle.std.proofs.{Common.{◌≡◌, ℕ, List, ◌+◌, ◌-◌, ◌*◌, ◌/◌, pos, min, length, take, true, rules, ap, subst, sym, to_z, of_z, w32, ◌∙◌, arith}, lemmas.Bool.{both_ways}, lemmas.Int.{to_z-of_z}}
use Rattle.p25_bits.specs.Numbers.{number_bits}
use Rattle.p25_c.specs.Streams.{HasTaken, is_stream, stream_room}
use Rattle.p25_c.proofs.StreamsSteps.{take_alike, taken-after}
use Rattle.p25_c.proofs.stream.p25_stream_push_dibits.Goals as goal
use mir.Val.{SFits}

pub returns : goal.returns
returns c =
    let dibits = c.args.dibits.now in
    let before = c.args.stream.now in
    let made = c.make_room.new.stream in
    let after = c.append_dibits.new.stream in
    let fits : SFits w32 c.append_dibits.result = search rules in
    let is : is_stream before ≡ true = sym c.is_stream.ensures ∙ c.if-not-is_stream.false in
    let wanted = (length dibits + 3) / 4 in
    let room : min wanted (8168 - made.held) ≡ min wanted (stream_room before) = c.make_room.ensures.room in
    let alike : min (length dibits) (4 * (8168 - made.held)) ≡ min (length dibits) (4 * stream_room before) = omega (arith, room) in
    record {
      strange = λ no'. absurd (both_ways (is_stream before) no' is);
      ended = λ yes' some. absurd (some c.if-stream-ne0.false);
      taken = λ yes' going. (
        to_z-of_z w32 c.append_dibits.result fits ∙ c.append_dibits.ensures.answer ∙ ap pos alike,
        taken-after _ before made after c.make_room.ensures.same
            (subst (λ (zs : List ℕ). HasTaken (number_bits 2 zs) made after) (take_alike dibits (4 * (8168 - made.held)) (4 * stream_room before) alike) c.append_dibits.ensures.taken),
      );
    }
