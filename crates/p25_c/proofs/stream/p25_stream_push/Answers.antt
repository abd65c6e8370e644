use Rattle.std.proofs.Common.{◌≡◌, ℤ, ℕ, ◌+◌, ◌-◌, ◌*◌, ◌/◌, ◌≤◌, ◌++◌, Bool, List, pos, min, length, take, drop, true, false, refl, rules, ap, subst, sym, to_z, of_z, w32, ◌∙◌, arith}
use Rattle.std.proofs.{lemmas.Bool.{both_ways}, lemmas.Int.{to_z-of_z}}
use Rattle.p25_c.specs.Streams.{HasTaken, bits_left, is_stream, stream_room}
use Rattle.p25_c.proofs.StreamsSteps.{appended-taken, take_alike}
use Rattle.p25_c.proofs.stream.p25_stream_push.Goals as goal
use mir.Val.{SFits}

pub returns : goal.returns
returns c =
    let octets = c.args.octets.now in
    let before = c.args.stream.now in
    let made = c.make_room.new.stream in
    let same = c.make_room.ensures.same in
    let fits : SFits w32 c.append.result = search rules in
    let is : is_stream before ≡ true = sym c.is_stream.ensures ∙ c.if-not-is_stream.false in
    record {
      strange = λ no'. absurd (both_ways (is_stream before) no' is);
      ended = λ yes' some. absurd (some c.if-stream-ne0.false);
      waiting = λ yes' going some. absurd (some c.if-stream-ne0-2.false);
      taken = λ yes' going none. (
        to_z-of_z w32 c.append.result fits ∙ c.append.ensures.answer_is ∙ ap pos c.make_room.ensures.room,
        appended-taken before made c.append.new.stream octets same none c.make_room.ensures.full c.append.ensures.stream_is c.make_room.ensures.room,
        ap (λ s. s.dibits) c.append.ensures.stream_is ∙ same.dibits ∙ none,
      );
    }
