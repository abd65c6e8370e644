use Rattle.std.proofs.Common.{◌*◌, ◌≤◌, ◌++◌, length, ap, sym, ◌∙◌, arith}
use Rattle.p25_bits.specs.{Bits.{part}, Numbers.{number_bits}}
use Rattle.p25_bits.proofs.{PartLaws.{part-take, take-part}, BitBufSteps.{length-held, length-room, length-longer, take_appended}}
use Rattle.p25_bits.proofs.bit_buf.BitBuf.append.Goals as goal

pub append_windows-requires-clause-room : goal.append_windows-requires-clause-room
append_windows-requires-clause-room c =
    omega (arith, length-held, ap length c.self.view_is, c.requires.room, c.div_ceil-words.ensures)

pub invariant_of-self : goal.invariant_of-self
invariant_of-self c = length-room c.self.inside.words c.self.inside.len c.args.count c.args.self.now (omega (arith, c.self.invariant)) c.self.view_is c.requires.room

pub returns-clause-list : goal.returns-clause-list
returns-clause-list c =
    let at = c.args.at in
    let inside = c.self.inside in
    let other = c.other.inside in
    let count = c.args.count in
    let most = 64 * c.div_ceil-words.result in
    let more = part at most _ in
    let enough : count ≤ most = omega (arith, c.div_ceil-words.ensures) in
    cc (
      take_appended c.args.self.now _ more inside.len count most (sym (ap length c.self.view_is) ∙ length-held inside.words inside.len (omega (arith, c.self.invariant)))
          (c.append_windows.ensures ∙ ap (λ bits. bits ++ more) c.self.view_is) enough,
      take-part at most count (number_bits 64 other.words) enough,
      part-take at count other.len (number_bits 64 other.words)
          (omega (arith, length-held other.words, ap length c.other.view_is, c.requires.there)),
      c.other.view_is,
    )

pub returns-clause-len : goal.returns-clause-len
returns-clause-len c =
    let inside = c.self.inside in
    length-longer inside.words c.append_windows.new.words inside.len c.args.count c.args.self.now (omega (arith, c.self.invariant)) (omega (arith, (length-room inside.words inside.len c.args.count c.args.self.now))) c.self.view_is
