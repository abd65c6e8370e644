use Rattle.std.proofs.Common.{◌-◌, ◌*◌, ◌^◌, ◌%◌, ◌++◌, ap, ◌∙◌, arith, append-nil}
use Rattle.p25_bits.specs.{Bits.{bits_of}}
use Rattle.p25_bits.proofs.{BitsLaws.{bits_of-zero}, BitBufSteps.{length-held, length-room, length-longer, take_appended, first_bits}}
use Rattle.p25_bits.proofs.bit_buf.BitBuf.put_field.Goals as goal

pub returns-then-width-eq0-clause-list : goal.returns-then-width-eq0-clause-list
returns-then-width-eq0-clause-list c =
    cc (append-nil c.args.self.now, bits_of-zero c.args.value, c.if-width-eq0.true)

pub invariant_of-self : goal.invariant_of-self
invariant_of-self c = length-room c.self.inside.words c.self.inside.len c.args.width c.args.self.now (omega (arith, c.self.invariant)) c.self.view_is c.requires.room

pub returns-clause-list : goal.returns-clause-list
returns-clause-list c =
    let inside = c.self.inside in
    let width = c.args.width in
    let word = bits_of 64 (c.args.value * 2 ^ (64 - width) % 2 ^ 64) in
    cc (
      take_appended c.args.self.now _ word inside.len width 64 (cc (c.self.view_is, length-held inside.words inside.len (omega (arith, c.self.invariant))))
          (c.put_window.ensures ∙ ap (λ bits. bits ++ word) c.self.view_is) c.requires.width,
      first_bits width c.args.value c.requires.width c.requires.fits,
    )

pub returns-clause-len : goal.returns-clause-len
returns-clause-len c =
    let inside = c.self.inside in
    length-longer inside.words c.put_window.new.words inside.len c.args.width c.args.self.now (omega (arith, c.self.invariant)) (omega (arith, (length-room))) c.self.view_is
