use Rattle.std.proofs.Common.{length, ap, sym, ◌∙◌, arith}
use Rattle.p25_bits.specs.{Bits.{field_of, part}}
use Rattle.p25_bits.proofs.{BitsLaws.{field_of-nil}, BitBufSteps.{length-held, field_is, first-lt}}
use Rattle.p25_bits.proofs.bit_buf.BitBuf.field.Goals as goal

pub returns-then-width-eq0-clause-value : goal.returns-then-width-eq0-clause-value
returns-then-width-eq0-clause-value c = sym field_of-nil ∙ ap (λ n. field_of (part c.args.at n c.args.self.now)) (sym c.if-width-eq0.true)

pub returns-clause-value : goal.returns-clause-value
returns-clause-value c =
    let inside = c.self.inside in
    field_is c.args.self.now _ c.args.at c.args.width inside.len c.window.result c.requires.width (omega (arith, length-held, ap length c.self.view_is, c.requires.there)) c.window.type_inv c.window.ensures c.self.view_is

pub returns-clause-fits : goal.returns-clause-fits
returns-clause-fits c = first-lt c.window.result c.args.width c.requires.width c.window.type_inv
