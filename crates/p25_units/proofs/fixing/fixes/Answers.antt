use Rattle.std.proofs.Common.{ap, arith, ◌∙◌}
use Rattle.p25_bits.specs.Bits.{part}
use Rattle.p25_status.specs.Woven.{bare_of}
use Rattle.p25_units.specs.{Fixes.{body_fixes_of}, Units.{body_duid}}
use Rattle.p25_units.proofs.{UnitsLaws.{blocks-sound, symbols-sound}, FixesLaws.{fixes_in}}
use Rattle.p25_units.proofs.fixing.fixes.Goals as goal

pub front_fixes-requires : goal.front_fixes-requires
front_fixes-requires c = omega (arith, c.requires.there, c.requires.sound.symbols, (blocks-sound c.args.frame.now c.requires.sound).0)

pub body_fixes-requires-clause-long : goal.body_fixes-requires-clause-long
body_fixes-requires-clause-long c =
    omega (
      arith,
      c.unweave.ensures.bare_len,
      c.unweave.ensures.len,
      c.frame_length-count.ensures.value,
      c.requires.sound.symbols,
      c.unit_image.ensures.len,
      symbols-sound c.args.frame.now c.requires.sound,
    )

pub returns : goal.returns
returns c =
    let unit = c.args.frame.now.unit in
    fixes_in c.args.frame.now c.args.bits.now c.args.at c.nac.result
    c.duid.result c.requires.sound c.unit_image.ensures.sendable c.requires.there c.nac.ensures.value (c.duid.ensures.value ∙ ap body_duid c.body.ensures)
    c.front_fixes.result c.body_fixes.result c.front_fixes.ensures.value
    (c.body_fixes.ensures.value ∙ ap (body_fixes_of unit) (c.unweave.ensures.bare ∙ ap (λ count. bare_of (part c.args.at count c.args.bits.now)) c.frame_length-count.ensures.value))
