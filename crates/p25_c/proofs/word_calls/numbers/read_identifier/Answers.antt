use Rattle.std.proofs.{Common.{arith, pos, w32, ap, ◌∙◌}, lemmas.Int.{to_z_pos}}
use Rattle.p25_bits.specs.Bits.{bits_of}
use Rattle.p25_c.proofs.NumberSteps.{identifier_read, identifier_beyond}
use Rattle.p25_c.proofs.word_calls.numbers.read_identifier.Goals as goal

pub returns-in-Some : goal.returns-in-Some
returns-in-Some c =
    identifier_read (bits_of 64 c.args.bits) (c.args.nac.now, c.args.duid.now) (c.in-Some.read.nid.nac, c.in-Some.read.nid.duid) _ c.in-Some.ensures.value
    (to_z_pos w32 c.in-Some.read.wrong (omega (arith, c.in-Some.ensures.most)) ∙ ap pos c.in-Some.ensures.wrong)

pub returns-in-None : goal.returns-in-None
returns-in-None c = identifier_beyond (bits_of 64 c.args.bits) (c.args.nac.now, c.args.duid.now) c.in-None.ensures.value
