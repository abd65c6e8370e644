use Rattle.std.proofs.Common.{ap, ◌∙◌, arith, drop, length-drop}
use Rattle.p25_bch_nid.specs.NidReading.{nid_reading_of}
use Rattle.p25_unit_front.specs.Front.{identifier_of}
use Rattle.p25_unit_front.proofs.FrontSteps.{front_fixes-parts, identifier_bits-of}
use Rattle.p25_unit_front.proofs.front.read_front.Goals as goal

pub returns-in-Some-clause-value : goal.returns-in-Some-clause-value
unfolding identifier_of
returns-in-Some-clause-value c =
    c.in-Some.ensures.value
    ∙ ap nid_reading_of (identifier_bits-of (drop c.args.at c.args.bits.now) c.identifier.result (omega (arith, length-drop c.args.at c.args.bits.now)) c.identifier.ensures.value)

pub returns-in-Some-clause-wrong : goal.returns-in-Some-clause-wrong
returns-in-Some-clause-wrong c =
    let read = c.in-Some.read in
    front_fixes-parts (read.nid.nac, read.nid.duid) c.args.bits.now c.args.at c.field.result c.identifier.result c.sync_distance.result read.wrong c.requires c.field.ensures.value
    c.identifier.ensures.value c.sync_distance.ensures.distance c.in-Some.ensures.wrong

pub returns-in-None-clause-value : goal.returns-in-None-clause-value
unfolding identifier_of
returns-in-None-clause-value c =
    c.in-None.ensures.value
    ∙ ap nid_reading_of (identifier_bits-of (drop c.args.at c.args.bits.now) c.identifier.result (omega (arith, length-drop c.args.at c.args.bits.now)) c.identifier.ensures.value)
