use Rattle.std.proofs.Common.{◌+◌, ◌*◌, ◌∙◌, arith}
use Rattle.p25_bch_nid.proofs.SyndromesSteps.{values_none, values_more, values_all}
use Rattle.p25_bch_nid.proofs.syndromes.eight_values.Goals as goal

pub loop-place-init : goal.loop-place-init
loop-place-init c = λ b low. values_none c.args.word _ b

pub loop-place-preserved : goal.loop-place-preserved
loop-place-preserved c = λ b low. values_more c.args.word c.loop-place.place c.args.part c.loop-place.values b (omega arith) c.requires low (c.loop-place.invariant b low)

pub returns : goal.returns
returns c = λ b low. c.loop-place.invariant b low ∙ values_all c.args.word _ c.loop-place.place (omega arith) (omega arith)
