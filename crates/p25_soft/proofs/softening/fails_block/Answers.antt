use Rattle.std.proofs.Common.{◌<◌, ◌≤◌, length, sym, ◌∙◌, arith}
use Rattle.p25_soft.specs.Softened.{is_block, names_block}
use Rattle.p25_soft.proofs.NamedSteps.{found, none_more, none_at_all}
use Rattle.p25_soft.proofs.softening.fails_block.Goals as goal

pub returns-then-is_block : goal.returns-then-is_block
unfolding names_block
returns-then-is_block c =
    let inside : c.loop-i.i < length c.args.fields.now = omega arith in
    sym (found (is_block c.args.j) c.args.fields.now c.loop-i.i c.get.result inside c.get.ensures (sym c.is_block.ensures ∙ c.if-is_block.true))

pub loop-i-preserved : goal.loop-i-preserved
loop-i-preserved c =
    let inside : c.loop-i.i < length c.args.fields.now = omega arith in
    none_more (is_block c.args.j) c.args.fields.now c.loop-i.i c.get.result inside c.get.ensures (sym c.is_block.ensures ∙ c.if-is_block.false) c.loop-i.invariant

pub returns : goal.returns
unfolding names_block
returns c =
    let all : length c.args.fields.now ≤ c.loop-i.i = omega arith in
    sym (none_at_all (is_block c.args.j) c.args.fields.now c.loop-i.i all c.loop-i.invariant)
