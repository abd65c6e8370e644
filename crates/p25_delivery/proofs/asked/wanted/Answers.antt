use Rattle.std.proofs.Common.{length, ◌∙◌, arith}
use Rattle.std.specs.Prelude.{not}
use Rattle.p25_delivery.proofs.ListLaws.{flags_set, flags_length}
use Rattle.p25_delivery.proofs.asked.wanted.Goals as goal

pub loop-block-preserved : goal.loop-block-preserved
loop-block-preserved c = record {
  list = flags_set not c.args.flags.now (length c.args.flags.now) c.loop-block.block c.get.result c.loop-block.wanted c.set.new.self c.get.ensures
      (omega arith) c.loop-block.invariant.list c.set.ensures;
  len = flags_length c.loop-block.wanted c.set.new.self c.loop-block.block (not c.get.result) c.set.ensures ∙ c.loop-block.invariant.len;
}
