use Rattle.std.proofs.Common.{◌++◌, sym, ap, ◌∙◌, append-nil, arith}
use Rattle.p25_text.proofs.ItemTextSteps.{status_digits-none, next-status}
use Rattle.p25_text.proofs.items.put_statuses.Goals as goal

pub loop-i-init : goal.loop-i-init
loop-i-init c = record {
  text = sym (ap (λ l. c.args.out.now ++ l) (status_digits-none c.args.statuses.now) ∙ append-nil c.args.out.now);
  len = omega arith;
}

pub loop-i-preserved : goal.loop-i-preserved
loop-i-preserved c = record {
  text = next-status c.args.statuses.now c.loop-i.i c.get.result
      c.args.out.now c.loop-i.out c.put.new.self c.value.result c.get.ensures c.loop-i.invariant.text c.value.ensures.number c.put.ensures.list;
  len = omega arith;
}
