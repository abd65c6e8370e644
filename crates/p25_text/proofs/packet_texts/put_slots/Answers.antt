use Rattle.std.proofs.Common.{◌++◌, length, sym, ap, ◌∙◌, append-nil, arith}
use Rattle.p25_text.specs.Packets.{slot_text}
use Rattle.p25_line.proofs.CommaWriteLaws.{comma_text-none, first-entry, next-entry}
use Rattle.p25_text.proofs.packet_texts.put_slots.Goals as goal
use Rattle.p25_text.proofs.packet_texts.put_slots.Goals.{then-i-gt0, else-i-gt0}

pub loop-i-init : goal.loop-i-init
loop-i-init c = record {
  text = sym (ap (λ l. c.args.out.now ++ l) (comma_text-none slot_text c.args.slots.now) ∙ append-nil c.args.out.now);
  short = omega arith;
}

pub loop-i-preserved : goal.loop-i-preserved
loop-i-preserved c = elim c.if-i-gt0.branch [
  | then-i-gt0 w ↦ record {
    text = next-entry slot_text c.args.slots.now c.loop-i.i c.get.result c.args.out.now c.loop-i.out c.put_slot.new.out w.if-i-gt0.true c.get.ensures c.loop-i.invariant.text
        (c.put_slot.ensures.text ∙ ap (λ l. l ++ slot_text c.get.result) (w.out-is ∙ w.put-then-i-gt0.ensures.list));
    short = omega (arith, ap length w.out-is, w.put-then-i-gt0.ensures.len, c.put_slot.ensures.short, c.loop-i.invariant.short);
  }
  | else-i-gt0 w ↦ record {
    text = first-entry slot_text c.args.slots.now c.loop-i.i c.get.result c.args.out.now c.loop-i.out c.put_slot.new.out (omega arith) c.get.ensures c.loop-i.invariant.text
        (c.put_slot.ensures.text ∙ ap (λ l. l ++ slot_text c.get.result) w.out-is);
    short = omega (arith, ap length w.out-is, c.put_slot.ensures.short, c.loop-i.invariant.short);
  }
]
