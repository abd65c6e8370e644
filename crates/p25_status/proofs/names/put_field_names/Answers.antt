use Rattle.std.proofs.Common.{◌++◌, length, sym, ap, ◌∙◌, append-nil, arith}
use Rattle.p25_status.specs.FieldNames.{field_name}
use Rattle.p25_line.proofs.CommaWriteLaws.{comma_text-none, first-entry, next-entry}
use Rattle.p25_status.proofs.names.put_field_names.Goals as goal
use Rattle.p25_status.proofs.names.put_field_names.Goals.{then-i-gt0, else-i-gt0}

pub loop-i-init : goal.loop-i-init
loop-i-init c = record {
  text = sym (ap (λ l. c.args.out.now ++ l) (comma_text-none field_name c.args.fields.now) ∙ append-nil c.args.out.now);
  short = omega arith;
}

pub loop-i-preserved : goal.loop-i-preserved
loop-i-preserved c = elim c.if-i-gt0.branch [
  | then-i-gt0 w ↦ record {
    text = next-entry field_name c.args.fields.now c.loop-i.i c.get.result c.args.out.now c.loop-i.out c.put_field_name.new.out w.if-i-gt0.true c.get.ensures c.loop-i.invariant.text
        (c.put_field_name.ensures.text ∙ ap (λ l. l ++ field_name c.get.result) (w.out-is ∙ w.put.ensures.list));
    short = omega (arith, ap length w.out-is, w.put.ensures.len, c.put_field_name.ensures.short, c.loop-i.invariant.short);
  }
  | else-i-gt0 w ↦ record {
    text = first-entry field_name c.args.fields.now c.loop-i.i c.get.result c.args.out.now c.loop-i.out c.put_field_name.new.out (omega arith) c.get.ensures c.loop-i.invariant.text
        (c.put_field_name.ensures.text ∙ ap (λ l. l ++ field_name c.get.result) w.out-is);
    short = omega (arith, ap length w.out-is, c.put_field_name.ensures.short, c.loop-i.invariant.short);
  }
]
