use Rattle.std.proofs.Common.{◌≡◌, ◌++◌, Some, length, decimal, sym, ap, ◌∙◌, append-nil, arith}
use Rattle.p25_bits.specs.Numbers.{joined_below}
use Rattle.p25_line.specs.CommaLists.{comma_text}
use Rattle.p25_script.specs.StepTexts.{serial_at, serials_of}
use Rattle.p25_script.proofs.{TextSteps.{serial-stands, serial-text, serials-none, serials-same, stands}, steps.put_serials.Goals.{then-get, else-get}}
use Rattle.p25_script.proofs.steps.put_serials.Goals as goal

pub loop-serial-init : goal.loop-serial-init
loop-serial-init c = record {
  text = sym (ap (λ l. c.args.out.now ++ l) (serials-none c.args.wanted.now).0 ∙ append-nil c.args.out.now);
  behind = sym (serials-none c.args.wanted.now).1;
  short = omega arith;
}

pub loop-serial-preserved : goal.loop-serial-preserved
loop-serial-preserved c =
    let flags = c.args.wanted.now in
    let serial = c.loop-serial.serial in
    elim c.if-get.branch [
      | then-get w ↦
          let read = c.get.ensures ∙ ap Some w.if-get.true in record {
            text = serial-text flags serial c.args.out.now c.loop-serial.out
                c.if-get.out c.loop-serial.behind read c.loop-serial.invariant.text c.loop-serial.invariant.behind (w.out-is ∙ w.put_serial.ensures.text);
            behind = w.behind-is ∙ serial-stands flags serial read;
            short = omega (arith, ap length w.out-is, w.put_serial.ensures.short, c.loop-serial.invariant.short);
          }
      | else-get w ↦
          let read = c.get.ensures ∙ ap Some w.if-get.false in
          let same = serials-same flags serial read in record {
            text = w.out-is ∙ c.loop-serial.invariant.text ∙ ap (λ l. c.args.out.now ++ comma_text decimal l) (sym same);
            behind = w.behind-is ∙ c.loop-serial.invariant.behind ∙ ap stands (sym same);
            short = omega (arith, ap length w.out-is, c.loop-serial.invariant.short);
          }
    ]

pub returns-clause-text : goal.returns-clause-text
unfolding serials_of
returns-clause-text c =
    let all : c.loop-serial.serial ≡ length c.args.wanted.now = omega (arith, c.loop-serial-test.false, c.len-serial-end.ensures.value) in
    c.loop-serial.invariant.text ∙ ap (λ n. c.args.out.now ++ comma_text decimal (joined_below n (serial_at c.args.wanted.now))) all
