use Rattle.std.proofs.Common.{◌∙◌, ◌-◌, drop, arith, take_all, length-drop}
use Rattle.p25_line.proofs.decimal.decimal_text.Goals as goal

pub returns : goal.returns
returns c =
    let w = c.write_decimal-start in
    take_all (20 - w.result) (drop w.result w.new.room) (omega (arith, length-drop w.result w.new.room)) ∙ w.ensures.written
