use Rattle.std.proofs.{Common.{sym, ◌∙◌, arith}, lemmas.Bool.{iff_false}, lemmas.List.{get_or_default}}
use Rattle.p25_gf64.specs.Gf64.{gf64}
use Rattle.p25_algebra.specs.Series.{coefficient}
use Rattle.p25_reed_solomon.proofs.{ErrorsLaws.{nonzeros-none, nonzeros_some, nonzeros_skip}, reader.weight.Goals.{then-not-is_zero, else-not-is_zero}}
use Rattle.p25_reed_solomon.proofs.reader.weight.Goals as goal

pub loop-symbol-init : goal.loop-symbol-init
loop-symbol-init c = (sym (nonzeros-none _), omega arith)

pub loop-symbol-preserved : goal.loop-symbol-preserved
loop-symbol-preserved c =
    let f = coefficient gf64 c.args.symbols.now in
    let i = c.loop-symbol.symbol-index in
    let here = c.symbol-item.is ∙ get_or_default c.args.symbols.now _ _ gf64.zero (omega arith) in
    elim c.if-not-is_zero.branch [
      | then-not-is_zero w ↦
          let more = nonzeros_some i f (λ z. iff_false c.is_zero.ensures w.if-not-is_zero.true (here ∙ z)) in
          (omega arith, omega arith)
      | else-not-is_zero w ↦
          let same = nonzeros_skip i f (sym here ∙ c.is_zero.ensures.0 w.if-not-is_zero.false) in
          (omega arith, omega arith)
    ]
