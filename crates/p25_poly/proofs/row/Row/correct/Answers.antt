use Rattle.std.proofs.{Common.{◌≡◌, ◌∙◌, sym, ap, ap₂, arith, length}, lemmas.List.{get_or_default}}
use Rattle.p25_gf64.specs.Gf64.{gf64}
use Rattle.p25_gf64.proofs.FieldLaws.{add_zero, add_assoc}
use Rattle.p25_algebra.proofs.SumLaws.{sum-none}
use Rattle.p25_algebra.specs.{Sums.{dot}, Series.{coefficient}}
use Rattle.p25_poly.proofs.{CoefficientLaws.{coefficient_read, written_at, written_elsewhere}, DotLaws.{dot-next}, RowLaws.{corrected_row}}
use Rattle.p25_poly.proofs.row.Row.correct.Goals as goal

pub loop-k-init : goal.loop-k-init
loop-k-init c =
    sym (ap (gf64.add c.args.self.now.right) (sum-none gf64 _) ∙ add_zero gf64 c.args.self.now.right)

pub loop-k-preserved : goal.loop-k-preserved
loop-k-preserved c =
    let self = c.args.self.now in
    let k_here = c.loop-k.k in
    c.add-residual.ensures.sum
    ∙ ap₂ gf64.add c.loop-k.invariant
    (c.mul.ensures.product ∙ ap₂ gf64.mul (get_or_default self.cells k_here _ gf64.zero (omega arith))
    (coefficient_read gf64 c.args.unknowns.now k_here c.index-unknowns-k.result (omega arith) c.index-unknowns-k.is))
    ∙ add_assoc gf64 _ _ _
    ∙ ap (gf64.add self.right) (sym (dot-next gf64 k_here (coefficient gf64 self.cells) (coefficient gf64 c.args.unknowns.now)))

pub returns-clause-met : goal.returns-clause-met
returns-clause-met c =
    let unknowns = c.args.unknowns.now in
    let self = c.args.self.now in
    let column = c.args.column in
    let n = length unknowns in
    let all : c.loop-k.k ≡ n = omega arith in
    let residual = c.loop-k.invariant ∙ ap (λ k. gf64.add self.right (dot gf64 k (coefficient gf64 self.cells) (coefficient gf64 unknowns))) all in
    corrected_row n column self (coefficient gf64 unknowns) _ c.requires.inside c.requires.pivot
    (written_at gf64 unknowns column c.add.result c.requires.inside
    ∙ c.add.ensures.sum
    ∙ ap₂ gf64.add (coefficient_read gf64 unknowns column c.index-unknowns-column.result c.requires.inside c.index-unknowns-column.is)
    (c.mul-step.ensures.product ∙ ap₂ gf64.mul residual (c.inv.ensures.inverse ∙ ap gf64.inverse (get_or_default self.cells column _ gf64.zero (omega arith)))))
    (record { same = λ k apart. written_elsewhere gf64 unknowns column k c.add.result apart })
