use Rattle.std.proofs.{Common.{rules, ◌≡◌, ◌+◌, ◌*◌, ◌/◌, ◌≤◌, length, get_or, ap, ◌∙◌, arith, FitsSigned, w8, pos}, lemmas.Int.{to_z-of_z}}
use Rattle.p25_coded_fields.proofs.DecidedLaws.{joined_first, joined_next, joined_all}
use Rattle.p25_soft.specs.Softened.{sent_dibit}
use Rattle.p25_decide.specs.LevelCosts.{level_costs, word_level_costs}
use Rattle.p25_decide.proofs.CostsLaws.{length-level_costs}
use Rattle.p25_decide.proofs.costs.put_costs.Goals as goal

pub loop-i-init : goal.loop-i-init
loop-i-init c = joined_first _ 4 c.args.costs.now

pub loop-i-preserved : goal.loop-i-preserved
unfolding sent_dibit
loop-i-preserved c =
    let i = c.loop-i.i in
    let costs = c.loop-i.costs in
    let dibit = c.args.at / 2 + i in
    let level = get_or c.args.levels.now (dibit + dibit / 35) (pos 0) in
    let fits : FitsSigned w8 level = search rules in
    let there : 4 * i + 4 ≤ length costs = omega (arith, c.requires.pairs) in
    let is = c.copy_from_slice.ensures.after ∙ c.level_costs.ensures.list ∙ ap level_costs (to_z-of_z w8 level fits) in
    joined_next _ 4 i _ costs c.copy_from_slice.new.self there (ap length is ∙ length-level_costs level) c.loop-i.invariant is

pub returns : goal.returns
unfolding word_level_costs
returns c =
    let here : c.loop-i.i ≡ length c.args.costs.now / 4 = omega arith in
    joined_all _ 4 c.loop-i.i (length c.args.costs.now / 4) c.loop-i.costs here (omega (arith, c.requires.pairs)) c.loop-i.invariant
