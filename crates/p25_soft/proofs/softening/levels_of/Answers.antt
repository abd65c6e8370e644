use Rattle.std.proofs.{Common.{rules, ◌+◌, ◌*◌, ◌/◌, ◌<◌, length, get_or, length-set, ◌∙◌, arith, FitsSigned, w8, pos, to_z, of_z}, lemmas.Int.{to_z-of_z}}
use Rattle.p25_soft.specs.Softened.{sent_dibit}
use Rattle.p25_soft.proofs.SoftenedLaws.{levels_more, block_levels-from}
use Rattle.p25_soft.proofs.softening.levels_of.Goals as goal

pub bounds-levels-dibit : goal.bounds-levels-dibit
unfolding sent_dibit
bounds-levels-dibit c = let there = c.requires.there in omega arith

pub loop-i-preserved : goal.loop-i-preserved
loop-i-preserved c =
    let levels = c.args.levels.now in
    let place = 154 + 98 * c.args.j + c.loop-i.i + (154 + 98 * c.args.j + c.loop-i.i) / 35 in
    let level = get_or levels place (pos 0) in
    let fits : FitsSigned w8 level = search rules in
    let inside : c.loop-i.i < length c.loop-i.block = omega (arith, c.loop-i.invariant.long) in record {
      long = length-set c.loop-i.block c.loop-i.i (to_z w8 (of_z w8 level)) ∙ c.loop-i.invariant.long;
      so_far = levels_more levels c.loop-i.block c.args.j c.loop-i.i (to_z w8 (of_z w8 level)) inside c.loop-i.invariant.so_far (to_z-of_z w8 level fits);
    }

pub returns-clause-list : goal.returns-clause-list
returns-clause-list c =
    block_levels-from c.args.levels.now c.loop-i.block c.args.j c.loop-i.invariant.long
    (λ k below. let there : k < c.loop-i.i = omega arith in c.loop-i.invariant.so_far k there)
