use Rattle.std.proofs.{Common.{rules, ◌++◌, ◌<◌, ◌≤◌, List, Bool, length, take, get_or, ap, ap₂, sym, ◌∙◌, arith, pos, FitsSigned, w8}, lemmas.Int.{to_z-of_z}}
use Rattle.std.proofs.lemmas.List.{take_all, take_more}
use Rattle.p25_bits.specs.Bits.{bits_of}
use Rattle.p25_soft.specs.Levels.{hard_bits, hard_dibit}
use Rattle.p25_soft.proofs.HardBitsLaws.{hard_bits-none, hard_bits-one_more}
use Rattle.p25_soft.proofs.level.hard_bits_of.Goals as goal

pub loop-level-init : goal.loop-level-init
loop-level-init c = record { so_far = c.new-bits.ensures ∙ sym hard_bits-none; len = ap length c.new-bits.ensures }

pub loop-level-preserved : goal.loop-level-preserved
loop-level-preserved c =
    let levels = c.args.levels.now in
    let i = c.loop-level.level-index in
    let inside : i < length levels = c.loop-level-test.true in
    let level = get_or levels i (pos 0) in
    let fits : FitsSigned w8 level = search rules in
    let number = c.from.ensures ∙ c.hard.ensures.dibit ∙ ap hard_dibit (to_z-of_z w8 level fits) in record {
      so_far =
          c.put_field.ensures.list
          ∙ ap₂ (λ (xs ys : List Bool). xs ++ ys) c.loop-level.invariant.so_far (ap (bits_of 2) number)
          ∙ sym (ap hard_bits (take_more levels i (pos 0) inside) ∙ hard_bits-one_more (take i levels) level);
      len = omega (arith, c.put_field.ensures.len, c.loop-level.invariant.len);
    }

pub returns-clause-list : goal.returns-clause-list
returns-clause-list c =
    let levels = c.args.levels.now in
    let all : length levels ≤ c.loop-level.level-index = c.loop-level-test.false in
    c.loop-level.invariant.so_far ∙ ap hard_bits (take_all c.loop-level.level-index levels all)
