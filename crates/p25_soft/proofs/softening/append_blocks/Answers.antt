use Rattle.std.proofs.Common.{◌++◌, ◌+◌, List, Bool, ap, ap₂, sym, ◌∙◌, arith, append-nil, append_assoc}
use Rattle.p25_bits.specs.Numbers.{joined_below}
use Rattle.p25_bits.proofs.NumbersLaws.{joined_below-zero, joined_below-more}
use Rattle.p25_soft.specs.Softened.{softened_block}
use Rattle.p25_soft.proofs.SoftenedLaws.{blocks_replaced-zero, blocks_replaced-more, sent_dibit-lt}
use Rattle.p25_soft.proofs.softening.append_blocks.Goals as goal

pub loop-j-init : goal.loop-j-init
loop-j-init c =
    let blocks = softened_block c.args.fields.now c.args.levels.now c.args.bare.now in record {
      list = sym (ap (λ (bits : List Bool). c.args.out.now ++ bits) (joined_below-zero blocks) ∙ append-nil c.args.out.now);
      len = omega arith;
      count = blocks_replaced-zero c.args.fields.now;
      few = omega arith;
    }

pub append_block-count-requires-clause-levels : goal.append_block-count-requires-clause-levels
append_block-count-requires-clause-levels c = sent_dibit-lt c.loop-j.j c.args.blocks _ c.loop-j-test.true c.requires.levels

pub loop-j-preserved : goal.loop-j-preserved
loop-j-preserved c =
    let blocks = softened_block c.args.fields.now c.args.levels.now c.args.bare.now in
    let j = c.loop-j.j in record {
      list =
          c.append_block-count.ensures.list
          ∙ ap (λ (bits : List Bool). bits ++ blocks j) c.loop-j.invariant.list
          ∙ append_assoc c.args.out.now (joined_below j blocks) (blocks j)
          ∙ ap (λ (bits : List Bool). c.args.out.now ++ bits) (sym (joined_below-more j blocks));
      len = omega (arith, c.append_block-count.ensures.len, c.loop-j.invariant.len);
      count = ap₂ ◌+◌ c.loop-j.invariant.count c.append_block-count.ensures.count ∙ sym (blocks_replaced-more c.args.fields.now j);
      few = omega (arith, c.append_block-count.ensures.few, c.loop-j.invariant.few);
    }
