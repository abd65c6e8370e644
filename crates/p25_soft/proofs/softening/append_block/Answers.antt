use Rattle.std.proofs.Common.{◌++◌, ◌+◌, ◌*◌, List, Bool, ap, sym, ◌∙◌, ℤ}
use Rattle.p25_bits.specs.Bits.{part}
use Rattle.p25_trellis.specs.Tables.{half_point, three_quarter_point}
use Rattle.p25_soft.specs.{SoftPaths.{soft_block}, Softened.{block_levels}}
use Rattle.p25_soft.proofs.SoftenedLaws.{softened_block-all, softened_block-named, softened_block-kept}
use Rattle.p25_soft.proofs.softening.append_block.Goals as goal

pub returns-then-fails_whole-clause-list : goal.returns-then-fails_whole-clause-list
returns-then-fails_whole-clause-list c =
    let levels = c.args.levels.now in
    c.append_soft.ensures.list
    ∙ ap (λ (bits : List Bool). c.args.out.now ++ bits)
    (
    ap (λ (ls : List ℤ). soft_block 4 half_point ls) (c.levels_of.ensures.list ∙ ap (block_levels levels) c.from-place.ensures)
    ∙ sym (softened_block-all c.args.fields.now levels c.args.bare.now c.args.j (sym c.fails_whole.ensures ∙ c.if-fails_whole.true))
    )

pub returns-then-fails_block-clause-list : goal.returns-then-fails_block-clause-list
returns-then-fails_block-clause-list c =
    let levels = c.args.levels.now in
    c.append_soft-then-fails_block.ensures.list
    ∙ ap (λ (bits : List Bool). c.args.out.now ++ bits)
    (
    ap (λ (ls : List ℤ). soft_block 8 three_quarter_point ls) (c.levels_of-then-fails_block.ensures.list ∙ ap (block_levels levels) c.from-place.ensures)
    ∙ sym (softened_block-named c.args.fields.now levels c.args.bare.now c.args.j (sym c.fails_whole.ensures ∙ c.if-fails_whole.false) (sym c.fails_block.ensures ∙ c.if-fails_block.true))
    )

pub returns-clause-list : goal.returns-clause-list
returns-clause-list c =
    c.append.ensures.list
    ∙ ap (λ (bits : List Bool). c.args.out.now ++ bits)
    (
    ap (λ k. part (308 + 196 * k) 196 c.args.bare.now) c.from-place.ensures
    ∙ sym (softened_block-kept c.args.fields.now c.args.levels.now c.args.bare.now c.args.j (sym c.fails_whole.ensures ∙ c.if-fails_whole.false) (sym c.fails_block.ensures ∙ c.if-fails_block.false))
    )
