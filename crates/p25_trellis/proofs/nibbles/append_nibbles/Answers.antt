use Rattle.std.proofs.Common.{◌++◌, Bool, List, ap, ap₂, ◌∙◌, append_assoc}
use Rattle.p25_trellis.proofs.NibbleSteps.{number_bits-interleaved}
use Rattle.p25_trellis.proofs.nibbles.append_nibbles.Goals as goal

pub returns-clause-list : goal.returns-clause-list
returns-clause-list c =
    let join : List Bool → List Bool → List Bool = λ xs ys. xs ++ ys in
    c.put_field-4.ensures.list
    ∙ ap₂ join
    (c.put_field-3.ensures.list
    ∙ ap₂ join
    (c.put_field-2.ensures.list ∙ ap₂ join (c.put_field.ensures.list ∙ ap (join c.args.out.now) c.fourths_joined.ensures.bits) c.fourths_joined-2.ensures.bits) c.fourths_joined-3.ensures.bits)
    c.fourths_joined-4.ensures.bits
    ∙ simp (number_bits-interleaved, append_assoc)
