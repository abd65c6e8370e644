use Rattle.p25_vectors.proofs.damage.damage_field.Goals as goal

pub returns-clause-damage : goal.returns-clause-damage
returns-clause-damage c =
    let field = rw (c.below-whole.ensures.value, c.below-whole.ensures.state) at c.damage_words.ensures.damage in
    record { list = field.list; flips = field.flips; state = field.state }
