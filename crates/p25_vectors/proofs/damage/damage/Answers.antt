use Rattle.std.proofs.Common.{◌+◌, [], ◌∷◌, arith}
use Rattle.p25_units.proofs.UnitsLaws.{IsSentLength-body}
use Rattle.p25_vectors.specs.Damage.{both, body_hits, unit_hits, word_hits}
use Rattle.p25_vectors.proofs.HitsLaws.{damage-both, damage-one}
use Rattle.p25_vectors.proofs.damage.damage.Goals as goal

pub damage_word-sync-requires-clause-there : goal.damage_word-sync-requires-clause-there
damage_word-sync-requires-clause-there c = let is = IsSentLength-body c.args.body.now in omega (arith, c.requires, is.least, is.fills)

pub damage_word-identifier-requires-clause-there : goal.damage_word-identifier-requires-clause-there
damage_word-identifier-requires-clause-there c = let is = IsSentLength-body c.args.body.now in omega (arith, c.requires, c.damage_word-sync.ensures.len, is.least, is.fills)

pub returns-clause-damage : goal.returns-clause-damage
unfolding unit_hits
returns-clause-damage c =
    let state = c.args.draws.now in
    let bits = c.args.bits.now in
    let sync = c.damage_word-sync in
    let identifier = c.damage_word-identifier in
    let body = c.damage_body in
    let front = damage-both (word_hits 48 4 0 (0 ∷ [])) (word_hits 63 11 0 (48 ∷ [])) state sync.new.draws identifier.new.draws sync.result identifier.result bits sync.new.bits identifier.new.bits
    (damage-one 0 48 4 state sync.new.draws sync.result bits sync.new.bits sync.ensures.list sync.ensures.count sync.ensures.state)
    (damage-one 48 63 11 sync.new.draws identifier.new.draws identifier.result sync.new.bits identifier.new.bits identifier.ensures.list identifier.ensures.count identifier.ensures.state) in
    damage-both (both (word_hits 48 4 0 (0 ∷ [])) (word_hits 63 11 0 (48 ∷ []))) (body_hits c.args.body.now) state identifier.new.draws body.new.draws
    (sync.result + identifier.result) body.result bits identifier.new.bits body.new.bits front body.ensures.damage
