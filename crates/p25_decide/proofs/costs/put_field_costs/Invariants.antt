use Rattle.std.proofs.Common.{◌≡◌, ◌*◌, ◌/◌, get_or, take}
use Rattle.p25_bits.specs.Numbers.{joined_below}
use Rattle.p25_decide.specs.LevelCosts.{word_level_costs}
use Rattle.p25_decide.proofs.costs.put_field_costs.Given as goal

abbrev pub invariant-loop-i : goal.invariant-loop-i
invariant-loop-i l = take (2 * l.size * l.i) l.costs ≡ joined_below l.i (λ j. word_level_costs l.levels (get_or l.places j 0 / 2) (l.size / 2))
