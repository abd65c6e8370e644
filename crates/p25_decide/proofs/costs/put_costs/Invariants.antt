use Rattle.std.proofs.Common.{◌≡◌, ◌+◌, ◌*◌, ◌/◌, get_or, take}
use Rattle.std.specs.Prelude.{pos}
use Rattle.p25_bits.specs.Numbers.{joined_below}
use Rattle.p25_soft.specs.Softened.{sent_dibit}
use Rattle.p25_decide.specs.LevelCosts.{level_costs}
use Rattle.p25_decide.proofs.costs.put_costs.Given as goal

abbrev pub invariant-loop-i : goal.invariant-loop-i
invariant-loop-i l = take (4 * l.i) l.costs ≡ joined_below l.i (λ j. level_costs (get_or l.levels (sent_dibit (l.at / 2 + j)) (pos 0)))
