use Rattle.std.proofs.Common.{arith}
use Rattle.p25_reed_solomon.proofs.ListLaws.{moved_everywhere}
use Rattle.p25_reed_solomon.proofs.erasures.moved_up.Goals as goal

pub returns-clause-moved : goal.returns-clause-moved
returns-clause-moved c =
    let held = c.loop-i.invariant in
    moved_everywhere c.args.polynomial.now c.loop-i.moved c.requires held.full held.first (λ k low. held.before k (omega arith))
