use Rattle.std.proofs.{Common.{◌≡◌, ◌*◌, ◌/◌, take, arith}, lemmas.List.{get_or-take, length-take}}
use Rattle.p25_gf64.specs.Gf64.{gf64}
use Rattle.p25_reed_solomon.proofs.TurnedLaws.{turned_exactly}
use Rattle.p25_reed_solomon.proofs.wrong.wrong_locator.Goals as goal

pub returns-clause-zeros : goal.returns-clause-zeros
returns-clause-zeros c =
    let args = c.args in
    λ errors are j inside.
    let half = args.checks / 2 in
    let count = args.checks / 2 * 2 in
    let turned = c.loop-i.turned in
    let twice : count ≡ 2 * half = omega arith in
    turned_exactly args.n args.checks half args.syndromes.now (take count turned) c.key_solve-key.result.locator c.key_solve-key.result.evaluator
    c.requires.places c.requires.few (omega (arith, c.requires.some)) (omega arith) (omega arith)
    (omega (arith, length-take count turned, c.loop-i.invariant.full, c.requires.few))
    (λ i low. cc (get_or-take count turned i gf64.zero (omega arith), c.loop-i.invariant.turned i (omega arith), twice))
    c.key_solve-key.ensures errors are c.loop-i-2.locator (λ i low. c.loop-i-2.invariant.turned i (omega arith)) j inside
