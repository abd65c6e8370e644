use Rattle.std.proofs.{Common.{◌≡◌, suc, ◌+◌, ◌-◌, ◌/◌, length, refl, arith, ◌≤◌}, lemmas.List.{get_or_default}}
use Rattle.p25_gf64.specs.{Gf64.{gf64}}
use Rattle.p25_algebra.specs.Series.{coefficient}
use Rattle.p25_reed_solomon.specs.Locator.{times_erasures, IsLocator}
use Rattle.p25_reed_solomon.proofs.LocatorLaws.{located, located_first, evaluator_step}
use Rattle.p25_reed_solomon.proofs.locator.locate.Goals as goal

pub loop-i-init : goal.loop-i-init
loop-i-init c =
    let args = c.args in
    let requires = c.requires in
    located_first (length args.erased.now) args.checks args.erasures
    _ args.syndromes.now c.multiply_by_erasures.new.polynomial c.fill_front.new.out args.erased.now c.key_of-key.result.locator c.key_of-key.result.evaluator
    requires.places requires.count (omega (arith, requires.count, requires.erasures)) requires.some requires.few refl (omega arith)
    (λ k low. cc (c.multiply_by_erasures.ensures k low, c.copy_from_slice.ensures.after))
    c.key_of-key.ensures (omega arith) c.fill_front.ensures c.fill_front-2.new.out c.fill_front-2.ensures

pub loop-i-preserved : goal.loop-i-preserved
loop-i-preserved c =
    let requires = c.requires in
    let erased = c.args.erased.now in
    let loop = c.loop-i in
    let n = length erased in
    let i = loop.i - 1 in
    let next : suc i ≡ loop.i = omega arith in
    evaluator_step i _ _ (times_erasures n erased n _)
    _ _ _
    (omega (arith, requires.count, requires.erasures, requires.few))
    (cc (
      get_or_default c.multiply_by_erasures.new.polynomial i _ gf64.zero (omega (arith, requires.count, requires.erasures, requires.few)),
      c.multiply_by_erasures.ensures i (omega (arith, requires.count, requires.erasures, requires.few)),
      c.copy_from_slice.ensures.after,
    ))
    c.multiply_by_x_and_add.ensures
    (rw next loop.invariant)

whole : (c : goal.After-degree_bound)
    → IsLocator (length c.args.erased.now) c.args.checks c.args.syndromes.now c.args.erased.now c.degree_bound.result
    (coefficient gf64 c.multiply_by_erasures-2.new.polynomial) (coefficient gf64 c.loop-i.evaluator)
    × (c.degree_bound.result ≤ (c.args.checks - c.args.erasures) / 2 + c.args.erasures)
whole c =
    let args = c.args in
    let requires = c.requires in
    located (length args.erased.now) args.checks args.erasures _ args.syndromes.now
    c.multiply_by_erasures.new.polynomial c.fill_front.new.out args.erased.now c.key_of-key.result.locator c.key_of-key.result.evaluator
    requires.places requires.count (omega (arith, requires.count, requires.erasures)) requires.some requires.few refl (omega arith)
    (λ k low. cc (c.multiply_by_erasures.ensures k low, c.copy_from_slice.ensures.after))
    c.key_of-key.ensures (omega arith) c.fill_front.ensures c.degree_bound.result c.multiply_by_erasures-2.new.polynomial c.loop-i.evaluator c.loop-i.i (omega arith) (omega arith)
    c.degree_bound.ensures.some c.degree_bound.ensures.short c.degree_bound.ensures.least c.multiply_by_erasures-2.ensures c.loop-i.invariant

pub returns : goal.returns
returns c = record { locator = (whole c).0; most = omega (arith, (whole c).1, c.requires.count, c.requires.erasures) }
