use Rattle.std.proofs.Common.{◌≡◌, ◌+◌, ◌-◌, length, refl, ap, ◌∙◌, arith}
use Rattle.std.proofs.lemmas.List.{drop_all}
use Rattle.p25_vectors.specs.Damage.{word_hits}
use Rattle.p25_vectors.proofs.HitsLaws.{left-whole, left-drawn, damage-outcome}
use Rattle.p25_vectors.proofs.damage.damage_words.Goals.{then-i-whole, else-i-whole}
use Rattle.p25_vectors.proofs.damage.damage_words.Goals as goal

pub loop-i-init : goal.loop-i-init
loop-i-init c =
    let all : c.args.whole - 0 ≡ c.args.whole = omega arith in
    record { left = rw all refl; len = refl; few = omega arith }

pub loop-i-preserved : goal.loop-i-preserved
loop-i-preserved c =
    let i = c.loop-i.i in
    let size = c.args.words.size in
    let radius = c.args.words.radius in
    let loop = c.loop-i in
    elim c.if-i-whole.branch [
      | then-i-whole w ↦
          record {
            left =
                left-whole size radius c.args.whole i loop.draws _ loop.flips _ c.args.places.now loop.bits _ c.loop-i-test.true w.if-i-whole.true
                (w.bits-is ∙ w.invert.ensures.list) w.flips-is w.draws-is
                ∙ loop.invariant.left;
            len = ap length w.bits-is ∙ w.invert.ensures.len ∙ loop.invariant.len;
            few = omega (arith, w.flips-is, loop.invariant.few, c.requires.size);
          }
      | else-i-whole w ↦
          (let done = w.damage_word-flips in
          record {
            left =
                left-drawn size radius c.args.whole i loop.draws _ loop.flips _ c.args.places.now loop.bits _ c.loop-i-test.true w.if-i-whole.false
                (w.bits-is ∙ done.ensures.list) (w.flips-is ∙ ap (λ n. loop.flips + n) done.ensures.count) (w.draws-is ∙ done.ensures.state)
                ∙ loop.invariant.left;
            len = ap length w.bits-is ∙ done.ensures.len ∙ loop.invariant.len;
            few = omega (arith, w.flips-is, loop.invariant.few, done.ensures.few, c.requires.size, c.requires.radius);
          })
    ]

pub returns-clause-damage : goal.returns-clause-damage
returns-clause-damage c =
    let places = c.args.places.now in
    let size = c.args.words.size in
    let radius = c.args.words.radius in
    let loop = c.loop-i in
    damage-outcome (word_hits size radius c.args.whole places) size radius (c.args.whole - loop.i) c.args.draws.now loop.draws loop.flips c.args.bits.now loop.bits
    (rw (← drop_all loop.i places (omega arith)) loop.invariant.left)
