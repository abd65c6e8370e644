use Rattle.std.proofs.Common.{◌≡◌, ◌+◌, ◌-◌, ◌*◌, ◌%◌, ◌<◌, ℕ, suc, List, Bool, refl, sym, ◌∙◌, arith}
use Rattle.p25_coded_fields.specs.Layouts.{places_from}
use Rattle.p25_vectors.specs.{Draws.{draw, state_after}, Damage.{inverted, word_hits}}
use Rattle.p25_vectors.proofs.HitsLaws.{outcome, outcome-drawn, damage-outcome}
use Rattle.p25_vectors.proofs.damage.damage_blocks.Goals as goal

pub loop-j-init : goal.loop-j-init
loop-j-init c =
    let all : c.args.count - 0 ≡ c.args.count = omega arith in
    record { left = rw all refl; len = refl; few = omega arith }

left-more : (radius count j state next flips total : ℕ) (bits now : List Bool) → j < count → now ≡ inverted (308 + 196 * j) (draw 0 state % (radius + 1)) bits
    → total ≡ draw 0 state % (radius + 1) → next ≡ state_after 1 state
    → outcome (word_hits 196 radius 0 (places_from (308 + 196 * (j + 1)) 196 (count - (j + 1)))) next now (flips + total)
    ≡ outcome (word_hits 196 radius 0 (places_from (308 + 196 * j) 196 (count - j))) state bits flips
unfolding places_from
left-more radius count j state next flips total bits now inside list number after =
    let one : count - j ≡ suc (count - (j + 1)) = omega arith in
    let place : 308 + 196 * (j + 1) ≡ 308 + 196 * j + 196 = omega arith in
    rw (list, number, after, one, place) (sym (outcome-drawn 196 radius state bits flips (308 + 196 * j) (places_from (308 + 196 * j + 196) 196 (count - (j + 1)))))

pub loop-j-preserved : goal.loop-j-preserved
loop-j-preserved c =
    let loop = c.loop-j in
    let done = c.damage_word-flips in
    record {
      left =
          left-more c.args.radius c.args.count loop.j loop.draws done.new.draws loop.flips done.result loop.bits done.new.bits c.loop-j-test.true
          done.ensures.list done.ensures.count done.ensures.state
          ∙ loop.invariant.left;
      len = done.ensures.len ∙ loop.invariant.len;
      few = omega (arith, loop.invariant.few, done.ensures.few, c.requires.radius);
    }

pub returns-clause-damage : goal.returns-clause-damage
unfolding places_from
returns-clause-damage c =
    let loop = c.loop-j in
    let none : c.args.count - loop.j ≡ 0 = omega arith in
    damage-outcome (word_hits 196 c.args.radius 0 (places_from 308 196 c.args.count)) 196 c.args.radius 0 c.args.draws.now loop.draws loop.flips c.args.bits.now loop.bits
    (rw none at loop.invariant.left)
