use Rattle.std.proofs.Common.{◌≡◌, ◌≢◌, ℕ, ◌+◌, ◌-◌, ◌*◌, ◌/◌, ◌%◌, ◌≤◌, List, Bool, length, take, drop, refl, ap, sym, ◌∙◌, arith, ℤ}
use Rattle.std.proofs.lemmas.Bool.{ne_eqb}
use Rattle.p25_bits.specs.Bits.{part}
use Rattle.p25_units.specs.{Items.{covered, place_of}, declared.item.Item.{Item}}
use Rattle.p25_decide.specs.{DecidedRecordings.{item_decided, unit_decided}, DecidedTaking.{AreFrom}}
use Rattle.p25_decide.proofs.StretchSteps.{levels-from}
use Rattle.p25_decide.proofs.item.decide_item.Goals as goal

item-even : (item : Item) (first from : ℕ) (levels all : List ℤ) (sent now : List Bool) → AreFrom first levels all → place_of item ≡ 2 * first + from → from % 2 ≡ 0 → from / 2 + covered item / 2 ≤ length levels
    → now ≡ unit_decided (part (from / 2) (covered item / 2) levels) item sent → now ≡ item_decided all item sent
unfolding item_decided
item-even item first from levels all sent now are place even inside is =
    let even_there : place_of item % 2 ≡ 0 = omega (arith, place) in
    let half : place_of item / 2 ≡ first + from / 2 = omega (arith, place) in
    is ∙ sym (rw (even_there, half, levels-from first (from / 2) (covered item / 2) levels all are inside) refl)

item-odd : (item : Item) (first from : ℕ) (all : List ℤ) (sent : List Bool) → place_of item ≡ 2 * first + from → from % 2 ≢ 0 → item_decided all item sent ≡ sent
unfolding item_decided
item-odd item first from all sent place odd =
    let odd_there : place_of item % 2 ≢ 0 = λ is. odd (omega (arith, place)) in
    rw (ne_eqb (place_of item % 2) 0 odd_there) refl

pub returns-then-from-eq0 : goal.returns-then-from-eq0
returns-then-from-eq0 c =
    let item = c.args.item.now in
    let levels = c.args.levels.now in
    let raw = c.args.raw.now in
    let from = c.args.from in
    let same : from / 2 + c.covered.result / 2 - from / 2 ≡ covered item / 2 = omega (arith, c.covered.ensures.value) in
    let decided = c.decide_own.ensures ∙ ap (λ n. unit_decided (take n (drop (from / 2) levels)) item raw) same in
    λ first all are place. item-even item first from levels all raw c.decide_own.new.raw are place c.if-from-eq0.true (omega (arith, c.requires.there)) decided

pub returns-else-from-eq0 : goal.returns-else-from-eq0
returns-else-from-eq0 c =
    λ first all are place. sym (item-odd c.args.item.now first c.args.from all c.args.raw.now place c.if-from-eq0.false)
