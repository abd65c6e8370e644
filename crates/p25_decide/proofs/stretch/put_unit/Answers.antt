use Rattle.std.proofs.Common.{◌≡◌, ℕ, ◌+◌, ◌-◌, ◌*◌, ◌/◌, ◌≤◌, Bool, List, ◌++◌, length, take, drop, Some, ap, ap₂, sym, subst, ◌∙◌, arith, ℤ}
use Rattle.p25_bits.specs.Bits.{part}
use Rattle.p25_bits.proofs.PartLaws.{length-part, part_whole}
use Rattle.p25_voice_units.specs.Lengths.{voice_length_of}
use Rattle.p25_follow.specs.Expected.{kind_length}
use Rattle.p25_decide.specs.{DecidedTaking.{voice_decided}, DecidedUnits.{decided_sent}}
use Rattle.p25_decide.proofs.StretchSteps.{voice-even, voice-fits, voice-odd}
use Rattle.p25_decide.proofs.stretch.put_unit.Goals.{then-from-eq0, else-from-eq0}
use Rattle.p25_decide.proofs.stretch.put_unit.Goals as goal

-- the soft symbols of the unit
some-levels : (levels : List ℤ) (from count kind : ℕ) → count ≡ kind_length kind → from + kind_length kind ≤ 2 * length levels → 144 ≤ kind_length kind
    → take (from / 2 + count / 2 - from / 2) (drop (from / 2) levels) ≡ part (from / 2) (kind_length kind / 2) levels
some-levels levels from count kind is inside few =
    let same : from / 2 + count / 2 - from / 2 ≡ kind_length kind / 2 = omega (arith, is) in
    ap (λ n. take n (drop (from / 2) levels)) same

levels-long : (levels : List ℤ) (from kind : ℕ) → from + kind_length kind ≤ 2 * length levels → 144 ≤ kind_length kind → length (part (from / 2) (kind_length kind / 2) levels) ≡ kind_length kind / 2
levels-long levels from kind inside few = length-part (from / 2) (kind_length kind / 2) levels (omega (arith, inside, (voice-fits kind few).1))

pub decide_unit-requires-clause-kind : goal.decide_unit-requires-clause-kind
decide_unit-requires-clause-kind c =
    let levels = c.args.levels.now in
    let long = ap length (some-levels levels c.args.from c.kind_length-count.result c.args.kind c.kind_length-count.ensures.value c.requires.levels c.requires.kind)
    ∙ levels-long levels c.args.from c.args.kind c.requires.levels c.requires.kind in
    subst (λ n. voice_length_of c.args.kind ≡ Some (70 * (n / 36))) (sym long) (voice-fits c.args.kind c.requires.kind).0.bare

pub decide_unit-requires-clause-whole : goal.decide_unit-requires-clause-whole
decide_unit-requires-clause-whole c =
    let levels = c.args.levels.now in
    let long = ap length (some-levels levels c.args.from c.kind_length-count.result c.args.kind c.kind_length-count.ensures.value c.requires.levels c.requires.kind)
    ∙ levels-long levels c.args.from c.args.kind c.requires.levels c.requires.kind in
    subst (λ n. 36 * (n / 36) ≡ n) (sym long) (voice-fits c.args.kind c.requires.kind).0.blocks

pub decide_unit-requires-clause-levels : goal.decide_unit-requires-clause-levels
decide_unit-requires-clause-levels c =
    let levels = c.args.levels.now in
    let long = ap length (some-levels levels c.args.from c.kind_length-count.result c.args.kind c.kind_length-count.ensures.value c.requires.levels c.requires.kind)
    ∙ levels-long levels c.args.from c.args.kind c.requires.levels c.requires.kind in
    omega (arith, long, (voice-fits c.args.kind c.requires.kind).1, c.append.ensures.len, ap length c.new-unit.ensures, c.kind_length-count.ensures.value)

-- the unit that is appended
appended : (out unit now : List Bool) (count kind : ℕ) → count ≡ length unit → now ≡ out ++ part 0 count unit → now ≡ out ++ unit
appended out unit now count kind long is = is ∙ ap (λ (xs : List Bool). out ++ xs) (part_whole count unit (sym long))

pub returns-clause-list : goal.returns-clause-list
returns-clause-list c =
    let levels = c.args.levels.now in
    let settled = c.args.settled.now in
    let kind = c.args.kind in
    let from = c.args.from in
    let count = c.kind_length-count.ensures.value in
    let sent = part c.args.at (kind_length kind) settled in
    let own : c.append.new.self ≡ sent
    = c.append.ensures.list ∙ ap₂ (λ (xs : List Bool) n. xs ++ part c.args.at n settled) c.new-unit.ensures count in
    let fits = voice-fits kind c.requires.kind in
    let inside : from / 2 + kind_length kind / 2 ≤ length levels = omega (arith, c.requires.levels, fits.1) in
    λ first all are.
    elim c.if-from-eq0.branch [
      | then-from-eq0 w ↦
          let decided = w.decide_unit.ensures.bits
          ∙ ap₂ (λ (ls : List ℤ) (xs : List Bool). decided_sent kind ls xs) (some-levels levels from c.kind_length-count.result kind count c.requires.levels c.requires.kind) own in
          let unit : c.if-from-eq0.unit ≡ voice_decided all (2 * first + from) kind sent
          = w.unit-is ∙ voice-even first from kind levels all sent w.decide_unit.new.raw are w.if-from-eq0.true inside decided in
          appended c.args.out.now c.if-from-eq0.unit c.append-2.new.self c.kind_length-count.result kind
          (omega (arith, ap length w.unit-is, w.decide_unit.ensures.len, c.append.ensures.len, ap length c.new-unit.ensures)) c.append-2.ensures.list
          ∙ ap (λ (xs : List Bool). c.args.out.now ++ xs) unit
      | else-from-eq0 w ↦
          appended c.args.out.now c.if-from-eq0.unit c.append-2.new.self c.kind_length-count.result kind
          (omega (arith, ap length w.unit-is, c.append.ensures.len, ap length c.new-unit.ensures)) c.append-2.ensures.list
          ∙ ap (λ (xs : List Bool). c.args.out.now ++ xs) (w.unit-is ∙ own ∙ sym (voice-odd first from kind all sent w.if-from-eq0.false))
    ]
