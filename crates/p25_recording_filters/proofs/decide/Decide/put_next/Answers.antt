use Rattle.std.proofs.Common.{◌≡◌, ℕ, ◌+◌, ◌-◌, ◌*◌, ◌/◌, ◌%◌, Bool, List, [], ◌∷◌, length, drop, refl, ap, sym, subst, ◌∙◌, arith, ℤ}
use Rattle.std.proofs.lemmas.List.{length-take-le}
use Rattle.p25_bits.specs.Bits.{part}
use Rattle.p25_units.specs.{declared.item.Item.{Item}, Items.{covered}}
use Rattle.p25_stream.specs.Scan.{Scan, Gave, given}
use Rattle.p25_soft.specs.Softened.{IsHeard}
use Rattle.p25_follow.specs.Following.{Follow, behind_item, written_item}
use Rattle.p25_decide.specs.{DecidedFollowing.{before_item}, DecidedRecordings.{item_decided}, DecidedTaking.{AreFrom}}
use Rattle.p25_recording_filters.specs.{SoftLevels.{grouped}, Decides.{DecideParts, IsDeciding, PutDecided, first_held}}
use Rattle.p25_recording_filters.proofs.DecideItemLaws.{ahead-at, decided-there, deciding-next, from-at, gone-at, gone-inside, item-at, later-next, own-written, rest-short, starts-at, unit-heard}
use Rattle.p25_recording_filters.proofs.{DecideRecordingsLaws.{deciding}, HoldingLaws.{place-given}, RecordingsLaws.{gave-fits}}
use Rattle.p25_recording_filters.proofs.decide.Decide.put_next.Goals as goal

raw-long : (scan next : Scan) (item : Item) (raw : List Bool) → Gave scan item raw next → length raw ≡ covered item
raw-long scan next item raw gave = ap length gave.raw_bits ∙ length-take-le (covered item) scan.held gave.there

pub take-requires-clause-short : goal.take-requires-clause-short
take-requires-clause-short c =
    let scan = c.self.inside.scanner in
    let item = c.next_in.new.item in
    let gave = c.next_in.ensures.given c.if-not-next_in.false in
    λ rest. omega (arith, raw-long scan c.next_in.new.self item c.next_in.new.raw gave, rest-short item (gave-fits scan c.next_in.new.self item c.next_in.new.raw gave) rest)

pub take-requires-clause-covers : goal.take-requires-clause-covers
take-requires-clause-covers c = raw-long c.self.inside.scanner c.next_in.new.self c.next_in.new.item c.next_in.new.raw (c.next_in.ensures.given c.if-not-next_in.false)

pub take-requires-clause-levels : goal.take-requires-clause-levels
take-requires-clause-levels c =
    let s = c.self.inside in
    let gave = c.next_in.ensures.given c.if-not-next_in.false in
    let from = from-at s.place c.kept.result s.scanner s.decider c.self.invariant.2 c.kept.ensures.value c.self.invariant.0.there in
    omega (arith, decided-there s.scanner c.next_in.new.self s.decider s.levels c.next_in.new.item c.next_in.new.raw c.self.invariant.0 gave, from, ap length c.groups.ensures.list)

pub take-requires-clause-heard : goal.take-requires-clause-heard
take-requires-clause-heard c =
    let s = c.self.inside in
    let item = c.next_in.new.item in
    let raw = c.next_in.new.raw in
    let gave = c.next_in.ensures.given c.if-not-next_in.false in
    let ahead = ahead-at s.place c.kept.result s.scanner s.decider c.self.invariant.2 c.kept.ensures.value c.self.invariant.0.there in
    λ named even.
    subst (λ (ls : List ℤ). IsHeard item (part (((s.place - c.kept.result) % 8 + length s.decider.stretch) / 2) (covered item / 2) ls) raw) (sym c.groups.ensures.list)
    (subst (λ n. IsHeard item (part (n / 2) (covered item / 2) (grouped s.levels)) raw) (sym ahead)
    (unit-heard _ s.scanner c.next_in.new.self s.levels item raw c.self.invariant.0.holding gave named (ap (λ n. n % 2) (sym ahead) ∙ even)))

-- the state after the item
abbrev shorter : Follow → Follow → ℕ → Type 0
shorter now is count = count ≡ length now.stretch

pub overflow_sub-next : goal.overflow_sub-next
overflow_sub-next c =
    let s = c.self.inside in
    let gave = c.next_in.ensures.given c.if-not-next_in.false in
    let next = deciding-next s.scanner c.next_in.new.self s.decider s.levels c.next_in.new.item c.next_in.new.raw c.self.invariant.0 gave in
    omega (arith, c.kept-2.ensures.value, ap (λ (f : Follow). length f.stretch) c.take.ensures.behind, next.there, gave.place, c.covered.ensures.value, c.self.invariant.2)

pub overflow_sub-next-2 : goal.overflow_sub-next-2
overflow_sub-next-2 c =
    let s = c.self.inside in
    let gave = c.next_in.ensures.given c.if-not-next_in.false in
    let later = later-next s.scanner c.next_in.new.self s.decider s.levels c.next_in.new.item c.next_in.new.raw c.self.invariant.0 gave in
    omega (
      arith,
      later,
      c.kept.ensures.value,
      c.kept-2.ensures.value,
      ap (λ (f : Follow). length f.stretch) c.take.ensures.behind,
      gave.place,
      c.covered.ensures.value,
      c.self.invariant.2,
    )

-- the levels that go, by the numbers of the code
gone-so : (place covers before after : ℕ) (scan next : Scan) (follow now : Follow) (item : Item) (raw : List Bool) → place ≡ scan.place → Gave scan item raw next → covers ≡ covered item
    → before ≡ length follow.stretch → now ≡ behind_item follow item raw → after ≡ length now.stretch
    → 4 * ((place + covers - after) / 8) - 4 * ((place - before) / 8) ≡ first_held next.place (behind_item follow item raw) - first_held scan.place follow
gone-so place covers before after scan next follow now item raw place_is gave covers_is before_is now_is after_is =
    gone-at place covers before after scan next follow (behind_item follow item raw) place_is (gave.place ∙ ap (λ n. scan.place + n) (sym covers_is)) before_is
    (after_is ∙ ap (λ (f : Follow). length f.stretch) now_is)

pub drop_front-requires : goal.drop_front-requires
drop_front-requires c =
    let s = c.self.inside in
    let gave = c.next_in.ensures.given c.if-not-next_in.false in
    let gone = gone-so s.place c.covered.result c.kept.result c.kept-2.result s.scanner c.next_in.new.self s.decider c.take.new.self c.next_in.new.item c.next_in.new.raw c.self.invariant.2 gave
    c.covered.ensures.value c.kept.ensures.value c.take.ensures.behind c.kept-2.ensures.value in
    omega (arith, gone, gone-inside s.scanner c.next_in.new.self s.decider s.levels c.next_in.new.item c.next_in.new.raw c.self.invariant.0 gave)

no_items : (items : List Item) (item : Item) → [] ≡ item ∷ items → ⊥
no_items items item e = cc

pub invariant_of-self : goal.invariant_of-self
invariant_of-self c =
    let s = c.self.inside in
    let item = c.next_in.new.item in
    let raw = c.next_in.new.raw in
    let next = c.next_in.new.self in
    let gave = c.next_in.ensures.given c.if-not-next_in.false in
    let gone = gone-so s.place c.covered.result c.kept.result c.kept-2.result s.scanner next s.decider c.take.new.self item raw c.self.invariant.2 gave
    c.covered.ensures.value c.kept.ensures.value c.take.ensures.behind c.kept-2.ensures.value in
    let left = c.drop_front.ensures ∙ ap (λ n. drop n s.levels) gone in (
      subst (λ (ls : List ℤ). IsDeciding next c.take.new.self ls) (sym left)
          (subst (λ (f : Follow). IsDeciding next f (drop (first_held next.place (behind_item s.decider item raw) - first_held s.scanner.place s.decider) s.levels)) (sym c.take.ensures.behind)
          (deciding-next s.scanner next s.decider s.levels item raw c.self.invariant.0 gave)),
      c.put_item.ensures.few,
      omega (arith, c.self.invariant.2, gave.place, c.covered.ensures.value),
      gave.same ∙ c.self.invariant.3,
      λ is. absurd (no_items (given next) item (sym (c.self.invariant.4 is) ∙ gave.items)),
    )

pub returns : goal.returns
returns c =
    let s = c.self.inside in
    let item = c.next_in.new.item in
    let raw = c.next_in.new.raw in
    let next = c.next_in.new.self in
    let follow = s.decider in
    let gave = c.next_in.ensures.given c.if-not-next_in.false in
    let first = first_held s.scanner.place follow in
    let starts = starts-at s.place c.kept.result s.scanner follow c.self.invariant.2 c.kept.ensures.value c.self.invariant.0.there in
    let at = item-at s.place c.kept.result s.scanner follow c.self.invariant.2 c.kept.ensures.value c.self.invariant.0.there in
    let gone = gone-so s.place c.covered.result c.kept.result c.kept-2.result s.scanner next follow c.take.new.self item raw c.self.invariant.2 gave
    c.covered.ensures.value c.kept.ensures.value c.take.ensures.behind c.kept-2.ensures.value in
    subst (λ (r : DecideParts). PutDecided r c.put_item.new.out (deciding next c.take.new.self c.drop_front.new.self c.put_item.new.kept s.phase)) c.self.view_is
    record {
      item = item;
      raw = raw;
      bits = c.take.new.out;
      own = written_item item c.take.new.raw;
      gave = gave;
      bits_are = λ all are.
          c.take.ensures.out first all (subst (λ (ls : List ℤ). AreFrom first ls all) (sym c.groups.ensures.list) are)
          ∙ ap (λ n. before_item (item_decided all) n follow item raw) starts;
      own_are = λ all are.
          own-written (item_decided all) item raw c.take.new.raw
          (c.take.ensures.own first all (subst (λ (ls : List ℤ). AreFrom first ls all) (sym c.groups.ensures.list) are) ((place-given s.scanner next item raw gave).0 ∙ sym at));
      piece = c.put_item.ensures.octets;
      behind = c.put_item.ensures.kept;
      follows = c.take.ensures.behind;
      left = c.drop_front.ensures
          ∙ ap (λ n. drop n s.levels) (gone ∙ ap (λ (f : Follow). first_held next.place f - first_held s.scanner.place follow) (sym c.take.ensures.behind));
      phase = refl;
    }
