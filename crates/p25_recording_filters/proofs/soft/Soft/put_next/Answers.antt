use Rattle.std.proofs.Common.{◌≡◌, ◌++◌, ◌+◌, ◌-◌, ◌%◌, [], List, Bool, Option, Some, drop, ap, ap₂, ◌∙◌, subst, sym, arith, ℕ, ℤ}
use Rattle.std.specs.Prelude.{MatchOption}
use Rattle.p25_units.specs.{declared.item.Item.{Item}, Items.{covered, place_of}, Units.{whole_octets}}
use Rattle.p25_stream.specs.Scan.{Scan, Gave, given}
use Rattle.p25_recording_filters.specs.{Commands.{unfilled}, SoftLevels.{item_softened}, Softs.{IsHolding, PutSoftItem, SoftParts, first_level}}
use Rattle.p25_recording_filters.proofs.{SoftLevelsLaws.{length-grouped}, HoldingLaws.{length-held, place-given}, SoftItemLaws.{gone-given, heard-given, holding-next}}
use Rattle.p25_recording_filters.proofs.SoftRecordingsLaws.{PutSoftItem-from, step-size}
use Rattle.p25_recording_filters.proofs.soft.Soft.put_next.Goals as goal

abbrev parts : Scan → List ℤ → List Bool → SoftParts
parts scan levels kept = record { scan = scan; levels = levels; kept = kept }

-- the item that a scanner returned
gave-some : (scan next : Scan) (before raw : List Bool) (result : Option Item) (item : Item)
    → MatchOption result ((given scan ≡ []) × (next ≡ scan) × (raw ≡ before)) (λ item. Gave scan item raw next) → result ≡ Some item → Gave scan item raw next
gave-some scan next before raw result item gave is =
    subst (λ (o : Option Item). MatchOption o ((given scan ≡ []) × (next ≡ scan) × (raw ≡ before)) (λ item. Gave scan item raw next)) is gave

pub soften_item-requires : goal.soften_item-requires
soften_item-requires c =
    let s = c.self.inside in
    let gave = gave-some s.scanner c.next.new.self s.raw c.next.new.raw c.next.result c.in-Some.item c.next.ensures.given c.in-Some.is in
    λ even. heard-given s.scanner c.next.new.self s.levels c.in-Some.item c.next.new.raw c.self.invariant.0 gave even

pub overflow_add-behind : goal.overflow_add-behind
overflow_add-behind c =
    let s = c.self.inside in
    let gave = gave-some s.scanner c.next.new.self s.raw c.next.new.raw c.next.result c.in-Some.item c.next.ensures.given c.in-Some.is in
    omega (
      arith,
      (place-given s.scanner c.next.new.self c.in-Some.item c.next.new.raw gave).0,
      gave.there,
      length-held (s.scanner.place % 8) s.scanner s.levels c.self.invariant.0,
      length-grouped s.levels,
      c.self.invariant.2,
      c.place-place.ensures,
      c.covered.ensures.value,
    )

pub drop_front-requires : goal.drop_front-requires
drop_front-requires c =
    let s = c.self.inside in
    let gave = gave-some s.scanner c.next.new.self s.raw c.next.new.raw c.next.result c.in-Some.item c.next.ensures.given c.in-Some.is in
    let gone = gone-given s.scanner c.next.new.self s.levels c.in-Some.item c.next.new.raw c.self.invariant.0 gave in
    omega (arith, gone, ap₂ (λ (place count : ℕ). first_level (place + count) - first_level place) c.place-place.ensures c.covered.ensures.value)

-- the item that was written, by the parts of the recording
put_of : (before now : SoftParts) (old_raw raw : List Bool) (out : List ℕ) (result : Option Item) (item : Item) → IsHolding before.scan before.levels
    → MatchOption result ((given before.scan ≡ []) × (now.scan ≡ before.scan) × (raw ≡ old_raw)) (λ item. Gave before.scan item raw now.scan) → result ≡ Some item
    → out ≡ whole_octets (before.kept ++ item_softened (first_level (place_of item)) before.levels item raw)
    → now.kept ≡ unfilled (before.kept ++ item_softened (first_level (place_of item)) before.levels item raw)
    → now.levels ≡ drop (first_level (place_of item + covered item) - first_level (place_of item)) before.levels
    → PutSoftItem before out now × IsHolding now.scan now.levels
put_of before now old_raw raw out result item holding given_some is piece behind left =
    let gave = gave-some before.scan now.scan old_raw raw result item given_some is in
    let put = PutSoftItem-from before now out item raw holding gave piece behind left in
    (put, subst (λ (ls : List ℤ). IsHolding now.scan ls) (sym put.left) (holding-next before.scan now.scan before.levels item raw holding gave))

put_so : (c : goal.After-drop_front) → PutSoftItem (parts c.self.inside.scanner c.self.inside.levels c.self.inside.kept) c.put_behind.new.out
    (parts c.next.new.self c.drop_front.new.self c.put_behind.new.kept) × IsHolding c.next.new.self c.drop_front.new.self
put_so c =
    let s = c.self.inside in
    put_of (parts s.scanner s.levels s.kept) (parts c.next.new.self c.drop_front.new.self c.put_behind.new.kept) s.raw c.next.new.raw c.put_behind.new.out c.next.result
    c.in-Some.item c.self.invariant.0 c.next.ensures.given c.in-Some.is
    (c.put_behind.ensures.octets ∙ ap (λ (xs : List Bool). whole_octets (s.kept ++ xs)) c.soften_item.ensures.list)
    (c.put_behind.ensures.kept ∙ ap (λ (xs : List Bool). unfilled (s.kept ++ xs)) c.soften_item.ensures.list)
    (c.drop_front.ensures ∙ ap₂ (λ (place count : ℕ). drop (first_level (place + count) - first_level place) s.levels) c.place-place.ensures c.covered.ensures.value)

pub invariant_of-self : goal.invariant_of-self
invariant_of-self c =
    let s = c.self.inside in
    let done = put_so c in
    let size = step-size (parts s.scanner s.levels s.kept) (parts c.next.new.self c.drop_front.new.self c.put_behind.new.kept) c.put_behind.new.out c.self.invariant.0 done.0 in
    (done.1, c.put_behind.ensures.few, omega (arith, size, c.self.invariant.2))

pub returns : goal.returns
returns c =
    subst (λ (r : SoftParts). PutSoftItem r c.put_behind.new.out (parts c.next.new.self c.drop_front.new.self c.put_behind.new.kept)) c.self.view_is (put_so c).0
