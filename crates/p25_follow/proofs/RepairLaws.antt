-- If a repair leaves the items, it does not change the output: the stretches are the same, and so is the output for them. Along the data units of a
-- chain, and along the items.
use Rattle.std.proofs.Common.{◌≡◌, ℕ, ◌+◌, ◌<◌, Bool, true, false, List, [], ◌∷◌, ◌++◌, length, take, drop, Option, Some, None, refl, ap, ◌∙◌, arith, append_assoc, length-append, length-drop}
use Rattle.std.proofs.{lemmas.List.{drop_at, length-take-le, take_at}, Math.Seq.{drop-append_seam, take-append_seam}}
use Rattle.p25_units.specs.{Items.{covered, unit_item_of}, declared.item.Item.{Item}, declared.item.Item.TheVariants.{Whole}}
use Rattle.p25_stream.specs.{Items.{items_of}, Repeats.{repaired}, Written.{written}}
use Rattle.p25_stream.proofs.{ItemsLaws.{items_by-nil}, WrittenLaws.{repaired-keeps, written-cons, written-nil}}
use Rattle.p25_follow.specs.{Chains.{chain_by, with_front}, Expected.{kind_length}, Followed.{follow_of, followed_by, is_rest, unit_name}, RecordingLaws.{RepairBefore}}
use Rattle.p25_follow.specs.{Repaired.{AreFoundAgain, IsFoundAgain, repair_of, repaired_from}, Steps.{step_of}}
use Rattle.p25_follow.proofs.{AfterUnitLaws.{Sound, none-sound, some-sound, sound-some, unit-sound}, ChainLaws.{along-chain, chain-stop, chain_by-step}}
use Rattle.p25_follow.proofs.{FollowingLaws.{Starts, along-items, followed-rest, followed-unit, starts-of}, FoundLaws.{written-found}, LengthLaws.{length-with_front}}
use Rattle.p25_follow.proofs.{NeverWorseLaws.{Begins, ends-at, rests-later, rests-more, unit-tail}, SameUnitsLaws.{RestPlaces}, StepLaws.{step_of-there}}
use Rattle.p25_follow.proofs.RepairedLaws.{from-first, from-more, rest-plain, stretch-repair}

-- ---- the output for a chain, whatever follows it

record IsAfter (stretch more : List Bool) : Type 0 where
  rests : RestPlaces (length stretch) (stretch ++ more)
  begins : Begins more

stretch-comes : (at place : ℕ) (stretch more : List Bool) → at + length stretch ≡ place → IsAfter stretch more → repaired_from at (stretch ++ more) ≡ stretch ++ repaired_from place more
stretch-comes at place stretch more is_place after =
    rw (stretch-repair at (length stretch) (stretch ++ more) (omega (arith, length-append stretch more)) after.rests (ends-at stretch more after.begins), take-append_seam, drop-append_seam, is_place)

unit-comes : (at : ℕ) (before : ℕ × ℕ) (stretch next : List Bool) (end : Option (ℕ × ℕ)) (kind : ℕ) → before.0 < 4096 → step_of before stretch end ≡ Some kind
    → repaired_from at (with_front (before.0, kind) (take (kind_length kind) stretch) ++ next)
    ≡ repaired (unit_item_of at (with_front (before.0, kind) (take (kind_length kind) stretch))) (with_front (before.0, kind) (take (kind_length kind) stretch)) ++ repaired_from (at + kind_length kind) next
unit-comes at before stretch next end kind nac_fits is =
    let there = step_of-there before stretch end kind is in
    let count = kind_length kind in
    let raw = take count stretch in
    let raw_long : length raw ≡ count = length-take-le count stretch there.there in
    let unit = with_front (before.0, kind) raw in
    let unit_long : length unit ≡ count = length-with_front (before.0, kind) raw (omega (arith, raw_long, there.few)) ∙ raw_long in
    let found = written-found at before.0 kind raw next nac_fits there.few (omega (arith, there.fits)) raw_long in
    rw (from-first at (unit ++ next) (omega (arith, length-append unit next, unit_long, there.few)), found.covers, take_at unit next count unit_long, drop_at unit next count unit_long, found.item_is)

record Both (at place : ℕ) (before : Option (ℕ × ℕ)) (stretch first second : List Bool) (end : Option (ℕ × ℕ)) : Type 0 where
  part : List Bool
  one : repaired_from at (chain_by true before stretch end ++ first) ≡ part ++ repaired_from place first
  other : repaired_from at (chain_by true before stretch end ++ second) ≡ part ++ repaired_from place second

both : (place : ℕ) (first second : List Bool) (end : Option (ℕ × ℕ)) (at : ℕ) (before : Option (ℕ × ℕ)) (stretch : List Bool) → at + length stretch ≡ place → Sound before
    → IsAfter stretch first → IsAfter stretch second → Both at place before stretch first second end
both place first second end =
    along-chain end
    (λ at before stretch. at + length stretch ≡ place → Sound before → IsAfter stretch first → IsAfter stretch second → Both at place before stretch first second end)
    (λ at before stretch stops is_place sound a b.
    let stays = chain-stop before stretch end stops in
    record { part = stretch; one = rw stays (stretch-comes at place stretch first is_place a); other = rw stays (stretch-comes at place stretch second is_place b) })
    (λ at before stretch kind is later is_place sound a b.
    let there = step_of-there before stretch end kind is in
    let count = kind_length kind in
    let nac_fits = sound-some before sound in
    let unit = with_front (before.0, kind) (take count stretch) in
    let steps = chain_by-step true before stretch end kind refl is in
    let behind = λ (more : List Bool) (after : IsAfter stretch more).
    let moved : IsAfter (drop count stretch) more = record { rests = rests-later count stretch more there.there after.rests; begins = after.begins } in moved in
    let rest = later (omega (arith, length-drop count stretch, there.there)) (some-sound (before.0, kind) nac_fits) (behind first a) (behind second b) in
    record {
      part = repaired (unit_item_of at unit) unit ++ rest.part;
      one = rw (steps, append_assoc, unit-comes at before stretch _ end kind nac_fits is, rest.one, ← append_assoc);
      other = rw (steps, append_assoc, unit-comes at before stretch _ end kind nac_fits is, rest.other, ← append_assoc);
    })

-- ---- an item that is found again

record SameItem (item other : Item) (raw : List Bool) : Type 0 where
  rest : is_rest other ≡ is_rest item
  covers : covered other ≡ covered item
  name : unit_name other ≡ unit_name item
  again : repaired other (repaired item raw) ≡ repaired item raw

same-item : (item other : Item) (raw : List Bool) → IsFoundAgain item other → SameItem item other raw
unfolding IsFoundAgain
same-item (Whole place frame fixes) other raw is = rw is.1 (record { rest = refl; covers = refl; name = refl; again = refl })
same-item item other raw is = rw is (record { rest = refl; covers = refl; name = refl; again = refl })

record Again (item : Item) (items found : List Item) : Type 0 where
  other : Item
  others : List Item
  all : found ≡ other ∷ others
  first : IsFoundAgain item other
  later : AreFoundAgain items others

again-first : (item : Item) (items found : List Item) → AreFoundAgain (item ∷ items) found → Again item items found
unfolding AreFoundAgain
again-first item items [] is = absurd is
again-first item items (other ∷ others) is = record { other = other; others = others; all = refl; first = is.0; later = is.1 }

-- ---- both recordings

-- the first items of both, and the items after them
record Twin (place : ℕ) (item : Item) (items : List Item) (bits others : List Bool) : Type 0 where
  other : Item
  rest : List Item
  starts : Starts place others other rest
  parts : SameItem item other (take (covered item) bits)
  own : take (covered item) others ≡ repaired item (take (covered item) bits)
  behind : drop (covered item) others ≡ written repaired items (drop (covered item) bits)
  left : items_of (place + covered item) (drop (covered item) others) ≡ rest
  again : AreFoundAgain items (items_of (place + covered item) (drop (covered item) others))

twin : (place : ℕ) (item : Item) (items : List Item) (bits others : List Bool) → Starts place bits item items → AreFoundAgain (item ∷ items) (items_of place others)
    → others ≡ written repaired (item ∷ items) bits → Twin place item items bits others
twin place item items bits others starts same is =
    let found = again-first item items (items_of place others) same in
    let also = starts-of place others found.other found.others found.all in
    let parts = same-item item found.other (take (covered item) bits) found.first in
    let own = repaired item (take (covered item) bits) in
    let next = written repaired items (drop (covered item) bits) in
    let long : length own ≡ covered item = repaired-keeps place bits item starts.first starts.there in
    let whole : others ≡ own ++ next = is ∙ written-cons repaired item items bits in
    let left : items_of (place + covered item) (drop (covered item) others) ≡ found.others = rw parts.covers at also.behind in
    record {
      other = found.other;
      rest = found.others;
      starts = also;
      parts = parts;
      own = ap (take (covered item)) whole ∙ take_at own next (covered item) long;
      behind = ap (drop (covered item)) whole ∙ drop_at own next (covered item) long;
      left = left;
      again = rw left found.later;
    }

abbrev Same : ℕ → Option (ℕ × ℕ) → List Bool → List Item → List Bool → Type 0
Same place before stretch items bits =
    (at : ℕ) (others : List Bool) → at + length stretch ≡ place → Sound before → RestPlaces (length stretch) (stretch ++ bits) → RestPlaces (length stretch) (stretch ++ others)
    → AreFoundAgain items (items_of place others) → others ≡ written repaired items bits
    → repaired_from at (followed_by true before stretch (items_of place others) others) ≡ repaired_from at (followed_by true before stretch items bits)

same-rest : (place : ℕ) (before : Option (ℕ × ℕ)) (stretch : List Bool) (item : Item) (items : List Item) (bits : List Bool) → Starts place bits item items → is_rest item ≡ true
    → Same (place + covered item) before (stretch ++ take (covered item) bits) items (drop (covered item) bits) → Same place before stretch (item ∷ items) bits
same-rest place before stretch item items bits starts rest later at others is_place sound rests rests_other same is =
    let two = twin place item items bits others starts same is in
    let raw = take (covered item) bits in
    let rest_other : is_rest two.other ≡ true = two.parts.rest ∙ rest in
    let own : take (covered item) others ≡ raw = two.own ∙ rest-plain item raw rest in
    let behind = later at (drop (covered item) others) (omega (arith, is_place, length-append stretch raw, length-take-le (covered item) bits starts.there)) sound
    (rests-more place stretch bits item items starts rests rest) (rw (two.parts.covers, own) at (rests-more place stretch others two.other two.rest two.starts rests_other rest_other)) two.again two.behind in
    rw (two.starts.all, followed-rest true before stretch two.other two.rest others rest_other, two.parts.covers, own, followed-rest true before stretch item items bits rest) (rw two.left at behind)

same-unit : (place : ℕ) (before : Option (ℕ × ℕ)) (stretch : List Bool) (item : Item) (items : List Item) (bits : List Bool) → Starts place bits item items → is_rest item ≡ false
    → Same (place + covered item) (unit_name item) [] items (drop (covered item) bits) → Same place before stretch (item ∷ items) bits
same-unit place before stretch item items bits starts unit later at others is_place sound rests rests_other same is =
    let two = twin place item items bits others starts same is in
    let unit_other : is_rest two.other ≡ false = two.parts.rest ∙ unit in
    let raw = take (covered item) bits in
    let raw_other = take (covered two.other) others in
    let next = followed_by true (unit_name item) [] items (drop (covered item) bits) in
    let next_other = followed_by true (unit_name two.other) [] two.rest (drop (covered two.other) others) in
    let tail = unit-tail place stretch bits item items starts rests unit in
    let tail_other = unit-tail place stretch others two.other two.rest two.starts rests_other unit_other in
    let parts = both place (raw ++ next) (raw_other ++ next_other) (unit_name item) at before stretch is_place sound
    record { rests = tail.rests; begins = tail.begins } record { rests = tail_other.rests; begins = tail_other.begins } in
    let second : followed_by true before stretch (items_of place others) others ≡ chain_by true before stretch (unit_name item) ++ (raw_other ++ next_other)
    = rw (two.starts.all, followed-unit true before stretch two.other two.rest others unit_other, ← two.parts.name) in
    let behind = later (place + covered item) (drop (covered item) others) (omega arith) (rw starts.first at (unit-sound place bits)) (λ p none. absurd (omega (arith, none)))
    (λ p none. absurd (omega (arith, none))) two.again two.behind in
    let moved : repaired_from place (raw_other ++ next_other) ≡ repaired_from place (raw ++ next)
    = rw (
      from-more place (raw ++ next) item raw next tail.items_are tail.own tail.behind,
      from-more place (raw_other ++ next_other) two.other raw_other next_other tail_other.items_are tail_other.own tail_other.behind,
      two.parts.covers,
      two.own,
      two.parts.again,
      two.parts.name,
      rw two.left at behind,
    ) in
    rw (second, parts.other, followed-unit true before stretch item items bits unit, parts.one, moved)

pub repair-before : RepairBefore
unfolding follow_of repaired_from
repair-before bits again =
    along-items Same
    (λ place before stretch at others is_place sound rests rests_other same is. rw (is, written-nil, items_by-nil)) same-rest same-unit
    0 None [] bits 0 (repair_of bits) (omega arith) none-sound (λ p none. absurd (omega (arith, none))) (λ p none. absurd (omega (arith, none))) again refl
