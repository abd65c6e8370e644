-- The data units that the scan finds in the output: those of the recording, and one more for each sync and NID written; so a second application
-- changes nothing. Both are one fact about the output, which is moved from term to term: along the data units of a stretch, and along the items.
use Rattle.std.proofs.Common.{◌≡◌, ℕ, ◌+◌, ◌-◌, ◌<◌, ◌≤◌, Bool, true, false, inl, inr, ◌⊎◌, List, [], ◌∷◌, ◌++◌, length, take, drop, Option, Some, None, refl, sym, ◌∙◌, arith, append_assoc, append-nil, length-append, length-drop}
use Rattle.std.proofs.{lemmas.Bool.{cases_Bool, cases_lt}, lemmas.List.{drop-append-le, drop-drop, drop_at, length-take-le, take-append-drop, take_at}}
use Rattle.std.proofs.Math.Seq.{drop-append-add, drop-append_seam, take-append_seam}
use Rattle.p25_units.specs.{Items.{covered, unit_item_of}, declared.item.Item.{Item}}
use Rattle.p25_stream.specs.Items.{first_item, items_of}
use Rattle.p25_stream.proofs.ItemsLaws.{items_by-more, items_by-nil}
use Rattle.p25_follow.specs.{Chains.{chain_by, with_front}, Expected.{kind_length}, Followed.{follow_of, followed_by, is_rest, unit_name}, FollowedUnits.{IsMerged, fronts_by, units_by, written_units}}
use Rattle.p25_follow.specs.{RecordingLaws.{NeverWorse, SecondChangesNothing}, StretchLaws.{units_among}}
use Rattle.p25_follow.proofs.{AfterUnitLaws.{Sound, agree-after, none-sound, sound-some, some-sound, unit-sound}, AlikeLaws.{Agree, Alike, agree-append, agree-less, rest-begins, unit-alike}}
use Rattle.p25_follow.proofs.{ChainLaws.{along-chain, chain-stop, chain_by-nil, chain_by-step}, FollowingLaws.{Starts, along-items, followed-end, followed-rest, followed-unit}, FoundLaws.{written-found}}
use Rattle.p25_follow.proofs.{FrontBitsLaws.{fronts-end, fronts-rest, fronts-unit}, LengthLaws.{length-followed, length-with_front}}
use Rattle.p25_follow.proofs.{SameUnitsLaws.{Ends, RestPlaces, among-rest, places-of, same_units-in, unit-at}, StepLaws.{step_of-there}}
use Rattle.p25_follow.proofs.WrittenUnitsLaws.{among-nil, among-unit, stretch-follow, units-end, units-rest, units-unit, written-step, written-stop}

-- the output after a data unit: the scan finds these data units in it, and a second time it is unchanged
record IsOut (at : ℕ) (before : Option (ℕ × ℕ)) (out : List Bool) (units : List Item) : Type 0 where
  found : units_among (items_of at out) ≡ units
  again : followed_by true before [] (items_of at out) out ≡ out

-- ---- the output for a stretch, and bits after it

-- bits are none, or a data unit begins with them
abbrev pub Begins : List Bool → Type 0
Begins bits = (bits ≡ []) ⊎ (is_rest (first_item 0 bits) ≡ false)

pub ends-at : (stretch more : List Bool) → Begins more → Ends (length stretch) (stretch ++ more)
ends-at stretch more (inl none) = inl (rw (none, append-nil))
ends-at stretch more (inr unit) = inr (rw drop-append_seam unit)

pub rests-later : (count : ℕ) (stretch more : List Bool) → count ≤ length stretch → RestPlaces (length stretch) (stretch ++ more)
    → RestPlaces (length (drop count stretch)) (drop count stretch ++ more)
rests-later count stretch more fits rests place before =
    rw (← drop-append-le count stretch more fits, drop-drop) (rests (count + place) (omega (arith, before, length-drop count stretch)))

-- sync and NID that are written, and the output after them
out-step : (at : ℕ) (before : ℕ × ℕ) (kind : ℕ) (raw next : List Bool) (units : List Item) → before.0 < 4096 → 144 ≤ kind_length kind → kind < 16 → length raw ≡ kind_length kind
    → IsOut (at + kind_length kind) (Some (before.0, kind)) next units
    → IsOut at (Some before) (with_front (before.0, kind) raw ++ next) (unit_item_of at (with_front (before.0, kind) raw) ∷ units)
out-step at before kind raw next units nac_fits few kind_fits raw_long later =
    let count = kind_length kind in
    let unit = with_front (before.0, kind) raw in
    let unit_long : length unit ≡ count = length-with_front (before.0, kind) raw (omega (arith, raw_long, few)) ∙ raw_long in
    let all = unit ++ next in
    let item = first_item at all in
    let found = written-found at before.0 kind raw next nac_fits few kind_fits raw_long in
    let rest : drop count all ≡ next = drop_at unit next count unit_long in
    let items : items_of at all ≡ item ∷ items_of (at + count) next
    = rw (items_by-more true at all (omega (arith, length-append unit next, unit_long, few)) refl, found.covers, rest) in
    record {
      found = rw (items, among-unit item (items_of (at + count) next) found.is_unit, later.found, found.item_is);
      again = rw (items, followed-unit true (Some before) [] item (items_of (at + count) next) all found.is_unit, chain_by-nil, found.covers, found.name_is, rest, later.again, take_at unit next count unit_long);
    }

-- bits after a stretch in which no data unit begins are output unchanged again, if the stretch is
module _ (place : ℕ) (more : List Bool) (end : Option (ℕ × ℕ)) (begins : Begins more)
    (again : (before : Option (ℕ × ℕ)) (stretch : List Bool) → chain_by true before stretch end ≡ stretch → followed_by true before stretch (items_of place more) more ≡ stretch ++ more) where
  chain-out : (at : ℕ) (before : Option (ℕ × ℕ)) (stretch : List Bool) → at + length stretch ≡ place → Sound before → RestPlaces (length stretch) (stretch ++ more)
      → IsOut at before (chain_by true before stretch end ++ more) (written_units at before stretch end ++ units_among (items_of place more))
  chain-out =
      along-chain end
      (λ at before stretch. at + length stretch ≡ place → Sound before → RestPlaces (length stretch) (stretch ++ more)
      → IsOut at before (chain_by true before stretch end ++ more) (written_units at before stretch end ++ units_among (items_of place more)))
      (λ at before stretch stops is_place sound rests.
      let stays = chain-stop before stretch end stops in
      let ends = ends-at stretch more begins in
      let fits : length stretch ≤ length (stretch ++ more) = omega (arith, length-append stretch more) in
      rw (stays, written-stop at before stretch end stops) (record {
        found = rw (same_units-in at (length stretch) (stretch ++ more) fits rests ends, drop-append_seam, is_place);
        again = rw (stretch-follow at (length stretch) before [] (stretch ++ more) fits rests ends, take-append_seam, drop-append_seam, is_place) (again before stretch stays);
      }))
      (λ at before stretch kind is later is_place sound rests.
      let there = step_of-there before stretch end kind is in
      let count = kind_length kind in
      let nac_fits = sound-some before sound in
      rw (chain_by-step true before stretch end kind refl is, append_assoc, written-step at before stretch end kind is)
      (out-step at before kind (take count stretch) _ _ nac_fits there.few (omega (arith, there.fits)) (length-take-le count stretch there.there)
      (later (omega (arith, length-drop count stretch, there.there)) (some-sound (before.0, kind) nac_fits) (rests-later count stretch more there.there rests))))

-- ---- the output for a stretch that has begun and for the items after it

pub rests-more : (place : ℕ) (stretch bits : List Bool) (item : Item) (items : List Item) → Starts place bits item items → RestPlaces (length stretch) (stretch ++ bits) → is_rest item ≡ true
    → RestPlaces (length (stretch ++ take (covered item) bits)) ((stretch ++ take (covered item) bits) ++ drop (covered item) bits)
rests-more place stretch bits item items starts rests rest p before =
    rw (append_assoc, take-append-drop)
    (elim (cases_lt p (length stretch)) [
      | inl first ↦ rests p first
      | inr behind ↦
          let q = p - length stretch in
          let split : p ≡ length stretch + q = omega (arith, behind) in
          let within : q < covered item = omega (arith, before, behind, length-append stretch (take (covered item) bits), length-take-le (covered item) bits starts.there) in
          rw (split, drop-append-add) (places-of place bits (rw starts.first rest) q (rw starts.first within))
    ])

-- bits after a stretch that begin with the same data unit as others, if no data unit begins at a position of the stretch
pub record IsTail (place : ℕ) (stretch bits : List Bool) (item : Item) (next : List Bool) : Type 0 where
  pub own : take (covered item) (take (covered item) bits ++ next) ≡ take (covered item) bits
  pub behind : drop (covered item) (take (covered item) bits ++ next) ≡ next
  pub items_are : items_of place (take (covered item) bits ++ next) ≡ item ∷ items_of (place + covered item) next
  pub begins : Begins (take (covered item) bits ++ next)
  pub rests : RestPlaces (length stretch) (stretch ++ (take (covered item) bits ++ next))

pub unit-tail : (place : ℕ) (stretch bits : List Bool) (item : Item) (items : List Item) → Starts place bits item items → RestPlaces (length stretch) (stretch ++ bits) → is_rest item ≡ false
    → IsTail place stretch bits item (followed_by true (unit_name item) [] items (drop (covered item) bits))
unit-tail place stretch bits item items starts rests unit =
    let count = covered item in
    let raw = take count bits in
    let left = drop count bits in
    let next = followed_by true (unit_name item) [] items left in
    let more = raw ++ next in
    let raw_long : length raw ≡ count = length-take-le count bits starts.there in
    let next_long : length next ≡ length left = rw starts.behind at (length-followed (place + count) (unit_name item) [] left) ∙ omega arith in
    let long : length bits ≡ length more = omega (arith, length-append raw next, raw_long, next_long, length-drop count bits, starts.there) in
    let agrees : Agree 316 bits more = rw (starts.first, starts.behind) at (agree-after place bits (omega (arith, starts.some, starts.there)) (rw starts.first unit)) in
    let alike : Alike bits more = record { long = long; same = agrees } in
    let own : take count more ≡ raw = take_at raw next count raw_long in
    let behind : drop count more ≡ next = drop_at raw next count raw_long in
    let same : first_item place more ≡ item = unit-alike place bits more alike (rw starts.first unit) (rw starts.first (sym own)) ∙ starts.first in
    record {
      own = own;
      behind = behind;
      items_are = rw (items_by-more true place more (omega (arith, long, starts.some, starts.there)) refl, same, behind);
      begins = inr (unit-at place more (rw same unit));
      rests = λ p first.
          let here : (xs : List Bool) → drop p (stretch ++ xs) ≡ drop p stretch ++ xs = λ xs. drop-append-le p stretch xs (omega (arith, first)) in
          let like : Alike (drop p stretch ++ bits) (drop p stretch ++ more)
          = record {
            long = omega (arith, length-append (drop p stretch) bits, length-append (drop p stretch) more, long);
            same = agree-less 316 (length (drop p stretch) + 316) (drop p stretch ++ bits) (drop p stretch ++ more) (omega arith) (agree-append 316 (drop p stretch) bits more agrees);
          } in
          rw (here more, ← rest-begins 0 (drop p stretch ++ bits) (drop p stretch ++ more) like, ← here bits) (rests p first);
    }

out-of : (at place : ℕ) (before : Option (ℕ × ℕ)) (stretch bits : List Bool) → at + length stretch ≡ place → Sound before → RestPlaces (length stretch) (stretch ++ bits)
    → IsOut at before (followed_by true before stretch (items_of place bits) bits) (units_by at before stretch (items_of place bits) bits)
out-of at place before stretch bits =
    along-items
    (λ place before stretch items bits. (at : ℕ) → at + length stretch ≡ place → Sound before → RestPlaces (length stretch) (stretch ++ bits)
    → IsOut at before (followed_by true before stretch items bits) (units_by at before stretch items bits))
    (λ place before stretch at is_place sound rests.
    rw (followed-end, units-end) (rw (items_by-nil, among-nil, append-nil, append-nil) at (chain-out place [] None (inl refl) (λ name left stays. rw (items_by-nil, followed-end, stays, append-nil)) at before stretch
    is_place sound rests)))
    (λ place before stretch item items bits starts rest later at is_place sound rests.
    rw (followed-rest true before stretch item items bits rest, units-rest at before stretch item items bits rest)
    (later at (omega (arith, is_place, length-append stretch (take (covered item) bits), length-take-le (covered item) bits starts.there)) sound (rests-more place stretch bits item items starts rests rest)))
    (λ place before stretch item items bits starts unit later at is_place sound rests.
    let tail = unit-tail place stretch bits item items starts rests unit in
    let next = followed_by true (unit_name item) [] items (drop (covered item) bits) in
    let more = take (covered item) bits ++ next in
    let items_next = items_of (place + covered item) next in
    let behind = later (place + covered item) (omega arith) (rw starts.first at (unit-sound place bits)) (λ p none. absurd (omega (arith, none))) in
    let whole = chain-out place more (unit_name item) tail.begins
    (λ name left stays. rw (tail.items_are, followed-unit true name left item items_next more unit, stays, tail.behind, behind.again, tail.own)) at before stretch is_place sound tail.rests in
    rw (followed-unit true before stretch item items bits unit, units-unit at before stretch item items bits unit, is_place)
    (rw (tail.items_are, among-unit item items_next unit, behind.found) at whole))
    place before stretch bits at

out-all : (bits : List Bool) → IsOut 0 None (followed_by true None [] (items_of 0 bits) bits) (units_by 0 None [] (items_of 0 bits) bits)
out-all bits = out-of 0 0 None [] bits (omega arith) none-sound (λ p none. absurd (omega (arith, none)))

-- ---- they are those of the recording, and those whose sync and NID are written

merged-none : (items : List Item) → IsMerged [] items items
unfolding IsMerged
merged-none [] = (refl, refl)
merged-none (item ∷ items) = inr (items, refl, merged-none items)

merged-first : (first old more all : List Item) → IsMerged old more all → IsMerged old (first ++ more) (first ++ all)
unfolding IsMerged
merged-first [] old more all merged = merged
merged-first (item ∷ first) old more all merged = inr (first ++ more, refl, merged-first first old more all merged)

merged-more : (item : Item) (old more all : List Item) → IsMerged old more all → IsMerged (item ∷ old) more (item ∷ all)
unfolding IsMerged
merged-more item old more all merged = inl (old, refl, merged)

units-merged : (at : ℕ) (before : Option (ℕ × ℕ)) (stretch : List Bool) (items : List Item) (bits : List Bool)
    → IsMerged (units_among items) (fronts_by at before stretch items bits) (units_by at before stretch items bits)
units-merged at before stretch [] bits = rw (among-nil, fronts-end, units-end) (merged-none (written_units at before stretch None))
units-merged at before stretch (item ∷ items) bits =
    let left = drop (covered item) bits in
    elim (cases_Bool (is_rest item)) [
      | inl rest ↦
          rw (among-rest item items rest, fronts-rest at before stretch item items bits rest, units-rest at before stretch item items bits rest)
          (units-merged at before (stretch ++ take (covered item) bits) items left)
      | inr unit ↦
          let place = at + length stretch + covered item in
          let fronts = fronts_by place (unit_name item) [] items left in
          let units = units_by place (unit_name item) [] items left in
          rw (among-unit item items unit, fronts-unit at before stretch item items bits unit, units-unit at before stretch item items bits unit)
          (merged-first (written_units at before stretch (unit_name item)) (item ∷ units_among items) fronts (item ∷ units)
          (merged-more item (units_among items) fronts units (units-merged place (unit_name item) [] items left)))
    ]

pub never-worse : NeverWorse
unfolding follow_of
never-worse bits = ((out-all bits).found, units-merged 0 None [] (items_of 0 bits) bits)

pub second-nothing : SecondChangesNothing
unfolding follow_of
second-nothing bits = (out-all bits).again
