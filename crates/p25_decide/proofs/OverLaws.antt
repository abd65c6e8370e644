-- Data units changed one by one: along the items of a scan, if a stretch stays; and along the chains of stretches, whose data units lie in them.
use Rattle.std.proofs.Common.{◌≡◌, ℕ, ◌+◌, ◌-◌, ◌<◌, ◌≤◌, Bool, true, false, List, [], ◌∷◌, ◌++◌, length, take, drop, Option, Some, None, refl, ap, ap₂, sym, subst, ◌∙◌, arith, append_assoc, append-nil, length-append, length-drop}
use Rattle.std.proofs.{Math.Seq.{take-add}, lemmas.List.{take-append-drop, take-append-le, drop-append-le, drop-drop, length-take-le, take_at, drop_at}}
use Rattle.p25_units.specs.{Items.{covered, place_of, unit_item_of}, declared.item.Item.{Item}}
use Rattle.p25_units.proofs.ItemsLaws.{place_of-unit_item_of}
use Rattle.p25_stream.specs.{Items.{items_of}, Written.{written}}
use Rattle.p25_stream.proofs.{ItemsLaws.{place_of-first_item}, WrittenLaws.{written-cons, written-nil}}
use Rattle.p25_follow.specs.{Chains.{chain_by, with_front}, Expected.{kind_length}, Followed.{follow_of, followed_by, is_rest, unit_name}, FollowedUnits.{units_by, written_units}}
use Rattle.p25_follow.specs.StretchLaws.{units_among}
use Rattle.p25_follow.proofs.{ChainLaws.{along-chain}, FollowingLaws.{Starts, along-items, followed-end, followed-rest, followed-unit}, LengthLaws.{length-chain_of}}
use Rattle.p25_follow.proofs.{AfterUnitLaws.{Sound, none-sound, sound-some, some-sound, unit-sound}, FoundLaws.{written-found}}
use Rattle.p25_follow.proofs.{SameUnitsLaws.{among-rest}, StepLaws.{step_of-there}, WrittenUnitsLaws.{among-nil, among-unit, units-end, units-rest, units-unit, written-step, written-stop}}
use Rattle.p25_decide.specs.DecidedStretches.{chain_over, over_units, stretches_over}

-- units start at or after a position
StartFrom : ℕ → List Item → Type 0
StartFrom at [] = Unit {0}
StartFrom at (unit ∷ units) = at ≤ place_of unit

start-less : (at count : ℕ) (units : List Item) → StartFrom (at + count) units → StartFrom at units
unfolding StartFrom
start-less at count [] from = tt
start-less at count (unit ∷ units) from = omega (arith, from)

-- ---- one by one

-- the bits before the first unit stay
over-skip : (change : Item → List Bool → List Bool) (at count : ℕ) (units : List Item) (bits : List Bool) → count ≤ length bits → StartFrom (at + count) units
    → over_units change at units bits ≡ take count bits ++ over_units change (at + count) units (drop count bits)
unfolding over_units StartFrom
over-skip change at count [] bits there from = sym (take-append-drop count bits)
over-skip change at count (unit ∷ units) bits there from =
    let later = place_of unit - (at + count) in
    let split : place_of unit - at ≡ count + later = omega (arith, from) in
    let tail : List Bool → List Bool = λ rest. change unit (take (covered unit) rest) ++ over_units change (place_of unit + covered unit) units (drop (covered unit) rest) in
    ap (λ n. take n bits ++ tail (drop n bits)) split
    ∙ ap₂ (λ (xs ys : List Bool). xs ++ tail ys) (take-add count later bits) (sym (drop-drop later count bits))
    ∙ append_assoc (take count bits) (take later (drop count bits)) (tail (drop later (drop count bits)))

-- a unit with which bits start
pub over-first : (change : Item → List Bool → List Bool) (at : ℕ) (unit : Item) (units : List Item) (bits : List Bool) → place_of unit ≡ at
    → over_units change at (unit ∷ units) bits ≡ change unit (take (covered unit) bits) ++ over_units change (at + covered unit) units (drop (covered unit) bits)
unfolding over_units
over-first change at unit units bits place =
    let none : place_of unit - at ≡ 0 = omega arith in
    ap₂ (λ n p. take n bits ++ (change unit (take (covered unit) (drop n bits)) ++ over_units change (p + covered unit) units (drop (covered unit) (drop n bits)))) none place

-- ---- along the items of a scan

record IsAlong (change : Item → List Bool → List Bool) (at : ℕ) (items : List Item) (bits : List Bool) : Type 0 where
  same : written change items bits ≡ over_units change at (units_among items) bits
  from : StartFrom at (units_among items)

along-none : (change : Item → List Bool → List Bool) (at : ℕ) → IsAlong change at [] []
unfolding over_units StartFrom
along-none change at = record { same = rw (written-nil, among-nil) refl; from = rw among-nil tt }

along-unit : (at : ℕ) (unit : Item) (units : List Item) → place_of unit ≡ at → StartFrom at (unit ∷ units)
unfolding StartFrom
along-unit at unit units place = omega (arith, place)

-- the output for each item, if a stretch stays, is the bits with their data units changed
pub written-over : (change : Item → List Bool → List Bool) → ((item : Item) (sent : List Bool) → is_rest item ≡ true → change item sent ≡ sent) → (at : ℕ) (bits : List Bool)
    → written change (items_of at bits) bits ≡ over_units change at (units_among (items_of at bits)) bits
written-over change stays at bits =
    (along-items (λ at before stretch items bits. IsAlong change at items bits)
    (λ at before stretch. along-none change at)
    (λ at before stretch item items bits starts rest later. record {
      same =
          written-cons change item items bits
          ∙ ap₂ (λ (xs ys : List Bool). xs ++ ys) (stays item (take (covered item) bits) rest) later.same
          ∙ sym (over-skip change at (covered item) (units_among items) bits starts.there later.from)
          ∙ ap (λ (us : List Item). over_units change at us bits) (sym (among-rest item items rest));
      from = subst (λ (us : List Item). StartFrom at us) (sym (among-rest item items rest)) (start-less at (covered item) (units_among items) later.from);
    })
    (λ at before stretch item items bits starts unit later.
    let place : place_of item ≡ at = ap place_of (sym starts.first) ∙ place_of-first_item at bits in
    record {
      same =
          written-cons change item items bits
          ∙ ap (λ (xs : List Bool). change item (take (covered item) bits) ++ xs) later.same
          ∙ sym (over-first change at item (units_among items) bits place)
          ∙ ap (λ (us : List Item). over_units change at us bits) (sym (among-unit item items unit));
      from = subst (λ (us : List Item). StartFrom at us) (sym (among-unit item items unit)) (along-unit at item (units_among items) place);
    })
    at None [] bits).same

-- ---- along chains

-- units lie one after the other from a position on, and end before another
IsWithin : ℕ → ℕ → List Item → Type 0
IsWithin at end [] = at ≤ end
IsWithin at end (unit ∷ units) = (at ≤ place_of unit) × IsWithin (place_of unit + covered unit) end units

within-le : (at end : ℕ) (units : List Item) → IsWithin at end units → at ≤ end
unfolding IsWithin
within-le at end [] within = within
within-le at end (unit ∷ units) within = omega (arith, within.0, within-le (place_of unit + covered unit) end units within.1)

start-append : (at end : ℕ) (units later : List Item) → IsWithin at end units → StartFrom end later → StartFrom at (units ++ later)
unfolding IsWithin StartFrom
start-append at end [] [] within from = tt
start-append at end [] (unit ∷ later) within from = omega (arith, within, from)
start-append at end (unit ∷ units) later within from = within.0

-- units of bits, and then those of bits after them
over-append : (change : Item → List Bool → List Bool) (at : ℕ) (units later : List Item) (ys ws : List Bool) → IsWithin at (at + length ys) units → StartFrom (at + length ys) later
    → over_units change at (units ++ later) (ys ++ ws) ≡ over_units change at units ys ++ over_units change (at + length ys) later ws
unfolding over_units IsWithin
over-append change at [] later ys ws within from =
    over-skip change at (length ys) later (ys ++ ws) (omega (arith, length-append ys ws)) from
    ∙ ap₂ (λ (xs zs : List Bool). xs ++ over_units change (at + length ys) later zs) (take_at ys ws (length ys) refl) (drop_at ys ws (length ys) refl)
over-append change at (unit ∷ units) later ys ws within from =
    let n = place_of unit - at in
    let c = covered unit in
    let rest = drop n ys in
    let left = drop c rest in
    let next = place_of unit + c in
    let fits : next ≤ at + length ys = within-le next (at + length ys) units within.1 in
    let inside : n ≤ length ys = omega (arith, fits) in
    let rest_long : length rest ≡ length ys - n = length-drop n ys in
    let whole : c ≤ length rest = omega (arith, rest_long, fits, within.0) in
    let same : next + length left ≡ at + length ys = omega (arith, length-drop c rest, rest_long, fits, within.0) in
    let inner : IsWithin next (next + length left) units = subst (λ e. IsWithin next e units) (sym same) within.1 in
    let after : StartFrom (next + length left) later = subst (λ e. StartFrom e later) (sym same) from in
    let own = change unit (take c rest) in
    let mine = over_units change next units left in
    let theirs = over_units change (at + length ys) later ws in
    ap₂ (λ (xs zs : List Bool). xs ++ (change unit (take c zs) ++ over_units change next (units ++ later) (drop c zs))) (take-append-le n ys ws inside) (drop-append-le n ys ws inside)
    ∙ ap₂ (λ (us vs : List Bool). take n ys ++ (change unit us ++ over_units change next (units ++ later) vs)) (take-append-le c rest ws whole) (drop-append-le c rest ws whole)
    ∙ ap (λ (zs : List Bool). take n ys ++ (own ++ zs)) (over-append change next units later left ws inner after ∙ ap (λ e. mine ++ over_units change e later ws) same)
    ∙ ap (λ (zs : List Bool). take n ys ++ zs) (sym (append_assoc own mine theirs))
    ∙ sym (append_assoc (take n ys) (own ++ mine) theirs)

-- a unit whose sync and NID are restored covers its own bits
pub covers-written : (at nac kind : ℕ) (bits : List Bool) → nac < 4096 → 144 ≤ kind_length kind → kind < 16 → length bits ≡ kind_length kind
    → covered (unit_item_of at (with_front (nac, kind) bits)) ≡ kind_length kind
covers-written at nac kind bits nac_fits few kind_fits long =
    let found = written-found at nac kind bits [] nac_fits few kind_fits long in
    ap covered (sym found.item_is) ∙ found.covers

-- the units of a chain lie in its bits
units-within : (end : Option (ℕ × ℕ)) (at : ℕ) (before : Option (ℕ × ℕ)) (bits : List Bool) → Sound before → IsWithin at (at + length bits) (written_units at before bits end)
unfolding IsWithin
units-within end =
    along-chain end (λ at before bits. Sound before → IsWithin at (at + length bits) (written_units at before bits end))
    (λ at before bits is sound. rw (written-stop at before bits end is) (omega arith))
    (λ at before bits kind is later sound.
    let there = step_of-there before bits end kind is in
    let count = kind_length kind in
    let left = drop count bits in
    let sent = with_front (before.0, kind) (take count bits) in
    let nac_fits = sound-some before sound in
    let units = written_units (at + count) (Some (before.0, kind)) left end in
    let place : place_of (unit_item_of at sent) ≡ at = place_of-unit_item_of at sent in
    let covers : covered (unit_item_of at sent) ≡ count = covers-written at before.0 kind (take count bits) nac_fits there.few (omega (arith, there.fits)) (length-take-le count bits there.there) in
    let next : place_of (unit_item_of at sent) + covered (unit_item_of at sent) ≡ at + count = ap₂ ◌+◌ place covers in
    let same : at + count + length left ≡ at + length bits = omega (arith, length-drop count bits, there.there) in
    let inner : IsWithin (at + count) (at + length bits) units = subst (λ e. IsWithin (at + count) e units) same (later (some-sound (before.0, kind) nac_fits)) in
    rw (written-step at before bits end kind is) (omega (arith, place), subst (λ p. IsWithin p (at + length bits) units) (sym next) inner))

-- ---- along the stretches of a recording

pub over-end : (change : Item → List Bool → List Bool) (at : ℕ) (before : Option (ℕ × ℕ)) (stretch bits : List Bool) → stretches_over change at before stretch [] bits ≡ chain_over change at before stretch None
unfolding stretches_over
over-end change at before stretch bits = refl

pub over-rest : (change : Item → List Bool → List Bool) (at : ℕ) (before : Option (ℕ × ℕ)) (stretch : List Bool) (item : Item) (items : List Item) (bits : List Bool) → is_rest item ≡ true
    → stretches_over change at before stretch (item ∷ items) bits ≡ stretches_over change at before (stretch ++ take (covered item) bits) items (drop (covered item) bits)
unfolding stretches_over
over-rest change at before stretch item items bits rest = rw rest

pub over-unit : (change : Item → List Bool → List Bool) (at : ℕ) (before : Option (ℕ × ℕ)) (stretch : List Bool) (item : Item) (items : List Item) (bits : List Bool) → is_rest item ≡ false
    → stretches_over change at before stretch (item ∷ items) bits
    ≡ chain_over change at before stretch (unit_name item)
    ++ (change item (take (covered item) bits) ++ stretches_over change (at + length stretch + covered item) (unit_name item) [] items (drop (covered item) bits))
unfolding stretches_over
over-unit change at before stretch item items bits unit = rw unit

record IsOver (change : Item → List Bool → List Bool) (at : ℕ) (before : Option (ℕ × ℕ)) (stretch : List Bool) (items : List Item) (bits : List Bool) : Type 0 where
  same : over_units change at (units_by at before stretch items bits) (followed_by true before stretch items bits) ≡ stretches_over change at before stretch items bits
  from : StartFrom at (units_by at before stretch items bits)

start-none : (at : ℕ) → StartFrom at []
unfolding StartFrom
start-none at = tt

-- the stretch at the end
over-last : (change : Item → List Bool → List Bool) (at : ℕ) (before : Option (ℕ × ℕ)) (stretch : List Bool) → Sound before → IsOver change at before stretch [] []
unfolding chain_over
over-last change at before stretch sound =
    let units = written_units at before stretch None in
    let from : StartFrom at units = subst (λ (us : List Item). StartFrom at us) (append-nil units) (start-append at (at + length stretch) units [] (units-within None at before stretch sound) (start-none (at + length stretch))) in
    record {
      same = rw (units-end, followed-end, over-end) refl;
      from = subst (λ (us : List Item). StartFrom at us) (sym (units-end at before stretch [])) from;
    }

-- a stretch before a unit
over-next : (change : Item → List Bool → List Bool) (place : ℕ) (before : Option (ℕ × ℕ)) (stretch : List Bool) (item : Item) (items : List Item) (bits : List Bool) → Starts place bits item items
    → is_rest item ≡ false → IsOver change (place + covered item) (unit_name item) [] items (drop (covered item) bits) → (at : ℕ) → at + length stretch ≡ place → Sound before
    → IsOver change at before stretch (item ∷ items) bits
unfolding chain_over
over-next change place before stretch item items bits starts unit later at is_place sound =
    let c = covered item in
    let name = unit_name item in
    let raw = take c bits in
    let left = drop c bits in
    let next = followed_by true name [] items left in
    let chain = chain_by true before stretch name in
    let units = written_units at before stretch name in
    let after = units_by (at + length stretch + c) name [] items left in
    let at_item : place_of item ≡ at + length chain = ap place_of (sym starts.first) ∙ place_of-first_item place bits ∙ sym is_place ∙ ap (λ n. at + n) (sym (length-chain_of before stretch name)) in
    let long : length raw ≡ c = length-take-le c bits starts.there in
    let within : IsWithin at (at + length chain) units = subst (λ n. IsWithin at (at + n) units) (sym (length-chain_of before stretch name)) (units-within name at before stretch sound) in
    let first : StartFrom (at + length chain) (item ∷ after) = along-unit (at + length chain) item after at_item in
    let end : at + length chain + c ≡ place + c = omega (arith, length-chain_of before stretch name, is_place) in
    let same_place : at + length stretch + c ≡ place + c = omega (arith, is_place) in
    let behind : over_units change (at + length chain + c) after next ≡ stretches_over change (at + length stretch + c) name [] items left
    = ap₂ (λ p q. over_units change p (units_by q name [] items left) next) end same_place ∙ later.same ∙ ap (λ q. stretches_over change q name [] items left) (sym same_place) in
    record {
      same =
          ap₂ (λ (us : List Item) (xs : List Bool). over_units change at us xs) (units-unit at before stretch item items bits unit) (followed-unit true before stretch item items bits unit)
          ∙ over-append change at units (item ∷ after) chain (raw ++ next) within first
          ∙ ap (λ (xs : List Bool). over_units change at units chain ++ xs)
          (
          over-first change (at + length chain) item after (raw ++ next) at_item
          ∙ ap₂ (λ (xs ys : List Bool). change item xs ++ over_units change (at + length chain + c) after ys) (take_at raw next c long) (drop_at raw next c long)
          ∙ ap (λ (xs : List Bool). change item raw ++ xs) behind
          )
          ∙ sym (over-unit change at before stretch item items bits unit);
      from = subst (λ (us : List Item). StartFrom at us) (sym (units-unit at before stretch item items bits unit)) (start-append at (at + length chain) units (item ∷ after) within first);
    }

over-all : (change : Item → List Bool → List Bool) (place : ℕ) (before : Option (ℕ × ℕ)) (stretch bits : List Bool) (at : ℕ) → at + length stretch ≡ place → Sound before
    → IsOver change at before stretch (items_of place bits) bits
over-all change =
    along-items (λ place before stretch items bits. (at : ℕ) → at + length stretch ≡ place → Sound before → IsOver change at before stretch items bits)
    (λ place before stretch at is_place sound. over-last change at before stretch sound)
    (λ place before stretch item items bits starts rest later at is_place sound.
    let more = later at (omega (arith, is_place, length-append stretch (take (covered item) bits), length-take-le (covered item) bits starts.there)) sound in
    record {
      same = rw (followed-rest true before stretch item items bits rest, units-rest at before stretch item items bits rest, over-rest change at before stretch item items bits rest) more.same;
      from = rw (units-rest at before stretch item items bits rest) more.from;
    })
    (λ place before stretch item items bits starts unit later at is_place sound.
    over-next change place before stretch item items bits starts unit
    (later (place + covered item) (omega arith) (subst (λ i. Sound (unit_name i)) starts.first (unit-sound place bits))) at is_place sound)

-- the bits of a follower, each data unit changed, are the stretches of the received bits, changed
pub followed-over : (change : Item → List Bool → List Bool) (bits : List Bool)
    → over_units change 0 (units_by 0 None [] (items_of 0 bits) bits) (follow_of bits) ≡ stretches_over change 0 None [] (items_of 0 bits) bits
unfolding follow_of
followed-over change bits = (over-all change 0 None [] bits 0 (omega arith) none-sound).same
