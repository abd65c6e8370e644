-- The data units whose sync and NID are written, one step at a time, and the bits before and after a stretch in which no data unit begins. By
-- induction on the bits, which each step makes fewer.
use Rattle.std.proofs.Common.{◌≡◌, ℕ, zero, suc, ◌+◌, ◌≤◌, Bool, true, false, List, [], ◌∷◌, ◌++◌, length, take, drop, Option, Some, None, refl, arith, length-drop}
use Rattle.p25_units.specs.{Items.{covered, unit_item_of}, declared.item.Item.{Item}}
use Rattle.p25_stream.specs.Items.{items_of}
use Rattle.p25_follow.specs.{Chains.{with_front}, Expected.{kind_length}, Followed.{followed_by, is_rest, unit_name}, FollowedUnits.{units_by, units_step, written_units, written_units_in}}
use Rattle.p25_follow.specs.{Steps.{step_of}, StretchLaws.{units_among}}
use Rattle.p25_follow.proofs.{ChainLaws.{step_after}, FollowingLaws.{followed-rest}, SameUnitsLaws.{Ends, RestPlaces, along-stretch}, StepLaws.{step_of-nil, step_of-there}}

-- ---- the data units whose sync and NID are written

abbrev Units : Type 0
Units = ℕ → ℕ × ℕ → List Bool → List Item

units_step-same : (f g : Units) (at : ℕ) (before : ℕ × ℕ) (bits : List Bool) (kind : Option ℕ)
    → ((k : ℕ) → kind ≡ Some k → f (at + kind_length k) (before.0, k) (drop (kind_length k) bits) ≡ g (at + kind_length k) (before.0, k) (drop (kind_length k) bits))
    → units_step f at before bits kind ≡ units_step g at before bits kind
unfolding units_step
units_step-same f g at before bits None same = refl
units_step-same f g at before bits (Some kind) same = rw (same kind refl)

abbrev units_in : ℕ → Option (ℕ × ℕ) → Units
units_in turns end = λ place name left. written_units_in turns place (Some name) left end

step-nil : (f : Units) (at : ℕ) (before : ℕ × ℕ) (end : Option (ℕ × ℕ)) → units_step f at before [] (step_of before [] end) ≡ []
unfolding units_step
step-nil f at before end = rw step_of-nil

units_in-nil : (turns at : ℕ) (before : ℕ × ℕ) (end : Option (ℕ × ℕ)) → written_units_in turns at (Some before) [] end ≡ []
unfolding written_units_in
units_in-nil zero at before end = refl
units_in-nil (suc turns) at before end = step-nil (units_in turns end) at before end

units_in-enough : (more turns at : ℕ) (before : ℕ × ℕ) (bits : List Bool) (end : Option (ℕ × ℕ)) → length bits ≤ more → length bits ≤ turns
    → written_units_in more at (Some before) bits end ≡ written_units_in turns at (Some before) bits end
unfolding written_units_in
units_in-enough more turns at before [] end a b = rw (units_in-nil more, units_in-nil turns)
units_in-enough zero turns at before (bit ∷ bits) end a b = absurd (omega arith)
units_in-enough (suc more) zero at before (bit ∷ bits) end a b = absurd (omega arith)
units_in-enough (suc more) (suc turns) at before (bit ∷ bits) end a b =
    let all = bit ∷ bits in
    units_step-same (units_in more end) (units_in turns end) at before all (step_of before all end)
    (λ kind is. let there = step_of-there before all end kind is in
    let less : length (drop (kind_length kind) all) ≤ length bits = omega (arith, length-drop (kind_length kind) all, there.few, there.there) in
    units_in-enough more turns (at + kind_length kind) (before.0, kind) (drop (kind_length kind) all) end (omega arith) (omega arith))

written-none : (at : ℕ) (bits : List Bool) (end : Option (ℕ × ℕ)) → written_units at None bits end ≡ []
unfolding written_units written_units_in
written-none at [] end = refl
written-none at (bit ∷ bits) end = refl

written-some : (at : ℕ) (before : ℕ × ℕ) (bits : List Bool) (end : Option (ℕ × ℕ))
    → written_units at (Some before) bits end ≡ units_step (λ place name left. written_units place (Some name) left end) at before bits (step_of before bits end)
unfolding written_units written_units_in
written-some at before [] end = rw (units_in-nil, step-nil)
written-some at before (bit ∷ bits) end =
    let all = bit ∷ bits in
    units_step-same (units_in (length bits) end) (λ place name left. written_units_in (length left) place (Some name) left end) at before all (step_of before all end)
    (λ kind is. let there = step_of-there before all end kind is in
    let left = drop (kind_length kind) all in
    units_in-enough (length bits) (length left) (at + kind_length kind) (before.0, kind) left end
    (omega (arith, length-drop (kind_length kind) all, there.few, there.there)) (omega arith))

pub written-stop : (at : ℕ) (before : Option (ℕ × ℕ)) (bits : List Bool) (end : Option (ℕ × ℕ)) → step_after before bits end ≡ None → written_units at before bits end ≡ []
unfolding units_step step_after
written-stop at None bits end is = written-none at bits end
written-stop at (Some before) bits end is = rw (written-some, is)

pub written-step : (at : ℕ) (before : ℕ × ℕ) (bits : List Bool) (end : Option (ℕ × ℕ)) (kind : ℕ) → step_of before bits end ≡ Some kind
    → written_units at (Some before) bits end
    ≡ unit_item_of at (with_front (before.0, kind) (take (kind_length kind) bits)) ∷ written_units (at + kind_length kind) (Some (before.0, kind)) (drop (kind_length kind) bits) end
unfolding units_step
written-step at before bits end kind is = rw (written-some, is)

-- ---- the data units of a stretch and of the items after it

pub units-end : (at : ℕ) (before : Option (ℕ × ℕ)) (stretch bits : List Bool) → units_by at before stretch [] bits ≡ written_units at before stretch None
unfolding units_by
units-end at before stretch bits = refl

pub units-rest : (at : ℕ) (before : Option (ℕ × ℕ)) (stretch : List Bool) (item : Item) (items : List Item) (bits : List Bool) → is_rest item ≡ true
    → units_by at before stretch (item ∷ items) bits ≡ units_by at before (stretch ++ take (covered item) bits) items (drop (covered item) bits)
unfolding units_by
units-rest at before stretch item items bits rest = rw rest

pub units-unit : (at : ℕ) (before : Option (ℕ × ℕ)) (stretch : List Bool) (item : Item) (items : List Item) (bits : List Bool) → is_rest item ≡ false
    → units_by at before stretch (item ∷ items) bits
    ≡ written_units at before stretch (unit_name item) ++ (item ∷ units_by (at + length stretch + covered item) (unit_name item) [] items (drop (covered item) bits))
unfolding units_by
units-unit at before stretch item items bits unit = rw unit

pub among-unit : (item : Item) (items : List Item) → is_rest item ≡ false → units_among (item ∷ items) ≡ item ∷ units_among items
unfolding units_among
among-unit item items unit = rw unit

pub among-nil : units_among [] ≡ []
unfolding units_among
among-nil = refl

-- ---- bits in which no data unit begins are a stretch

pub stretch-follow : (at count : ℕ) (before : Option (ℕ × ℕ)) (stretch bits : List Bool) → count ≤ length bits → RestPlaces count bits → Ends count bits
    → followed_by true before stretch (items_of at bits) bits ≡ followed_by true before (stretch ++ take count bits) (items_of (at + count) (drop count bits)) (drop count bits)
stretch-follow at count before stretch bits there rests ends =
    let last = followed_by true before (stretch ++ take count bits) (items_of (at + count) (drop count bits)) (drop count bits) in
    along-stretch (λ place taken left. followed_by true before taken (items_of place left) left ≡ last)
    (λ place taken left item is rest same. rw (is, followed-rest true before taken item (items_of (place + covered item) (drop (covered item) left)) left rest) same)
    count at count stretch bits (omega arith) there rests ends refl
