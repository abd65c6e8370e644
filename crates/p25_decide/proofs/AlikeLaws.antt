-- Changes that are alike for all items from a position on change the same stretches and items there to the same bits: by induction on the units, which
-- start there, and on the items.
use Rattle.std.proofs.Common.{◌≡◌, ℕ, zero, suc, ◌+◌, ◌-◌, ◌≤◌, Bool, cond, inl, inr, List, [], ◌∷◌, ◌++◌, length, take, drop, Option, Some, None, refl, ap, ap₂, sym, arith}
use Rattle.std.proofs.lemmas.Bool.{cases_Bool, cases_lt}
use Rattle.p25_units.specs.{Items.{covered, place_of}, declared.item.Item.{Item}}
use Rattle.p25_units.proofs.ItemsLaws.{place_of-unit_item_of}
use Rattle.p25_stream.specs.Items.{items_by}
use Rattle.p25_stream.proofs.ItemsLaws.{items_by-first, place_of-first_item}
use Rattle.p25_follow.specs.{Chains.{chain_of, settled_of, with_front}, Expected.{kind_length}, Followed.{is_rest, unit_name}, FollowedUnits.{written_units}}
use Rattle.p25_follow.specs.{Following.{Follow, behind_item}, Steps.{step_of}}
use Rattle.p25_follow.proofs.{ChainLaws.{along-chain}, WrittenUnitsLaws.{written-step, written-stop}}
use Rattle.p25_decide.specs.{DecidedFollowing.{before_item, changed_by, own_item, settled_over, settled_units_in}, DecidedStretches.{chain_over, over_units}}
use Rattle.p25_decide.proofs.SettledLaws.{length-settled, unit_at, units-next, units-none, units-short, units-stop}

-- all units start at or after a position
AllFrom : ℕ → List Item → Type 0
AllFrom from [] = Unit {0}
AllFrom from (unit ∷ units) = (from ≤ place_of unit) × AllFrom from units

all-less : (from later : ℕ) (units : List Item) → from ≤ later → AllFrom later units → AllFrom from units
unfolding AllFrom
all-less from later [] less all = tt
all-less from later (unit ∷ units) less all = (omega (arith, all.0), all-less from later units less all.1)

all-none : (from : ℕ) → AllFrom from []
unfolding AllFrom
all-none from = tt

all-more : (from kind : ℕ) (unit : Item) (units : List Item) → place_of unit ≡ from → AllFrom (from + kind) units → AllFrom from (unit ∷ units)
unfolding AllFrom
all-more from kind unit units place all = (omega (arith, place), all-less from (from + kind) units (omega arith) all)

written-from : (end : Option (ℕ × ℕ)) (at : ℕ) (before : Option (ℕ × ℕ)) (bits : List Bool) → AllFrom at (written_units at before bits end)
written-from end =
    along-chain end (λ at before bits. AllFrom at (written_units at before bits end))
    (λ at before bits is. rw (written-stop at before bits end is) (all-none at))
    (λ at before bits kind is later.
    rw (written-step at before bits end kind is)
    (all-more at (kind_length kind) (unit_at at before kind bits) (written_units (at + kind_length kind) (Some (before.0, kind)) (drop (kind_length kind) bits) end)
    (place_of-unit_item_of at (with_front (before.0, kind) (take (kind_length kind) bits))) later))

settled-from-long : (turns at : ℕ) (before : ℕ × ℕ) (bits : List Bool) → 6912 ≤ length bits → (kind : Option ℕ) → step_of before bits None ≡ kind
    → ((name : ℕ × ℕ) (place : ℕ) (left : List Bool) → AllFrom place (settled_units_in turns place (Some name) left)) → AllFrom at (settled_units_in (suc turns) at (Some before) bits)
settled-from-long turns at before bits long None is later = rw (units-stop turns at before bits long is) (all-none at)
settled-from-long turns at before bits long (Some kind) is later =
    rw (units-next turns at before bits kind long is)
    (all-more at (kind_length kind) (unit_at at before kind bits) (settled_units_in turns (at + kind_length kind) (Some (before.0, kind)) (drop (kind_length kind) bits))
    (place_of-unit_item_of at (with_front (before.0, kind) (take (kind_length kind) bits))) (later (before.0, kind) (at + kind_length kind) (drop (kind_length kind) bits)))

settled-from-some : (turns at : ℕ) (before : ℕ × ℕ) (bits : List Bool) → AllFrom at (settled_units_in turns at (Some before) bits)
unfolding settled_units_in
settled-from-some zero at before bits = all-none at
settled-from-some (suc turns) at before bits =
    elim (cases_lt (length bits) 6912) [
      | inl short ↦ rw (units-short (suc turns) at before bits short) (all-none at)
      | inr long ↦ settled-from-long turns at before bits long (step_of before bits None) refl (λ name place left. settled-from-some turns place name left)
    ]

settled-from : (turns at : ℕ) (before : Option (ℕ × ℕ)) (bits : List Bool) → AllFrom at (settled_units_in turns at before bits)
settled-from turns at None bits = rw (units-none turns at bits) (all-none at)
settled-from turns at (Some before) bits = settled-from-some turns at before bits

-- what is kept after an item is of the stretch and of its bits
pub kept-shorter : (kept : Follow) (item : Item) (raw : List Bool) → length (behind_item kept item raw).stretch ≤ length (kept.stretch ++ raw)
unfolding behind_item
kept-shorter kept item raw =
    elim (cases_Bool (is_rest item)) [
      | inl rest ↦ rw rest (omega (arith, length-settled kept.before (kept.stretch ++ raw)))
      | inr unit ↦ rw unit (omega arith)
    ]

module _ (f g : Item → List Bool → List Bool) (from : ℕ) (alike : (item : Item) (raw : List Bool) → from ≤ place_of item → f item raw ≡ g item raw) where
  over-alike : (at : ℕ) (units : List Item) (bits : List Bool) → AllFrom from units → over_units f at units bits ≡ over_units g at units bits
  unfolding over_units AllFrom
  over-alike at [] bits all = refl
  over-alike at (unit ∷ units) bits all =
      let rest = drop (place_of unit - at) bits in
      ap₂ (λ (xs ys : List Bool). take (place_of unit - at) bits ++ (xs ++ ys)) (alike unit (take (covered unit) rest) all.0)
      (over-alike (place_of unit + covered unit) units (drop (covered unit) rest) all.1)

  chain-alike : (at : ℕ) (before : Option (ℕ × ℕ)) (stretch : List Bool) (end : Option (ℕ × ℕ)) → from ≤ at → chain_over f at before stretch end ≡ chain_over g at before stretch end
  unfolding chain_over
  chain-alike at before stretch end late =
      over-alike at (written_units at before stretch end) (chain_of before stretch end) (all-less from at (written_units at before stretch end) late (written-from end at before stretch))

  settled-alike : (at : ℕ) (before : Option (ℕ × ℕ)) (bits : List Bool) → from ≤ at → settled_over f at before bits ≡ settled_over g at before bits
  unfolding settled_over
  settled-alike at before bits late =
      let units = settled_units_in (length bits) at before bits in
      over-alike at units (settled_of before bits) (all-less from at units late (settled-from (length bits) at before bits))

  before-alike : (at : ℕ) (kept : Follow) (item : Item) (raw : List Bool) → from ≤ at → before_item f at kept item raw ≡ before_item g at kept item raw
  unfolding before_item
  before-alike at kept item raw late =
      ap₂ (λ (xs ys : List Bool). cond (is_rest item) xs ys) (settled-alike at kept.before (kept.stretch ++ raw) late) (chain-alike at kept.before kept.stretch (unit_name item) late)

  own-alike : (item : Item) (raw : List Bool) → from ≤ place_of item → own_item f item raw ≡ own_item g item raw
  unfolding own_item
  own-alike item raw late = ap (λ (xs : List Bool). cond (is_rest item) [] xs) (alike item raw late)

  pub changed-alike : (items : List Item) (ended : Bool) (place at : ℕ) (kept : Follow) (bits others : List Bool) → from ≤ at → from ≤ place → items_by ended place bits ≡ items
      → changed_by f ended at kept items others ≡ changed_by g ended at kept items others
  unfolding changed_by
  changed-alike [] ended place at kept bits others late there are = ap (λ (xs : List Bool). cond ended xs []) (chain-alike at kept.before kept.stretch None late)
  changed-alike (item ∷ items) ended place at kept bits others late there are =
      let parts = items_by-first ended place bits item items are in
      let raw = take (covered item) others in
      let next = behind_item kept item raw in
      let own_there : from ≤ place_of item = omega (arith, ap place_of parts.1, place_of-first_item place bits, there) in
      let later : from ≤ at + length (kept.stretch ++ raw) - length next.stretch = omega (arith, late, kept-shorter kept item raw) in
      ap₂ (λ (xs ys : List Bool). xs ++ ys) (before-alike at kept item raw late)
      (
      ap₂ (λ (xs ys : List Bool). xs ++ ys) (own-alike item raw own_there)
      (changed-alike items ended (place + covered item) (at + length (kept.stretch ++ raw) - length next.stretch) next (drop (covered item) bits) (drop (covered item) others) later (omega (arith, there)) (sym parts.2))
      )
