-- What a follower settles, and what is written of it with its units changed, by the state of the follower.
use Rattle.std.proofs.Common.{◌≡◌, ℕ, ◌≤◌, Bool, true, false, List, ◌++◌, length, Option, None, refl, ap, ap₂, ◌∙◌, arith}
use Rattle.p25_units.specs.declared.item.Item.{Item}
use Rattle.p25_follow.specs.{Chains.{chain_by}, Followed.{is_rest, unit_name}, Following.{Follow, behind_item, written_before, written_end}}
use Rattle.p25_follow.proofs.LengthLaws.{length-chain_of}
use Rattle.p25_decide.specs.{DecidedFollowing.{before_item, settled_over}, DecidedStretches.{chain_over}, DecidedTaking.{over_by}}
use Rattle.p25_decide.proofs.SettledLaws.{length-settled}

pub rest-settled : (kept : Follow) (item : Item) (raw out stretch : List Bool) (before : Option (ℕ × ℕ)) → is_rest item ≡ true → before ≡ kept.before → stretch ≡ kept.stretch ++ raw
    → out ≡ written_before kept item raw → out ≡ chain_by false before stretch None
unfolding written_before
rest-settled kept item raw out stretch before rest before_is stretch_is is = is ∙ rw (rest, before_is, stretch_is) refl

pub unit-settled : (kept : Follow) (item : Item) (raw out stretch : List Bool) (before name : Option (ℕ × ℕ)) → is_rest item ≡ false → before ≡ kept.before → stretch ≡ kept.stretch → name ≡ unit_name item
    → out ≡ written_before kept item raw → out ≡ chain_by true before stretch name
unfolding written_before
unit-settled kept item raw out stretch before name unit before_is stretch_is name_is is = is ∙ rw (unit, before_is, stretch_is, name_is) refl

pub end-settled : (kept : Follow) (out stretch : List Bool) (before : Option (ℕ × ℕ)) → before ≡ kept.before → stretch ≡ kept.stretch → out ≡ written_end kept → out ≡ chain_by true before stretch None
unfolding written_end
end-settled kept out stretch before before_is stretch_is is = is ∙ rw (before_is, stretch_is) refl

-- the name of a unit that a follower took
pub name-behind : (kept now : Follow) (item : Item) (raw : List Bool) → is_rest item ≡ false → now ≡ behind_item kept item raw → now.before ≡ unit_name item
unfolding behind_item
name-behind kept now item raw unit is = ap (λ (f : Follow). f.before) is ∙ rw unit refl

-- no more bits are settled than were there
pub rest-fits : (before : Option (ℕ × ℕ)) (stretch out : List Bool) → out ≡ chain_by false before stretch None → length out ≤ length stretch
rest-fits before stretch out is = omega (arith, ap length is, length-settled before stretch)

pub unit-fits : (before : Option (ℕ × ℕ)) (stretch out : List Bool) (end : Option (ℕ × ℕ)) → out ≡ chain_by true before stretch end → length out ≤ length stretch
unit-fits before stretch out end is = omega (arith, ap length is, length-chain_of before stretch end)

-- with its units changed
pub rest-over : (change : Item → List Bool → List Bool) (at : ℕ) (before : Option (ℕ × ℕ)) (stretch : List Bool) (kept : Follow) (raw : List Bool) → before ≡ kept.before → stretch ≡ kept.stretch ++ raw
    → over_by false change at before stretch None ≡ settled_over change at kept.before (kept.stretch ++ raw)
unfolding over_by
rest-over change at before stretch kept raw before_is stretch_is = ap₂ (λ (b : Option (ℕ × ℕ)) (xs : List Bool). settled_over change at b xs) before_is stretch_is

pub unit-over : (change : Item → List Bool → List Bool) (at : ℕ) (before end : Option (ℕ × ℕ)) (stretch : List Bool) (kept : Follow) (name : Option (ℕ × ℕ)) → before ≡ kept.before → stretch ≡ kept.stretch
    → end ≡ name → over_by true change at before stretch end ≡ chain_over change at kept.before kept.stretch name
unfolding over_by
unit-over change at before end stretch kept name before_is stretch_is end_is = rw (before_is, stretch_is, end_is) refl

-- the bits before those of an item
pub before-rest : (change : Item → List Bool → List Bool) (at : ℕ) (kept : Follow) (item : Item) (raw : List Bool) → is_rest item ≡ true
    → settled_over change at kept.before (kept.stretch ++ raw) ≡ before_item change at kept item raw
unfolding before_item
before-rest change at kept item raw rest = rw rest refl

pub before-unit : (change : Item → List Bool → List Bool) (at : ℕ) (kept : Follow) (item : Item) (raw : List Bool) → is_rest item ≡ false
    → chain_over change at kept.before kept.stretch (unit_name item) ≡ before_item change at kept item raw
unfolding before_item
before-unit change at kept item raw unit = rw unit refl
