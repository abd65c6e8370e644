-- The effect of an item and of the end on a follower, by its state.
use Rattle.std.proofs.{Common.{◌≡◌, ℕ, Bool, true, false, List, [], ◌++◌, length, Option, None}, Math.Seq.{take-length}}
use Rattle.p25_bits.specs.Bits.{part}
use Rattle.p25_units.specs.declared.item.Item.{Item}
use Rattle.p25_follow.specs.{Chains.{chain_by}, Followed.{is_rest, unit_name}, Following.{Follow, behind_item, follow, left_of, written_before, written_end}}
use Rattle.p25_follow.proofs.ChainLaws.{chain_by-none, left_of-none}

-- bits appended to others, all of them
pub appended-all : (before bits now : List Bool) (count : ℕ) → count ≡ length bits → now ≡ before ++ part 0 count bits → now ≡ before ++ bits
appended-all before bits now count all is = rw (is, all, take-length)

module _ (kept : Follow) (item : Item) (raw : List Bool) (before : Option (ℕ × ℕ)) (stretch : List Bool) (is_kept : follow before stretch ≡ kept) where
  pub rest-out : (held cleared out : List Bool) → is_rest item ≡ true → held ≡ stretch ++ raw → cleared ≡ [] → out ≡ cleared ++ chain_by false before held None → out ≡ written_before kept item raw
  unfolding written_before
  rest-out held cleared out rest is_held none is = rw (is, none, is_held, ← is_kept, rest)

  pub rest-behind : (held : List Bool) (now : Follow) → is_rest item ≡ true → held ≡ stretch ++ raw → now ≡ left_of before held → now ≡ behind_item kept item raw
  unfolding behind_item
  rest-behind held now rest is_held is = rw (is, is_held, ← is_kept, rest)

  -- if no data unit was before, the bits of the item are written unchanged, and nothing is kept
  pub none-out : (cleared out : List Bool) → before ≡ None → stretch ≡ [] → is_rest item ≡ true → cleared ≡ [] → out ≡ cleared ++ raw → out ≡ written_before kept item raw
  none-out cleared out none empty rest is_cleared is = rest-out raw cleared out rest (rw empty) is_cleared (rw (none, chain_by-none) is)

  pub none-behind : before ≡ None → stretch ≡ [] → is_rest item ≡ true → kept ≡ behind_item kept item raw
  none-behind none empty rest = rest-behind raw kept rest (rw empty) (rw (← is_kept, none, empty, left_of-none))

  pub unit-out : (name : Option (ℕ × ℕ)) (cleared out : List Bool) → is_rest item ≡ false → name ≡ unit_name item → cleared ≡ []
      → out ≡ cleared ++ chain_by true before stretch name → out ≡ written_before kept item raw
  unfolding written_before
  unit-out name cleared out unit is_name none is = rw (is, none, is_name, ← is_kept, unit)

  pub unit-behind : (name : Option (ℕ × ℕ)) (bits : List Bool) → is_rest item ≡ false → name ≡ unit_name item → bits ≡ [] → follow name bits ≡ behind_item kept item raw
  unfolding behind_item
  unit-behind name bits unit is_name none = rw (is_name, none, unit)

pub end-out : (kept : Follow) (before : Option (ℕ × ℕ)) (stretch held cleared out : List Bool) → follow before stretch ≡ kept → held ≡ [] ++ stretch → cleared ≡ []
    → out ≡ cleared ++ chain_by true before held None
    → out ≡ written_end kept
unfolding written_end
end-out kept before stretch held cleared out is_kept is_held none is = rw (is, none, is_held, ← is_kept)
