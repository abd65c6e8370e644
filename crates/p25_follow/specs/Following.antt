-- The state of a follower, and its output for an item.
use Rattle.std.specs.Prelude.{◌≡◌, ℕ, zero, suc, ◌<◌, Bool, if◌then◌else◌, nat_le, List, [], ◌∷◌, ◌++◌, length, take, drop, Option, Some, None}
use Rattle.p25_units.specs.{Items.{covered}, declared.item.Item.{Item}}
use Rattle.p25_follow.specs.{Chains.{chain_of, settled_of, step_reach}, Expected.{kind_length}, Followed.{is_rest, unit_name}, Steps.{step_of}}

-- the name of the data unit before, or none, and the bits kept of the stretch after it
pub record Follow : Type 0 where
  pub before : Option (ℕ × ℕ)
  pub stretch : List Bool

abbrev pub follow : Option (ℕ × ℕ) → List Bool → Follow
follow before stretch = record { before = before; stretch = stretch }

-- before the first item
abbrev pub fresh_follow : Follow
fresh_follow = follow None []

-- the state after a data unit of a type, by the state after the bits that follow it; if none begins, nothing is left
unfoldable pub left_step : (ℕ × ℕ → List Bool → Follow) → ℕ × ℕ → List Bool → Option ℕ → Follow
left_step rest before bits None = fresh_follow
left_step rest before bits (Some kind) = rest (before.0, kind) (drop (kind_length kind) bits)

-- the state after the decided output for bits after a data unit with a name, in at most a given number of steps
unfoldable pub left_in : ℕ → Option (ℕ × ℕ) → List Bool → Follow
left_in zero before bits = follow before bits
left_in (suc turns) None bits = fresh_follow
left_in (suc turns) (Some before) bits =
    if nat_le step_reach (length bits)
    then left_step (λ name left. left_in turns (Some name) left) before bits (step_of before bits None)
    else follow (Some before) bits

unfoldable pub left_of : Option (ℕ × ℕ) → List Bool → Follow
left_of before bits = left_in (length bits) before bits

-- the output for a stretch when an item arrives that covers some bits: the decided part of it, and all of it if the item is a data unit
unfoldable pub written_before : Follow → Item → List Bool → List Bool
written_before kept item raw =
    if is_rest item then settled_of kept.before (kept.stretch ++ raw) else chain_of kept.before kept.stretch (unit_name item)

-- the output for the item itself: its bits, unless it belongs to a stretch
unfoldable pub written_item : Item → List Bool → List Bool
written_item item raw = if is_rest item then [] else raw

-- the state after it
unfoldable pub behind_item : Follow → Item → List Bool → Follow
behind_item kept item raw = if is_rest item then left_of kept.before (kept.stretch ++ raw) else follow (unit_name item) []

-- the output at the end
unfoldable pub written_end : Follow → List Bool
written_end kept = chain_of kept.before kept.stretch None

-- the output for items that lie end to end over some bits, and at the end, if it has come
unfoldable pub written_by : Bool → Follow → List Item → List Bool → List Bool
written_by ended kept [] bits = if ended then written_end kept else []
written_by ended kept (item ∷ items) bits =
    let raw = take (covered item) bits in
    written_before kept item raw ++ (written_item item raw ++ written_by ended (behind_item kept item raw) items (drop (covered item) bits))

-- a follower keeps fewer bits than a step examines, and none if no data unit was before them
pub record IsFollow (kept : Follow) : Type 0 where
  pub few : length kept.stretch < 6912
  pub none : kept.before ≡ None → kept.stretch ≡ []
