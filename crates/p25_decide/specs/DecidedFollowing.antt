-- A recording decided item by item, by what a follower keeps.
use Rattle.std.specs.Prelude.{ℕ, zero, suc, ◌+◌, ◌-◌, Bool, if◌then◌else◌, nat_le, List, [], ◌∷◌, ◌++◌, length, take, drop, Option, Some, None}
use Rattle.p25_units.specs.{Items.{covered}, declared.item.Item.{Item}}
use Rattle.p25_follow.specs.{Chains.{settled_of, step_reach}, Followed.{is_rest, unit_name}, FollowedUnits.{units_step}, Following.{Follow, behind_item}, Steps.{step_of}}
use Rattle.p25_decide.specs.DecidedStretches.{chain_over, over_units}

-- the units of bits that are settled, after a unit with a name or after none, in at most so many steps
unfoldable pub settled_units_in : ℕ → ℕ → Option (ℕ × ℕ) → List Bool → List Item
settled_units_in zero at before bits = []
settled_units_in (suc turns) at None bits = []
settled_units_in (suc turns) at (Some before) bits =
    if nat_le step_reach (length bits)
    then units_step (λ position name left. settled_units_in turns position (Some name) left) at before bits (step_of before bits None)
    else []

-- the settled bits of a stretch that starts at a position, with each unit changed
unfoldable pub settled_over : (Item → List Bool → List Bool) → ℕ → Option (ℕ × ℕ) → List Bool → List Bool
settled_over change at before bits = over_units change at (settled_units_in (length bits) at before bits) (settled_of before bits)

-- the bits that are written before those of an item, and the item's own, by the stretch that is kept and starts at a position
unfoldable pub before_item : (Item → List Bool → List Bool) → ℕ → Follow → Item → List Bool → List Bool
before_item change at kept item raw =
    if is_rest item then settled_over change at kept.before (kept.stretch ++ raw) else chain_over change at kept.before kept.stretch (unit_name item)

unfoldable pub own_item : (Item → List Bool → List Bool) → Item → List Bool → List Bool
own_item change item raw = if is_rest item then [] else change item raw

-- all that is written of items that lie end to end over some bits, and at the end, if it has come, by the stretch that is kept
unfoldable pub changed_by : (Item → List Bool → List Bool) → Bool → ℕ → Follow → List Item → List Bool → List Bool
changed_by change ended at kept [] bits = if ended then chain_over change at kept.before kept.stretch None else []
changed_by change ended at kept (item ∷ items) bits =
    let raw = take (covered item) bits in
    let next = behind_item kept item raw in
    before_item change at kept item raw
    ++ (own_item change item raw ++ changed_by change ended (at + length (kept.stretch ++ raw) - length next.stretch) next items (drop (covered item) bits))
