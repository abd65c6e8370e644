-- A follower that decides: what it writes of a stretch, unit by unit, from soft symbols of which a caller holds a part.
use Rattle.std.specs.Prelude.{◌≡◌, ℕ, ◌/◌, ◌%◌, ◌||◌, ◌==◌, if◌then◌else◌, nat_le, Bool, true, false, List, length, ℤ, Option, Some, None}
use Rattle.p25_bits.specs.Bits.{part}
use Rattle.p25_units.specs.declared.item.Item.{Item}
use Rattle.p25_follow.specs.{Chains.{step_reach}, Expected.{kind_length}, Steps.{step_of}}
use Rattle.p25_decide.specs.{DecidedFollowing.{settled_over}, DecidedStretches.{chain_over}, DecidedUnits.{decided_sent}}

-- some soft symbols are those of a recording from a first one on
abbrev pub AreFrom : ℕ → List ℤ → List ℤ → Type 0
AreFrom first levels all = part first (length levels) all ≡ levels

-- the type of the data unit that is settled first in bits: of whole bits, and of others if all bits that a step examines are there
unfoldable pub settled_kind : Bool → ℕ × ℕ → List Bool → Option (ℕ × ℕ) → Option ℕ
settled_kind whole before bits end = if whole || nat_le step_reach (length bits) then step_of before bits end else None

-- the output for a stretch, with each unit changed: of a whole stretch its chain, and of another what is settled of it
unfoldable pub over_by : Bool → (Item → List Bool → List Bool) → ℕ → Option (ℕ × ℕ) → List Bool → Option (ℕ × ℕ) → List Bool
over_by true change at before bits end = chain_over change at before bits end
over_by false change at before bits end = settled_over change at before bits

-- the same after some units, and after the last one the other settled bits
unfoldable pub over_left : Bool → (Item → List Bool → List Bool) → ℕ → Option (ℕ × ℕ) → List Bool → Option (ℕ × ℕ) → List Bool → List Bool
over_left whole change at None bits end settled = settled
over_left whole change at (Some before) bits end settled = over_by whole change at (Some before) bits end

-- the transmitted bits of a voice unit of a type that starts at a position of a recording: at an even one its fields are decoded
unfoldable pub voice_decided : List ℤ → ℕ → ℕ → List Bool → List Bool
voice_decided levels place kind sent = if place % 2 == 0 then decided_sent kind (part (place / 2) (kind_length kind / 2) levels) sent else sent
