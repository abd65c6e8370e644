-- The positions of status symbols among the bits of a data unit: one of two bits after every 70 bits.
use Rattle.std.specs.Prelude.{◌≡◌, ℕ, zero, suc, ◌+◌, ◌*◌, ◌/◌, ◌<◌, Bool, false, List, [], ◌∷◌, ◌++◌, length, take, drop, slice_get, slice_index_or, Some}
use Rattle.p25_bits.specs.Bits.{bits_of, part}
use Rattle.p25_status.specs.{Status.{status_number, status_from_bits}, declared.symbols.Status.{Status}}

-- the transmitted bits of a data unit, with its status symbols
unfoldable pub woven : List Bool → List Status → List Bool
woven bits [] = []
woven bits (status ∷ statuses) = take 70 bits ++ (bits_of 2 (status_number status) ++ woven (drop 70 bits) statuses)

-- the bits of a number of blocks of 72 without their status symbols
unfoldable pub bare_in : ℕ → List Bool → List Bool
bare_in zero sent = []
bare_in (suc blocks) sent = take 70 sent ++ bare_in blocks (drop 72 sent)

-- the status symbols of a number of blocks of 72 bits
unfoldable pub statuses_in : ℕ → List Bool → List Status
statuses_in zero sent = []
statuses_in (suc blocks) sent = status_from_bits (slice_index_or sent 70 false) (slice_index_or sent 71 false) ∷ statuses_in blocks (drop 72 sent)

-- transmitted bits without their status symbols
unfoldable pub bare_of : List Bool → List Bool
bare_of sent = bare_in (length sent / 72) sent

-- the status symbols of transmitted bits
unfoldable pub statuses_of : List Bool → List Status
statuses_of sent = statuses_in (length sent / 72) sent

-- the rule by positions: bit u of a data unit is transmitted at position u + 2 · (u / 70), and status symbol i at the positions 72 · i + 70 and 72 ·
-- i + 71; there are no other positions
pub record StandsByPlaces (bits : List Bool) (statuses : List Status) (sent : List Bool) : Type 0 where
  pub places : length sent ≡ 72 * length statuses
  pub bare : (u : ℕ) → u < length bits → slice_get sent (u + 2 * (u / 70)) ≡ slice_get bits u
  pub symbols : (i : ℕ) (status : Status) → slice_get statuses i ≡ Some status → part (72 * i + 70) 2 sent ≡ bits_of 2 (status_number status)
