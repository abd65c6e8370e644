-- Units decoded from soft symbols.
use Rattle.std.specs.Prelude.{ℕ, ℤ, ◌==◌, nat_le, Bool, if◌then◌else◌, List, length, Result, Ok, Err}
use Rattle.p25_soft.specs.{Levels.{hard_bits}, Softened.{softened}}
use Rattle.p25_units.specs.{Items.{unit_item_of}, Needs.{need_of}, Units.{whole_octets}, declared.needs.Need.{Need}}
use Rattle.p25_units.specs.declared.needs.Need.TheVariants.{NoSync, More, Length, NoLength}
use Rattle.p25_c.specs.Places.{filled, outside}

-- the bits of soft symbols by what they need: if they are those of one unit, the blocks of a packet (PDU) that fail are decoded from the soft
-- symbols
abbrev pub softened_by : Need → List ℤ → List Bool → List Bool
softened_by (Length count) levels sent = if count == length sent then softened (unit_item_of 0 sent) levels sent else sent
softened_by need levels sent = sent

abbrev pub unit_softened : List ℤ → List Bool
unit_softened levels = softened_by (need_of (hard_bits levels)) levels (hard_bits levels)

-- the most soft symbols that a unit has
abbrev pub levels_most : ℕ
levels_most = 12960

-- their octets, or -1 if there are more soft symbols than the longest unit has
abbrev pub octets_softened : List ℤ → Result (List ℕ) ℤ
octets_softened levels = if nat_le (length levels) levels_most then Ok (whole_octets (filled (unit_softened levels))) else Err outside
