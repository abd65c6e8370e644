-- The octets of units: built from lines, repaired, and under another network access code (NAC).
use Rattle.std.specs.Prelude.{◌≡◌, ℕ, ℤ, negsuc, ◌<◌, ◌≤◌, ◌⊎◌, Bool, if◌then◌else◌, List, [], ◌∷◌, take, Result, Ok, Err}
use Rattle.p25_bits.specs.Bits.{octet_bits}
use Rattle.p25_line.specs.{declared.fault.LineFault.{LineFault}, declared.fault.LineFault.TheVariants.{Long, Form, Kind, Key, Value}}
use Rattle.p25_status.specs.{Status.{status_number}, declared.symbols.Status.{Status}}
use Rattle.p25_stream.specs.{Items.{items_of}, Repeats.{bridged, is_whole_item, repaired}}
use Rattle.p25_text.specs.Grammar.{read_line_of}
use Rattle.p25_units.specs.{Items.{covered}, UnitParts.{UnitParts}, Units.{image_octets, whole_octets}, declared.item.Item.{Item}}
use Rattle.p25_c.specs.Rooms.{IsWriting}

-- -3: no whole unit begins there; -4: a network access code (NAC) has 12 bits; -5: a status symbol is 0 to 3
abbrev pub no_unit : ℤ
no_unit = negsuc 2

abbrev pub wrong_nac : ℤ
wrong_nac = negsuc 3

abbrev pub wrong_status : ℤ
wrong_status = negsuc 4

-- a call writes under a network access code (NAC) and with a status symbol that it is given as numbers; if one of them is too large, the
-- returned number states which
pub record IsWritingUnder (nac status : ℕ) (what : Status → Result (List ℕ) ℤ) (room left : List ℕ) (answer : ℤ) : Type 0 where
  pub strange_code : 4096 ≤ nac → IsWriting (Err wrong_nac) room left answer
  pub strange_symbol : nac < 4096 → 4 ≤ status → IsWriting (Err wrong_status) room left answer
  pub sent : nac < 4096 → (symbol : Status) → status_number symbol ≡ status → IsWriting (what symbol) room left answer

-- one of the two is too large, and this is the returned number that states which
abbrev pub IsRefused : ℕ → ℕ → ℤ → Type 0
IsRefused nac status answer = ((4096 ≤ nac) × (answer ≡ wrong_nac)) ⊎ ((nac < 4096) × (4 ≤ status) × (answer ≡ wrong_status))

-- -11 to -15: why a line is refused
abbrev pub fault_answer : LineFault → ℤ
fault_answer Long = negsuc 10
fault_answer Form = negsuc 11
fault_answer Kind = negsuc 12
fault_answer Key = negsuc 13
fault_answer Value = negsuc 14

-- the octets of the unit of a line, with one status symbol everywhere, or why the line is refused
abbrev pub unit_built : Status → Result UnitParts LineFault → Result (List ℕ) ℤ
unit_built status (Ok unit) = Ok (image_octets status unit)
unit_built status (Err fault) = Err (fault_answer fault)

abbrev pub built : Status → List ℕ → Result (List ℕ) ℤ
built status line = unit_built status (read_line_of line)

-- the octets of a whole unit that some items begin with, by a change of the bits that it covers
abbrev pub first_changed : (Item → List Bool → List Bool) → List Item → List Bool → Result (List ℕ) ℤ
first_changed change [] bits = Err no_unit
first_changed change (item ∷ items) bits = if is_whole_item item then Ok (whole_octets (change item (take (covered item) bits))) else Err no_unit

-- the unit that octets begin with, repaired
abbrev pub unit_repaired : List ℕ → Result (List ℕ) ℤ
unit_repaired octets = first_changed repaired (items_of 0 (octet_bits octets)) (octet_bits octets)

-- the unit that octets begin with, under another network access code (NAC), with one status symbol everywhere
abbrev pub unit_bridged : ℕ → Status → List ℕ → Result (List ℕ) ℤ
unit_bridged nac status octets = first_changed (λ item raw. bridged nac status item []) (items_of 0 (octet_bits octets)) (octet_bits octets)
