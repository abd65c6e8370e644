-- Items at any bit of a recording: their octets, and units there repaired and under another network access code (NAC).
use Rattle.std.specs.Prelude.{ℕ, ℤ, negsuc, ◌+◌, ◌-◌, ◌*◌, ◌%◌, ◌&&◌, nat_le, Bool, true, if◌then◌else◌, List, [], ◌++◌, length, drop, Option, Some, None, Result, Ok, Err}
use Rattle.p25_bits.specs.Bits.{bits_of, octet_bits, part}
use Rattle.p25_status.specs.declared.symbols.Status.{Status}
use Rattle.p25_stream.specs.Repeats.{bridged, repaired}
use Rattle.p25_units.specs.{Units.{whole_octets}, declared.item.Item.{Item}}
use Rattle.p25_c.specs.{Building.{first_changed}, Items.{is_inside, items_asked}}

-- -1: the bits that the call needs are not among these octets
abbrev pub outside : ℤ
outside = negsuc 0

-- bits with zeros after them until they fill their last octet
abbrev pub filled : List Bool → List Bool
filled bits = bits ++ bits_of ((8 - length bits % 8) % 8) 0

-- so many bits from a position on are among those of octets that begin at bit `begin`, and an item may cover so many
abbrev pub has_item : ℕ → ℕ → ℕ → ℕ → Bool
has_item begin place count octets = nat_le count 25920 && is_inside begin place octets && nat_le (place + count) (begin + 8 * octets)

-- the octets of so many bits from a position on
abbrev pub item_cut : ℕ → ℕ → ℕ → List ℕ → Result (List ℕ) ℤ
item_cut begin place count octets =
    if has_item begin place count (length octets) then Ok (whole_octets (filled (part (place - begin) count (octet_bits octets)))) else Err outside

-- the octets of the whole unit that is the first of some items, by a change of its bits
abbrev pub asked_changed : (Item → List Bool → List Bool) → Option (List Item) → List Bool → Result (List ℕ) ℤ
asked_changed change None bits = Err outside
asked_changed change (Some items) bits = first_changed change items bits

-- the unit at a position of a recording, repaired
abbrev pub repaired_at : ℕ → ℕ → List ℕ → Result (List ℕ) ℤ
repaired_at begin from octets = asked_changed repaired (items_asked true begin from octets) (drop (from - begin) (octet_bits octets))

-- the unit at a position of a recording, under another network access code (NAC), with one status symbol everywhere
abbrev pub bridged_at : ℕ → Status → ℕ → ℕ → List ℕ → Result (List ℕ) ℤ
bridged_at nac status begin from octets =
    asked_changed (λ item raw. bridged nac status item []) (items_asked true begin from octets) (drop (from - begin) (octet_bits octets))
