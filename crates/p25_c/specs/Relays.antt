-- Items forwarded in place, under another network access code (NAC) and with one status symbol everywhere.
use Rattle.std.specs.Prelude.{ℕ, ℤ, ◌-◌, Bool, true, List, [], ◌∷◌, take, drop, Option, Some, None, Result, Ok, Err}
use Rattle.p25_bits.specs.Bits.{octet_bits}
use Rattle.p25_follow.specs.Relayed.{relayed}
use Rattle.p25_status.specs.declared.symbols.Status.{Status}
use Rattle.p25_units.specs.{Items.{covered}, Units.{whole_octets}, declared.item.Item.{Item}}
use Rattle.p25_c.specs.{Items.{items_asked}, Places.{filled, outside}}

-- the octets that are forwarded in place of the first of some items, which lie end to end over some bits; none if there is no item
abbrev pub first_relayed : ℕ → Status → List Item → List Bool → List ℕ
first_relayed nac status [] bits = []
first_relayed nac status (item ∷ items) bits = whole_octets (filled (relayed nac status item (take (covered item) bits)))

abbrev pub asked_relayed : ℕ → Status → Option (List Item) → List Bool → Result (List ℕ) ℤ
asked_relayed nac status None bits = Err outside
asked_relayed nac status (Some items) bits = Ok (first_relayed nac status items bits)

-- the octets that are forwarded in place of the item at a position of a recording, or -1 if a call may not look for one there
abbrev pub relayed_at : ℕ → Status → ℕ → ℕ → List ℕ → Result (List ℕ) ℤ
relayed_at nac status begin from octets =
    asked_relayed nac status (items_asked true begin from octets) (drop (from - begin) (octet_bits octets))
