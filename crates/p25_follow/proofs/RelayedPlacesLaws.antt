-- The output for a recording: each item at its position, and each data unit is found again, or lies within a data unit that begins before it.
use Rattle.std.proofs.Common.{◌≡◌, ℕ, ◌+◌, inl, inr, true, false, ◌∷◌, ◌++◌, take, drop, Some, refl, arith}
use Rattle.p25_status.specs.{Sync.{has_sync}, declared.symbols.Status.{Status}}
use Rattle.p25_status.proofs.SyncLaws.{has_sync-length}
use Rattle.p25_units.specs.{Items.{covered}, declared.item.Item.{Item}, declared.item.Item.TheVariants.{Whole, Broken}}
use Rattle.p25_stream.specs.{Items.{first_item}, Written.{written}}
use Rattle.p25_stream.proofs.{ArrivalLaws.{reached-after}, ItemLaws.{item-among}, ItemsLaws.{items_by-more}, WrittenLaws.{part-written, written-all, written-append, written-cons, written-long}}
use Rattle.p25_follow.specs.{Followed.{is_rest, unit_name}, Relayed.{relayed, relayed_item}, RelayLaws.{RelayKeepsLength, RelayKeepsUnits, RelaysInPlace}, StretchLaws.{bits_in}}
use Rattle.p25_follow.proofs.{RelayedLaws.{item-found, item-long}, SameUnitsLaws.{unit-synced}}

pub relay-long : RelayKeepsLength
relay-long nac status bits nac_fits = written-all (relayed nac status) (item-long nac status nac_fits) 0 bits

pub relay-in-place : RelaysInPlace
relay-in-place nac status bits before item after nac_fits = part-written (relayed nac status) (item-long nac status nac_fits) true 0 bits before item after

-- ---- each data unit is found again, unless an earlier one covers its first bit
named-unit : (nac : ℕ) (status : Status) (item : Item) (name : ℕ × ℕ) → unit_name item ≡ Some name → is_rest (relayed_item nac status item) ≡ false
named-unit nac status (Whole place frame fixes) name unit = refl
named-unit nac status (Broken place count ours duid fields) name unit = refl
named-unit nac status item name unit = absurd (cc unit)

pub relay-keeps : RelayKeepsUnits
relay-keeps nac status bits before unit after name nac_fits is named =
    let write = relayed nac status in
    let place = bits_in before in
    let left = drop place bits in
    let front = written write before bits in
    let own = write unit (take (covered unit) left) in
    let more = written write after (drop (covered unit) left) in
    let rest = own ++ more in
    let there = item-among true 0 bits before unit after is in
    let zero : 0 + place ≡ place = omega arith in
    let first : first_item place left ≡ unit = cc in
    let found : first_item place rest ≡ relayed_item nac status unit = item-found nac status nac_fits place left more name unit first named in
    let synced : has_sync rest ≡ true = unit-synced place rest (rw found (named-unit nac status unit name named)) in
    let begins = rw found at (items_by-more true place rest (omega (arith, has_sync-length rest synced)) refl) in
    rw (is, written-append, written-cons)
    (elim (reached-after place rest synced 0 front (omega (arith, written-long write (item-long nac status nac_fits) before (unit ∷ after) true 0 bits is))) [
      | inl hidden ↦ inl hidden
      | inr reached ↦ inr (record { before = reached.before; after = _; among = rw begins at reached.among })
    ])
