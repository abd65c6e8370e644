-- A recording forwarded in place, under another network access code (NAC) and with one status symbol everywhere.
use Rattle.std.specs.Prelude.{◌≡◌, ℕ, ◌%◌, ◌≤◌, Bool, List, ◌∷◌, ◌++◌, length, drop, replicate}
use Rattle.p25_status.specs.{Woven.{bare_of, statuses_of, woven}, declared.symbols.Status.{Status}}
use Rattle.p25_unit_front.specs.Front.{unit_front}
use Rattle.p25_units.specs.{Units.{image_of}, declared.item.Item.{Item}, declared.item.Item.TheVariants.{Whole, Broken, Gap}}
use Rattle.p25_stream.specs.{Items.{items_of}, Repeats.{bridged_frame}, Written.{written}}

-- the bits of a broken data unit, with sync and NID of a NAC and a type instead of its own and one status symbol everywhere
unfoldable pub relayed_broken : ℕ → ℕ → Status → List Bool → List Bool
relayed_broken nac duid status raw = woven (unit_front nac duid ++ drop 112 (bare_of raw)) (replicate (length (statuses_of raw)) status)

-- the output for an item and the bits that it covers: the image of a whole data unit, as for a bridge; of a broken one all its bits but sync, NID and
-- status symbols; and all other bits unchanged
abbrev pub relayed : ℕ → Status → Item → List Bool → List Bool
relayed nac status (Whole place frame fixes) raw = image_of (bridged_frame nac status frame)
relayed nac status (Broken place count ours duid fields) raw = relayed_broken nac duid status raw
relayed nac status item raw = raw

-- the output for a recording
abbrev pub relay_of : ℕ → Status → List Bool → List Bool
relay_of nac status bits = written (relayed nac status) (items_of 0 bits) bits

-- an item has as many bits as a scan gives it: a broken data unit whole blocks of 72, at least two and at most those of the longest data unit, and a
-- gap at most 4,096
abbrev pub IsFitItem : Item → Type 0
IsFitItem (Broken place count nac duid fields) = (count % 72 ≡ 0) × (144 ≤ count) × (count ≤ 25920)
IsFitItem (Gap place count) = count ≤ 4096
IsFitItem item = Unit {0}

-- the item that the scan finds instead of a data unit: whole without fixes, or broken with the same failing fields
abbrev pub relayed_item : ℕ → Status → Item → Item
relayed_item nac status (Whole place frame fixes) = Whole place (bridged_frame nac status frame) 0
relayed_item nac status (Broken place count ours duid fields) = Broken place count nac duid fields
relayed_item nac status item = item

-- an item is among some items
pub record IsAmong (item : Item) (items : List Item) : Type 0 where
  pub before : List Item
  pub after : List Item
  pub among : items ≡ before ++ item ∷ after
