-- The state of a scanner, as contracts see it.
use Rattle.std.specs.Prelude.{◌≡◌, ℕ, ◌+◌, ◌<◌, ◌≤◌, ◌&&◌, nat_le, if◌then◌else◌, Bool, List, ◌∷◌, length, take, drop}
use Rattle.p25_units.specs.{Items.{covered}, declared.item.Item.{Item}}
use Rattle.p25_stream.specs.Items.{items_by}

-- the bits held, the position of the first of them, and whether no more come
pub record Scan : Type 0 where
  pub place : ℕ
  pub held : List Bool
  pub finished : Bool

-- the items that a scanner can return
abbrev pub given : Scan → List Item
given scan = items_by scan.finished scan.place scan.held

-- the number of octets whose bits are taken at once, by the numbers of bits held and of octets there: eight, or otherwise one
abbrev pub octets_taken : ℕ → ℕ → ℕ
octets_taken have octets = if nat_le 8 octets && nat_le (have + 64) 25927 then 8 else 1

-- a scanner returned the first of its items, with the bits that it covers, and has the others left
pub record Gave (before : Scan) (item : Item) (raw : List Bool) (now : Scan) : Type 0 where
  pub items : given before ≡ item ∷ given now
  pub some : 0 < covered item
  pub there : covered item ≤ length before.held
  pub raw_bits : raw ≡ take (covered item) before.held
  pub left : now.held ≡ drop (covered item) before.held
  pub place : now.place ≡ before.place + covered item
  pub same : now.finished ≡ before.finished
