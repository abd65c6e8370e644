-- The data units after a stretch, wherever in it the scan begins.
use Rattle.std.specs.{Prelude.{◌≡◌, ℕ, ◌+◌, ◌≤◌, Bool, true, false, ◌&&◌, if◌then◌else◌, List, [], ◌∷◌, ◌++◌, length, take, drop}, List.{sum_by}}
use Rattle.p25_units.specs.{Items.{covered}, declared.item.Item.{Item}}
use Rattle.p25_stream.specs.Items.{first_item, items_of}
use Rattle.p25_follow.specs.Followed.{is_rest}

-- the data units among some items, and one that is cut, in order
unfoldable pub units_among : List Item → List Item
units_among [] = []
units_among (item ∷ items) = if is_rest item then units_among items else item ∷ units_among items

-- all items belong to a stretch
unfoldable pub all_rest : List Item → Bool
all_rest [] = true
all_rest (item ∷ items) = is_rest item && all_rest items

-- the first of some items belongs to a stretch
abbrev pub begins_rest : List Item → Bool
begins_rest [] = false
begins_rest (item ∷ items) = is_rest item

-- the number of bits that some items cover
abbrev pub bits_in : List Item → ℕ
bits_in = sum_by covered

-- wherever in a stretch the scan begins, the data units that it finds are those after the stretch
abbrev pub SameUnitsAfter : Type 0
SameUnitsAfter =
    (at place : ℕ) (bits : List Bool) (stretch after : List Item)
    → items_of at bits ≡ stretch ++ after → all_rest stretch ≡ true → begins_rest after ≡ false → place ≤ bits_in stretch
    → units_among (items_of (at + place) (drop place bits)) ≡ units_among after

-- whether a data unit, whole, broken or cut, begins at a position depends only on the 316 bits from there
abbrev pub PlaceLooksAtFew : Type 0
PlaceLooksAtFew =
    (at other : ℕ) (bits others : List Bool) → 316 ≤ length bits → 316 ≤ length others → take 316 bits ≡ take 316 others
    → is_rest (first_item at bits) ≡ is_rest (first_item other others)
