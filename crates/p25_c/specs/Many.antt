-- Many items of a recording, by their numbers alone.
use Rattle.std.specs.Prelude.{ℕ, ℤ, pos, negsuc, min, List, ◌++◌, length, take, drop, map, Option, Some, None}
use Rattle.p25_units.specs.declared.item.Item.{Item}
use Rattle.p25_c.specs.{Items.{parts_of}, declared.items.ItemParts.{ItemParts}}

-- the numbers of an item whose text is not made
abbrev pub numbers_of : Item → ItemParts
numbers_of item = record (parts_of item) { text_length = 0 }

-- the most items that one call returns
abbrev pub many_most : ℕ
many_most = 2147483647

-- a list whose first elements are replaced by others
abbrev pub put_first : {X : Type 0} → List X → List X → List X
put_first first before = first ++ drop (length first) before

-- the number that a call returns: how many items it sets, or -1 if it may not look for one
abbrev pub many_answer : Option (List Item) → ℕ → ℤ
many_answer None room = negsuc 0
many_answer (Some items) room = pos (length (take (min room many_most) items))

-- the buffer after the call
abbrev pub many_left : Option (List Item) → List ItemParts → List ItemParts
many_left None before = before
many_left (Some items) before = put_first (map numbers_of (take (min (length before) many_most) items)) before
