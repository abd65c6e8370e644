-- The printed text of a recording.
use Rattle.std.specs.{Prelude.{◌≡◌, ℕ, Bool, true, List, [], ◌∷◌, ◌++◌, Option, Some, None}, Io.KnownBytes.{Appends}, List.{flat_map}}
use Rattle.p25_bits.specs.Bits.{octet_bits}
use Rattle.p25_stream.specs.{Items.{items_of}, Scan.{Scan}}
use Rattle.p25_units.specs.declared.item.Item.{Item}
use Rattle.p25_example_groups.specs.{Talks.{talk_of, talk_text}, declared.Talk.{Talk}}

-- the line of a talk, if there is one
abbrev pub talk_line : Option Talk → List ℕ
talk_line None = []
talk_line (Some talk) = talk_text talk ++ 10 ∷ []

-- the line of an item, if it is a talk
abbrev pub item_line : Item → List ℕ
item_line item = talk_line (talk_of item)

-- the lines of a recording: those of its items, in order
abbrev pub lines_of : List ℕ → List ℕ
lines_of octets = flat_map item_line (items_of 0 (octet_bits octets))

-- the lines of the items that a scanner returns from here on, if these bits follow and then no more
abbrev pub lines_left : Scan → List Bool → List ℕ
lines_left scan more = flat_map item_line (items_of scan.place (scan.held ++ more))

-- since a writer held `before`, bits were pushed to a scanner, and some of its lines were printed; the others are left
pub record HasPrinted (bits : List Bool) (before : Option (List ℕ)) (scan : Scan) (now : Option (List ℕ)) (next : Scan) : Type 0 where
  pub lines : List ℕ
  pub wrote : Appends before now lines
  pub left : (more : List Bool) → (next.finished ≡ true → more ≡ []) → lines_left scan (bits ++ more) ≡ lines ++ lines_left next more
