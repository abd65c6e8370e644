-- The levels of a soft recording, and the bits of its items.
use Rattle.std.specs.{Prelude.{ℕ, ◌-◌, ◌*◌, ◌/◌, ◌%◌, Bool, if◌then◌else◌, ◌==◌, List, ◌++◌, length, take, replicate, ℤ, pos}, Int.{w8, cast_signed}}
use Rattle.p25_bits.specs.Bits.{part}
use Rattle.p25_soft.specs.Softened.{softened}
use Rattle.p25_units.specs.{Items.{covered, place_of}, declared.item.Item.{Item}}

-- the level of an octet, in two's complement
unfoldable pub octet_level : ℕ → ℤ
octet_level octet = cast_signed w8 octet

-- levels filled up to a multiple of four by the level 32
unfoldable pub filled : List ℤ → List ℤ
filled levels = levels ++ replicate ((4 - length levels % 4) % 4) (pos 32)

-- the levels that are in whole groups of four
unfoldable pub grouped : List ℤ → List ℤ
grouped levels = take (4 * (length levels / 4)) levels

-- the levels that are scanned: all, filled, if the input has ended, and otherwise those in whole groups
abbrev pub scanned : Bool → List ℤ → List ℤ
scanned ended levels = if ended then filled levels else grouped levels

-- the bits of an item, softened by its levels if it begins at an even position; the levels are those from a first one on
unfoldable pub item_softened : ℕ → List ℤ → Item → List Bool → List Bool
item_softened first levels item raw =
    if place_of item % 2 == 0 then softened item (part (place_of item / 2 - first) (covered item / 2) levels) raw else raw
