-- A recording that is repaired, and the items of it before and after.
use Rattle.std.specs.Prelude.{◌≡◌, ℕ, Bool, List, [], ◌∷◌}
use Rattle.p25_units.specs.{declared.item.Item.{Item}, declared.item.Item.TheVariants.{Whole}}
use Rattle.p25_stream.specs.{Items.{items_of}, Repeats.{repaired}, Written.{written}}

-- the output of a repair for bits that begin at a position of a recording
unfoldable pub repaired_from : ℕ → List Bool → List Bool
repaired_from at bits = written repaired (items_of at bits) bits

-- the output of a repair for a recording
abbrev pub repair_of : List Bool → List Bool
repair_of = repaired_from 0

-- an item is found again after a repair: a whole data unit with any fixes, and each other item unchanged
unfoldable pub IsFoundAgain : Item → Item → Type 0
IsFoundAgain (Whole place frame fixes) other = (left : ℕ) × (other ≡ Whole place frame left)
IsFoundAgain item other = other ≡ item

-- the items of a list are found again, one by one
unfoldable pub AreFoundAgain : List Item → List Item → Type 0
AreFoundAgain [] [] = Unit {0}
AreFoundAgain [] (other ∷ others) = ⊥
AreFoundAgain (item ∷ items) [] = ⊥
AreFoundAgain (item ∷ items) (other ∷ others) = IsFoundAgain item other × AreFoundAgain items others
