-- The output for items.
use Rattle.std.specs.Prelude.{Bool, List, [], ◌∷◌, ◌++◌, take, drop}
use Rattle.p25_units.specs.{Items.{covered}, declared.item.Item.{Item}}

-- the output for items that lie end to end over some bits: for each the output for itself and the bits that it covers, one after the other
unfoldable pub written : {X : Type 0} → (Item → List Bool → List X) → List Item → List Bool → List X
written write [] bits = []
written write (item ∷ items) bits = write item (take (covered item) bits) ++ written write items (drop (covered item) bits)
