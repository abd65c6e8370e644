-- The first item of some bits, found with no scanner.
use Rattle.std.specs.Prelude.{◌≡◌, ℕ, ◌+◌, ◌≤◌, Bool, false, List, [], ◌∷◌, ◌++◌, length, drop}
use Rattle.p25_units.specs.{Items.{covered}, declared.item.Item.{Item}}
use Rattle.p25_stream.specs.{Judgements.{IsJudged, is_settled}, Items.{items_by}, declared.judged.Judged.{Judged}}

-- an item is the first of those of some bits, and the others are those of the bits after it
pub record IsFirst (ended : Bool) (place : ℕ) (bits : List Bool) (item : Item) : Type 0 where
  pub items : items_by ended place bits ≡ item ∷ items_by ended (place + covered item) (drop (covered item) bits)
  pub there : covered item ≤ length bits

-- bits were appended: all of them if the first item is not known
pub record IsFilled (before bits held : List Bool) (judged : Judged) : Type 0 where
  pub more : List Bool
  pub joined : before ++ bits ≡ held ++ more
  pub known : IsJudged judged held
  pub all : is_settled judged ≡ false → more ≡ []
