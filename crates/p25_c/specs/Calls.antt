-- The items that a series of calls returns: those of a recording, one after the other, however its octets are cut.
use Rattle.std.specs.{Prelude.{◌≡◌, ℕ, ◌+◌, ◌*◌, pos, Bool, true, List, [], ◌∷◌, ◌++◌, length, map, Option, Some, None}, List.{sum_by}}
use Rattle.p25_bits.specs.Bits.{octet_bits}
use Rattle.p25_stream.specs.Items.{items_of}
use Rattle.p25_units.specs.{Items.{covered}, declared.item.Item.{Item}}
use Rattle.p25_c.specs.{Items.{item_answer, item_left, items_asked, parts_of}, declared.items.ItemParts.{ItemParts}}

-- the arguments of a call: octets, the bit of the recording at which the first of them is, and whether none come after them
pub record Given : Type 0 where
  pub octets : List ℕ
  pub begin : ℕ
  pub ended : Bool

-- they are a chunk of a recording, which goes to its end if none come after it
pub record IsPiece (recording : List ℕ) (given : Given) : Type 0 where
  pub before : List ℕ
  pub after : List ℕ
  pub whole : recording ≡ before ++ (given.octets ++ after)
  pub begins : given.begin ≡ 8 * length before
  pub ends : given.ended ≡ true → after ≡ []

-- the items that a call finds begin with an item
abbrev pub BeginsWith : Option (List Item) → Item → Type 0
BeginsWith None item = ⊥
BeginsWith (Some []) item = ⊥
BeginsWith (Some (first ∷ items)) item = first ≡ item

-- calls that are given chunks of a recording return some items: the first looks for one at a position, each other at the end of the
-- item before it
abbrev pub AreTold : List ℕ → ℕ → List Given → List Item → Type 0
AreTold recording from [] [] = Unit {0}
AreTold recording from [] (item ∷ items) = ⊥
AreTold recording from (given ∷ givens) [] = ⊥
AreTold recording from (given ∷ givens) (item ∷ items) =
    IsPiece recording given × BeginsWith (items_asked given.ended given.begin from given.octets) item × AreTold recording (from + covered item) givens items

-- the items that calls return from the first bit on are the first items of the recording, whatever chunks they are given
abbrev pub CallsTellTheFirst : Type 0
CallsTellTheFirst =
    (recording : List ℕ) (givens : List Given) (items : List Item) → AreTold recording 0 givens items
    → (rest : List Item) × (items_of 0 (octet_bits recording) ≡ items ++ rest)

-- if a call that is given the end of the recording then finds none, they are all
abbrev pub CallsTellAll : Type 0
CallsTellAll =
    (recording : List ℕ) (givens : List Given) (items : List Item) (last : Given) → AreTold recording 0 givens items
    → IsPiece recording last → last.ended ≡ true → items_asked true last.begin (sum_by covered items) last.octets ≡ Some []
    → items_of 0 (octet_bits recording) ≡ items

-- calls of p25_next_item that are given chunks of a recording return 1, and set numbers: the first looks for an item at a position, each
-- other at the bit at which, by the numbers that the one before it set, its item ends
abbrev pub AreSet : List ℕ → ℕ → List Given → List ItemParts → Type 0
AreSet recording from [] [] = Unit {0}
AreSet recording from [] (parts ∷ more) = ⊥
AreSet recording from (given ∷ givens) [] = ⊥
AreSet recording from (given ∷ givens) (parts ∷ more) =
    let asked = items_asked given.ended given.begin from given.octets in
    IsPiece recording given
    × (item_answer asked ≡ pos 1)
    × ((before : ItemParts) → item_left asked before ≡ parts)
    × AreSet recording (parts.place + parts.bits) givens more

-- the numbers that calls set from the first bit on are those of the first items of the recording, whatever chunks they are given
abbrev pub SetsAreItems : Type 0
SetsAreItems =
    (recording : List ℕ) (givens : List Given) (parts : List ItemParts) → AreSet recording 0 givens parts
    → (rest : List ItemParts) × (map parts_of (items_of 0 (octet_bits recording)) ≡ parts ++ rest)
