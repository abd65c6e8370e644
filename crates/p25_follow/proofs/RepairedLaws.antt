-- The output of a repair for a first item and after it; for a stretch it is the stretch's bits.
use Rattle.std.proofs.Common.{◌≡◌, ℕ, ◌+◌, ◌<◌, ◌≤◌, Bool, true, List, [], ◌∷◌, ◌++◌, length, take, drop, refl, arith, append_assoc}
use Rattle.p25_units.specs.{Items.{covered}, declared.item.Item.{Item}, declared.item.Item.TheVariants.{Whole, Broken, NoUnit, Gap, Cut}}
use Rattle.p25_stream.specs.{Items.{first_item, items_of}, Repeats.{repaired}}
use Rattle.p25_stream.proofs.{ItemsLaws.{items_by-more, items_by-nil}, WrittenLaws.{written-cons, written-nil}}
use Rattle.p25_follow.specs.{Followed.{is_rest}, Repaired.{repaired_from}}
use Rattle.p25_follow.proofs.SameUnitsLaws.{Ends, RestPlaces, along-stretch}

-- the first item, and the output after it
pub from-more : (at : ℕ) (bits : List Bool) (item : Item) (raw next : List Bool) → items_of at bits ≡ item ∷ items_of (at + covered item) next
    → take (covered item) bits ≡ raw → drop (covered item) bits ≡ next
    → repaired_from at bits ≡ repaired item raw ++ repaired_from (at + covered item) next
unfolding repaired_from
from-more at bits item raw next is own behind = rw (is, written-cons, own, behind)

pub from-first : (at : ℕ) (bits : List Bool) → 0 < length bits
    → repaired_from at bits ≡ repaired (first_item at bits) (take (covered (first_item at bits)) bits) ++ repaired_from (at + covered (first_item at bits)) (drop (covered (first_item at bits)) bits)
from-first at bits some =
    from-more at bits (first_item at bits) (take (covered (first_item at bits)) bits) (drop (covered (first_item at bits)) bits) (items_by-more true at bits some refl) refl refl

pub rest-plain : (item : Item) (raw : List Bool) → is_rest item ≡ true → repaired item raw ≡ raw
rest-plain (Whole place frame fixes) raw rest = absurd (cc)
rest-plain (Broken place count nac duid fields) raw rest = absurd (cc)
rest-plain (NoUnit place field) raw rest = refl
rest-plain (Gap place count) raw rest = refl
rest-plain (Cut place have) raw rest = absurd (cc)

-- its output for a stretch is the bits
pub stretch-repair : (at count : ℕ) (bits : List Bool) → count ≤ length bits → RestPlaces count bits → Ends count bits
    → repaired_from at bits ≡ take count bits ++ repaired_from (at + count) (drop count bits)
stretch-repair at count bits there rests ends =
    along-stretch (λ place taken left. taken ++ repaired_from place left ≡ take count bits ++ repaired_from (at + count) (drop count bits))
    (λ place taken left item is rest same.
    let raw = take (covered item) left in
    rw (from-more place left item raw (drop (covered item) left) is refl refl, rest-plain item raw rest, ← append_assoc taken raw) same)
    count at count [] bits (omega arith) there rests ends refl
