-- The output for items: those that come first are written first, and if the output for each has as many bits as it covers, it is at its position. By induction
-- on the first items.
use Rattle.std.proofs.Common.{◌≡◌, ℕ, ◌+◌, ◌≤◌, Bool, true, List, [], ◌∷◌, ◌++◌, length, take, drop, refl, sym, ap, ◌∙◌, arith, append_assoc, append-nil, length-append, length-drop}
use Rattle.std.proofs.{lemmas.List.{drop-drop, length-take-le}, lemmas.List.Sums.{sum_by-cons}}
use Rattle.std.specs.List.{sum_by}
use Rattle.p25_bits.specs.Bits.{part}
use Rattle.p25_bits.proofs.PartLaws.{part_joined}
use Rattle.p25_units.specs.{Items.{covered}, declared.item.Item.{Item}, declared.item.Item.TheVariants.{Whole}}
use Rattle.p25_units.proofs.UnitsLaws.{length-image_of}
use Rattle.p25_stream.specs.{Items.{first_item, items_by, items_of}, Repeats.{repaired}, Written.{written}}
use Rattle.p25_stream.proofs.{ItemLaws.{covered-items_of, item-among, whole-within}, ItemsLaws.{items_by-first}}

pub written-nil : {X : Type 0} (write : Item → List Bool → List X) (bits : List Bool) → written write [] bits ≡ []
unfolding written
written-nil write bits = refl

pub written-cons : {X : Type 0} (write : Item → List Bool → List X) (item : Item) (items : List Item) (bits : List Bool)
    → written write (item ∷ items) bits ≡ write item (take (covered item) bits) ++ written write items (drop (covered item) bits)
unfolding written
written-cons write item items bits = refl

pub written-append : {X : Type 0} (write : Item → List Bool → List X) (before items : List Item) (bits : List Bool)
    → written write (before ++ items) bits ≡ written write before bits ++ written write items (drop (sum_by covered before) bits)
unfolding written
written-append write [] items bits = refl
written-append write (item ∷ before) items bits = rw (written-append write before items (drop (covered item) bits), append_assoc, drop-drop, sum_by-cons)

-- the bits of the first items are there
pub items-there : (before items : List Item) (ended : Bool) (at : ℕ) (bits : List Bool) → items_by ended at bits ≡ before ++ items → sum_by covered before ≤ length bits
items-there [] items ended at bits is = omega arith
items-there (item ∷ before) items ended at bits is =
    let first = items_by-first ended at bits item (before ++ items) is in
    omega (arith, sum_by-cons covered item before, items-there before items ended (at + covered item) (drop (covered item) bits) (sym first.2), length-drop (covered item) bits)

-- the output for each item has as many bits as it covers
module _ (write : Item → List Bool → List Bool)
    (keeps : (at : ℕ) (bits : List Bool) (item : Item) → first_item at bits ≡ item → covered item ≤ length bits → length (write item (take (covered item) bits)) ≡ covered item) where
  pub written-long : (before items : List Item) (ended : Bool) (at : ℕ) (bits : List Bool) → items_by ended at bits ≡ before ++ items
      → length (written write before bits) ≡ sum_by covered before
  written-long [] items ended at bits is = ap length (written-nil write bits)
  written-long (item ∷ before) items ended at bits is =
      let first = items_by-first ended at bits item (before ++ items) is in
      let later = written-long before items ended (at + covered item) (drop (covered item) bits) (sym first.2) in
      rw (written-cons, length-append, later, keeps at bits item (sym first.1) first.4, sum_by-cons)

  pub written-all : (at : ℕ) (bits : List Bool) → length (written write (items_of at bits) bits) ≡ length bits
  written-all at bits = written-long (items_of at bits) [] true at bits (sym (append-nil (items_of at bits))) ∙ covered-items_of at bits

  pub part-written : (ended : Bool) (at : ℕ) (bits : List Bool) (before : List Item) (item : Item) (after : List Item) → items_by ended at bits ≡ before ++ item ∷ after
      → part (sum_by covered before) (covered item) (written write (items_by ended at bits) bits) ≡ write item (part (sum_by covered before) (covered item) bits)
  part-written ended at bits before item after is =
      let count = sum_by covered before in
      let left = drop count bits in
      let there = item-among ended at bits before item after is in
      rw (is, written-append, written-cons)
      (part_joined count (covered item) (written write before bits) (write item (take (covered item) left)) (written write after (drop (covered item) left))
      (written-long before (item ∷ after) ended at bits is) (keeps (at + count) left item (sym there.1) there.4))

-- a repair is so
pub repaired-keeps : (at : ℕ) (bits : List Bool) (item : Item) → first_item at bits ≡ item → covered item ≤ length bits → length (repaired item (take (covered item) bits)) ≡ covered item
repaired-keeps at bits (Whole place frame fixes) is fits = let read = whole-within at bits place frame fixes is in length-image_of frame read.sound read.sendable
repaired-keeps at bits item is fits = length-take-le (covered item) bits fits
