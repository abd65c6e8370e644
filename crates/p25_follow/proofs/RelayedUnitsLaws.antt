-- If nothing begins in the output for the stretches, the scan finds in the output the data units of the recording, one by one. By induction on the
-- items: a data unit is found at its position, and over a stretch the scan comes to the position after it.
use Rattle.std.proofs.Common.{◌≡◌, ℕ, ◌+◌, ◌<◌, ◌≤◌, inl, inr, Bool, true, false, List, [], ◌∷◌, ◌++◌, length, take, drop, map, Option, Some, None, Result, Ok, Err, refl, sym, ap, ap₂, ◌∙◌, arith, append_assoc, append-nil, length-append}
use Rattle.std.proofs.{Math.Nat.{add-zero}, Math.Seq.{take-length}, lemmas.Bool.{and_from, cases_Bool, cases_lt, cond-false}, lemmas.List.{drop-drop, drop_all, drop_at}, lemmas.List.Sums.{sum_by_push}}
use Rattle.p25_status.specs.{declared.fields.Field.{Field}, declared.symbols.Status.{Status}}
use Rattle.p25_unit_front.specs.Front.{identifier_of}
use Rattle.p25_units.specs.{Items.{covered, identified_item, item_from, unit_item_of}, Readings.{reading_from}, Units.{frame_length_of}, declared.frame.Frame.{Frame}, declared.item.Item.{Item}}
use Rattle.p25_units.specs.declared.item.Item.TheVariants.{Whole, Broken, NoUnit, Gap, Cut}
use Rattle.p25_stream.specs.{Items.{first_item, items_of}, Written.{written}}
use Rattle.p25_stream.proofs.{ItemLaws.{covered-items_of, item-among}, ItemsLaws.{first_item-cases, items_by-more, items_by-nil}, WrittenLaws.{written-append, written-cons, written-long, written-nil}}
use Rattle.p25_follow.specs.{Followed.{is_rest}, Relayed.{relay_of, relayed, relayed_item}, RelayLaws.{NothingBeginsInStretches, RelaySameUnits}, StretchLaws.{all_rest, begins_rest, bits_in, units_among}}
use Rattle.p25_follow.proofs.{RelayedLaws.{item-found, item-long}, RelayedPlacesLaws.{relay-long}, SameUnitsLaws.{Ends, RestPlaces, among-rest, ends-before, rest-at, same-units, stretch-from, true-false}}

-- ---- over positions at which no data unit begins the scan comes to the data units after them

-- the items of a stretch that some items begin with, and those after it
record IsSpan (items : List Item) : Type 0 where
  stretch : List Item
  after : List Item
  joined : items ≡ stretch ++ after
  all : all_rest stretch ≡ true
  ends : begins_rest after ≡ false

spanned : (items : List Item) → IsSpan items
unfolding all_rest
spanned [] = record { stretch = []; after = []; joined = refl; all = refl; ends = refl }
spanned (item ∷ items) =
    elim (cases_Bool (is_rest item)) [
      | inl rest ↦
          let later = spanned items in
          record {
            stretch = item ∷ later.stretch;
            after = later.after;
            joined = ap (λ (is : List Item). item ∷ is) later.joined;
            all = and_from (is_rest item) (all_rest later.stretch) rest later.all;
            ends = later.ends;
          }
      | inr unit ↦ record { stretch = []; after = item ∷ items; joined = refl; all = refl; ends = unit }
    ]

no_end : (count n : ℕ) (bits : List Bool) → count < n → n ≤ length bits → RestPlaces n bits → Ends count bits → ⊥
no_end count n bits less there rests (inl all) = omega arith
no_end count n bits less there rests (inr unit) = true-false (is_rest (first_item 0 (drop count bits))) (rests count less) unit

skipped : (at n : ℕ) (bits : List Bool) → n ≤ length bits → RestPlaces n bits → units_among (items_of at bits) ≡ units_among (items_of (at + n) (drop n bits))
skipped at n bits there rests =
    let span = spanned (items_of at bits) in
    let count = bits_in span.stretch in
    let whole = stretch-from at bits span.stretch span.after span.joined span.all in
    let within : n ≤ count
    = elim (cases_lt count n) [
      | inl less ↦ absurd (no_end count n bits less there rests (ends-before at count bits span.after whole.there whole.left span.ends))
      | inr more ↦ more
    ] in
    ap (λ (p : ℕ). units_among (items_of p bits)) (sym (add-zero at))
    ∙ same-units at 0 bits span.stretch span.after span.joined span.all span.ends (omega arith)
    ∙ sym (same-units at n bits span.stretch span.after span.joined span.all span.ends within)

-- ---- a data unit that is cut covers all bits

from-uncut : (at : ℕ) (nid : ℕ × ℕ) (sent : List Bool) (place have : ℕ) (reading : Result Frame (List Field)) → item_from at nid sent reading ≡ Cut place have → ⊥
from-uncut at nid sent place have (Ok frame) is = cc is
from-uncut at nid sent place have (Err fields) is = cc is

identified-uncut : (at : ℕ) (sent : List Bool) (place have : ℕ) (read : Option (ℕ × ℕ)) → identified_item at sent read ≡ Cut place have → ⊥
identified-uncut at sent place have None is = cc is
identified-uncut at sent place have (Some nid) is = from-uncut at nid sent place have (reading_from (Some nid) sent) is

unit-uncut : (at : ℕ) (sent : List Bool) (place have : ℕ) → unit_item_of at sent ≡ Cut place have → ⊥
unfolding unit_item_of
unit-uncut at sent place have is = identified-uncut at sent place have (identifier_of sent) is

cut-all : (at : ℕ) (bits : List Bool) (place have : ℕ) → first_item at bits ≡ Cut place have → have ≡ length bits
cut-all at bits place have =
    first_item-cases (λ item. item ≡ Cut place have → have ≡ length bits) at bits
    (λ no' is. absurd (cc is))
    (λ count yes' need is. let same : length bits ≡ have = cc is in sym same)
    (λ count yes' need is. absurd (unit-uncut at (take count bits) place have is))
    (λ field yes' need is. absurd (cc is))

-- ---- a data unit, and its output
module _ (nac : ℕ) (status : Status) (nac_fits : nac < 4096) where
  covered-relayed : (item : Item) → covered (relayed_item nac status item) ≡ covered item
  unfolding frame_length_of
  covered-relayed (Whole place frame fixes) = refl
  covered-relayed item = refl

  unit-relayed : (item : Item) → is_rest item ≡ false → is_rest (relayed_item nac status item) ≡ false
  unit-relayed (Whole place frame fixes) unit = refl
  unit-relayed (Broken place count ours duid fields) unit = refl
  unit-relayed (NoUnit place field) unit = absurd (cc unit)
  unit-relayed (Gap place count) unit = absurd (cc unit)
  unit-relayed (Cut place have) unit = refl

  cut-first : (at place have : ℕ) (bits : List Bool) (items : List Item) → first_item at bits ≡ Cut place have → items ≡ items_of (at + have) (drop have bits)
      → first_item at (relayed nac status (Cut place have) (take have bits) ++ written (relayed nac status) items (drop have bits)) ≡ Cut place have
  cut-first at place have bits items is behind =
      let all : have ≡ length bits = cut-all at bits place have is in
      let none : drop have bits ≡ [] = drop_all have bits (omega arith) in
      let no_items : items ≡ [] = behind ∙ ap (items_of (at + have)) none ∙ items_by-nil true (at + have) in
      let same : take have bits ≡ bits = ap (λ (n : ℕ). take n bits) all ∙ take-length bits in
      ap (first_item at)
      (ap₂ (λ (xs ys : List Bool). xs ++ ys) same (ap (λ (is : List Item). written (relayed nac status) is (drop have bits)) no_items ∙ written-nil (relayed nac status) (drop have bits))
      ∙ append-nil bits)
      ∙ is

  -- a data unit, whole, broken or cut, is the first item of the output from its position on
  unit-first : (at : ℕ) (bits : List Bool) (item : Item) (items : List Item) → first_item at bits ≡ item → is_rest item ≡ false → items ≡ items_of (at + covered item) (drop (covered item) bits)
      → first_item at (relayed nac status item (take (covered item) bits) ++ written (relayed nac status) items (drop (covered item) bits)) ≡ relayed_item nac status item
  unit-first at bits (Whole place frame fixes) items is unit behind =
      item-found nac status nac_fits at bits (written (relayed nac status) items (drop (frame_length_of frame.unit) bits)) _ (Whole place frame fixes) is refl
  unit-first at bits (Broken place count ours duid fields) items is unit behind =
      item-found nac status nac_fits at bits (written (relayed nac status) items (drop count bits)) _ (Broken place count ours duid fields) is refl
  unit-first at bits (NoUnit place field) items is unit behind = absurd (cc unit)
  unit-first at bits (Gap place count) items is unit behind = absurd (cc unit)
  unit-first at bits (Cut place have) items is unit behind = cut-first at place have bits items is behind

  among-unit : (item : Item) (items : List Item) → is_rest item ≡ false → units_among (item ∷ items) ≡ item ∷ units_among items
  unfolding units_among
  among-unit item items unit = cond-false (is_rest item) (units_among items) (item ∷ units_among items) unit

  -- ---- one item at a time, after those before it
  module _ (bits : List Bool) (quiet : NothingBeginsInStretches nac status bits) where
    same-behind : (before items : List Item) → items_of 0 bits ≡ before ++ items
        → units_among (items_of (bits_in before) (drop (bits_in before) (relay_of nac status bits))) ≡ map (relayed_item nac status) (units_among items)
    unfolding units_among
    same-behind before [] is =
        let all : bits_in before ≡ length bits = rw (is, append-nil) at (covered-items_of 0 bits) in
        rw (drop_all (bits_in before) (relay_of nac status bits) (omega (arith, relay-long nac status bits nac_fits)), items_by-nil)
    same-behind before (item ∷ items) is =
        let write = relayed nac status in
        let place = bits_in before in
        let count = covered item in
        let left = drop place bits in
        let out = drop place (relay_of nac status bits) in
        let there = item-among true 0 bits before item items is in
        let zero : 0 + place ≡ place = omega arith in
        let first : first_item place left ≡ item = cc in
        let keeps = item-long nac status nac_fits in
        let own = write item (take count left) in
        let more = written write items (drop count left) in
        let split : out ≡ own ++ more
        = rw (is, written-append, written-cons) (drop_at (written write before bits) (own ++ more) place (written-long write keeps before (item ∷ items) true 0 bits is)) in
        let long : length own ≡ count = keeps place left item first there.4 in
        let moved : bits_in (before ++ item ∷ []) ≡ place + count = sum_by_push covered before item in
        let later = rw (moved, ← drop-drop) at (same-behind (before ++ item ∷ []) items (is ∙ sym (append_assoc before (item ∷ []) items))) in
        elim (cases_Bool (is_rest item)) [
          | inl rest ↦
              rw (among-rest item items rest) (skipped place count out (omega (arith, ap length split, length-append own more)) (λ p within. rest-at (place + p) 0 (drop p out)
              (rw drop-drop (quiet before item items p is rest within))) ∙ later)
          | inr unit ↦
              let found : first_item place out ≡ relayed_item nac status item = rw split (unit-first place left item items first unit (rw zero at there.2)) in
              rw (
                among-unit item items unit,
                items_by-more true place out (omega (arith, ap length split, length-append own more)) refl,
                found,
                covered-relayed item,
                unit-relayed item unit,
                later,
              )
        ]

pub relay-same : RelaySameUnits
relay-same nac status bits nac_fits quiet = same-behind nac status nac_fits bits quiet [] (items_of 0 bits) refl
