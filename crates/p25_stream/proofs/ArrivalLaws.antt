-- Data units end to end are whole, by induction on their list: each is decided by its own bits. A data unit after other bits is found there, by induction on
-- the number of those bits. The first item of them ends before it, or it is a data unit that covers its first bit.
use Rattle.std.proofs.Common.{◌≡◌, ℕ, zero, suc, ◌+◌, ◌<◌, ◌≤◌, ◌⊎◌, inl, inr, Bool, true, false, List, [], ◌∷◌, ◌++◌, length, drop, refl, ap, sym, ◌∙◌, arith, append_assoc, append-nil, length-append, length-drop, sum_by}
use Rattle.std.proofs.{lemmas.Bool.{cases_lt}, Math.Nat.{add-zero}, lemmas.List.{drop-append-le, drop_all, drop_at}, lemmas.List.Elements.{All-head, All-tail}, lemmas.List.Sums.{sum_by-cons}}
use Rattle.p25_status.specs.Sync.{has_sync}
use Rattle.p25_status.proofs.SyncLaws.{has_sync-append, has_sync-length}
use Rattle.p25_units.specs.{Items.{covered}, Units.{IsSendableUnit, IsSoundFrame}, declared.item.Item.{Item}, declared.item.Item.TheVariants.{NoUnit, Gap}}
use Rattle.p25_units.proofs.WithinRadiusLaws.{has_sync-near}
use Rattle.p25_stream.specs.Arrivals.{Arrival, IsFound, IsHidden, IsNearArrival, IsUnitItem, UnitIsFound, UnitsAreWhole, bits_arrived, frame_arrived, whole_of, wholes_of}
use Rattle.p25_stream.specs.Items.{first_item, is_decided, items_by, items_of}
use Rattle.p25_stream.proofs.{ItemLaws.{near-whole, whole-within}, ItemsLaws.{covered-first_item, gap-first, items_by-decided, items_by-more, place_of-first_item}, SyncPlaceLaws.{has_sync-before}}

pub wholes_of-nil : (place : ℕ) → wholes_of place [] ≡ []
unfolding wholes_of
wholes_of-nil place = refl

pub wholes_of-cons : (place : ℕ) (arrival : Arrival) (arrivals : List Arrival) → wholes_of place (arrival ∷ arrivals) ≡ whole_of place arrival ∷ wholes_of (place + length arrival.bits) arrivals
unfolding wholes_of
wholes_of-cons place arrival arrivals = refl

-- a data unit alone: its item is decided by its bits, and covers them
module _ (at : ℕ) (arrival : Arrival) (is : IsNearArrival arrival) where
  alone : (first_item at arrival.bits ≡ whole_of at arrival) × (is_decided arrival.bits ≡ true) × (covered (first_item at arrival.bits) ≡ length arrival.bits)
  alone = rw append-nil at (near-whole at arrival.frame arrival.bits [] is.sound is.sendable is.near)

  pub covered-whole_of : covered (whole_of at arrival) ≡ length arrival.bits
  covered-whole_of = ap covered (sym alone.0) ∙ alone.2

  -- and its decoding is sound and sendable
  pub frame_arrived-sound : IsSoundFrame (frame_arrived arrival) × IsSendableUnit (frame_arrived arrival).unit
  frame_arrived-sound =
      let read = whole-within at arrival.bits at (frame_arrived arrival) _ alone.0 in
      (read.sound, read.sendable)

  -- if bits begin with it, it is the first of the items, and those of the bits after it follow
  pub items_by-arrival : (ended : Bool) (more : List Bool) → items_by ended at (arrival.bits ++ more) ≡ whole_of at arrival ∷ items_by ended (at + length arrival.bits) more
  items_by-arrival ended more = rw (items_by-decided ended at arrival.bits more alone.1, alone.2, alone.0, drop_all (length arrival.bits) arrival.bits (omega arith))

-- data units end to end
pub units-whole : UnitsAreWhole
units-whole ended at [] more near =
    rw (wholes_of-nil, add-zero)
units-whole ended at (arrival ∷ arrivals) more near =
    let bits = arrival.bits in
    let later = bits_arrived arrivals in
    let place : at + length bits + length later ≡ at + length (bits ++ later) = omega (arith, length-append bits later) in
    rw (
      append_assoc bits later more,
      items_by-arrival at arrival (All-head IsNearArrival arrival arrivals near) ended (later ++ more),
      units-whole ended (at + length bits) arrivals more (All-tail IsNearArrival arrival arrivals near),
      place,
      wholes_of-cons,
    )

-- among the items of some bits are those of the bits from a position on, and the items before these end there
pub record IsReached (at place : ℕ) (rest : List Bool) (items : List Item) : Type 0 where
  pub before : List Item
  pub among : items ≡ before ++ items_of place rest
  pub ends : at + sum_by covered before ≡ place

-- a position with a sync, after other bits
module _ (place : ℕ) (rest : List Bool) (synced : has_sync rest ≡ true) where
  -- the same for the items of bits that have one item more before them
  later : (at : ℕ) (item : Item) (items : List Item) → IsHidden place items ⊎ IsReached (at + covered item) place rest items
      → IsHidden place (item ∷ items) ⊎ IsReached at place rest (item ∷ items)
  later at item items (inl hidden) =
      inl (record {
        before = item ∷ hidden.before;
        item = hidden.item;
        after = hidden.after;
        among = rw hidden.among;
        unit = hidden.unit;
        begins = hidden.begins;
        covers = hidden.covers;
      })
  later at item items (inr reached) =
      inr (record {
        before = item ∷ reached.before;
        among = rw reached.among;
        ends = omega (arith, sum_by-cons covered item reached.before, reached.ends);
      })

  -- a first item that reaches past the position is a data unit
  module _ (at : ℕ) (bits : List Bool) (some : 0 < length bits) where
    no_gap : (start count : ℕ) → Gap start count ≡ first_item at (bits ++ rest) → length bits < count → ⊥
    no_gap start count same far =
        let gap = gap-first at (bits ++ rest) start count same in
        let behind : drop (length bits) (bits ++ rest) ≡ rest = drop_at bits rest (length bits) refl in
        let unseen = rw behind at (has_sync-before (bits ++ rest) (length bits) (omega (arith, gap.1))) in
        let both : true ≡ false = sym synced ∙ unseen in
        absurd (cc)

    reaching : (item : Item) → item ≡ first_item at (bits ++ rest) → length bits < covered item → IsUnitItem item
    reaching (NoUnit start field) same far = absurd (omega arith)
    reaching (Gap start count) same far = no_gap start count same far
    reaching item same far = tt

  walk : (turns at : ℕ) (bits : List Bool) → length bits ≤ turns → place ≡ at + length bits
      → IsHidden place (items_of at (bits ++ rest)) ⊎ IsReached at place rest (items_of at (bits ++ rest))
  walk turns at [] few here =
      let same : at ≡ place = omega arith in
      inr (record { before = []; among = rw same; ends = omega arith })
  walk zero at (bit ∷ bits) few here = absurd (omega arith)
  walk (suc turns) at (bit ∷ bits) few here =
      let front = bit ∷ bits in
      let all = front ++ rest in
      let item = first_item at all in
      let count = covered item in
      let some : 0 < length all = omega (arith, length-append front rest) in
      let fits = covered-first_item at all some in
      let unfolds : items_of at all ≡ item ∷ items_of (at + count) (drop count all) = items_by-more true at all some refl in
      elim (cases_lt (length front) count) [
        | inl far ↦ inl (record {
          before = [];
          item = item;
          after = items_of (at + count) (drop count all);
          among = unfolds;
          unit = reaching at front (omega arith) item refl far;
          begins = omega (arith, place_of-first_item at all);
          covers = omega (arith, place_of-first_item at all);
        })
        | inr near ↦
            let left = drop count front in
            let behind : drop count all ≡ left ++ rest = drop-append-le count front rest near in
            let less : length left ≤ turns = omega (arith, length-drop count front, fits.0) in
            let place_is : place ≡ at + count + length left = omega (arith, length-drop count front) in
            rw (unfolds, behind)
            (later at item (items_of (at + count) (left ++ rest)) (walk turns (at + count) left less place_is))
      ]

  pub reached-after : (at : ℕ) (bits : List Bool) → place ≡ at + length bits
      → IsHidden place (items_of at (bits ++ rest)) ⊎ IsReached at place rest (items_of at (bits ++ rest))
  reached-after at bits = walk (length bits) at bits (omega arith)

found : (at place : ℕ) (arrival : Arrival) (more : List Bool) (items : List Item) → IsNearArrival arrival
    → IsHidden place items ⊎ IsReached at place (arrival.bits ++ more) items → IsHidden place items ⊎ IsFound at place arrival more items
found at place arrival more items is (inl hidden) = inl hidden
found at place arrival more items is (inr reached) =
    inr (record {
      before = reached.before;
      among = rw (reached.among, items_by-arrival place arrival is true more);
      ends = reached.ends;
    })

pub unit-found : UnitIsFound
unit-found at bits arrival more is =
    let sync : has_sync arrival.bits ≡ true = has_sync-near arrival.frame is.sound is.sendable arrival.bits is.near in
    let synced : has_sync (arrival.bits ++ more) ≡ true = has_sync-append arrival.bits more (has_sync-length arrival.bits sync) ∙ sync in
    found at (at + length bits) arrival more _ is (reached-after (at + length bits) (arrival.bits ++ more) synced at bits refl)
