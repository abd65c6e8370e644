-- The laws of items: an item among others is the first of the bits that those before it leave, and a step of the walk gives the rest.
use Rattle.std.proofs.Common.{◌≡◌, ℕ, zero, suc, ◌+◌, ◌<◌, ◌≤◌, inl, inr, Bool, true, List, [], ◌∷◌, ◌++◌, length, take, drop, refl, ap, sym, ◌∙◌, subst, add_assoc, arith, length-drop}
use Rattle.std.proofs.{lemmas.Bool.{cases_lt}, lemmas.List.{drop-drop, take-append-le}, Math.Nat.{add-zero}, Math.Seq.{take-length}, lemmas.List.Sums.{sum_by-cons}}
use Rattle.std.specs.List.{sum_by}
use Rattle.p25_status.proofs.SyncLaws.{has_sync-append, has_sync-length}
use Rattle.p25_units.specs.{Fixes.{fixes_of}, Items.{covered, place_of, IsSoundItem, unit_item_of}, Units.{frame_length_of, image_of}, WholeLaws.{IsWholeOf}, declared.item.Item.{Item}}
use Rattle.p25_units.specs.{declared.frame.Frame.{Frame}, declared.item.Item.TheVariants.{Whole, Gap}, declared.needs.Need.TheVariants.{Length}}
use Rattle.p25_units.proofs.{ItemsLaws.{covered-unit_item_of}, FixesLaws.{fixes_of-image_of}, WholeLaws.{whole-near}}
use Rattle.p25_units.proofs.WithinRadiusLaws.{has_sync-near, need_of-near, unit_item_of-near, IsWithinRadius-image_of, received-image_of}
use Rattle.p25_stream.specs.{Items.{sync_place, first_item, items_by, items_of}, ItemLaws.{NearIsWhole, WholeIsRead, ImageIsWhole}}
use Rattle.p25_stream.proofs.SyncPlaceLaws.{sync_place-left, sync_place-unsynced}
use Rattle.p25_stream.proofs.ItemsLaws.{covered-first_item, place_of-first_item, IsSoundItem-first_item, first_item-cases, gap-first, items_by-nil, items_by-more, items_by-first, first_item-synced, is_decided-synced}

-- items among others are those of the bits that the items before them leave
pub items_by-among : (before items : List Item) (ended : Bool) (at : ℕ) (bits : List Bool) → items_by ended at bits ≡ before ++ items
    → items_by ended (at + sum_by covered before) (drop (sum_by covered before) bits) ≡ items
items_by-among [] items ended at bits is = rw add-zero is
items_by-among (first ∷ before) items ended at bits is =
    let parts = items_by-first ended at bits first (before ++ items) is in
    rw sum_by-cons (rw (add_assoc, drop-drop) at (items_by-among before items ended (at + covered first) (drop (covered first) bits) (sym parts.2)))

-- an item among the items of some bits is the first of those that are left, and its bits are there
module _ (ended : Bool) (at : ℕ) (bits : List Bool) (before : List Item) (item : Item) (after : List Item) (is : items_by ended at bits ≡ before ++ item ∷ after) where
  pub item-among : (0 < length (drop (sum_by covered before) bits)) × (item ≡ first_item (at + sum_by covered before) (drop (sum_by covered before) bits))
      × (after ≡ items_by ended (at + sum_by covered before + covered item) (drop (covered item) (drop (sum_by covered before) bits)))
      × (0 < covered item) × (covered item ≤ length (drop (sum_by covered before) bits))
  item-among = items_by-first ended (at + sum_by covered before) (drop (sum_by covered before) bits) item after (items_by-among before (item ∷ after) ended at bits is)

  pub item-covers : (0 < covered item) × (place_of item ≡ at + sum_by covered before)
  item-covers = (item-among.3, ap place_of item-among.1 ∙ place_of-first_item (at + sum_by covered before) (drop (sum_by covered before) bits))

  pub item-sound : IsSoundItem item
  item-sound = rw item-among.1 (IsSoundItem-first_item (at + sum_by covered before) (drop (sum_by covered before) bits))

-- the items of ended bits cover them
covered-items : (turns at : ℕ) (bits : List Bool) → length bits ≤ turns → sum_by covered (items_of at bits) ≡ length bits
covered-items turns at [] few = ap (sum_by covered) (items_by-nil true at)
covered-items zero at (bit ∷ bits) few = absurd (omega arith)
covered-items (suc turns) at (bit ∷ bits) few =
    let all = bit ∷ bits in
    let item = first_item at all in
    let left = drop (covered item) all in
    let fits = covered-first_item at all (omega arith) in
    let less : length left ≤ turns = omega (arith, length-drop (covered item) all) in
    ap (sum_by covered) (items_by-more true at all (omega arith) refl)
    ∙ sum_by-cons covered item (items_of (at + covered item) left)
    ∙ ap (λ n. covered item + n) (covered-items turns (at + covered item) left less)
    ∙ omega (arith, length-drop (covered item) all)

pub covered-items_of : (at : ℕ) (bits : List Bool) → sum_by covered (items_of at bits) ≡ length bits
covered-items_of at bits = covered-items (length bits) at bits (omega arith)

pub gaps_short : (ended : Bool) (at : ℕ) (bits : List Bool) (before : List Item) (place count : ℕ) (after : List Item) → items_by ended at bits ≡ before ++ Gap place count ∷ after → count ≤ 4096
gaps_short ended at bits before place count after is =
    let there = item-among ended at bits before (Gap place count) after is in
    omega (arith, (gap-first (at + sum_by covered before) (drop (sum_by covered before) bits) place count there.1).1)

pub gaps_full : (ended : Bool) (at : ℕ) (bits : List Bool) (before : List Item) (place count next_place next_count : ℕ) (after : List Item)
    → items_by ended at bits ≡ before ++ Gap place count ∷ Gap next_place next_count ∷ after
    → count ≡ 4096
gaps_full ended at bits before place count next_place next_count after is =
    let from = at + sum_by covered before in
    let rest = drop (sum_by covered before) bits in
    let there = item-among ended at bits before (Gap place count) (Gap next_place next_count ∷ after) is in
    let first = gap-first from rest place count there.1 in
    let behind = items_by-first ended (from + count) (drop count rest) (Gap next_place next_count) after (sym there.2) in
    let next = gap-first (from + count) (drop count rest) next_place next_count behind.1 in
    let some = sync_place-unsynced (drop count rest) behind.0 next.0 in
    elim (cases_lt (sync_place rest) 4096) [
      | inl short ↦
          let whole : count ≡ sync_place rest = omega (arith, first.1) in
          absurd (omega (arith, some, ap (λ n. sync_place (drop n rest)) whole, sync_place-left rest))
      | inr long ↦ omega (arith, first.1)
    ]

-- a data unit with few bit errors is the first item of bits that begin with it
pub near-whole : NearIsWhole
near-whole at frame sent more sound sendable near =
    let all = sent ++ more in
    let here = has_sync-near frame sound sendable sent near in
    let synced = has_sync-append sent more (has_sync-length sent here) ∙ here in
    let need = need_of-near frame sent more sound sendable near in
    let front = take-append-le (length sent) sent more (omega arith) in
    let first = first_item-synced at all (Length (length sent)) synced need in (
      first ∙ ap (unit_item_of at) (front ∙ take-length sent) ∙ unit_item_of-near at frame sent sound sendable near,
      is_decided-synced all (Length (length sent)) synced need,
      ap covered first ∙ covered-unit_item_of at all (length sent) need,
    )

-- a first item that is whole is the item of a data unit, so its bits decode to its frame
pub whole-within : WholeIsRead
whole-within at bits place frame fixes first =
    first_item-cases (λ item. item ≡ Whole place frame fixes → IsWholeOf at (take (frame_length_of frame.unit) bits) place frame fixes) at bits
    (λ no' e. absurd (cc))
    (λ count yes' is e. absurd (cc))
    (λ count yes' is e.
    let covers : frame_length_of frame.unit ≡ count = sym (ap covered e) ∙ covered-unit_item_of at bits count is in
    subst (λ n. IsWholeOf at (take n bits) place frame fixes) (sym covers) (whole-near at bits count place frame fixes yes' is e))
    (λ field yes' is e. absurd (cc))
    first

-- an undamaged image is the frame itself, with no fixes
pub image-whole : ImageIsWhole
image-whole at frame more sound sendable =
    let image = image_of frame in
    (near-whole at frame image more sound sendable (IsWithinRadius-image_of frame sound sendable)).0
    ∙ ap (λ (f : Frame). Whole at f (fixes_of f image)) (received-image_of frame sound sendable)
    ∙ ap (Whole at frame) (fixes_of-image_of frame sound sendable)
