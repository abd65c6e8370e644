-- Levels of which a scanner holds the bits of whole groups: what it holds, and what it holds after an item, when levels before that are dropped.
use Rattle.std.proofs.Common.{◌≡◌, ℕ, ◌+◌, ◌*◌, ◌%◌, ◌≤◌, Bool, true, false, List, [], ◌∷◌, ◌++◌, length, take, drop, refl, sym, ◌∙◌, ap, arith, append_assoc, append-nil, length-append, length-drop, ℤ}
use Rattle.std.proofs.lemmas.List.{take-append-drop, take-append-le, drop-append-le, drop-drop, length-take-le, drop_at}
use Rattle.p25_units.specs.{declared.item.Item.{Item}, Items.{covered, place_of}}
use Rattle.p25_stream.specs.{Items.{first_item, items_by}, ItemLaws.{GaveItems}, Scan.{Scan, Gave, given}}
use Rattle.p25_stream.proofs.ItemsLaws.{items_by-first, place_of-first_item}
use Rattle.p25_soft.specs.Levels.{hard_bits}
use Rattle.p25_soft.proofs.HardBitsLaws.{hard_bits-append, hard_bits-drop, hard_bits-none, length-hard_bits}
use Rattle.p25_recording_filters.specs.{SoftLevels.{grouped, scanned}, Softs.{IsHoldingAfter}}
use Rattle.p25_recording_filters.proofs.SoftLevelsLaws.{filled-whole, length-grouped, scanned-append, scanned-split, ungrouped, ungrouped-none}

-- an item that was given begins at the position of the scanner
pub place-given : (scan next : Scan) (item : Item) (raw : List Bool) → Gave scan item raw next → (place_of item ≡ scan.place) × (item ≡ first_item scan.place scan.held)
place-given scan next item raw gave =
    let parts = items_by-first scan.finished scan.place scan.held item (given next) gave.items in
    (ap place_of parts.1 ∙ place_of-first_item scan.place scan.held, parts.1)

-- the bits that are held, and those of levels that come
pub held-bits : (ended : Bool) (ahead : ℕ) (scan : Scan) (levels new : List ℤ) → IsHoldingAfter ahead scan levels
    → drop ahead (hard_bits (scanned ended (levels ++ new))) ≡ scan.held ++ hard_bits (scanned ended (ungrouped levels ++ new))
held-bits ended ahead scan levels new holding =
    let rest = scanned ended (ungrouped levels ++ new) in
    let there : ahead ≤ length (hard_bits (grouped levels)) = omega (arith, holding.placed, length-hard_bits (grouped levels)) in
    rw (scanned-split ended levels new, hard_bits-append (grouped levels) rest, drop-append-le ahead (hard_bits (grouped levels)) (hard_bits rest) there, holding.held)

-- how many bits are held
pub length-held : (ahead : ℕ) (scan : Scan) (levels : List ℤ) → IsHoldingAfter ahead scan levels → ahead + length scan.held ≡ 2 * length (grouped levels)
length-held ahead scan levels holding =
    omega (arith, ap length holding.held, length-drop ahead (hard_bits (grouped levels)), length-hard_bits (grouped levels), holding.placed)

-- an item is given, and levels go: those of whole groups before the bits that are needed
module _ (ahead later gone : ℕ) (scan next : Scan) (levels : List ℤ) (item : Item) (raw : List Bool) (holding : IsHoldingAfter ahead scan levels) (gave : Gave scan item raw next)
    (moves : 2 * gone + later ≡ ahead + covered item) (groups : gone % 4 ≡ 0) where
  pub gone-le : gone ≤ length (grouped levels)
  gone-le = omega (arith, moves, gave.there, length-held ahead scan levels holding)

  pub gone-among : gone ≤ length levels
  gone-among = omega (arith, gone-le, length-grouped levels)

  -- what is scanned, without the levels that are gone
  pub scanned-gone : (ended : Bool) (new : List ℤ) → drop gone (scanned ended (levels ++ new)) ≡ scanned ended (drop gone levels ++ new)
  scanned-gone ended new =
      let front = take gone levels in
      let long : length front ≡ gone = length-take-le gone levels gone-among in
      let whole : length front % 4 ≡ 0 = omega (arith, long, groups) in
      let split : levels ++ new ≡ front ++ (drop gone levels ++ new) = rw (← append_assoc front, take-append-drop) in
      rw (split, scanned-append ended front (drop gone levels ++ new) whole, drop_at front (scanned ended (drop gone levels ++ new)) gone long)

  -- and its bits after the item
  pub bits-gone : (ended : Bool) (new : List ℤ) → drop later (hard_bits (scanned ended (drop gone levels ++ new))) ≡ drop (covered item) (drop ahead (hard_bits (scanned ended (levels ++ new))))
  bits-gone ended new =
      let all = scanned ended (levels ++ new) in
      let inside : gone ≤ length all
      = omega (arith, gone-le, ap length (scanned-split ended levels new), length-append (grouped levels) (scanned ended (ungrouped levels ++ new))) in
      rw (← scanned-gone ended new, ← hard_bits-drop gone all inside, drop-drop, drop-drop, moves)

  -- the scanner holds the bits of the levels that are left
  pub holding-after : IsHoldingAfter later next (drop gone levels)
  holding-after =
      let count = length-drop gone levels in
      record {
        held = rw (gave.left, holding.held) (rw (append-nil, append-nil) at (sym (bits-gone false [])));
        placed = omega (arith, moves, groups, gave.there, length-held ahead scan levels holding, length-grouped levels, length-grouped (drop gone levels), count, gone-among);
        full = λ done. omega (arith, holding.full (sym gave.same ∙ done), groups, count, gone-among);
      }

  module _ (gave_items : GaveItems) (ended : Bool) (new : List ℤ) (all_there : scan.finished ≡ true → (ended ≡ true) × (new ≡ [])) where
    none-behind : scan.finished ≡ true → hard_bits (scanned ended (ungrouped levels ++ new)) ≡ []
    none-behind done =
        let e = all_there done in
        rw (ungrouped-none levels (holding.full done), e.1, e.0, filled-whole [] refl, hard_bits-none)

    pub first-given : items_by ended scan.place (drop ahead (hard_bits (scanned ended (levels ++ new))))
        ≡ item ∷ items_by ended next.place (drop (covered item) (drop ahead (hard_bits (scanned ended (levels ++ new)))))
    first-given =
        let more = hard_bits (scanned ended (ungrouped levels ++ new)) in
        let bits = held-bits ended ahead scan levels new holding in
        rw (bits, drop-append-le (covered item) scan.held more gave.there, ← gave.left) (gave_items scan next item raw ended more gave (λ done. ((all_there done).0, none-behind done)))

    pub raw-given : take (covered item) (drop ahead (hard_bits (scanned ended (levels ++ new)))) ≡ raw
    raw-given =
        rw (held-bits ended ahead scan levels new holding, take-append-le (covered item) scan.held (hard_bits (scanned ended (ungrouped levels ++ new))) gave.there, gave.raw_bits)
