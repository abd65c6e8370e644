-- The progress of the work on a soft recording: levels come, an item is returned, the input ends.
use Rattle.std.proofs.Common.{◌≡◌, ℕ, ◌+◌, ◌-◌, ◌%◌, ◌<◌, ◌≤◌, Bool, true, false, List, [], ◌++◌, length, drop, map, Some, Ok, refl, ap, sym, subst, arith, append_assoc, append-nil, length-drop, ℤ}
use Rattle.std.proofs.lemmas.List.{map-append}
use Rattle.p25_units.specs.{declared.item.Item.{Item}, Items.{covered, place_of}, Units.{whole_octets}}
use Rattle.p25_stream.specs.{Items.{items_by}, ItemLaws.{GaveItems}, Scan.{Scan, Gave, given}}
use Rattle.p25_stream.proofs.{ItemsLaws.{items_by-nil}, WrittenLaws.{written-nil}}
use Rattle.p25_soft.specs.Levels.{hard_bits}
use Rattle.p25_soft.proofs.HardBitsLaws.{hard_bits-none}
use Rattle.p25_filter.specs.{declared.ending.Ending.TheVariants.{Done}, Futures.{IsClosed, IsIdle, NextPiece, Progress}}
use Rattle.p25_filter.proofs.LinesLaws.{Contains-none}
use Rattle.p25_recording_filters.specs.{Commands.{unfilled}, ItemOutputs.{changed_bits}, SoftLevels.{filled, grouped, item_softened, octet_level}}
use Rattle.p25_recording_filters.specs.Softs.{IsHolding, IsHoldingAfter, PutSoftItem, SoftParts, first_level, soft_future, soft_future_by}
use Rattle.p25_recording_filters.proofs.{OctetsLaws.{whole_octets-few}, SoftLevelsLaws.{filled-whole, grouped-whole, length-filled, length-grouped}}
use Rattle.p25_recording_filters.proofs.{HoldingLaws.{length-held, place-given}, SoftItemLaws.{gone-there, written-given}}

-- levels come
pub step-push : (before now : SoftParts) (octets : List ℕ) → before.scan.finished ≡ false → now.scan.finished ≡ false → now.scan.place ≡ before.scan.place
    → now.levels ≡ before.levels ++ map octet_level octets → now.kept ≡ before.kept → Progress (soft_future before) octets [] (soft_future now)
unfolding soft_future
step-push before now octets going still place levels kept =
    rw (going, still) (record {
      writes = λ ended more. rw (place, kept, levels, map-append, append_assoc);
      ends = λ ended more. refl;
      pauses = λ ended more pause is. absurd (Contains-none pause is);
    })

-- the input ends
pub step-finish : (before now : SoftParts) → before.scan.finished ≡ false → now.scan.finished ≡ true → now.scan.place ≡ before.scan.place → now.levels ≡ filled before.levels
    → now.kept ≡ before.kept → IsClosed (soft_future before) (soft_future now)
unfolding soft_future
step-finish before now going done place levels kept =
    rw (going, done) (record {
      writes = λ ended more. rw (place, kept, levels, filled-whole (filled before.levels) (length-filled before.levels).0, append-nil);
      ends = λ ended more. refl;
      pauses = λ ended more. refl;
    })

-- an item is given
item_by : GaveItems → (finished : Bool) (before now : SoftParts) (out : List ℕ) → before.scan.finished ≡ finished → IsHolding before.scan before.levels → PutSoftItem before out now
    → Progress (soft_future_by finished before) [] out (soft_future_by finished now)
item_by gave_items false before now out going holding put =
    record {
      writes = λ ended more.
          rw (put.piece, put.left, put.behind)
          (written-given before.scan now.scan before.levels put.item put.raw holding put.gave gave_items ended (map octet_level more) before.kept (λ done. let two = rw going at done in absurd (cc)));
      ends = λ ended more. refl;
      pauses = λ ended more pause is. absurd (Contains-none pause is);
    }
item_by gave_items true before now out done holding put =
    record {
      writes = λ ended more.
          rw (put.piece, put.left, put.behind)
          (rw (append-nil, append-nil) at (written-given before.scan now.scan before.levels put.item put.raw holding put.gave gave_items true [] before.kept (λ is. (refl, refl))));
      ends = λ ended more. refl;
      pauses = λ ended more pause is. absurd (Contains-none pause is);
    }

pub step-item : GaveItems → (before now : SoftParts) (out : List ℕ) → IsHolding before.scan before.levels → PutSoftItem before out now → NextPiece (soft_future before) (Ok true) out (soft_future now)
unfolding soft_future NextPiece
step-item gave_items before now out holding put =
    subst (λ (b : Bool). Progress (soft_future_by before.scan.finished before) [] out (soft_future_by b now)) (sym put.gave.same)
    (item_by gave_items before.scan.finished before now out refl holding put)

-- if no item is left, the output that the levels so far determine is written
written-none : (ended : Bool) (place : ℕ) (all : List ℤ) (kept : List Bool) → items_by ended place (drop (place % 8) (hard_bits all)) ≡ [] → length kept < 8
    → whole_octets (kept ++ changed_bits (item_softened (first_level place) all) (items_by ended place (drop (place % 8) (hard_bits all))) (drop (place % 8) (hard_bits all))) ≡ []
written-none ended place all kept none few =
    rw (none, written-nil, append-nil, whole_octets-few kept few)

idle_by : (finished : Bool) (work : SoftParts) → work.scan.finished ≡ finished
    → IsHolding work.scan work.levels → length work.kept < 8 → given work.scan ≡ [] → IsIdle finished (soft_future_by finished work)
unfolding IsIdle
idle_by false work going holding few none =
    let items : items_by false work.scan.place (drop (work.scan.place % 8) (hard_bits (grouped (work.levels ++ [])))) ≡ [] = rw (append-nil, ← holding.held) (rw going at none) in
    (written-none false work.scan.place (grouped (work.levels ++ [])) work.kept items few, refl)
idle_by true work done holding few none =
    let whole = holding.full done in
    let items : items_by true work.scan.place (drop (work.scan.place % 8) (hard_bits (filled work.levels))) ≡ []
    = rw (filled-whole work.levels whole) (rw (holding.held, grouped-whole work.levels whole, done) at none) in
    λ ended more. written-none true work.scan.place (filled work.levels) work.kept items few

pub step-idle : (work : SoftParts) → IsHolding work.scan work.levels → length work.kept < 8 → given work.scan ≡ [] → IsIdle work.scan.finished (soft_future work)
unfolding soft_future
step-idle work holding few none = idle_by work.scan.finished work refl holding few none

-- the call ends well
pub step-ending : (work : SoftParts) → work.scan.finished ≡ true → (ended : Bool) (more : List ℕ) → (soft_future work).ends ended more ≡ Some Done
unfolding soft_future
step-ending work done ended more = rw done

-- before the first octet
pub holding-fresh : (scan : Scan) (levels : List ℤ) → scan ≡ record { place = 0; held = []; finished = false } → levels ≡ [] → IsHolding scan levels
holding-fresh scan levels empty none = record {
  held = rw (empty, none, grouped-whole [] refl, hard_bits-none);
  placed = omega (arith, ap (λ (s : Scan). s.place % 8) empty);
  full = λ done. omega (arith, ap length none);
}

pub fresh-none : given (record { place = 0; held = []; finished = false }) ≡ []
fresh-none = items_by-nil false 0

-- the input ends, if no level is left
pub holding-finish : (scan next : Scan) (levels : List ℤ) → IsHolding scan levels → length levels % 4 ≡ 0 → next ≡ record scan { finished = true } → IsHolding next levels
holding-finish scan next levels holding whole is =
    let place : next.place ≡ scan.place = ap (λ (s : Scan). s.place) is in
    record {
      held = rw is holding.held;
      placed = omega (arith, ap (λ p. p % 8) place, holding.placed);
      full = λ done. whole;
    }

-- the levels that are counted stay as many
pub step-size : (before now : SoftParts) (out : List ℕ) → IsHolding before.scan before.levels → PutSoftItem before out now
    → first_level now.scan.place + length now.levels ≡ first_level before.scan.place + length before.levels
step-size before now out holding put =
    let gone = first_level now.scan.place - first_level before.scan.place in
    let there = gone-there before.scan now.scan before.levels put.item put.raw holding put.gave in
    omega (arith, ap length put.left, length-drop gone before.levels, there, put.gave.place)

-- an item that was returned, and its output
pub PutSoftItem-from : (before now : SoftParts) (out : List ℕ) (item : Item) (raw : List Bool) → IsHolding before.scan before.levels → Gave before.scan item raw now.scan
    → out ≡ whole_octets (before.kept ++ item_softened (first_level (place_of item)) before.levels item raw)
    → now.kept ≡ unfilled (before.kept ++ item_softened (first_level (place_of item)) before.levels item raw)
    → now.levels ≡ drop (first_level (place_of item + covered item) - first_level (place_of item)) before.levels → PutSoftItem before out now
PutSoftItem-from before now out item raw holding gave piece behind left =
    let place = (place-given before.scan now.scan item raw gave).0 in
    let next : place_of item + covered item ≡ now.scan.place = omega (arith, place, gave.place) in
    record {
      item = item;
      raw = raw;
      gave = gave;
      piece = rw place at piece;
      behind = rw place at behind;
      left = rw (next, place) at left;
    }

-- the levels that are held are fewer than their most
pub room-held : (scan : Scan) (levels : List ℤ) (count : ℕ) → IsHolding scan levels → count ≡ length scan.held → count ≤ 25927 → length levels < 16420
room-held scan levels count holding is most = omega (arith, is, most, length-held (scan.place % 8) scan levels holding, length-grouped levels)

-- levels come
pub holding-push : (scan next : Scan) (levels now : List ℤ) → IsHolding scan levels → next.place ≡ scan.place → ((ahead : ℕ) → IsHoldingAfter ahead scan levels → IsHoldingAfter ahead next now) → IsHolding next now
holding-push scan next levels now holding place comes = subst (λ p. IsHoldingAfter (p % 8) next now) (sym place) (comes (scan.place % 8) holding)
