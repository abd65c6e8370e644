-- The progress of the work of `decide` on a soft recording: levels come, an item is returned, the input ends, and what is left is returned.
use Rattle.std.proofs.Common.{◌≡◌, ◌≢◌, ℕ, ◌+◌, ◌*◌, ◌%◌, ◌<◌, ◌≤◌, Bool, true, false, cond, inl, inr, ◌^◌, List, [], ◌∷◌, ◌++◌, length, drop, map, None, Some, Ok, refl, ap, ap₂, sym, subst, ◌∙◌, arith, append_assoc, append-nil, ℤ}
use Rattle.std.proofs.lemmas.{Bool.{cases_lt}, List.{map-append}}
use Rattle.p25_units.specs.{declared.item.Item.{Item}, Units.{whole_octets}}
use Rattle.p25_stream.specs.{Items.{items_by}, ItemLaws.{EnoughDecide, GaveItems, ItemsUnfold}, Scan.{Scan, given}}
use Rattle.p25_stream.proofs.ItemsLaws.{items_by-nil}
use Rattle.p25_follow.specs.Following.{Follow, fresh_follow}
use Rattle.p25_soft.{specs.Levels.{hard_bits}, proofs.HardBitsLaws.{hard_bits-none}}
use Rattle.p25_decide.specs.{DecidedFollowing.{changed_by}, DecidedRecordings.{decide_of, item_decided}, DecidedStretches.{chain_over}, DecidedTaking.{AreFrom}}
use Rattle.p25_decide.proofs.{PassLaws.{changed-all}, RecordingsLaws.{decide-stretches}}
use Rattle.p25_filter.specs.{declared.ending.Ending.TheVariants.{Done}, Futures.{IsClosed, IsIdle, NextPiece, Progress}}
use Rattle.p25_filter.proofs.LinesLaws.{Contains-none}
use Rattle.p25_recording_filters.specs.{declared.recording.Phase.{Phase}, declared.recording.Phase.TheVariants.{Reading, Ended, Closed}}
use Rattle.p25_recording_filters.specs.{Recordings.{HasClosed, has_ended}, SoftLevels.{filled, grouped, octet_level, scanned}, Softs.{IsHoldingAfter}}
use Rattle.p25_recording_filters.specs.Decides.{DecideParts, IsDeciding, PutDecided, PutLast, ahead_of, decide_future, decide_future_by, decide_written, first_held, fresh_decide, placed, start_of}
use Rattle.p25_recording_filters.proofs.{DecideItemLaws.{decide-given, placed-bits, placed-from, size-next}, HoldingLaws.{length-held}, OctetsLaws.{whole_octets-few}}
use Rattle.p25_recording_filters.proofs.SoftLevelsLaws.{filled-whole, grouped-whole, length-filled, length-grouped}

abbrev pub deciding : Scan → Follow → List ℤ → List Bool → Phase → DecideParts
deciding scan follow levels kept phase = record { scan = scan; follow = follow; levels = levels; kept = kept; phase = phase }

is-reading : (phase : Phase) → has_ended phase ≡ false → phase ≡ Reading
is-reading Reading going = refl
is-reading phase going = cc

-- levels come
push-by : (scan next : Scan) (follow : Follow) (levels now : List ℤ) (kept : List Bool) (octets : List ℕ) → next.place ≡ scan.place → now ≡ levels ++ map octet_level octets
    → Progress (decide_future_by Reading (deciding scan follow levels kept Reading)) octets [] (decide_future_by Reading (deciding next follow now kept Reading))
push-by scan next follow levels now kept octets place is = record {
  writes = λ ended more. rw (place, is, map-append, append_assoc);
  ends = λ ended more. refl;
  pauses = λ ended more pause is. absurd (Contains-none pause is);
}

pub step-push : (scan next : Scan) (follow : Follow) (levels now : List ℤ) (kept : List Bool) (phase : Phase) (octets : List ℕ) → has_ended phase ≡ false → next.place ≡ scan.place
    → now ≡ levels ++ map octet_level octets → Progress (decide_future (deciding scan follow levels kept phase)) octets [] (decide_future (deciding next follow now kept phase))
unfolding decide_future
step-push scan next follow levels now kept phase octets going place is =
    rw (is-reading phase going) (push-by scan next follow levels now kept octets place is)

-- the input ends
finish-by : (scan next : Scan) (follow : Follow) (levels now : List ℤ) (kept : List Bool) → next.place ≡ scan.place → now ≡ filled levels
    → IsClosed (decide_future_by Reading (deciding scan follow levels kept Reading)) (decide_future_by Ended (deciding next follow now kept Ended))
finish-by scan next follow levels now kept place is = record {
  writes = λ ended more. rw (place, is, filled-whole (filled levels) (length-filled levels).0, append-nil);
  ends = λ ended more. refl;
  pauses = λ ended more. refl;
}

pub step-finish : (scan next : Scan) (follow : Follow) (levels now : List ℤ) (kept : List Bool) (phase : Phase) → has_ended phase ≡ false → next.place ≡ scan.place → now ≡ filled levels
    → IsClosed (decide_future (deciding scan follow levels kept phase)) (decide_future (deciding next follow now kept Ended))
unfolding decide_future
step-finish scan next follow levels now kept phase going place is =
    rw (is-reading phase going) (finish-by scan next follow levels now kept place is)

-- an item is given
item-reading : GaveItems → (before now : DecideParts) (out : List ℕ) → before.scan.finished ≡ false → IsDeciding before.scan before.follow before.levels → PutDecided before out now
    → Progress (decide_future_by Reading before) [] out (decide_future_by Reading now)
item-reading gave_items before now out going deciding_so put = record {
  writes = λ ended more.
      rw (put.piece, put.left, put.behind, put.follows)
      (decide-given before.scan now.scan before.follow before.levels put.item put.raw deciding_so put.gave gave_items ended (map octet_level more) before.kept put.bits put.own
      (λ done. let two : true ≡ false = sym done ∙ going in absurd (cc)) put.bits_are put.own_are);
  ends = λ ended more. refl;
  pauses = λ ended more pause is. absurd (Contains-none pause is);
}

item-ended : GaveItems → (before now : DecideParts) (out : List ℕ) → IsDeciding before.scan before.follow before.levels → PutDecided before out now
    → Progress (decide_future_by Ended before) [] out (decide_future_by Ended now)
item-ended gave_items before now out deciding_so put = record {
  writes = λ ended more.
      rw (put.piece, put.left, put.behind, put.follows)
      (rw (append-nil, append-nil) at
      (decide-given before.scan now.scan before.follow before.levels put.item put.raw deciding_so put.gave gave_items true [] before.kept put.bits put.own (λ done. (refl, refl)) put.bits_are put.own_are));
  ends = λ ended more. refl;
  pauses = λ ended more pause is. absurd (Contains-none pause is);
}

no_items : (items : List Item) (item : Item) → [] ≡ item ∷ items → ⊥
no_items items item e = cc

item-by : GaveItems → (phase : Phase) (before now : DecideParts) (out : List ℕ) → before.scan.finished ≡ has_ended phase → HasClosed phase before.scan
    → IsDeciding before.scan before.follow before.levels → PutDecided before out now → Progress (decide_future_by phase before) [] out (decide_future_by phase now)
item-by gave_items Reading before now out same closed deciding_so put = item-reading gave_items before now out same deciding_so put
item-by gave_items Ended before now out same closed deciding_so put = item-ended gave_items before now out deciding_so put
item-by gave_items Closed before now out same closed deciding_so put = absurd (no_items (given now.scan) put.item (sym (closed refl) ∙ put.gave.items))

pub step-item : GaveItems → (before now : DecideParts) (out : List ℕ) → before.scan.finished ≡ has_ended before.phase → HasClosed before.phase before.scan
    → IsDeciding before.scan before.follow before.levels → PutDecided before out now → NextPiece (decide_future before) (Ok true) out (decide_future now)
unfolding decide_future NextPiece
step-item gave_items before now out same closed deciding_so put =
    subst (λ (phase : Phase). Progress (decide_future_by before.phase before) [] out (decide_future_by phase now)) (sym put.phase) (item-by gave_items before.phase before now out same closed deciding_so put)

-- ---- with no item to give

changed-none : (change : Item → List Bool → List Bool) (ended : Bool) (at : ℕ) (follow : Follow) (bits : List Bool)
    → changed_by change ended at follow [] bits ≡ cond ended (chain_over change at follow.before follow.stretch None) []
unfolding changed_by
changed-none change ended at follow bits = refl

-- the bits that are held are those of all levels
all-held : (ended : Bool) (scan : Scan) (follow : Follow) (levels : List ℤ) → IsDeciding scan follow levels → scanned ended levels ≡ grouped levels
    → drop scan.place (hard_bits (placed (first_held scan.place follow) (scanned ended levels))) ≡ scan.held
all-held ended scan follow levels deciding_so is =
    let first = first_held scan.place follow in
    let place : 2 * first + ahead_of scan.place follow ≡ scan.place = omega (arith, deciding_so.there) in
    ap₂ (λ n (ls : List ℤ). drop n (hard_bits (placed first ls))) (sym place) is
    ∙ placed-bits first (ahead_of scan.place follow) (grouped levels)
    ∙ sym deciding_so.holding.held

-- what is written then: of the stretch at the end, and else nothing
written-none : (ended : Bool) (scan : Scan) (follow : Follow) (levels : List ℤ) (kept : List Bool) → IsDeciding scan follow levels → scanned ended levels ≡ grouped levels
    → items_by ended scan.place scan.held ≡ []
    → decide_written ended scan.place follow levels kept
    ≡ whole_octets (kept ++ cond ended (chain_over (item_decided (placed (first_held scan.place follow) (scanned ended levels))) (start_of scan.place follow) follow.before follow.stretch None) [])
written-none ended scan follow levels kept deciding_so is none =
    let all = placed (first_held scan.place follow) (scanned ended levels) in
    let change = item_decided all in
    let at = start_of scan.place follow in
    let bits = drop scan.place (hard_bits all) in
    let items : items_by ended scan.place bits ≡ [] = ap (items_by ended scan.place) (all-held ended scan follow levels deciding_so is) ∙ none in
    ap (λ (xs : List Bool). whole_octets (kept ++ xs))
    (ap (λ (is : List Item). changed_by change ended at follow is bits) items ∙ changed-none change ended at follow bits)

-- what is left is given
last-by : (before now : DecideParts) (out : List ℕ) → before.scan.finished ≡ true → IsDeciding before.scan before.follow before.levels → given before.scan ≡ [] → PutLast before out now
    → Progress (decide_future_by Ended before) [] out (decide_future_by Closed now)
last-by before now out done deciding_so none put =
    let whole = deciding_so.holding.full done in
    let scanned_is : filled before.levels ≡ grouped before.levels = filled-whole before.levels whole ∙ sym (grouped-whole before.levels whole) in
    let items : items_by true before.scan.place before.scan.held ≡ [] = rw done at none in
    let all = placed (first_held before.scan.place before.follow) (filled before.levels) in
    let from : AreFrom (first_held before.scan.place before.follow) (grouped before.levels) all
    = rw append-nil at (placed-from true (first_held before.scan.place before.follow) before.levels []) in
    record {
      writes = λ ended more.
          written-none true before.scan before.follow before.levels before.kept deciding_so scanned_is items
          ∙ ap (λ (xs : List Bool). whole_octets (before.kept ++ xs)) (sym (put.bits_are all from))
          ∙ sym put.piece
          ∙ sym (append-nil out);
      ends = λ ended more. refl;
      pauses = λ ended more pause is. absurd (Contains-none pause is);
    }

pub step-last : (before now : DecideParts) (out : List ℕ) → before.phase ≡ Ended → before.scan.finished ≡ true → IsDeciding before.scan before.follow before.levels → given before.scan ≡ []
    → PutLast before out now → NextPiece (decide_future before) (Ok true) out (decide_future now)
unfolding decide_future NextPiece
step-last before now out ended done deciding_so none put =
    subst (λ (phase : Phase). Progress (decide_future_by phase before) [] out (decide_future_by now.phase now)) (sym ended)
    (subst (λ (phase : Phase). Progress (decide_future_by Ended before) [] out (decide_future_by phase now)) (sym put.phase) (last-by before now out done deciding_so none put))

-- nothing is left
idle-by : (phase : Phase) (work : DecideParts) → work.scan.finished ≡ has_ended phase → phase ≢ Ended → IsDeciding work.scan work.follow work.levels → length work.kept < 8 → given work.scan ≡ []
    → IsIdle (has_ended phase) (decide_future_by phase work)
unfolding IsIdle
idle-by Reading work same open_ deciding_so few none =
    let items : items_by false work.scan.place work.scan.held ≡ [] = rw same at none in
    let levels : work.levels ++ [] ≡ work.levels = append-nil work.levels in
    (rw levels (written-none false work.scan work.follow work.levels work.kept deciding_so refl items ∙ rw (append-nil, whole_octets-few work.kept few)), refl)
idle-by Ended work same open_ deciding_so few none = absurd (open_ refl)
idle-by Closed work same open_ deciding_so few none = λ ended more. refl

pub step-idle : (work : DecideParts) → work.scan.finished ≡ has_ended work.phase → work.phase ≢ Ended → IsDeciding work.scan work.follow work.levels → length work.kept < 8 → given work.scan ≡ []
    → IsIdle (has_ended work.phase) (decide_future work)
unfolding decide_future
step-idle work same open_ deciding_so few none = idle-by work.phase work same open_ deciding_so few none

-- the call ends well
ending-by : (phase : Phase) (work : DecideParts) → has_ended phase ≡ true → (ended : Bool) (more : List ℕ) → (decide_future_by phase work).ends ended more ≡ Some Done
ending-by Reading work done ended more = absurd (cc)
ending-by Ended work done ended more = refl
ending-by Closed work done ended more = refl

pub step-ending : (work : DecideParts) → has_ended work.phase ≡ true → (ended : Bool) (more : List ℕ) → (decide_future work).ends ended more ≡ Some Done
unfolding decide_future
step-ending work done ended more = ending-by work.phase work done ended more

-- before the first octet
pub deciding-fresh : (scan : Scan) (follow : Follow) (levels : List ℤ) → scan ≡ record { place = 0; held = []; finished = false } → follow ≡ fresh_follow → levels ≡ [] → IsDeciding scan follow levels
deciding-fresh scan follow levels empty none_kept none =
    let place : scan.place ≡ 0 = ap (λ (s : Scan). s.place) empty in
    let stretch : length follow.stretch ≡ 0 = ap (λ (f : Follow). length f.stretch) none_kept in
    let ahead : ahead_of scan.place follow ≡ 0 = omega (arith, place) in
    record {
      there = omega (arith, place, stretch);
      holding = record {
        held = rw (ahead, empty, none, grouped-whole [] refl, hard_bits-none) refl;
        placed = omega (arith, ahead);
        full = λ done. omega (arith, ap length none);
      };
      few = omega (arith, place, ap length none);
    }

pub fresh-none : given fresh_decide.scan ≡ []
fresh-none = items_by-nil false 0

-- a scanner with nothing to give holds fewer bits than decide an item
few-held : ItemsUnfold → EnoughDecide → (place : ℕ) (bits : List Bool) → items_by false place bits ≡ [] → 25920 ≤ length bits → ⊥
few-held unfold_items enough place bits none long = no_items _ _ (sym none ∙ unfold_items.1 false place bits (omega arith) (enough bits long))

pub drained-few : ItemsUnfold → EnoughDecide → (scan : Scan) → scan.finished ≡ false → given scan ≡ [] → length scan.held < 25920
drained-few unfold_items enough scan going none =
    elim (cases_lt (length scan.held) 25920) [
      | inl few ↦ few
      | inr long ↦ absurd (few-held unfold_items enough scan.place scan.held (rw going at none) long)
    ]

-- so the levels that are held are fewer than their most
pub drained-room : ItemsUnfold → EnoughDecide → (scan : Scan) (follow : Follow) (levels : List ℤ) → IsDeciding scan follow levels → scan.finished ≡ false → given scan ≡ [] → length follow.stretch < 6912
    → (length levels < 16420) × (scan.place < 2 ^ 31) × (length scan.held < 25920)
drained-room unfold_items enough scan follow levels deciding_so going none few =
    let held = drained-few unfold_items enough scan going none in
    let ahead = length-held (ahead_of scan.place follow) scan levels deciding_so.holding in (
      omega (arith, held, ahead, few, deciding_so.there, length-grouped levels),
      omega (arith, deciding_so.few, few, deciding_so.there),
      held,
    )

-- the input ends, if no level is left
pub holding-done : (ahead : ℕ) (scan next : Scan) (levels : List ℤ) → IsHoldingAfter ahead scan levels → length levels % 4 ≡ 0 → next ≡ record scan { finished = true } → IsHoldingAfter ahead next levels
holding-done ahead scan next levels holding whole is = record {
  held = rw is holding.held;
  placed = holding.placed;
  full = λ done. whole;
}

-- levels come
pub deciding-push : (scan next : Scan) (follow : Follow) (levels now : List ℤ) → IsDeciding scan follow levels → next.place ≡ scan.place
    → ((ahead : ℕ) → IsHoldingAfter ahead scan levels → IsHoldingAfter ahead next now) → first_held scan.place follow + length now < 2 ^ 29 → IsDeciding next follow now
deciding-push scan next follow levels now deciding_so place holding few = record {
  there = omega (arith, deciding_so.there, place);
  holding = subst (λ p. IsHoldingAfter (ahead_of p follow) next now) (sym place) (holding (ahead_of scan.place follow) deciding_so.holding);
  few = subst (λ p. first_held p follow + length now < 2 ^ 29) (sym place) few;
}

-- the input ends
pub deciding-done : (scan next : Scan) (follow : Follow) (levels : List ℤ) → IsDeciding scan follow levels → length levels % 4 ≡ 0 → next ≡ record scan { finished = true } → IsDeciding next follow levels
deciding-done scan next follow levels deciding_so whole is =
    let place : next.place ≡ scan.place = ap (λ (s : Scan). s.place) is in
    record {
      there = omega (arith, deciding_so.there, place);
      holding = subst (λ p. IsHoldingAfter (ahead_of p follow) next levels) (sym place) (holding-done (ahead_of scan.place follow) scan next levels deciding_so.holding whole is);
      few = subst (λ p. first_held p follow + length levels < 2 ^ 29) (sym place) deciding_so.few;
    }

-- the levels that are counted stay as many
pub size-item : (before now : DecideParts) (out : List ℕ) → IsDeciding before.scan before.follow before.levels → PutDecided before out now
    → first_held now.scan.place now.follow + length now.levels ≡ first_held before.scan.place before.follow + length before.levels
size-item before now out deciding_so put =
    rw (put.left, put.follows) (size-next before.scan now.scan before.follow before.levels put.item put.raw deciding_so put.gave)

pub idle-fresh : IsIdle false (decide_future fresh_decide)
idle-fresh = step-idle fresh_decide refl (λ is. cc) (deciding-fresh fresh_decide.scan fresh_decide.follow fresh_decide.levels refl refl refl) (omega arith) fresh-none

-- the work on all levels, from the first one on, writes what the definition of a decided recording does
pub decide-passes : (levels : List ℤ) → changed_by (item_decided levels) true 0 fresh_follow (items_by true 0 (hard_bits levels)) (hard_bits levels) ≡ decide_of levels
decide-passes levels = changed-all (item_decided levels) (hard_bits levels) ∙ sym (decide-stretches levels)
