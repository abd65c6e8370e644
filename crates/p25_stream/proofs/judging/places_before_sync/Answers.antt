use Rattle.std.proofs.{Common.{◌≡◌, ◌+◌, false, arith, below_more}, lemmas.Bool.{iff_false}}
use Rattle.p25_bits.specs.Bits.{bits_of, part}
use Rattle.p25_status.specs.Sync.{has_sync}
use Rattle.p25_stream.proofs.JudgingSteps.{window_of, window-synced, window-unsynced}
use Rattle.p25_stream.proofs.judging.places_before_sync.Goals as goal

pub loop-place-init : goal.loop-place-init
loop-place-init c = λ place inside. absurd (omega arith)

pub loop-place-preserved : goal.loop-place-preserved
loop-place-preserved c =
    let count = c.args.count in
    let number = c.args.number in
    let place = c.loop-place.place in
    let here = window-unsynced (part place 48 (bits_of (47 + count) number)) _ (window_of place count number (omega arith)) (iff_false c.is_sync_window.ensures c.if-is_sync_window.false) in
    below_more (λ k. has_sync (part k 48 (bits_of (47 + count) number)) ≡ false) place c.loop-place.invariant here

pub returns-then-is_sync_window-clause-none : goal.returns-then-is_sync_window-clause-none
returns-then-is_sync_window-clause-none c = c.loop-place.invariant

pub returns-then-is_sync_window-clause-sync : goal.returns-then-is_sync_window-clause-sync
returns-then-is_sync_window-clause-sync c = λ inside.
    let count = c.args.count in
    let place = c.loop-place.place in
    window-synced (part place 48 (bits_of (47 + count) c.args.number)) _ (window_of place count c.args.number (omega arith)) (c.is_sync_window.ensures.0 c.if-is_sync_window.true)
