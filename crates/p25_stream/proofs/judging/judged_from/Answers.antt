use Rattle.std.proofs.Common.{◌≡◌, ◌+◌, ◌≤◌, ℕ, Bool, List, true, drop, ap, sym, ◌∙◌, subst, arith}
use Rattle.p25_status.specs.Sync.{has_sync}
use Rattle.p25_stream.specs.{Judgements.{IsKnownGap}, Items.{sync_place}}
use Rattle.p25_stream.proofs.{JudgementsLaws.{judged-gap, judged-searching, gap-before_sync, gap-full}, JudgingSteps.{places-free, window_in}}
use Rattle.p25_stream.proofs.judging.judged_from.Goals as goal

-- a sync at the first position is one at the beginning
first-synced : (held : List Bool) (place : ℕ) → place ≡ 0 → has_sync (drop place held) ≡ true → has_sync held ≡ true
first-synced held place first synced = ap (λ n. has_sync (drop n held)) (sym first) ∙ synced

pub judged_at_sync-requires-clause-synced : goal.judged_at_sync-requires-clause-synced
judged_at_sync-requires-clause-synced c = first-synced c.args.held.now _ (omega arith)
    (sym (window_in c.args.held.now c.loop-k.k c.min-count.result c.places_before_sync-free.result c.field.result (omega arith) c.if-free-count.true c.field.ensures.value)
    ∙ c.places_before_sync-free.ensures.sync c.if-free-count.true)

pub returns-else-k-eq0 : goal.returns-else-k-eq0
returns-else-k-eq0 c =
    let free = c.places_before_sync-free.ensures in
    let held = c.args.held.now in
    let place = c.loop-k.k + c.places_before_sync-free.result in
    let clear : place ≤ sync_place held =
    places-free held c.loop-k.k c.min-count.result c.places_before_sync-free.result c.field.result (omega arith) free.most c.field.ensures.value c.loop-k.invariant.0 free.none in
    let synced : has_sync (drop place held) ≡ true =
    sym (window_in held c.loop-k.k c.min-count.result c.places_before_sync-free.result c.field.result (omega arith) c.if-free-count.true c.field.ensures.value)
    ∙ free.sync c.if-free-count.true in
    judged-gap held place (gap-before_sync held place (omega arith) (omega arith) clear (omega arith) synced)

pub loop-k-preserved : goal.loop-k-preserved
loop-k-preserved c =
    let free = c.places_before_sync-free.ensures in (
      places-free c.args.held.now c.loop-k.k c.min-count.result c.places_before_sync-free.result c.field.result (omega arith) free.most c.field.ensures.value c.loop-k.invariant.0 free.none,
      omega arith,
    )

pub returns-then-k-eq-GAP_MOST : goal.returns-then-k-eq-GAP_MOST
returns-then-k-eq-GAP_MOST c =
    let full : 4096 ≡ c.loop-k.k = omega arith in
    judged-gap c.args.held.now c.loop-k.k (subst (λ (n : ℕ). IsKnownGap c.args.held.now n) full (gap-full c.args.held.now (omega arith) (omega arith)))

pub returns-else-k-eq-GAP_MOST : goal.returns-else-k-eq-GAP_MOST
returns-else-k-eq-GAP_MOST c = judged-searching c.args.held.now c.loop-k.k (omega arith) (omega arith) c.loop-k.invariant.0
