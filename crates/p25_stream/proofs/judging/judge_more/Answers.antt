use Rattle.std.proofs.{Common.{◌-◌, ◌<◌, ◌≤◌, Bool, List, length, ap, sym, ◌∙◌, subst, arith}, lemmas.Bool.{lt-ltb}}
use Rattle.p25_status.specs.Sync.{has_sync}
use Rattle.p25_status.proofs.SyncLaws.{has_sync-length, has_sync-append}
use Rattle.p25_units.specs.Begins.{IsBegun}
use Rattle.p25_units.proofs.BegunLaws.{IsBegun-append}
use Rattle.p25_stream.specs.{Judgements.{waits}, Items.{sync_place}, declared.judged.Judged.{Judged}}
use Rattle.p25_stream.proofs.JudgementsLaws.{searched-more, was-searching, was-stays, was-waiting}
use Rattle.p25_stream.proofs.judging.judge_more.Goals as goal

pub judged_from-requires-clause-clear : goal.judged_from-requires-clause-clear
judged_from-requires-clause-clear c =
    let was = c.requires.was in
    let clear = c.in-Searching.clear in
    let is = was-searching c.args.judged.now was.before clear was.known c.in-Searching.is in
    subst (λ (bits : List Bool). clear ≤ sync_place bits) (sym was.is) (searched-more was.before was.more clear is).0

pub judged_from-requires-clause-judged : goal.judged_from-requires-clause-judged
judged_from-requires-clause-judged c =
    let was = c.requires.was in
    let clear = c.in-Searching.clear in
    let is = was-searching c.args.judged.now was.before clear was.known c.in-Searching.is in
    subst (λ (bits : List Bool). clear ≤ length bits - 47) (sym was.is) (searched-more was.before was.more clear is).1

pub judged_from-requires-clause-few : goal.judged_from-requires-clause-few
judged_from-requires-clause-few c =
    let was = c.requires.was in
    let is = was-searching c.args.judged.now was.before c.in-Searching.clear was.known c.in-Searching.is in
    omega (arith, is.few)

pub judged_at_sync-requires-clause-synced : goal.judged_at_sync-requires-clause-synced
judged_at_sync-requires-clause-synced c =
    let was = c.requires.was in
    let needs = was-waiting c.args.judged.now was.before c.in-Waiting.count c.in-Waiting.begun was.known c.in-Waiting.is in
    ap has_sync was.is ∙ has_sync-append was.before was.more (has_sync-length was.before needs.synced) ∙ needs.synced

pub judged_at_sync-requires-clause-begun : goal.judged_at_sync-requires-clause-begun
judged_at_sync-requires-clause-begun c =
    let was = c.requires.was in
    let begun = c.in-Waiting.begun in
    let needs = was-waiting c.args.judged.now was.before c.in-Waiting.count begun was.known c.in-Waiting.is in
    subst (λ (bits : List Bool). IsBegun begun bits) (sym was.is) (IsBegun-append begun was.before was.more needs.read)

pub returns-else-len-count : goal.returns-else-len-count
returns-else-len-count c =
    let held = c.args.held.now in
    let short : length held < c.in-Waiting.count = omega arith in
    was-stays c.args.judged.now held c.requires.was
    (ap (λ (b : Judged). waits b (length held)) c.in-Waiting.is ∙ lt-ltb (length held) c.in-Waiting.count short)
