use Rattle.std.proofs.{Common.{drop, sym, arith, length-drop}, lemmas.Bool.{iff_false}}
use Rattle.p25_status.proofs.SyncLaws.{has_sync-yes}
use Rattle.p25_units.proofs.{NeedsLaws.{need_of-short}, UnitPlaceLaws.{need-unsynced}}
use Rattle.p25_units.proofs.scan.need_with.Goals as goal

pub returns-then-len-at-lt48-clause-need : goal.returns-then-len-at-lt48-clause-need
returns-then-len-at-lt48-clause-need c = sym (need_of-short (drop c.args.at c.args.bits.now) (omega (arith, length-drop c.args.at c.args.bits.now)))

pub returns-then-not-is_sync-clause-need : goal.returns-then-not-is_sync-clause-need
returns-then-not-is_sync-clause-need c = need-unsynced c.args.bits.now c.args.at c.requires.there (omega arith) (iff_false c.is_sync.ensures c.if-not-is_sync.true)

pub need_synced-requires-clause-synced : goal.need_synced-requires-clause-synced
need_synced-requires-clause-synced c =
    has_sync-yes (drop c.args.at c.args.bits.now) (omega (arith, length-drop c.args.at c.args.bits.now)) (c.is_sync.ensures.0 c.if-not-is_sync.false)
