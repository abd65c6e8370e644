use Rattle.std.proofs.Common.{sym}
use Rattle.p25_units.proofs.NeedsLaws.{need_of-seen}
use Rattle.p25_stream.proofs.JudgementsLaws.{judged-waiting, judged-ready, judged-no_unit}
use Rattle.p25_stream.proofs.judging.judged_at_sync.Goals as goal

pub returns-in-NoSync : goal.returns-in-NoSync
returns-in-NoSync c = absurd (need_of-seen c.args.held.now c.requires.synced (sym c.in-NoSync.ensures.need))

pub returns-in-More : goal.returns-in-More
returns-in-More c =
    judged-waiting c.args.held.now c.in-More.count c.need_synced.new.begun (record { synced = c.requires.synced; needs = sym c.in-More.ensures.need; read = c.in-More.ensures.begun })

pub returns-in-Length : goal.returns-in-Length
returns-in-Length c =
    judged-ready c.args.held.now c.in-Length.count c.need_synced.new.begun (record { synced = c.requires.synced; needs = sym c.in-Length.ensures.need; read = c.in-Length.ensures.begun })

pub returns-in-NoLength : goal.returns-in-NoLength
returns-in-NoLength c = judged-no_unit c.args.held.now c.in-NoLength.field c.requires.synced (sym c.in-NoLength.ensures.need)
