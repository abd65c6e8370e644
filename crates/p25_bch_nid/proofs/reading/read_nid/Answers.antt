use Rattle.p25_bch_nid.proofs.ReadingLaws.{is_reading, is_sent}
use Rattle.p25_bch_nid.proofs.reading.read_nid.Goals as goal

pub returns-clause-reading : goal.returns-clause-reading
returns-clause-reading c = is_reading c.args.bits _ c.in_ok-read_nid_counted.ensures.value

pub returns-clause-sent : goal.returns-clause-sent
returns-clause-sent c = is_sent c.args.bits _ c.in_ok-read_nid_counted.ensures.value

pub returns-in_err-read_nid_counted-clause-reading : goal.returns-in_err-read_nid_counted-clause-reading
returns-in_err-read_nid_counted-clause-reading c = rw c.from_residual.ensures (is_reading c.args.bits _ c.in_err-read_nid_counted.ensures.value)

pub returns-in_err-read_nid_counted-clause-sent : goal.returns-in_err-read_nid_counted-clause-sent
returns-in_err-read_nid_counted-clause-sent c = rw c.from_residual.ensures (is_sent c.args.bits _ c.in_err-read_nid_counted.ensures.value)
