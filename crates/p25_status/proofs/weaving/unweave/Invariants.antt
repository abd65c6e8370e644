use Rattle.std.proofs.Common.{◌≡◌, ◌-◌, ◌*◌, ◌/◌, ◌++◌, length, drop}
use Rattle.p25_bits.specs.Bits.{part}
use Rattle.p25_status.specs.Woven.{bare_in, statuses_in}
use Rattle.p25_status.proofs.weaving.unweave.Given as goal

abbrev pub invariant-loop-i : goal.invariant-loop-i
invariant-loop-i l =
    let sent = part l.at l.len l.bits in
    let blocks = l.len / 72 in record {
      bare : l.out ++ bare_in (blocks - l.i) (drop (72 * l.i) sent) ≡ bare_in blocks sent;
      statuses : l.statuses ++ statuses_in (blocks - l.i) (drop (72 * l.i) sent) ≡ statuses_in blocks sent;
      bare_len : length l.out ≡ 70 * l.i;
      statuses_len : length l.statuses ≡ l.i;
    }
