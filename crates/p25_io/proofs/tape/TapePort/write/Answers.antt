use Rattle.std.proofs.Common.{◌-◌, length, ap, arith}
use Rattle.p25_io.proofs.OctetsLaws.{beginning-grown}
use Rattle.p25_io.proofs.tape.TapePort.write.Goals as goal

pub returns-in-Err-clause-err : goal.returns-in-Err-clause-err
returns-in-Err-clause-err c =
    let kept = c.keep-in-Err.ensures in
    let count = length c.written.result.now - length c.written-before.result.now in
    let grown = beginning-grown _ c.args.piece.now _ count (omega (arith, ap length c.written.ensures, ap length c.written-before.ensures)) c.in-Err.ensures.err in
    rw c.in-Err.is (
      count,
      grown.0,
      record {
        source = kept.source;
        sink = (
          c.write-result.new.self,
          record { appended = grown.1; later = c.in-Err.ensures.cause.later; cause = c.in-Err.ensures.cause.failed; one = c.in-Err.ensures.cause.counts },
          kept.sink,
        );
        told = kept.told;
      },
    )
