use Rattle.std.proofs.Common.{◌<◌, length, refl, sym, arith, append-nil}
use Rattle.p25_c.specs.Streams.{bits_left}
use Rattle.p25_c.proofs.DibitsSteps.{taken-more, taken-none}
use Rattle.p25_c.proofs.dibits.append_dibits.Goals as goal

pub loop-i-init : goal.loop-i-init
loop-i-init c = record {
  count = omega arith;
  taken = taken-none c.args.dibits.now c.args.stream.now (record { fits = c.requires; bits = sym (append-nil (bits_left c.args.stream.now)); from = refl; ended = refl });
}

pub loop-i-preserved : goal.loop-i-preserved
loop-i-preserved c =
    let inside : c.loop-i.i < length c.args.dibits.now = omega (arith, c.loop-i-test.true, c.min-count.ensures) in
    record {
      count = omega (arith, c.append_dibit.ensures.count, c.loop-i.invariant.count);
      taken = taken-more c.args.dibits.now c.loop-i.i c.args.stream.now c.loop-i.stream c.append_dibit.new.stream inside c.loop-i.invariant.taken c.append_dibit.ensures.taken;
    }
