use Rattle.std.proofs.{Common.{◌≡◌, ◌+◌, ◌*◌, ◌≤◌, [], ◌++◌, length, take, refl, ap, sym, ◌∙◌, arith, length-append, rules}, KnownBytes.{Consumes-nil, Consumes-trans}}
use Rattle.p25_stream.specs.Scan.{Scan}
use Rattle.p25_example_groups.proofs.PrintedLaws.{printed-first, printed-on}
use Rattle.p25_example_groups.proofs.print_groups.Goals as goal

pub loop-init : goal.loop-init
loop-init g c = record {
  drained = c.new-scanner.ensures.drained;
  going = ap (λ (s : Scan). s.finished) c.new-scanner.ensures.value;
  bits = omega (arith, ap (λ (s : Scan). s.place) c.new-scanner.ensures.value, ap (λ (s : Scan). length s.held) c.new-scanner.ensures.value);
  room = refl;
  read = ([], omega arith, Consumes-nil _, printed-first _ _ c.new-scanner.ensures.value);
}

pub loop-preserved : goal.loop-preserved
loop-preserved g c =
    let read = c.loop.invariant.read in
    let count = c.in_ok-count.count in
    let bound = c.in_ok-count.ensures.bound in
    let more = take count c.read.new.buf in
    let room : length c.read.new.buf ≡ 4096 = search rules in
    record {
      drained = c.in_ok-scan.ensures.drained;
      going = c.in_ok-scan.ensures.going;
      bits = omega (arith, c.in_ok-scan.ensures.bits, bound.0, bound.1, room, c.loop.invariant.bits);
      room = room;
      read = (
        read.0 ++ more,
        omega (arith, length-append read.0 more, read.1, bound.1, c.if-count-eq0.false),
        Consumes-trans _ _ _ read.0 more read.2 c.in_ok-count.ensures.bytes.0,
        printed-on read.0 more _ _ _ _ _ _ c.loop.invariant.going read.3 c.in_ok-scan.ensures.printed,
      );
    }
