use Rattle.std.proofs.Common.{◌+◌, ◌-◌, ◌≤◌, [], length, take, drop, ap, refl, subst, ◌∙◌, arith, length-append, length-take, length-drop}
use Rattle.p25_bits.specs.Bits.{octet_bits}
use Rattle.p25_bits.proofs.BitsLaws.{length-octet_bits}
use Rattle.p25_stream.specs.Scan.{Scan}
use Rattle.p25_example_groups.proofs.PrintedLaws.{printed-begun, printed-next}
use Rattle.p25_example_groups.proofs.scan.Goals as goal

pub loop-taken-init : goal.loop-taken-init
loop-taken-init g c = record {
  there = omega arith;
  drained = c.requires.drained;
  going = c.requires.going;
  bits = omega arith;
  printed = printed-begun c.args.octets.now _ _;
}

pub loop-taken-preserved : goal.loop-taken-preserved
loop-taken-preserved g c =
    let octets = c.args.octets.now in
    let taken = c.loop-taken.taken in
    let count = c.push_some-taken.result in
    let rest = take (length octets - taken) (drop taken octets) in
    let same = c.push_some-taken.ensures.bits in
    let place = ap (λ (s : Scan). s.place) same in
    let held = ap (λ (s : Scan). length s.held) same ∙ length-append c.loop-taken.scanner.held (octet_bits (take count rest)) in
    let there : taken + count ≤ length octets = omega (arith, c.push_some-taken.ensures.there, length-drop taken octets, c.loop-taken.invariant.there) in
    record {
      there = there;
      drained = c.in_ok-print_talks.ensures.drained;
      going = c.print_talks.ensures.same ∙ ap (λ (s : Scan). s.finished) same ∙ c.loop-taken.invariant.going;
      bits = omega (
        arith,
        place,
        held,
        length-octet_bits (take count rest),
        length-take count rest,
        c.push_some-taken.ensures.there,
        c.print_talks.ensures.bits,
        c.loop-taken.invariant.bits,
      );
      printed = printed-next octets taken count _ _ _ _ c.loop-taken.scanner _ _ c.loop-taken.invariant.going c.loop-taken.invariant.printed same c.in_ok-print_talks.ensures.printed;
    }
