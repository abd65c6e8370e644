use Rattle.std.proofs.Common.{◌+◌, ◌^◌, ◌<◌, length, ap, sym, subst, ◌∙◌, arith}
use Rattle.p25_stream.specs.Scan.{Scan, octets_taken}
use Rattle.p25_stream.proofs.ScanLaws.{drained-open, drained-few}
use Rattle.p25_stream.proofs.scanner.Scanner.push_some.Goals as goal

pub put_some-count-requires-clause-room : goal.put_some-count-requires-clause-room
put_some-count-requires-clause-room c = omega (arith, drained-few c.self.inside.judged _ _ c.self.view_is c.requires.drained c.requires.going c.self.invariant.0)

pub settle-requires-clause-unsettled : goal.settle-requires-clause-unsettled
settle-requires-clause-unsettled c = drained-open c.self.inside.judged _ _ c.self.view_is c.requires.drained c.requires.going c.self.invariant.0

pub invariant_of-self : goal.invariant_of-self
invariant_of-self c = (
  c.settle.ensures,
  c.put_some-count.ensures.most,
  omega (arith, subst (λ (s : Scan). s.place + length s.held < 2 ^ 60) (sym c.self.view_is) c.requires.few, c.put_some-count.ensures.len, c.put_some-count.ensures.most),
)

pub returns-clause-count : goal.returns-clause-count
returns-clause-count c = c.put_some-count.ensures.count ∙ ap (λ (s : Scan). octets_taken (length s.held) (length c.args.octets.now)) c.self.view_is
