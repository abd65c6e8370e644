use Rattle.std.proofs.Common.{◌+◌, ◌^◌, ◌<◌, length, sym, subst, arith}
use Rattle.p25_stream.specs.Scan.{Scan}
use Rattle.p25_stream.proofs.ScanLaws.{drained-open, drained-few}
use Rattle.p25_stream.proofs.scanner.Scanner.push.Goals as goal

pub put_field-requires-clause-room : goal.put_field-requires-clause-room
put_field-requires-clause-room c = omega (arith, drained-few c.self.inside.judged _ _ c.self.view_is c.requires.drained c.requires.going c.self.invariant.0)

pub settle-requires-clause-unsettled : goal.settle-requires-clause-unsettled
settle-requires-clause-unsettled c = drained-open c.self.inside.judged _ _ c.self.view_is c.requires.drained c.requires.going c.self.invariant.0

pub invariant_of-self : goal.invariant_of-self
invariant_of-self c =
    let few = drained-few c.self.inside.judged _ _ c.self.view_is c.requires.drained c.requires.going c.self.invariant.0 in (
      c.settle.ensures,
      omega (arith, few, c.put_field.ensures.len),
      omega (arith, subst (λ (s : Scan). s.place + length s.held < 2 ^ 60) (sym c.self.view_is) c.requires.few, c.put_field.ensures.len),
    )
