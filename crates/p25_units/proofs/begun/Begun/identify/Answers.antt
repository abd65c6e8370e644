use Rattle.std.proofs.Common.{arith, refl, drop, length-drop}
use Rattle.p25_units.proofs.BegunLaws.{IsBegun-read, begun-known}
use Rattle.p25_units.proofs.begun.Begun.identify.Goals as goal

pub returns-in-Some-clause-value : goal.returns-in-Some-clause-value
returns-in-Some-clause-value c = (begun-known c.args.self.now (drop c.args.at c.args.bits.now) c.in-Some.read c.requires.begun c.in-Some.is).0

pub returns-in-Some-clause-wrong : goal.returns-in-Some-clause-wrong
returns-in-Some-clause-wrong c = (begun-known c.args.self.now (drop c.args.at c.args.bits.now) c.in-Some.read c.requires.begun c.in-Some.is).1

pub returns-in-None-clause-begun : goal.returns-in-None-clause-begun
returns-in-None-clause-begun c =
    let front = c.read_front-read.ensures in
    IsBegun-read c.args.self.now _ (drop c.args.at c.args.bits.now) c.requires.begun refl (omega (arith, length-drop c.args.at c.args.bits.now)) front.value front.wrong
