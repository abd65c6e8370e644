use Rattle.std.proofs.Common.{◌≤◌, length, arith, refl, drop, length-drop}
use Rattle.p25_units.proofs.BegunLaws.{IsBegun-headed, begun-headed}
use Rattle.p25_units.proofs.begun.Begun.read_head.Goals as goal

pub returns-in-Some-clause-value : goal.returns-in-Some-clause-value
returns-in-Some-clause-value c = begun-headed c.args.self.now (drop c.args.at c.args.bits.now) c.in-Some.read c.requires.begun c.in-Some.is

pub returns-in_ok-read-in-None-clause-begun : goal.returns-in_ok-read-in-None-clause-begun
returns-in_ok-read-in-None-clause-begun c =
    let there : 316 ≤ length (drop c.args.at c.args.bits.now) = omega (arith, c.requires.there, length-drop c.args.at c.args.bits.now) in
    IsBegun-headed c.args.self.now _ (drop c.args.at c.args.bits.now) c.in_ok-read-in-None.read c.requires.begun refl refl there c.in_ok-read-in-None.ensures.read
