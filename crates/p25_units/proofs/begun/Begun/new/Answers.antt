use Rattle.std.proofs.Common.{refl}
use Rattle.p25_units.proofs.BegunLaws.{IsBegun-none}
use Rattle.p25_units.proofs.begun.Begun.new.Goals as goal

pub returns : goal.returns
returns c = λ bits. IsBegun-none _ bits refl refl
