use Rattle.p25_gf64.specs.Gf64.{gf64}
use Rattle.p25_gf64.proofs.FieldLaws.{zero_factor}
use Rattle.p25_gf64.proofs.laws.field_laws.Goals as goal

pub returns : goal.returns
returns c = record { laws = gf64.laws; zero_factor = zero_factor gf64 }
