-- The parts of a data unit (HDU, LDU1, LDU2, TDU, TDULC or PDU), which are all that contracts see of it.
use Rattle.std.specs.Prelude.{ℕ}
use Rattle.p25_units.specs.declared.unit.Body.{Body}

-- a data unit has a network access code (NAC) and a body
pub record UnitParts : Type 0 where
  pub nac : ℕ
  pub body : Body
