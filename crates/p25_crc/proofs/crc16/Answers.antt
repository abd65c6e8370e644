use Rattle.std.proofs.Common.{[], refl}
use Rattle.p25_bits.specs.Bits.{octet_bits}
use Rattle.p25_crc.specs.{Checks.{header_divisor, IsCrc16}, Values.{crc16_of, IsCrc16-crc16_of}}
use Rattle.p25_crc.proofs.{ChecksLaws.{IsCrc16-unique}, RegisterLaws.{empty_register, IsCheck-register}, RemaindersLaws.{header_remainders}}
use Rattle.p25_crc.proofs.crc16.Goals as goal

pub returns-clause-check : goal.returns-clause-check
unfolding IsCrc16
returns-clause-check c =
    IsCheck-register header_divisor 16 16 (octet_bits c.args.octets.now) c.take_octets.result refl (c.take_octets.ensures _ [] header_remainders (empty_register _))

pub returns-clause-only : goal.returns-clause-only
returns-clause-only c = λ other is. IsCrc16-unique c.args.octets.now other _ is (returns-clause-check c)

pub returns-clause-value : goal.returns-clause-value
returns-clause-value c = IsCrc16-unique c.args.octets.now _ (crc16_of c.args.octets.now) (returns-clause-check c) (IsCrc16-crc16_of c.args.octets.now)
