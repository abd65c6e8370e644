use Rattle.std.proofs.Common.{ℕ, ◌*◌, ◌^◌, [], refl, subst}
use Rattle.p25_bits.specs.{Bits.{bits_of}, Divisible.{IsRemainder}}
use Rattle.p25_crc.specs.{Checks.{block_divisor, block_message, IsCrc9}, Values.{crc9_of, IsCrc9-crc9_of}}
use Rattle.p25_crc.proofs.{ChecksLaws.{IsCrc9-unique}, RegisterLaws.{empty_register, serial_octet, IsCheck-register}, RemaindersLaws.{block_remainders}}
use Rattle.p25_crc.proofs.crc9.Goals as goal

pub returns-clause-check : goal.returns-clause-check
unfolding IsCrc9
returns-clause-check c =
    let serial = c.take_octets-register.ensures _ [] block_remainders (empty_register _) in
    let first = subst (λ (n : ℕ). IsRemainder (block_divisor * 2 ^ 23) 32 (n * 2 ^ 32) c.take_octets-register.result) (serial_octet c.args.serial c.requires) serial in
    IsCheck-register block_divisor 9 23 (block_message c.args.serial c.args.octets.now) c.take_octets.result refl
    (c.take_octets.ensures _ (bits_of 7 c.args.serial) block_remainders first)

pub returns-clause-only : goal.returns-clause-only
returns-clause-only c = λ other is. IsCrc9-unique c.args.serial c.args.octets.now other _ is (returns-clause-check c)

pub returns-clause-value : goal.returns-clause-value
returns-clause-value c = IsCrc9-unique c.args.serial c.args.octets.now _ (crc9_of c.args.serial c.args.octets.now) (returns-clause-check c) (IsCrc9-crc9_of c.args.serial c.args.octets.now)
