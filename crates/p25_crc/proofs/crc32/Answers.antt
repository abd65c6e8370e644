use Rattle.std.proofs.Common.{◌≡◌, ℕ, ◌-◌, ◌/◌, ◌^◌, [], bit_xor, refl, subst, arith}
use Rattle.p25_bits.specs.Bits.{octet_bits}
use Rattle.p25_crc.specs.{Checks.{packet_divisor, IsCheck, IsCrc32}, Values.{crc32_of, IsCrc32-crc32_of}}
use Rattle.p25_crc.proofs.{ChecksLaws.{IsCrc32-unique}, RegisterLaws.{empty_register, IsCheck-register}, RemaindersLaws.{packet_remainders}}
use Rattle.p25_crc.proofs.crc32.Goals as goal

pub returns-clause-check : goal.returns-clause-check
unfolding IsCrc32
returns-clause-check c =
    let whole : c.take_octets.result / 2 ^ 0 ≡ c.take_octets.result = omega arith in
    subst (λ (n : ℕ). IsCheck packet_divisor 32 (octet_bits c.args.octets.now) (bit_xor n (2 ^ 32 - 1))) whole
    (IsCheck-register packet_divisor 32 0 (octet_bits c.args.octets.now) c.take_octets.result refl (c.take_octets.ensures _ [] packet_remainders (empty_register _)))

pub returns-clause-only : goal.returns-clause-only
returns-clause-only c = λ other is. IsCrc32-unique c.args.octets.now other _ is (returns-clause-check c)

pub returns-clause-value : goal.returns-clause-value
returns-clause-value c = IsCrc32-unique c.args.octets.now _ (crc32_of c.args.octets.now) (returns-clause-check c) (IsCrc32-crc32_of c.args.octets.now)
