-- The table of check bits holds those of all messages: the checker computes each entry.
use Rattle.std.proofs.Common.{◌≡◌, ℕ, ◌<◌, get_or, refl}
use Rattle.p25_bits.specs.{Bits.{bits_of}, Numbers.{each_below}}
use Rattle.p25_code.specs.{Binary.{syndrome_of}, WrongBits.{number_sum}}
use Rattle.p25_code.proofs.SumTablesLaws.{entry-is}
use Rattle.p25_hamming.specs.{Hamming10.{check_rows}, declared.hamming10.fn.Hamming10.check_bits.TheConstants.{CHECKS}}

pub checks_are : (info : ℕ) → info < 64 → get_or CHECKS info 0 ≡ number_sum check_rows info
unfolding each_below number_sum syndrome_of bits_of
checks_are = entry-is check_rows CHECKS refl
