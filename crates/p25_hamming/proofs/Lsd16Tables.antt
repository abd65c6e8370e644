-- The tables hold the check bits of all messages, and the messages of all check bits. The checker computes each entry, and that each list of rows
-- inverts the other.
use Rattle.std.proofs.Common.{◌≡◌, ℕ, ◌<◌, List, [], ◌∷◌, get_or, refl}
use Rattle.p25_bits.specs.{Bits.{bits_of}, Numbers.{each_below}}
use Rattle.p25_code.specs.{Binary.{syndrome_of, check_columns}, WrongBits.{number_sum, AreInverse}}
use Rattle.p25_code.proofs.{SumTablesLaws.{entry-is}, WrongLaws.{are_inverse}}
use Rattle.p25_hamming.specs.{Lsd16.{check_rows}, declared.lsd16.fn.Lsd16.{check_bits.TheConstants.{CHECKS}, wrong_bits.TheConstants.{MESSAGES}}}

-- the messages of the words with one 1 among the check bits
abbrev message_rows : List ℕ
message_rows = 0x9C ∷ 0x4E ∷ 0x27 ∷ 0x8F ∷ 0xDB ∷ 0xF1 ∷ 0xE4 ∷ 0x72 ∷ []

pub checks_are : (info : ℕ) → info < 256 → get_or CHECKS info 0 ≡ number_sum check_rows info
unfolding each_below number_sum syndrome_of bits_of
checks_are = entry-is check_rows CHECKS refl

pub messages_are : (checks : ℕ) → checks < 256 → get_or MESSAGES checks 0 ≡ number_sum message_rows checks
unfolding each_below number_sum syndrome_of bits_of
messages_are = entry-is message_rows MESSAGES refl

pub rows_inverse : AreInverse check_rows message_rows
unfolding number_sum syndrome_of bits_of check_columns
rows_inverse = are_inverse check_rows message_rows refl refl refl
