-- A long message and its parts, the messages that carry it.
use Rattle.std.specs.Prelude.{ℕ, ◌+◌, ◌*◌, ◌/◌, max, ◌==◌, List, ◌∷◌, length, if◌then◌else◌}
use Rattle.p25_bits.specs.Bits.{part}

-- the number of parts that carry a number of octets: 500 each, and one part for no octets
abbrev pub part_count : ℕ → ℕ
part_count octets = max 1 ((octets + 499) / 500)

-- the first octet of a part: its number, and 80 hex more for the last part
abbrev pub part_mark : ℕ → ℕ → ℕ
part_mark count number = if number + 1 == count then number + 128 else number

-- a part of a message: its first octet, and at most 500 octets
unfoldable pub part_of : List ℕ → ℕ → List ℕ
part_of message number = part_mark (part_count (length message)) number ∷ part (500 * number) 500 message
