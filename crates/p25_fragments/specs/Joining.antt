-- The state of a joiner, and the results of the messages that it takes.
use Rattle.std.specs.Prelude.{◌≡◌, ℕ, ◌+◌, ◌*◌, ◌%◌, ◌<◌, Bool, true, false, not, ◌&&◌, ◌||◌, ◌==◌, nat_lt, nat_le, List, [], ◌∷◌, ◌++◌, length, if◌then◌else◌}
pub use Rattle.p25_fragments.specs.declared.joiner.Joined.{Joined, TheVariants.{Whole, Part, Refused}}

-- the number of the expected part, and the octets of the parts before it, joined
pub record Joining : Type 0 where
  pub next : ℕ
  pub octets : List ℕ

-- a joiner before the first part
abbrev pub first_joining : Joining
first_joining = record { next = 0; octets = [] }

-- each part before the one expected has 500 octets
pub record IsJoining (j : Joining) : Type 0 where
  pub next : j.next < 8
  pub full : length j.octets ≡ 500 * j.next

-- the parts that are refused: one with another number than the expected one; the last with more than 500 octets, or with none if it is not the only
-- one; another with other than 500 octets, or with the number 7
abbrev pub is_refused : ℕ → Bool → ℕ → ℕ → Bool
is_refused next last number count =
    not (number == next) || (if last then nat_lt 500 count || (nat_lt 0 number && count == 0) else not (count == 500) || number == 7)

-- after a part, by whether it is refused and whether it is the last
unfoldable pub taken_as : Bool → Bool → Joining → ℕ → List ℕ → Joining × Joined
taken_as true last j number octets = (first_joining, Refused)
taken_as false true j number octets = (first_joining, Whole (j.octets ++ octets))
taken_as false false j number octets = (record { next = j.next + 1; octets = j.octets ++ octets }, Part number)

-- a part is the last if its first octet has 80 hex; its number is that octet without 80 hex
unfoldable pub part_taken : Bool → Joining → ℕ → List ℕ → Joining × Joined
part_taken last j number octets = taken_as (is_refused j.next last number (length octets)) last j number octets

-- a joiner takes a message: the empty one is refused
unfoldable pub message_taken : Joining → List ℕ → Joining × Joined
message_taken j [] = (first_joining, Refused)
message_taken j (mark ∷ octets) = part_taken (nat_le 128 mark) j (mark % 128) octets
