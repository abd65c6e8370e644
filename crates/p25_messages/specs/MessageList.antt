-- A list of messages, kept as all their octets and the position after the last octet of each.
use Rattle.std.specs.{Prelude.{◌≡◌, ℕ, zero, suc, ◌-◌, ◌/◌, ◌^◌, ◌<◌, ◌≤◌, min, List, [], ◌∷◌, slice_range, vec_len, vec_capacity}, Global.{Vec}}

-- the parts of a list of messages that contracts see: the messages, and the number of messages for which there is capacity
pub record ListParts : Type 0 where
  pub list : List (List ℕ)
  pub spare : ℕ

-- the segments of a list that begin at the end of the one before them, the first at a position
unfoldable pub pieces_between : ℕ → List ℕ → List ℕ → List (List ℕ)
pieces_between start [] octets = []
pieces_between start (end ∷ ends) octets = slice_range octets start end ∷ pieces_between end ends octets

-- the beginning of the segment at an index: the end of the one before it, for the first a given position
unfoldable pub start_before : ℕ → List ℕ → ℕ → ℕ
start_before start ends zero = start
start_before start [] (suc i) = start
start_before start (end ∷ ends) (suc i) = start_before end ends i

-- ends that ascend from a position, and the last of which is the number of all octets
unfoldable pub AreEnds : ℕ → List ℕ → ℕ → Type 0
AreEnds start [] count = start ≡ count
AreEnds start (end ∷ ends) count = (start ≤ end) × AreEnds end ends count

-- the invariant of a list of messages of at most `most` octets that holds a number of octets
pub record IsKept (most : ℕ) (ends : List ℕ) (octets : ℕ) : Type 0 where
  pub some : 0 < most
  pub few : most ≤ 2 ^ 32
  pub are : AreEnds 0 ends octets

-- the number of messages of `most` octets for which there is capacity, among the octets and among the ends
abbrev pub room_for : ℕ → Vec ℕ → Vec ℕ → ℕ
room_for most octets ends = min (vec_capacity ends - vec_len ends) ((vec_capacity octets - vec_len octets) / most)
