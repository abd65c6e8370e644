-- The octets that calls write into the buffer of a caller.
use Rattle.std.specs.Prelude.{◌≡◌, ℕ, ℤ, pos, negsuc, nat_le, nat_lt, if◌then◌else◌, List, [], ◌∷◌, ◌++◌, length, drop, Result, Ok, Err}

-- a buffer after some octets are written into it: the octets after them stay
abbrev pub written : List ℕ → List ℕ → List ℕ
written octets room = octets ++ drop (length octets) room

-- -2: the buffer has too little capacity
abbrev pub no_room : ℤ
no_room = negsuc 1

-- the number that a call returns that has octets to write, or a number to return in place of them: how many octets there are, if the buffer
-- has capacity for all
abbrev pub write_answer : Result (List ℕ) ℤ → List ℕ → ℤ
write_answer (Ok octets) room = if nat_le (length octets) (length room) then pos (length octets) else no_room
write_answer (Err answer) room = answer

-- the buffer after it
abbrev pub write_left : Result (List ℕ) ℤ → List ℕ → List ℕ
write_left (Ok octets) room = if nat_le (length octets) (length room) then written octets room else room
write_left (Err answer) room = room

-- a call does both
pub record IsWriting (what : Result (List ℕ) ℤ) (room left : List ℕ) (answer : ℤ) : Type 0 where
  pub answer_is : answer ≡ write_answer what room
  pub left_is : left ≡ write_left what room

-- a buffer after a text is written into it with a zero after it, if it has capacity for both
abbrev pub text_left : List ℕ → List ℕ → List ℕ
text_left text room = if nat_lt (length text) (length room) then written (text ++ 0 ∷ []) room else room
