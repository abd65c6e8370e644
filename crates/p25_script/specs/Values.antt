-- The values of script lines: messages and positions of bit errors.
use Rattle.std.specs.Prelude.{ℕ, ◌<◌, ◌&&◌, nat_lt, Bool, true, if◌then◌else◌, List, [], ◌∷◌, All, Option, Some, None, decimal}
use Rattle.std.specs.List.Sorted.{IsStrictlyIncreasing}
use Rattle.p25_line.specs.{Values.{number_below}, CommaLists.{list_in, list_text}, Octets.{octets_up_to}}

-- ---- messages

-- the message that a word is: 2 to 4,056 digits, or `-`
abbrev pub message_in : List ℕ → Option (List ℕ)
message_in word = octets_up_to 2028 word

-- ---- positions

-- the position that a text is: a number below 25,920, the length of the longest unit
abbrev pub place_in : List ℕ → Option ℕ
place_in text = number_below 25920 text

-- each position is below the next
abbrev pub is_ascending : List ℕ → Bool
is_ascending [] = true
is_ascending (place ∷ []) = true
is_ascending (place ∷ next ∷ places) = nat_lt place next && is_ascending (next ∷ places)

-- positions, if they ascend
abbrev pub where_ascending : Option (List ℕ) → Option (List ℕ)
where_ascending None = None
where_ascending (Some places) = if is_ascending places then Some places else None

-- the positions that a word is: numbers with commas between them, or `-` for none
abbrev pub places_in : List ℕ → Option (List ℕ)
places_in word = where_ascending (list_in place_in word)

-- the text of positions
abbrev pub places_text : List ℕ → List ℕ
places_text places = list_text decimal places

-- positions that a script can contain
pub record ArePlaces (places : List ℕ) : Type 0 where
  pub ascending : IsStrictlyIncreasing places
  pub below : All (λ place. place < 25920) places
