-- Lists of values with commas between them, and `-` for the empty list.
use Rattle.std.specs.{Prelude.{ℕ, ◌==◌, nat_le, if◌then◌else◌, List, [], ◌∷◌, length, drop, map, Option, Some, None}, List.{join_with_byte, slice_split}}
use Rattle.std.specs.Str.{bytes_eq}

-- `-`, which represents the empty list and no octets
abbrev pub dash : List ℕ
dash = 45 ∷ []

-- the texts of entries with commas between them
unfoldable pub comma_text : {X : Type 0} → (X → List ℕ) → List X → List ℕ
comma_text text entries = join_with_byte 44 (map text entries)

-- the text of a list, by the text of each entry
abbrev pub list_text : {X : Type 0} → (X → List ℕ) → List X → List ℕ
list_text text [] = dash
list_text text (entry ∷ entries) = comma_text text (entry ∷ entries)

-- the parts of a word between its commas
abbrev pub comma_parts : List ℕ → List (List ℕ)
comma_parts word = slice_split (λ octet. octet == 44) word

-- the parts from a position of a word on; after the end of the word there is none
unfoldable pub parts_from : List ℕ → ℕ → List (List ℕ)
parts_from word start = if nat_le start (length word) then comma_parts (drop start word) else []

-- an entry before a list of entries; none if either is missing
abbrev pub with_entry : {X : Type 0} → Option X → Option (List X) → Option (List X)
with_entry None entries = None
with_entry (Some entry) None = None
with_entry (Some entry) (Some entries) = Some (entry ∷ entries)

-- the entries of parts, if each part decodes to one
abbrev pub entries_in : {X : Type 0} → (List ℕ → Option X) → List (List ℕ) → Option (List X)
entries_in read [] = Some []
entries_in read (part ∷ parts) = with_entry (read part) (entries_in read parts)

-- the list that a word decodes to
abbrev pub list_in : {X : Type 0} → (List ℕ → Option X) → List ℕ → Option (List X)
list_in read word = if bytes_eq word dash then Some [] else entries_in read (comma_parts word)

-- entries, if there are this many
abbrev pub counted : {X : Type 0} → ℕ → Option (List X) → Option (List X)
counted count None = None
counted count (Some entries) = if length entries == count then Some entries else None
