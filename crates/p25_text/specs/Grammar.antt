-- Unit lines: the line of a data unit, and the data unit of a line.
use Rattle.std.specs.{Option.{option_map}, Prelude.{ℕ, ◌==◌, if◌then◌else◌, List, [], ◌∷◌, ◌++◌, length, drop, Option, Some, None, ok_or, Result, Err}}
use Rattle.std.specs.List.{join_with_byte, starts_with}
use Rattle.p25_line.specs.{Values.{three_digits}, CommaLists.{with_entry}, LineReadings.{found_read, line_read, named_or_fault}}
use Rattle.p25_line.specs.{declared.fault.LineFault.{LineFault}, declared.fault.LineFault.TheVariants.{Form, Key, Value}}
use Rattle.p25_packet_blocks.specs.Heads.{plain_format, response_format}
use Rattle.p25_units.specs.{UnitParts.{UnitParts}, declared.unit.Body.{Body}, declared.unit.Body.TheVariants.{Voice, Packet}}
use Rattle.p25_text.specs.{Names.{kind_word, kind_named, keys_of, key_text}, Packets.{confirmed_in, packet_kind, packet_values, plain_in}, Values.{nac_in}}
use Rattle.p25_text.specs.{Voices.{voice_in, voice_kind, voice_values}, declared.names.UnitKey.{UnitKey}, declared.names.UnitKind.{UnitKind}}
use Rattle.p25_text.specs.declared.names.UnitKind.TheVariants.{Confirmed, Plain, Response}

-- ---- the kinds, in the order of their table

-- the type of the line of a data unit
abbrev pub kind_of : Body → UnitKind
kind_of (Voice voice) = voice_kind voice
kind_of (Packet packet) = packet_kind packet

-- the values after the network access code (NAC), in the order of the keys
abbrev pub body_values : Body → List (List ℕ)
body_values (Voice voice) = voice_values voice
body_values (Packet packet) = packet_values packet

-- the body that the values after the network access code (NAC) decode to
abbrev pub body_in : UnitKind → List (List ℕ) → Option Body
body_in Confirmed (head ∷ blocks ∷ []) = option_map Packet (confirmed_in head blocks)
body_in Confirmed values = None
body_in Plain (head ∷ octets ∷ []) = option_map Packet (plain_in plain_format head octets)
body_in Plain values = None
body_in Response (head ∷ octets ∷ []) = option_map Packet (plain_in response_format head octets)
body_in Response values = None
body_in kind values = option_map Voice (voice_in kind values)

-- ---- the line of a unit

-- keys, each with its value
abbrev pub keyed : List UnitKey → List (List ℕ) → List (List ℕ)
keyed [] values = []
keyed (key ∷ keys) [] = []
keyed (key ∷ keys) (value ∷ values) = (key_text key ++ value) ∷ keyed keys values

-- the values of a data unit, in the order of the keys of its type
abbrev pub values_of : UnitParts → List (List ℕ)
values_of unit = three_digits unit.nac ∷ body_values unit.body

-- the words of a data unit: its type, and then each key with its value
abbrev pub unit_words : UnitParts → List (List ℕ)
unit_words unit = kind_word (kind_of unit.body) ∷ keyed (keys_of (kind_of unit.body)) (values_of unit)

-- the line of a data unit, without the end of the line
unfoldable pub text_of : UnitParts → List ℕ
text_of unit = join_with_byte 32 (unit_words unit)

-- ---- the unit of a line

-- the part of a word after a key with which it begins
abbrev pub behind : List ℕ → List ℕ → Option (List ℕ)
behind key word = if starts_with ◌==◌ word key then Some (drop (length key) word) else None

-- the values after keys: none if there are more or fewer words than keys, or if some word does not begin with its key
abbrev pub values_behind : List UnitKey → List (List ℕ) → Option (List (List ℕ))
values_behind [] [] = Some []
values_behind [] (word ∷ words) = None
values_behind (key ∷ keys) [] = None
values_behind (key ∷ keys) (word ∷ words) = with_entry (behind (key_text key) word) (values_behind keys words)

-- a data unit of its two parts, if there are both
abbrev pub unit_from : Option ℕ → Option Body → Option UnitParts
unit_from None body = None
unit_from (Some nac) None = None
unit_from (Some nac) (Some body) = Some (record { nac = nac; body = body })

-- the data unit that values decode to
abbrev pub unit_in : UnitKind → List (List ℕ) → Option UnitParts
unit_in kind [] = None
unit_in kind (nac ∷ values) = unit_from (nac_in nac) (body_in kind values)

-- the data unit of the values of a type, or that a value is wrong
abbrev pub read_values : UnitKind → List (List ℕ) → Result UnitParts LineFault
read_values kind values = ok_or (unit_in kind values) Value

-- the data unit of the words after that of a type, or the first reason for refusing them: a key, or otherwise a value
abbrev pub read_kind : UnitKind → List (List ℕ) → Result UnitParts LineFault
read_kind kind words = found_read (read_values kind) (ok_or (values_behind (keys_of kind) words) Key)

-- the data unit of the words of a line, at least one, or the first reason for refusing them
abbrev pub read_words : List (List ℕ) → Result UnitParts LineFault
read_words (first ∷ words) = named_or_fault read_kind (kind_named first) words
read_words [] = Err Form

-- the data unit of a line, or the first reason for refusing the line
unfoldable pub read_line_of : List ℕ → Result UnitParts LineFault
read_line_of line = line_read read_words line
