-- The lines of an input, and the results of lines that are read each by itself.
use Rattle.std.specs.Prelude.{ℕ, ◌+◌, Bool, ◌&&◌, if◌then◌else◌, ◌==◌, nat_lt, List, [], ◌∷◌, ◌++◌, length, map, Option, Some, None, Result, Ok, Err}
use Rattle.std.specs.List.{flat_map}
use Rattle.p25_line.specs.declared.fault.LineFault.{LineFault}
use Rattle.p25_filter.specs.{declared.ending.Ending.{Ending}, declared.ending.Ending.TheVariants.{Done, BadLine}, Futures.{Future}}

-- the lines of some octets after those of a line that has begun: each ends with an LF, and at the end of the input the last octets, if there are any,
-- are a line too
unfoldable pub lines_in : Bool → List ℕ → List ℕ → List (List ℕ)
lines_in ended line [] = if ended && nat_lt 0 (length line) then line ∷ [] else []
lines_in ended line (octet ∷ octets) = if octet == 10 then line ∷ lines_in ended [] octets else lines_in ended (line ++ octet ∷ []) octets

-- the values that lines decode to, up to the first line that is refused
unfoldable pub read_of : {E : Type 0} → (List ℕ → Result E LineFault) → List (List ℕ) → List E
read_of read [] = []
read_of read (line ∷ lines) = elim (read line) [ Ok event ↦ event ∷ read_of read lines | Err fault ↦ [] ]

-- the first line that is refused, by its number, and its fault; the first line has this number
unfoldable pub refusal_in : {E : Type 0} → (List ℕ → Result E LineFault) → ℕ → List (List ℕ) → Option Ending
refusal_in read number [] = None
refusal_in read number (line ∷ lines) = elim (read line) [ Ok event ↦ refusal_in read (number + 1) lines | Err fault ↦ Some (BadLine number fault) ]

-- the end of a call by its lines: by the first that is refused, or at the end of the input
abbrev pub lines_ending : Bool → Option Ending → Option Ending
lines_ending ended (Some ending) = Some ending
lines_ending ended None = if ended then Some Done else None

-- a text that is written at the end of the input, if the input has ended and no line is refused
abbrev pub closing_by : Bool → Option Ending → List ℕ → List ℕ
closing_by ended (Some refusal) text = []
closing_by ended None text = if ended then text else []

-- texts, each after one more text
unfoldable pub each_behind : List ℕ → List (List ℕ) → List (List ℕ)
each_behind text texts = map (λ more. text ++ more) texts

-- the beginnings of some texts joined: for each text, those before it in one
unfoldable pub texts_before : List (List ℕ) → List (List ℕ)
texts_before [] = []
texts_before (text ∷ texts) = [] ∷ each_behind text (texts_before texts)

-- a command that reads lines, each by itself: their decodings, the results of all that was read, in order, as texts, and the text at the end of the
-- input; and whether an allocation may fail before each of the texts
abbrev pub lines_future : {E S : Type 0} → (List ℕ → Result E LineFault) → (List E → List S) → (S → List ℕ) → (List E → List ℕ) → Bool → Future
lines_future read steps text closing wants = record {
  writes = λ ended octets.
      let lines = lines_in ended [] octets in
      let events = read_of read lines in
      flat_map text (steps events) ++ closing_by ended (refusal_in read 1 lines) (closing events);
  ends = λ ended octets. lines_ending ended (refusal_in read 1 (lines_in ended [] octets));
  pauses = λ ended octets. if wants then texts_before (map text (steps (read_of read (lines_in ended [] octets)))) else [];
}
