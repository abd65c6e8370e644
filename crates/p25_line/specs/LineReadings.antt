-- The decoding of a line by its words.
use Rattle.std.specs.Prelude.{ℕ, List, Option, Some, None, Result, Ok, Err}
use Rattle.p25_line.specs.{Words.{words_or_fault}, declared.fault.LineFault.{LineFault}, declared.fault.LineFault.TheVariants.{Kind, Key, Value}}

-- the decoding of words, if there are words, and otherwise the reason why there are none
abbrev pub found_read : {X : Type 0} → (List (List ℕ) → Result X LineFault) → Result (List (List ℕ)) LineFault → Result X LineFault
found_read read (Ok words) = read words
found_read read (Err fault) = Err fault

-- the decoding of a line, or the first reason for refusing it: Long, Form, and then that of its words
unfoldable pub line_read : {X : Type 0} → (List (List ℕ) → Result X LineFault) → List ℕ → Result X LineFault
line_read read line = found_read read (words_or_fault line)

-- the result made of the value of a word, or the fault that the value is wrong
abbrev pub value_or_fault : {V X : Type 0} → (V → X) → Option V → Result X LineFault
value_or_fault make (Some value) = Ok (make value)
value_or_fault make None = Err Value

-- the result made of the key and the value of two words, or the fault that one of them is wrong; the key is tested first
abbrev pub keyed_or_fault : {K V X : Type 0} → (K → V → X) → Option K → Option V → Result X LineFault
keyed_or_fault make (Some key) value = value_or_fault (make key) value
keyed_or_fault make None value = Err Key

-- the decoding of the words after a first one, by the type that this one names, or the fault that it names none
abbrev pub named_or_fault : {K X : Type 0} → (K → List (List ℕ) → Result X LineFault) → Option K → List (List ℕ) → Result X LineFault
named_or_fault read (Some kind) others = read kind others
named_or_fault read None others = Err Kind
