-- A call that reached the end of its input wrote the output of all of it: an earlier end is at a line that is refused.
use Rattle.std.proofs.{Common.{◌≡◌, ℕ, ◌+◌, ◌≤◌, Bool, true, false, List, [], ◌∷◌, length, take, Option, Some, None, Result, Ok, Err, refl, ap, sym, ◌∙◌, subst}, lemmas.List.{take_all}}
use Rattle.std.specs.Prelude.{IfSome}
use Rattle.p25_io.specs.Octets.{Appended}
use Rattle.p25_io.proofs.OctetsLaws.{Appended-same}
use Rattle.p25_line.specs.declared.fault.LineFault.{LineFault}
use Rattle.p25_text.specs.Grammar.{read_line_of}
use Rattle.p25_script.specs.{Script.{event_of}, LongScript.{long_event_of}, DuplexLines.{duplex_event_of}}
use Rattle.p25_filter.specs.{Lines.{lines_ending, lines_in, refusal_in}, Runs.{IsFinal, Filtered, input_most}, declared.ending.Ending.{Ending}, declared.ending.Ending.TheVariants.{BadLine}}
use Rattle.p25_filter.specs.{declared.ending.FilterEnd.{FilterEnd}, declared.ending.FilterEnd.TheVariants.{Ended}}
use Rattle.p25_filter.proofs.{LinesLaws.{refusal_in-err, refusal_in-nil, refusal_in-ok}, RunsLaws.{ended-input}}
use Rattle.p25_tool.specs.{declared.command.Command.{Command}, declared.command.Command.TheVariants.{Build, Stations, Fragments, Duplex, Sample}, Outcomes.{ending_outcome, filter_outcome}}
use Rattle.p25_tool.specs.{Outputs.{command_future, ending_by, output_by}, Written.{AllIsWritten, HasEnded}}

-- a line that is refused is no end of the input, whatever the decodings of the lines
module _ {E : Type 0} (read : List ℕ → Result E LineFault) where
  refused-line : (number : ℕ) (lines : List (List ℕ)) (ending : Ending) → refusal_in read number lines ≡ Some ending → HasEnded (ending_outcome ending) → ⊥
  refused-line number [] ending is end = let none : None ≡ Some ending = sym (refusal_in-nil read number) ∙ is in absurd (cc)
  refused-line number (line ∷ lines) ending is end = by_reading (read line) refl (λ later. refused-line (number + 1) lines ending later end)
    where
      by_reading : (result : Result E LineFault) → read line ≡ result → (refusal_in read (number + 1) lines ≡ Some ending → ⊥) → ⊥
      by_reading (Ok event) same none = none (sym (refusal_in-ok read number line lines event same) ∙ is)
      by_reading (Err fault) same none =
          let some : Some (BadLine number fault) ≡ Some ending = sym (refusal_in-err read number line lines fault same) ∙ is in
          let refused : BadLine number fault ≡ ending = cc in
          subst (λ (e : Ending). HasEnded (ending_outcome e)) (sym refused) end

  lines-go_on : (lines : List (List ℕ)) (ending : Ending) → lines_ending false (refusal_in read 1 lines) ≡ Some ending → HasEnded (ending_outcome ending) → ⊥
  lines-go_on lines ending is end = by_refusal (refusal_in read 1 lines) refl is
    where
      by_refusal : (refusal : Option Ending) → refusal_in read 1 lines ≡ refusal → lines_ending false refusal ≡ Some ending → ⊥
      by_refusal None none same = cc same
      by_refusal (Some other) some same = refused-line 1 lines ending (some ∙ same) end

-- while more octets may come, nothing else ends a call but of `sample`, which looks at no octet
before_end : (command : Command) (octets input : List ℕ) (ending : Ending) → ending_by command false octets ≡ Some ending → HasEnded (ending_outcome ending)
    → output_by command false octets ≡ output_by command true input
before_end (Build status) octets input ending is end = absurd (lines-go_on read_line_of (lines_in false [] octets) ending is end)
before_end Stations octets input ending is end = absurd (lines-go_on event_of (lines_in false [] octets) ending is end)
before_end Fragments octets input ending is end = absurd (lines-go_on long_event_of (lines_in false [] octets) ending is end)
before_end Duplex octets input ending is end = absurd (lines-go_on duplex_event_of (lines_in false [] octets) ending is end)
before_end (Sample count) octets input ending is end = refl
before_end command octets input ending is end = absurd (cc is)

module _ (command : Command) (input : List ℕ) (told first last : Option (List ℕ)) (is_told : told ≡ Some input) where
  wrote-all : (ending : Ending) (octets : List ℕ) → HasEnded (ending_outcome ending)
      → IsFinal told first last (command_future command) octets ending → Appended first (output_by command true input) last
  wrote-all ending octets end final = by_end final.ended final.all final.ends final.wrote
    where
      by_end : (ended : Bool) → (ended ≡ true → (length octets ≤ input_most) × IfSome told (λ all. all ≡ octets)) → ending_by command ended (take input_most octets) ≡ Some ending
          → Appended first (output_by command ended (take input_most octets)) last → Appended first (output_by command true input) last
      by_end true all ends wrote =
          let few : length octets ≤ input_most = (all refl).0 in
          let same : input ≡ octets = ended-input told octets input (all refl).1 is_told in
          Appended-same (ap (output_by command true) (take_all input_most octets few ∙ sym same)) wrote
      by_end false all ends wrote = Appended-same (before_end command (take input_most octets) input ending ends end) wrote

  -- work that came to the end of its input wrote all of its output, whether or not the written octets are exposed
  pub ended-wrote : (left : Option (List ℕ)) (end : FilterEnd)
      → HasEnded (filter_outcome end) → Filtered told left first last (command_future command) end → Appended first (output_by command true input) last
  ended-wrote left (Ended ending) is worked = wrote-all ending worked.octets is worked.meets
  ended-wrote left end is worked = absurd is

pub all-written : AllIsWritten
all-written command input written left last outcome ran ended =
    (ended-wrote command input (Some input) (Some written) last refl left ran.end (subst HasEnded ran.outcome_is ended) ran.worked).written
