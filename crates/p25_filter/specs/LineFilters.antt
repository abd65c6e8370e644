-- The work on lines: its remaining output, for any octets that may still come.
use Rattle.std.specs.Prelude.{◌≡◌, ℕ, ◌+◌, Bool, true, false, ◌||◌, if◌then◌else◌, List, [], ◌∷◌, ◌++◌, Result, Ok, Err}
use Rattle.p25_line.specs.declared.fault.LineFault.{LineFault}
use Rattle.p25_filter.specs.{declared.ending.Ending.TheVariants.{BadLine}, declared.ending.Refusal.{Refusal}}
use Rattle.p25_filter.specs.{declared.ending.Refusal.TheVariants.{Ended, Memory}, declared.line_filter.LinePhase.{LinePhase}}
use Rattle.p25_filter.specs.{declared.line_filter.LinePhase.TheVariants.{Reading, Ready, ReadyLast, Closing, Closed}, Futures.{Future}}
use Rattle.p25_filter.specs.{Lines.{each_behind, lines_ending, lines_in, texts_before}, LineRules.{IsWanting, LineRules, LinesTaken, lines_taken, written_for}}

-- the machine, the octets kept of the line that has begun or is ready, the number of lines taken, the rest of the text for the last one, and the
-- phase of the work
pub record LineFiltering (M : Type 0) : Type 0 where
  pub machine : M
  pub line : List ℕ
  pub lines : ℕ
  pub left : List ℕ
  pub phase : LinePhase

abbrev pub line_filtering : {M : Type 0} → M → List ℕ → ℕ → List ℕ → LinePhase → LineFiltering M
line_filtering machine line lines left phase = record { machine = machine; line = line; lines = lines; left = left; phase = phase }

-- before the first octet
abbrev pub first_line : {M : Type 0} → M → LineFiltering M
first_line machine = line_filtering machine [] 0 [] Reading

-- the number of lines that are ready to be taken
abbrev pub lines_ready : LinePhase → ℕ
lines_ready Ready = 1
lines_ready ReadyLast = 1
lines_ready other = 0

-- no more octets come
abbrev pub is_ended_phase : LinePhase → Bool
is_ended_phase Reading = false
is_ended_phase Ready = false
is_ended_phase ReadyLast = true
is_ended_phase Closing = true
is_ended_phase Closed = true

-- the lines that are still to be taken
abbrev pub lines_left : LinePhase → List ℕ → Bool → List ℕ → List (List ℕ)
lines_left Reading line ended more = lines_in ended line more
lines_left Ready line ended more = line ∷ lines_in ended [] more
lines_left ReadyLast line ended more = line ∷ []
lines_left Closing line ended more = []
lines_left Closed line ended more = []

-- whether the input has ended with these octets, and whether the output at its end is still to come
abbrev pub ends_with : LinePhase → Bool → Bool
ends_with phase ended = is_ended_phase phase || ended

abbrev pub closes_with : LinePhase → Bool → Bool
closes_with Reading ended = ended
closes_with Ready ended = ended
closes_with ReadyLast ended = true
closes_with Closing ended = true
closes_with Closed ended = false

-- the number of texts that may still come: that for a line that is ready, and the one that closes the run
abbrev pub texts_of : LinePhase → ℕ
texts_of phase = lines_ready phase + (if closes_with phase false then 1 else 0)

-- the result of the lines that are still to be taken
abbrev pub taken_from : {M : Type 0} → LineRules M → LineFiltering M → Bool → List ℕ → LinesTaken M
taken_from rules work ended more = lines_taken rules.take (work.lines + 1) work.machine (lines_left work.phase work.line ended more)

-- the remaining output, the end of the call, and the texts after which an allocation may fail, by the lines that are still to be taken
unfoldable pub line_future : {M : Type 0} → LineRules M → LineFiltering M → Future
line_future rules work = record {
  writes = λ ended more. work.left ++ written_for rules (closes_with work.phase ended) (taken_from rules work ended more);
  ends = λ ended more. lines_ending (ends_with work.phase ended) (taken_from rules work ended more).refusal;
  pauses = λ ended more.
      if rules.wants then each_behind work.left (texts_before (taken_from rules work ended more).texts) else [];
}

-- a line that was ready was taken, and the text for it is to be returned
pub record IsTextReady {M : Type 0} (rules : LineRules M) (phase : LinePhase) (before now : LineFiltering M) : Type 0 where
  pub machine : M
  pub text : List ℕ
  pub taken : rules.take before.machine before.line ≡ Ok (machine, text)
  pub now_is : now ≡ line_filtering machine [] (before.lines + 1) text phase

-- a line that was ready was taken, or it was not and nothing changed
abbrev pub IsLineReady : {M : Type 0} → LineRules M → LinePhase → LineFiltering M → Result Bool Refusal → LineFiltering M → Type 0
IsLineReady rules phase before (Ok answer) now = (answer ≡ true) × IsTextReady rules phase before now
IsLineReady rules phase before (Err Memory) now = (now ≡ before) × IsWanting rules before.machine before.line
IsLineReady rules phase before (Err (Ended ending)) now =
    (now ≡ before) × ((fault : LineFault) × (ending ≡ BadLine (before.lines + 1) fault) × (rules.take before.machine before.line ≡ Err fault))
