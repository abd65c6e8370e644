-- The consequences of a call of `show`, in one form, follow from the laws of each call.
use Rattle.std.proofs.Common.{◌≡◌, ℕ, ◌<◌, ◌≤◌, Bool, true, false, cond, nat_lt, List, [], ◌++◌, length, take, Option, Some, refl, ap, sym, subst, ◌∙◌, arith, append-nil, length-append, inl, inr}
use Rattle.std.proofs.{lemmas.List.{take_all, nil_from_length}, lemmas.Bool.Decides.{nat_tests}}
use Rattle.std.specs.{Prelude.{IfSome}, List.{flat_map}}
use Rattle.p25_io.specs.Octets.{Appended}
use Rattle.p25_stream.specs.Arrivals.{Arrival, wholes_of}
use Rattle.p25_recording_filters.specs.ItemOutputs.{shown}
use Rattle.p25_filter.specs.{Runs.{Filtered, IsFinal, input_most}, declared.ending.Ending.{Ending}, declared.ending.Ending.TheVariants.{Done as EndDone}, declared.ending.FilterEnd.{FilterEnd}}
use Rattle.p25_filter.specs.declared.ending.FilterEnd.TheVariants.{Ended, ReadFault as EndReadFault, WriteFault as EndWriteFault, TooLong as EndTooLong, Memory as EndMemory}
use Rattle.p25_io.proofs.OctetsLaws.{Taken-told}
use Rattle.p25_tool.specs.{declared.command.Command.{Command}, declared.command.Command.TheVariants.{Show}, declared.outcome.Outcome.{Outcome}, declared.outcome.Outcome.TheVariants.{Done}}
use Rattle.p25_tool.specs.{CallClauses.{CallSays}, Outcomes.{ending_outcome, filter_outcome}, Outputs.{command_future}, Recorded.{IsRecording}, Words.{command_of}}
use Rattle.p25_show.specs.Calls.{IsShown, ShowSays, all_shown, lines_shown}
use Rattle.p25_tool.proofs.{RecordedLaws.{shows-units}, RunsLaws.{wanting-command}}

-- the whole output for an input that is not too long, and for one that is
all-short : (octets : List ℕ) → length octets ≤ input_most → all_shown octets ≡ lines_shown true octets
all-short octets few = by_length (nat_lt input_most (length octets)) (grind (arith, nat_tests))
  where
    by_length : (b : Bool) → b ≡ false → cond b (lines_shown false (take input_most octets)) (lines_shown true octets) ≡ lines_shown true octets
    by_length true same = cc
    by_length false same = refl

all-long : (octets : List ℕ) → input_most < length octets → all_shown octets ≡ lines_shown false (take input_most octets)
all-long octets many = by_length (nat_lt input_most (length octets)) (grind (arith, nat_tests))
  where
    by_length : (b : Bool) → b ≡ true → cond b (lines_shown false (take input_most octets)) (lines_shown true octets) ≡ lines_shown false (take input_most octets)
    by_length true same = refl
    by_length false same = cc

module _ (input before : List ℕ) (left last : Option (List ℕ)) where
  -- a text was written, and it is the one that the outcome states
  abbrev HasText : (octets rest : List ℕ) → Outcome → Type 0
  HasText octets rest outcome = (text : List ℕ) × (last ≡ Some (before ++ text)) × IsShown octets rest text outcome

  text-final : (ending : Ending) (octets rest : List ℕ) → input ≡ octets ++ rest → IsFinal (Some input) (Some before) last (command_future Show) octets ending
      → HasText octets rest (ending_outcome ending)
  text-final ending octets rest parts is = by_end is.ended is.all is.ends is.wrote
    where
      by_end : (ended : Bool) → (ended ≡ true → (length octets ≤ input_most) × IfSome (Some input) (λ all. all ≡ octets)) → (command_future Show).ends ended (take input_most octets) ≡ Some ending
          → Appended (Some before) (lines_shown ended (take input_most octets)) last → HasText octets rest (ending_outcome ending)
      by_end true all ends wrote =
          let few : length octets ≤ input_most = (all refl).0 in
          let same : input ≡ octets = (all refl).1 in
          let done : EndDone ≡ ending = cc in
          let none : rest ≡ [] = nil_from_length rest (omega (arith, ap length (sym same ∙ parts), length-append octets rest)) in
          subst (λ (e : Ending). HasText octets rest (ending_outcome e)) done
          (lines_shown true (take input_most octets), wrote.written, (none, few, ap (lines_shown true) (take_all input_most octets few) ∙ sym (all-short octets few)))
      by_end false all ends wrote = cc

  text-of : (end : FilterEnd) (worked : Filtered (Some input) left (Some before) last (command_future Show) end) (rest : List ℕ) → left ≡ Some rest → input ≡ worked.octets ++ rest
      → HasText worked.octets rest (filter_outcome end)
  text-of (Ended ending) worked rest is parts = text-final ending worked.octets rest parts worked.meets
  text-of EndReadFault worked rest is parts = (lines_shown false worked.octets, worked.meets.wrote.written, (worked.meets.few, refl))
  text-of EndTooLong worked rest is parts =
      (lines_shown false (take input_most worked.octets), worked.meets.wrote.written, (worked.meets.many, sym (all-long worked.octets worked.meets.many)))
  text-of EndWriteFault worked rest is parts =
      let begun = worked.meets.beginning rest is in
      (take begun.count (all_shown (worked.octets ++ rest)), begun.beginning.written, (begun.count, refl))
  text-of EndMemory worked rest is parts = absurd (wanting-command Show (Some input) left (Some before) last worked)

  -- if the call is done, the text is that of the data units of a recording
  text-recorded : (octets rest text : List ℕ) (outcome : Outcome) → input ≡ octets ++ rest → IsShown octets rest text outcome → (arrivals : List Arrival) → IsRecording arrivals input → outcome ≡ Done
      → text ≡ flat_map shown (wholes_of 0 arrivals)
  text-recorded octets rest text outcome parts is arrivals recorded done =
      let shown_done : IsShown octets rest text Done = subst (IsShown octets rest text) done is in
      let same : input ≡ octets = parts ∙ ap (λ (zs : List ℕ). octets ++ zs) shown_done.0 ∙ append-nil octets in
      shown_done.2 ∙ all-short octets shown_done.1 ∙ shows-units true arrivals octets (subst (IsRecording arrivals) same recorded)

pub show-says : (input before : List ℕ) (left last : Option (List ℕ)) (read_failed write_failed source_kept sink_kept : Type 0) (outcome : Outcome)
    → CallSays (Some Show) (Some input) left (Some before) last read_failed write_failed source_kept sink_kept outcome
    → ShowSays input before left last read_failed write_failed sink_kept outcome
show-says input before left last read_failed write_failed source_kept sink_kept outcome says =
    let worked = says.ran.worked in
    let parts = Taken-told worked.taken in
    let text = subst (HasText input before left last worked.octets parts.0) (sym says.ran.outcome_is) (text-of input before left last says.ran.end worked parts.0 parts.1 parts.2) in
    record {
      octets = worked.octets;
      rest = parts.0;
      text = text.0;
      parts = parts.2;
      left_is = parts.1;
      few = worked.few;
      wrote = text.1;
      text_is = text.2;
      quiet = λ none. says.quiet Show input refl refl none;
      complete = λ no_read no_write. elim (says.complete Show input refl refl no_read no_write) [ inl is ↦ is | inr wants ↦ absurd wants.1 ];
      recorded = λ arrivals near bits. text-recorded input before left last worked.octets parts.0 text.0 outcome parts.2 text.2 arrivals (record { near = near; bits = bits });
      read_fault = says.read_fault;
      write_fault = says.write_fault;
    }

pub show-streams : (words : List (List ℕ)) (input before : List ℕ) (left last : Option (List ℕ)) (read_failed write_failed source_kept sink_kept : Type 0) (outcome : Outcome)
    → command_of words ≡ Some Show → CallSays (command_of words) (Some input) left (Some before) last read_failed write_failed source_kept sink_kept outcome
    → ShowSays input before left last read_failed write_failed sink_kept outcome
show-streams words input before left last read_failed write_failed source_kept sink_kept outcome named says =
    show-says input before left last read_failed write_failed source_kept sink_kept outcome
    (subst (λ (n : Option Command). CallSays n (Some input) left (Some before) last read_failed write_failed source_kept sink_kept outcome) named says)

pub show-call : (words : List (List ℕ)) (input before : List ℕ) (told left first last : Option (List ℕ)) (read_failed write_failed source_kept sink_kept : Type 0) (outcome : Outcome)
    → command_of words ≡ Some Show → told ≡ Some input → first ≡ Some before
    → CallSays (command_of words) told left first last read_failed write_failed source_kept sink_kept outcome
    → ShowSays input before left last read_failed write_failed sink_kept outcome
show-call words input before told left first last read_failed write_failed source_kept sink_kept outcome named is_told is_first says =
    show-streams words input before left last read_failed write_failed source_kept sink_kept outcome named
    (subst (λ (t : Option (List ℕ)). CallSays (command_of words) t left (Some before) last read_failed write_failed source_kept sink_kept outcome) is_told
    (subst (λ (f : Option (List ℕ)). CallSays (command_of words) told left f last read_failed write_failed source_kept sink_kept outcome) is_first says))
