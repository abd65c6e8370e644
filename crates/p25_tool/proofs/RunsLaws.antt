-- The outcome of work on an input without faults.
use Rattle.std.proofs.Common.{◌≡◌, ℕ, ◌-◌, ◌<◌, ◌≤◌, Bool, true, false, cond, nat_lt, List, [], ◌++◌, length, take, Option, Some, refl, ap, sym, subst, ◌∙◌, arith, append-nil, length-append, ◌⊎◌, inl, inr}
use Rattle.std.proofs.{lemmas.List.{take_all, take-append-le}, lemmas.Bool.{cases_lt}, lemmas.Bool.Decides.{nat_tests}}
use Rattle.std.specs.Prelude.{IfSome}
use Rattle.p25_io.specs.Octets.{Taken}
use Rattle.p25_filter.specs.{Runs.{IsFinal, IsTooLong, Filtered, input_most}, declared.ending.Ending.{Ending}, declared.ending.Ending.TheVariants.{Done}, declared.ending.FilterEnd.{FilterEnd}}
use Rattle.p25_filter.specs.declared.ending.FilterEnd.TheVariants.{Ended, ReadFault, WriteFault, TooLong as InputTooLong, Memory as NoMemory}
use Rattle.p25_filter.proofs.{LinesLaws.{Contains-none}, RunsLaws.{ended-input, first-take, told-parts}}
use Rattle.p25_tool.specs.{declared.command.Command.{Command}, declared.command.Command.TheVariants.{Stations, Duplex, Fragments}, declared.outcome.Outcome.{Outcome}}
use Rattle.p25_tool.specs.{declared.outcome.Outcome.TheVariants.{TooLong, Memory}, Outcomes.{ending_outcome, filter_outcome}, Outputs.{CanWantMemory, command_future, ending_by}}
use Rattle.p25_tool.specs.Runs.{answer_of, ending_or}

-- the first octets of an input begin with those of the octets that were taken from it
first-parts : (octets rest : List ℕ) → (more : List ℕ) × (take input_most (octets ++ rest) ≡ take input_most octets ++ more)
first-parts octets rest = elim (cases_lt input_most (length octets)) [
  | inr few ↦
      let part = take (input_most - length octets) rest in
      (part, first-take octets rest few ∙ ap (λ (xs : List ℕ). xs ++ part) (sym (take_all input_most octets few)))
  | inl many ↦ ([], take-append-le input_most octets rest (omega (arith, many)) ∙ sym (append-nil (take input_most octets)))
]

module _ (command : Command) (input : List ℕ) where
  -- the result for an input that is too long, and for another
  answer-long : (outcome : Outcome) → input_most < length input → ending_or (ending_by command false (take input_most input)) TooLong ≡ outcome → outcome ≡ answer_of command input
  answer-long outcome long is = by_length (nat_lt input_most (length input)) (grind (arith, nat_tests))
    where
      by_length : (b : Bool) → b ≡ true → outcome ≡ cond b (ending_or (ending_by command false (take input_most input)) TooLong) (ending_or (ending_by command true input) TooLong)
      by_length true same = sym is
      by_length false same = cc

  pub answer-short : (outcome : Outcome) → length input ≤ input_most → ending_or (ending_by command true input) TooLong ≡ outcome → outcome ≡ answer_of command input
  answer-short outcome short is = by_length (nat_lt input_most (length input)) (grind (arith, nat_tests))
    where
      by_length : (b : Bool) → b ≡ false → outcome ≡ cond b (ending_or (ending_by command false (take input_most input)) TooLong) (ending_or (ending_by command true input) TooLong)
      by_length true same = cc
      by_length false same = sym is

  -- the result, if the work ended by the contents of the input
  module _ (told left first last : Option (List ℕ)) (octets : List ℕ) (taken : Taken told octets left) (is_told : told ≡ Some input) where
    answer-final : (ending : Ending) → IsFinal told first last (command_future command) octets ending → ending_outcome ending ≡ answer_of command input
    answer-final ending final = by_end final.ended final.all final.ends final.stays
      where
        rest : List ℕ
        rest = (told-parts told left octets input taken is_told).0

        parts : input ≡ octets ++ rest
        parts = (told-parts told left octets input taken is_told).1

        by_end : (ended : Bool) → (ended ≡ true → (length octets ≤ input_most) × IfSome told (λ all. all ≡ octets)) → ending_by command ended (take input_most octets) ≡ Some ending
            → (ended ≡ false → (is : Bool) (more : List ℕ) → ending_by command is (take input_most octets ++ more) ≡ Some ending) → ending_outcome ending ≡ answer_of command input
        by_end true all ends stays =
            let same : input ≡ octets = ended-input told octets input (all refl).1 is_told in
            let few : length octets ≤ input_most = (all refl).0 in
            answer-short (ending_outcome ending) (subst (λ (xs : List ℕ). length xs ≤ input_most) (sym same) few)
            (ap (λ (xs : List ℕ). ending_or (ending_by command true xs) TooLong) (same ∙ sym (take_all input_most octets few)) ∙ ap (λ (end : Option Ending). ending_or end TooLong) ends)
        by_end false all ends stays = elim (cases_lt input_most (length input)) [
          | inr short ↦
              let few : length octets ≤ input_most = omega (arith, short, ap length parts, length-append octets rest) in
              answer-short (ending_outcome ending) short
              (ap (λ (xs : List ℕ). ending_or (ending_by command true xs) TooLong) (parts ∙ ap (λ (xs : List ℕ). xs ++ rest) (sym (take_all input_most octets few)))
              ∙ ap (λ (end : Option Ending). ending_or end TooLong) (stays refl true rest))
          | inl long ↦
              let begun = first-parts octets rest in
              answer-long (ending_outcome ending) (omega (arith, long))
              (ap (λ (xs : List ℕ). ending_or (ending_by command false xs) TooLong) (ap (take input_most) parts ∙ begun.1)
              ∙ ap (λ (end : Option Ending). ending_or end TooLong) (stays refl false begun.0))
        ]

    -- the result for an input that is too long
    answer-too_long : IsTooLong first last (command_future command) octets → TooLong ≡ answer_of command input
    answer-too_long is =
        let parts = told-parts told left octets input taken is_told in
        let rest = parts.0 in
        let same : take input_most input ≡ take input_most octets = ap (take input_most) parts.1 ∙ take-append-le input_most octets rest (omega (arith, is.many)) in
        answer-long TooLong (omega (arith, is.many, ap length parts.1, length-append octets rest))
        (ap (λ (xs : List ℕ). ending_or (ending_by command false xs) TooLong) same ∙ ap (λ (end : Option Ending). ending_or end TooLong) is.ends)

-- if an allocation fails, the command is one that allocates memory
pub wanting-command : (command : Command) (told left first last : Option (List ℕ)) → Filtered told left first last (command_future command) NoMemory → CanWantMemory command
wanting-command Stations told left first last worked = tt
wanting-command Duplex told left first last worked = tt
wanting-command Fragments told left first last worked = tt
wanting-command command told left first last worked = Contains-none worked.meets.text worked.meets.pauses

ending-memory : (ending : Ending) → ending_outcome ending ≡ Memory → ⊥
ending-memory Done is = cc
ending-memory ending is = cc

pub memory-command : (command : Command) (told left first last : Option (List ℕ)) (end : FilterEnd)
    → Filtered told left first last (command_future command) end → filter_outcome end ≡ Memory → CanWantMemory command
memory-command command told left first last (Ended ending) worked is = absurd (ending-memory ending is)
memory-command command told left first last NoMemory worked is = wanting-command command told left first last worked
memory-command command told left first last end worked is = cc

-- without a fault of the source or of the sink the outcome is the result for the input, or an allocation failed
pub answer-without-faults : (command : Command) (told left first last : Option (List ℕ)) (end : FilterEnd)
    → Filtered told left first last (command_future command) end → (end ≡ ReadFault → ⊥) → (end ≡ WriteFault → ⊥)
    → (input : List ℕ) → told ≡ Some input → (filter_outcome end ≡ answer_of command input) ⊎ ((filter_outcome end ≡ Memory) × CanWantMemory command)
answer-without-faults command told left first last (Ended ending) worked read write input is_told =
    inl (answer-final command input told left first last worked.octets worked.taken is_told ending worked.meets)
answer-without-faults command told left first last ReadFault worked read write input is_told = absurd (read refl)
answer-without-faults command told left first last WriteFault worked read write input is_told = absurd (write refl)
answer-without-faults command told left first last InputTooLong worked read write input is_told =
    inl (answer-too_long command input told left first last worked.octets worked.taken is_told worked.meets)
answer-without-faults command told left first last NoMemory worked read write input is_told = inr (refl, wanting-command command told left first last worked)
