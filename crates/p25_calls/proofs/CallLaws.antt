-- Runs as calls: a run with one more data unit, and which runs are calls. Counts and first values of joined lists are split at the join.
use Rattle.std.proofs.{Common.{◌≡◌, ℕ, ◌+◌, Bool, true, false, cond, ◌&&◌, ◌||◌, List, [], ◌∷◌, ◌++◌, map, Option, Some, None, refl, sym, ap, ◌∙◌, arith}, lemmas.Bool.{cond-false, lt-ltb}}
use Rattle.std.proofs.lemmas.List.Sums.{fold-append, sum_by_from}
use Rattle.std.specs.{Prelude.{count_by, filter, nat_lt, option_to_list}, List.{list_all, list_any}, Option.{option_or}}
use Rattle.p25_calls.specs.{declared.seen.UnitSeen.{UnitSeen}, Seen.{is_link_unit, is_voice}, Runs.{Run, run_from, units_in}, Calls.{call_of, calls_among, first_had, is_call}}
use Rattle.p25_calls.specs.Taking.{extended, if_linked}
use Rattle.p25_calls.proofs.RunsLaws.{last_of-append}

-- a run with one data unit more
abbrev pub grown : Run → UnitSeen → Run
grown run unit = run_from run.first (run.others ++ unit ∷ [])

count-append : (test : UnitSeen → Bool) (units : List UnitSeen) (last : UnitSeen) → count_by test (units ++ last ∷ []) ≡ count_by test units + cond (test last) 1 0
count-append test units last = fold-append (λ (sum : ℕ) (unit : UnitSeen). sum + cond (test unit) 1 0) 0 units (last ∷ [])

option_or-none : {X : Type 0} (o : Option X) → option_or o None ≡ o
option_or-none None = refl
option_or-none (Some x) = refl

option_or-assoc : {X : Type 0} (a b c : Option X) → option_or a (option_or b c) ≡ option_or (option_or a b) c
option_or-assoc None b c = refl
option_or-assoc (Some x) b c = refl

first_had-append : {X : Type 0} (had : UnitSeen → Option X) (units : List UnitSeen) (last : UnitSeen) → first_had had (units ++ last ∷ []) ≡ option_or (first_had had units) (had last)
first_had-append had [] last = option_or-none (had last)
first_had-append had (unit ∷ units) last = ap (option_or (had unit)) (first_had-append had units last) ∙ option_or-assoc (had unit) (first_had had units) (had last)

-- a run with one data unit more, as a call
pub call_of-grown : (run : Run) (unit : UnitSeen) → call_of (grown run unit) ≡ extended (call_of run) unit
unfolding call_of
call_of-grown run unit =
    rw (
      last_of-append run.first run.others unit,
      count-append is_link_unit (units_in run) unit,
      count-append (λ (u : UnitSeen). u.broken) (units_in run) unit,
      first_had-append (λ (u : UnitSeen). u.link) (units_in run) unit,
      first_had-append (λ (u : UnitSeen). u.algid) (units_in run) unit,
    ) refl

lt_one : (count : ℕ) → nat_lt 0 (0 + 1 + count) ≡ true
lt_one count = lt-ltb 0 (0 + 1 + count) (omega arith)

zero_zero : (count : ℕ) → 0 + 0 + count ≡ count
zero_zero count = omega arith

some-more : (b : Bool) (count : ℕ) (any : Bool) → nat_lt 0 count ≡ any → nat_lt 0 (0 + cond b 1 0 + count) ≡ (b || any)
some-more true count any same = lt_one count
some-more false count any same = ap (nat_lt 0) (zero_zero count) ∙ same

-- some element passes a test exactly if more than none are counted
some-counted : (test : UnitSeen → Bool) (units : List UnitSeen) → nat_lt 0 (count_by test units) ≡ list_any test units
some-counted test [] = refl
some-counted test (unit ∷ units) =
    ap (nat_lt 0) (sum_by_from (λ (u : UnitSeen). cond (test u) 1 0) (0 + cond (test unit) 1 0) units) ∙ some-more (test unit) (count_by test units) (list_any test units) (some-counted test units)

chosen-run : (run : Run) (runs : List Run) (b : Bool) → map call_of (cond (true && b) (run ∷ runs) runs) ≡ option_to_list (cond b (Some (call_of run)) None) ++ map call_of runs
chosen-run run runs true = refl
chosen-run run runs false = refl

-- the calls of a run and others, if the run has voice data units alone
pub calls_among-voice : (run : Run) (runs : List Run) → list_all is_voice (units_in run) ≡ true → calls_among (run ∷ runs) ≡ option_to_list (if_linked (call_of run)) ++ calls_among runs
unfolding call_of
calls_among-voice run runs voice =
    let link = list_any is_link_unit (units_in run) in
    ap (λ (b : Bool). map call_of (cond (b && link) (run ∷ filter is_call runs) (filter is_call runs))) voice
    ∙ chosen-run run (filter is_call runs) link
    ∙ ap (λ (b : Bool). option_to_list (cond b (Some (call_of run)) None) ++ calls_among runs) (sym (some-counted is_link_unit (units_in run)))

-- the calls of a run that is none and others
pub calls_among-none : (run : Run) (runs : List Run) → is_call run ≡ false → calls_among (run ∷ runs) ≡ calls_among runs
calls_among-none run runs no' = ap (λ (chosen : List Run). map call_of chosen) (cond-false (is_call run) (run ∷ filter is_call runs) (filter is_call runs) no')
