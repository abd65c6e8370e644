-- The run that a data unit ends and the one that it leaves: a run that a terminator closes, a packet that is a run by itself and no call, and a run
-- that stays open. By whether there is a break after the data unit.
use Rattle.std.proofs.Common.{◌≡◌, ℕ, ◌+◌, Bool, true, false, not, ◌||◌, List, [], ◌∷◌, ◌++◌, Option, Some, None, refl, inl, inr, ◌⊎◌, arith}
use Rattle.std.proofs.lemmas.Bool.{eqb-true, or_cases, not-false}
use Rattle.std.specs.{Prelude.{nat_eq, nat_lt, option_to_list}, Option.{option_or}}
use Rattle.p25_calls.specs.{declared.call.Call.{Call}, declared.seen.UnitSeen.{UnitSeen}, Seen.{is_break, is_header, is_link_unit, is_terminator, is_voice, unit_end}}
use Rattle.p25_calls.specs.{Runs.{Run, closed_runs, last_unit, runs_by, runs_of, units_in}, Calls.{calls_among, is_call}, Taking.{broken_off, ended_call, if_linked, pending_run, run_with}}
use Rattle.p25_calls.proofs.{RunsLaws.{IsCutBefore, IsUnbroken, runs_of-run}, CallLaws.{calls_among-none, calls_among-voice}, LastRunLaws.{Holds, LastRun, last-run, none, pending_units, some}}

-- ---- types of data units

-- a terminator is a voice data unit, and no link data unit
pub record IsEndOnly (unit : UnitSeen) : Type 0 where
  pub voice : is_voice unit ≡ true
  pub unlinked : is_link_unit unit ≡ false

end-only : (unit : UnitSeen) → is_terminator unit ≡ true → IsEndOnly unit
end-only unit ends =
    elim (or_cases (nat_eq unit.duid 3) (nat_eq unit.duid 0xF) ends) [
      | inl three ↦ let is = eqb-true unit.duid 3 three in record { voice = rw is; unlinked = rw is }
      | inr fifteen ↦ let is = eqb-true unit.duid 0xF fifteen in record { voice = rw is; unlinked = rw is }
    ]

-- a packet is no terminator
packet-open : (unit : UnitSeen) → is_voice unit ≡ false → is_terminator unit ≡ false
packet-open unit packet =
    let is = eqb-true unit.duid 0xC (not-false (nat_eq unit.duid 0xC) packet) in rw is

-- ---- the run that a data unit ends, and the one that it leaves

pub record Stepped (before : Option Run) (unit : UnitSeen) (answer pending : Option Call) : Type 0 where
  pub behind : Option Run
  pub holds : Holds (unit_end unit) pending behind
  pub calls : (ended : Bool) (rest : List UnitSeen)
      → calls_among (runs_by ended (pending_units before ++ unit ∷ rest)) ≡ option_to_list answer ++ calls_among (runs_by ended (pending_units behind ++ rest))

-- a voice data unit that is no terminator leaves the run open
stepped-open : (pending : Option Call) (before : Option Run) (unit : UnitSeen) → LastRun pending before unit → is_voice unit ≡ true → is_terminator unit ≡ false
    → Stepped before unit (broken_off pending unit) (Some (run_with pending unit))
unfolding pending_units
stepped-open pending before unit last voice going = record {
  behind = Some last.last;
  holds = some (run_with pending unit) last.last record {
    is = last.is;
    unbroken = last.unbroken;
    voice = last.voice voice;
    last_voice = rw last.ends voice;
    going = rw last.ends going;
    nac = rw last.ends last.nac;
    end = rw last.ends last.end;
    before = omega (arith, last.end);
  };
  calls = last.rest_is;
}

-- after a terminator, and after a packet, there is a break
after-terminator : (a header far : Bool) → (a || true || header || far) ≡ true
after-terminator true header far = refl
after-terminator false header far = refl

pub cut-terminator : (unit : UnitSeen) (rest : List UnitSeen) → is_terminator unit ≡ true → IsCutBefore unit rest
unfolding is_break
cut-terminator unit [] ends = tt
cut-terminator unit (next ∷ rest) ends =
    let before = not (is_voice unit) || not (is_voice next) || not (nat_eq unit.nac next.nac) in
    rw ends (after-terminator before (is_header next) (nat_lt (unit_end unit + 3456) next.place))

cut-packet : (unit : UnitSeen) (rest : List UnitSeen) → is_voice unit ≡ false → IsCutBefore unit rest
unfolding is_break
cut-packet unit [] packet = tt
cut-packet unit (next ∷ rest) packet = rw packet

closed-terminated : (run : Run) (runs : List Run) → is_terminator (last_unit run) ≡ true → closed_runs (run ∷ runs) ≡ run ∷ closed_runs runs
unfolding closed_runs
closed-terminated run [] ends = rw ends
closed-terminated run (next ∷ runs) ends = refl

closed-none : (run : Run) (runs : List Run) → is_terminator (last_unit run) ≡ false → is_call run ≡ false → calls_among (closed_runs (run ∷ runs)) ≡ calls_among (closed_runs runs)
unfolding closed_runs
closed-none run [] going no' = rw going
closed-none run (next ∷ runs) going no' = calls_among-none run (closed_runs (next ∷ runs)) no'

runs_by-terminated : (ended : Bool) (run : Run) (rest : List UnitSeen) → IsUnbroken run.first run.others → is_terminator (last_unit run) ≡ true
    → runs_by ended (units_in run ++ rest) ≡ run ∷ runs_by ended rest
unfolding runs_by
runs_by-terminated true run rest unbroken ends = runs_of-run run rest unbroken (cut-terminator (last_unit run) rest ends)
runs_by-terminated false run rest unbroken ends = rw (runs_of-run run rest unbroken (cut-terminator (last_unit run) rest ends)) (closed-terminated run (runs_of rest) ends)

runs_by-packet : (ended : Bool) (run : Run) (rest : List UnitSeen) → IsUnbroken run.first run.others → is_voice (last_unit run) ≡ false → is_call run ≡ false
    → calls_among (runs_by ended (units_in run ++ rest)) ≡ calls_among (runs_by ended rest)
unfolding runs_by
runs_by-packet true run rest unbroken packet no' = rw (runs_of-run run rest unbroken (cut-packet (last_unit run) rest packet)) (calls_among-none run (runs_of rest) no')
runs_by-packet false run rest unbroken packet no' =
    rw (runs_of-run run rest unbroken (cut-packet (last_unit run) rest packet)) (closed-none run (runs_of rest) (packet-open (last_unit run) packet) no')

-- two calls of which one is none at least, one after the other
both-lists : (first second : Option Call) (rest : List Call) → (first ≡ None) ⊎ (second ≡ None)
    → option_to_list first ++ (option_to_list second ++ rest) ≡ option_to_list (option_or first second) ++ rest
both-lists (Some first) (Some second) rest (inl same) = cc
both-lists (Some first) (Some second) rest (inr same) = cc
both-lists first second rest one = refl

-- a terminator closes it
stepped-terminator : (pending : Option Call) (before : Option Run) (unit : UnitSeen) → LastRun pending before unit → is_terminator unit ≡ true
    → Stepped before unit (option_or (broken_off pending unit) (if_linked (run_with pending unit))) None
unfolding pending_units
stepped-terminator pending before unit last ends =
    let kind = end-only unit ends in
    let one : (broken_off pending unit ≡ None) ⊎ (if_linked (run_with pending unit) ≡ None) = elim last.one [ inl none' ↦ inl none' | inr unlinked ↦ inr (unlinked kind.unlinked) ] in
    record {
      behind = None;
      holds = none;
      calls = λ ended rest.
          rw (last.rest_is ended rest, runs_by-terminated ended last.last rest last.unbroken (rw last.ends ends), calls_among-voice last.last (runs_by ended rest) (last.voice kind.voice), ← last.is)
          (both-lists (broken_off pending unit) (if_linked (run_with pending unit)) (calls_among (runs_by ended rest)) one);
    }

-- and a packet is a run by itself, which is no call
stepped-packet : (pending : Option Call) (before : Option Run) (unit : UnitSeen) → LastRun pending before unit → is_voice unit ≡ false
    → Stepped before unit (broken_off pending unit) None
unfolding pending_units
stepped-packet pending before unit last packet = record {
  behind = None;
  holds = none;
  calls = λ ended rest. rw (last.rest_is ended rest, runs_by-packet ended last.last rest last.unbroken (rw last.ends packet) (last.packet packet));
}

option_or-nothing : (o : Option Call) → option_or o None ≡ o
option_or-nothing None = refl
option_or-nothing (Some call) = refl

stepped-by : (pending : Option Call) (before : Option Run) (unit : UnitSeen) → LastRun pending before unit → (voice ends : Bool) → is_voice unit ≡ voice → is_terminator unit ≡ ends
    → Stepped before unit (ended_call pending unit) (pending_run (run_with pending unit) unit)
stepped-by pending before unit last voice true is_voice' is_end = let kind = end-only unit is_end in rw (is_end, kind.voice) (stepped-terminator pending before unit last is_end)
stepped-by pending before unit last true false is_voice' is_end = rw (is_end, is_voice', option_or-nothing) (stepped-open pending before unit last is_voice' is_end)
stepped-by pending before unit last false false is_voice' is_end = rw (is_end, is_voice', option_or-nothing) (stepped-packet pending before unit last is_voice')

pub stepped : (reached : ℕ) (pending : Option Call) (before : Option Run) → Holds reached pending before → (unit : UnitSeen) → unit.place ≡ reached
    → Stepped before unit (ended_call pending unit) (pending_run (run_with pending unit) unit)
stepped reached pending before holds unit at = stepped-by pending before unit (last-run reached pending before holds unit at) (is_voice unit) (is_terminator unit) refl refl
