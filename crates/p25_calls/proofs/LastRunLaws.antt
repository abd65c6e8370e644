-- The run that ends with a data unit, in three cases: it joins, it begins after a break, or it begins when no run is open. There is a break before it if and
-- only if it does not join. The calls up to it are the one that it broke off and those of that run.
use Rattle.std.proofs.Common.{◌≡◌, ℕ, ◌+◌, ◌-◌, ◌≤◌, Bool, true, false, not, ◌&&◌, ◌||◌, List, [], ◌∷◌, ◌++◌, Option, Some, None, refl, sym, ap₂, ◌∙◌, inl, inr, ◌⊎◌, arith, append_assoc}
use Rattle.std.proofs.{lemmas.Bool.{and_from, and_parts, eqb-true, true≢false}, lemmas.Bool.Decides.{nat_tests}, lemmas.List.Folds.{list_all-append}}
use Rattle.std.specs.{Prelude.{nat_eq, nat_le, nat_lt, option_to_list}, List.{list_all}}
use Rattle.p25_calls.specs.{declared.call.Call.{Call}, declared.seen.UnitSeen.{UnitSeen}, Seen.{is_break, is_header, is_link_unit, is_terminator, is_voice, unit_end}}
use Rattle.p25_calls.specs.{Runs.{Run, closed_runs, last_of, last_unit, run_from, runs_by, units_in}, Calls.{call_of, calls_among, is_call}}
use Rattle.p25_calls.specs.Taking.{broken_off, call_of_one, extended, goes_on, if_linked, run_with}
use Rattle.p25_calls.proofs.{RunsLaws.{IsUnbroken, last_of-append, runs_of-begins, runs_of-run, unbroken-append}, CallLaws.{call_of-grown, calls_among-voice, grown}}

-- ---- whether a data unit joins

joined-bools : (voice same header near : Bool) → (not true || not voice || not same || false || header || not near) ≡ not (voice && same && not header && near)
joined-bools true true false true = refl
joined-bools voice same header near = refl

far-not_near : (place end : ℕ) → nat_lt end place ≡ not (nat_le place end)
far-not_near place end = grind (arith, nat_tests)

-- the call of a run that a further data unit may join, with the facts about its last data unit
pub record Pends (reached : ℕ) (call : Call) (run : Run) : Type 0 where
  pub is : call ≡ call_of run
  pub unbroken : IsUnbroken run.first run.others
  pub voice : list_all is_voice (units_in run) ≡ true
  pub last_voice : is_voice (last_unit run) ≡ true
  pub going : is_terminator (last_unit run) ≡ false
  pub nac : (last_unit run).nac ≡ call.nac
  pub end : unit_end (last_unit run) ≡ call.place + call.bits
  pub before : call.place + call.bits ≤ reached

-- there is a break before a data unit exactly if it does not join
break-by : (reached : ℕ) (call : Call) (run : Run) → Pends reached call run → (unit : UnitSeen) → is_break (last_unit run) unit ≡ not (goes_on call unit)
unfolding is_break
break-by reached call run pends unit =
    let last = last_unit run in
    rw (pends.last_voice, pends.going, pends.nac, pends.end, far-not_near unit.place (call.place + call.bits + 3456))
    (joined-bools (is_voice unit) (nat_eq call.nac unit.nac) (is_header unit) (nat_le unit.place (call.place + call.bits + 3456)))

-- ---- the run whose last data unit is a given one

-- the run that may be open, and its data units
pub data Holds (reached : ℕ) : Option Call → Option Run → Type 0 where
  none : Holds reached None None
  some : (call : Call) (run : Run) → Pends reached call run → Holds reached (Some call) (Some run)

unfoldable pub pending_units : Option Run → List UnitSeen
pending_units None = []
pending_units (Some run) = units_in run

-- the facts about the run whose last data unit is a given one
pub record LastRun (pending : Option Call) (before : Option Run) (unit : UnitSeen) : Type 0 where
  pub last : Run
  pub is : run_with pending unit ≡ call_of last
  pub ends : last_unit last ≡ unit
  pub unbroken : IsUnbroken last.first last.others
  pub voice : is_voice unit ≡ true → list_all is_voice (units_in last) ≡ true
  pub packet : is_voice unit ≡ false → is_call last ≡ false
  pub nac : unit.nac ≡ (run_with pending unit).nac
  pub end : unit_end unit ≡ (run_with pending unit).place + (run_with pending unit).bits
  pub one : (broken_off pending unit ≡ None) ⊎ (is_link_unit unit ≡ false → if_linked (run_with pending unit) ≡ None)
  pub rest_is : (ended : Bool) (rest : List UnitSeen)
      → calls_among (runs_by ended (pending_units before ++ unit ∷ rest)) ≡ option_to_list (broken_off pending unit) ++ calls_among (runs_by ended (units_in last ++ rest))

-- the runs of data units that a run begins, with a break after it
runs_by-split : (ended : Bool) (run : Run) (unit : UnitSeen) (rest : List UnitSeen) → IsUnbroken run.first run.others → is_break (last_unit run) unit ≡ true
    → runs_by ended (units_in run ++ unit ∷ rest) ≡ run ∷ runs_by ended (unit ∷ rest)
unfolding runs_by closed_runs
runs_by-split true run unit rest unbroken breaks = runs_of-run run (unit ∷ rest) unbroken breaks
runs_by-split false run unit rest unbroken breaks =
    let first = runs_of-begins unit rest in
    rw (runs_of-run run (unit ∷ rest) unbroken breaks, first.is)

-- a run of one data unit
one-place : (place bits : ℕ) → place + bits ≡ place + (place + bits - place)
one-place place bits = omega arith

pub alone-end : (unit : UnitSeen) → unit_end unit ≡ (call_of_one unit).place + (call_of_one unit).bits
unfolding call_of last_of
alone-end unit = one-place unit.place unit.bits

pub alone-nac : (unit : UnitSeen) → unit.nac ≡ (call_of_one unit).nac
unfolding call_of
alone-nac unit = refl

alone-ends : (unit : UnitSeen) → last_of unit [] ≡ unit
unfolding last_of
alone-ends unit = refl

alone-unlinked : (unit : UnitSeen) → is_link_unit unit ≡ false → if_linked (call_of_one unit) ≡ None
unfolding call_of
alone-unlinked unit unlinked = rw unlinked

-- if it begins after the call that is held, because there is none or because there is a break
alone-run : (pending : Option Call) (before : Option Run) (unit : UnitSeen) → run_with pending unit ≡ call_of_one unit
    → ((ended : Bool) (rest : List UnitSeen) → calls_among (runs_by ended (pending_units before ++ unit ∷ rest))
    ≡ option_to_list (broken_off pending unit) ++ calls_among (runs_by ended (unit ∷ rest)))
    → LastRun pending before unit
alone-run pending before unit is rest_is = record {
  last = run_from unit [];
  is = is;
  ends = alone-ends unit;
  unbroken = tt;
  voice = λ voice. and_from (is_voice unit) true voice refl;
  packet = λ packet. rw packet;
  nac = rw is (alone-nac unit);
  end = rw is (alone-end unit);
  one = inr (λ unlinked. rw is (alone-unlinked unit unlinked));
  rest_is = rest_is;
}

extended-end : (call : Call) (unit : UnitSeen) (reached : ℕ) → call.place + call.bits ≤ reached → unit.place ≡ reached → unit_end unit ≡ (extended call unit).place + (extended call unit).bits
extended-end call unit reached before at = omega (arith, before, at)

-- if it joins the open run
joins-run : (reached : ℕ) (call : Call) (run : Run) → Pends reached call run → (unit : UnitSeen) → unit.place ≡ reached → goes_on call unit ≡ true → LastRun (Some call) (Some run) unit
unfolding pending_units
joins-run reached call run pends unit at goes =
    let near = and_parts (is_voice unit && nat_eq call.nac unit.nac && not (is_header unit)) (nat_le unit.place (call.place + call.bits + 3456)) goes in
    let plain = and_parts (is_voice unit && nat_eq call.nac unit.nac) (not (is_header unit)) near.0 in
    let same = and_parts (is_voice unit) (nat_eq call.nac unit.nac) plain.0 in
    record {
      last = grown run unit;
      is = rw (goes, pends.is) (sym (call_of-grown run unit));
      ends = last_of-append run.first run.others unit;
      unbroken = unbroken-append run.first run.others unit pends.unbroken (rw (break-by reached call run pends unit, goes));
      voice = λ voice. list_all-append is_voice (units_in run) (unit ∷ []) ∙ ap₂ ◌&&◌ pends.voice (and_from (is_voice unit) true voice refl);
      packet = λ packet. absurd (true≢false (sym same.0 ∙ packet));
      nac = rw goes (sym (eqb-true call.nac unit.nac same.1));
      end = rw goes (extended-end call unit reached pends.before at);
      one = inl (rw goes);
      rest_is = λ ended rest. rw (goes, append_assoc);
    }

-- if there is a break before it
breaks-run : (reached : ℕ) (call : Call) (run : Run) → Pends reached call run → (unit : UnitSeen) → goes_on call unit ≡ false → LastRun (Some call) (Some run) unit
unfolding pending_units
breaks-run reached call run pends unit breaks =
    alone-run (Some call) (Some run) unit (rw breaks)
    (λ ended rest. rw (breaks, runs_by-split ended run unit rest pends.unbroken (rw (break-by reached call run pends unit, breaks)), calls_among-voice run (runs_by ended (unit ∷ rest)) pends.voice, pends.is))

last-run-by : (reached : ℕ) (call : Call) (run : Run) → Pends reached call run → (unit : UnitSeen) → unit.place ≡ reached → (b : Bool) → goes_on call unit ≡ b → LastRun (Some call) (Some run) unit
last-run-by reached call run pends unit at true goes = joins-run reached call run pends unit at goes
last-run-by reached call run pends unit at false breaks = breaks-run reached call run pends unit breaks

pub last-run : (reached : ℕ) (pending : Option Call) (before : Option Run) → Holds reached pending before → (unit : UnitSeen) → unit.place ≡ reached → LastRun pending before unit
unfolding pending_units
last-run reached pending before none unit at = alone-run None None unit refl (λ ended rest. refl)
last-run reached pending before (some call run pends) unit at = last-run-by reached call run pends unit at (goes_on call unit) refl
