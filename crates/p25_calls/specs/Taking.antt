-- The state of a caller, and its result for an item.
use Rattle.std.specs.Prelude.{ℕ, ◌+◌, ◌-◌, ◌<◌, ◌≤◌, Bool, not, ◌&&◌, if◌then◌else◌, ◌==◌, nat_le, nat_lt, List, [], ◌∷◌, ◌++◌, Option, Some, None, IfSome, option_to_list}
use Rattle.std.specs.Option.{option_or}
use Rattle.p25_units.specs.{Items.{covered, place_of}, declared.item.Item.{Item}}
use Rattle.p25_calls.specs.{declared.call.Call.{Call}, declared.seen.UnitSeen.{UnitSeen}}
use Rattle.p25_calls.specs.{Seen.{is_header, is_link_unit, is_terminator, is_voice, unit_end, unit_of}, Runs.{run_from}, Calls.{call_of, end_of}}

-- the state of a caller: the bit after the last item that it took, the number of items, and the call that the next data unit may still join, or none
pub record CallerParts : Type 0 where
  pub reached : ℕ
  pub taken : ℕ
  pub pending : Option Call

-- before the first item
abbrev pub fresh_caller : CallerParts
fresh_caller = record { reached = 0; taken = 0; pending = None }

-- there is no break between the last data unit of a run and a data unit
abbrev pub goes_on : Call → UnitSeen → Bool
goes_on call unit = is_voice unit && call.nac == unit.nac && not (is_header unit) && nat_le unit.place (call.place + call.bits + 3456)

-- a run of one data unit, as a call
abbrev pub call_of_one : UnitSeen → Call
call_of_one unit = call_of (run_from unit [])

-- a run with one more data unit, as a call
abbrev pub extended : Call → UnitSeen → Call
extended call unit = record call {
  bits = unit_end unit - call.place;
  end = end_of unit;
  links = call.links + (if is_link_unit unit then 1 else 0);
  broken = call.broken + (if unit.broken then 1 else 0);
  link = option_or call.link unit.link;
  algid = option_or call.algid unit.algid;
}

-- the run whose last data unit is the given one, as a call
abbrev pub run_with : Option Call → UnitSeen → Call
run_with None unit = call_of_one unit
run_with (Some call) unit = if goes_on call unit then extended call unit else call_of_one unit

-- a run is a call if it has a link data unit
abbrev pub if_linked : Call → Option Call
if_linked call = if nat_lt 0 call.links then Some call else None

-- the call that ends with the data unit before a given one, because there is a break between them
abbrev pub broken_off : Option Call → UnitSeen → Option Call
broken_off None unit = None
broken_off (Some call) unit = if goes_on call unit then None else if_linked call

-- the call that ends with the last data unit of a run, because it is its terminator (TDU or TDULC)
abbrev pub terminated : Call → UnitSeen → Option Call
terminated run unit = if is_terminator unit then if_linked run else None

-- the call that a data unit ends
abbrev pub ended_call : Option Call → UnitSeen → Option Call
ended_call pending unit = option_or (broken_off pending unit) (terminated (run_with pending unit) unit)

-- a run that a further data unit may still join, by its last data unit
abbrev pub pending_run : Call → UnitSeen → Option Call
pending_run run unit = if is_voice unit && not (is_terminator unit) then Some run else None

-- the result of a caller for a data unit, if an item is one
abbrev pub unit_answer : Option Call → Option UnitSeen → Option Call
unit_answer pending None = None
unit_answer pending (Some unit) = ended_call pending unit

-- the run that is open after a data unit, if an item is one
abbrev pub unit_pending : Option Call → Option UnitSeen → Option Call
unit_pending pending None = pending
unit_pending pending (Some unit) = pending_run (run_with pending unit) unit

-- the result of a caller for an item: the call that ends with it, or that ended with the data unit before
unfoldable pub answer_to : CallerParts → Item → Option Call
answer_to caller item = unit_answer caller.pending (unit_of item)

-- the state of a caller after an item
unfoldable pub behind_item : CallerParts → Item → CallerParts
behind_item caller item = record {
  reached = place_of item + covered item;
  taken = caller.taken + 1;
  pending = unit_pending caller.pending (unit_of item);
}

-- the call that is still open
abbrev pub linked_pending : Option Call → Option Call
linked_pending None = None
linked_pending (Some call) = if_linked call

unfoldable pub open_call : CallerParts → Option Call
open_call caller = linked_pending caller.pending

-- the results for items, one after the other, and at the end, if it has come
unfoldable pub answers_by : Bool → CallerParts → List Item → List Call
answers_by ended caller [] = if ended then option_to_list (open_call caller) else []
answers_by ended caller (item ∷ items) = option_to_list (answer_to caller item) ++ answers_by ended (behind_item caller item) items

-- the state of a caller after items
unfoldable pub behind_items : CallerParts → List Item → CallerParts
behind_items caller [] = caller
behind_items caller (item ∷ items) = behind_items (behind_item caller item) items

-- the open run ends at or before the end of the last item, and has no more data units than items were taken
pub record IsPending (reached taken : ℕ) (call : Call) : Type 0 where
  pub before : call.place + call.bits ≤ reached
  pub links : call.links ≤ taken
  pub broken : call.broken ≤ taken

-- the invariant of a caller
abbrev pub IsCaller : CallerParts → Type 0
IsCaller caller = IfSome caller.pending (IsPending caller.reached caller.taken)

-- the network access code (NAC) of the open run has 12 bits
abbrev pub HasSoundPending : CallerParts → Type 0
HasSoundPending caller = IfSome caller.pending (λ call. call.nac < 4096)
