-- Calls as numbers and octets, and what a caller keeps between items.
use Rattle.std.specs.Option.{option_or}
use Rattle.std.specs.Prelude.{ℕ, ℤ, pos, negsuc, ◌+◌, ◌-◌, ◌^◌, ◌==◌, ◌&&◌, ◌||◌, nat_le, nat_lt, Bool, true, false, if◌then◌else◌, List, replicate, Option, Some, None}
use Rattle.p25_calls.specs.{Seen.{broken_unit}, Taking.{linked_pending, unit_answer, unit_pending}, declared.call.Call.{Call}, declared.call.CallEnd.{CallEnd}}
use Rattle.p25_calls.specs.{declared.call.CallEnd.TheVariants.{Tdu, Tdulc, Open}, declared.seen.UnitSeen.{UnitSeen}}
use Rattle.p25_link.specs.declared.link_control.LinkControl.{LinkControl}
use Rattle.p25_c.specs.{Values.{flag, is_set}, declared.calls.CallParts.{CallParts}, declared.calls.CallerState.{CallerState}}
use Rattle.p25_c.specs.{declared.fields.FieldParts.{FieldParts}, declared.items.ItemParts.{ItemParts}}

-- ---- a call as numbers and octets, and back

-- how a call ends: 1 with a TDU, 2 with a TDULC, and 0 without a terminator
abbrev pub end_number : CallEnd → ℕ
end_number Tdu = 1
end_number Tdulc = 2
end_number Open = 0

abbrev pub end_held : ℕ → CallEnd
end_held number = if number == 1 then Tdu else if number == 2 then Tdulc else Open

-- link control (LC) if there is any: whether it is there, and its octets
abbrev pub has_link : Option LinkControl → ℕ
has_link None = 0
has_link (Some link) = 1

abbrev pub link_octets : Option LinkControl → List ℕ
link_octets None = replicate 9 0
link_octets (Some link) = link.0

abbrev pub link_held : ℕ → List ℕ → Option LinkControl
link_held there octets = if is_set there then Some (record { 0 = octets }) else None

-- a number if there is one
abbrev pub has_number : Option ℕ → ℕ
has_number None = 0
has_number (Some number) = 1

abbrev pub number_or_zero : Option ℕ → ℕ
number_or_zero None = 0
number_or_zero (Some number) = number

abbrev pub number_held : ℕ → ℕ → Option ℕ
number_held there number = if is_set there then Some number else None

-- a call as numbers and octets
abbrev pub call_told : Call → CallParts
call_told call = record {
  place = call.place;
  bits = call.bits;
  links = call.links;
  broken = call.broken;
  nac = call.nac;
  late = flag call.late;
  end = end_number call.end;
  has_lc = has_link call.link;
  has_algid = has_number call.algid;
  algid = number_or_zero call.algid;
  lc = link_octets call.link;
}

-- the call of numbers and octets
abbrev pub call_held : CallParts → Call
call_held parts = record {
  place = parts.place;
  bits = parts.bits;
  nac = parts.nac;
  late = is_set parts.late;
  end = end_held parts.end;
  links = parts.links;
  broken = parts.broken;
  link = link_held parts.has_lc parts.lc;
  algid = number_held parts.has_algid parts.algid;
}

-- no call
abbrev pub no_call : CallParts
no_call = record {
  place = 0;
  bits = 0;
  links = 0;
  broken = 0;
  nac = 0;
  late = 0;
  end = 0;
  has_lc = 0;
  has_algid = 0;
  algid = 0;
  lc = replicate 9 0;
}

-- ---- what a caller keeps

-- a caller by whether a run ends with the gap after which no unit can join it, the end of the last item that was taken, how many were
-- taken, and the run that a further unit may still join
abbrev pub state_told : ℕ → ℕ → ℕ → Option Call → CallerState
state_told gap reached taken None = record { reached = reached; taken = taken; is_open = 0; by_gap = gap; run = no_call }
state_told gap reached taken (Some call) = record { reached = reached; taken = taken; is_open = 1; by_gap = gap; run = call_told call }

-- the run that is open
abbrev pub pending_held : CallerState → Option Call
pending_held state = if is_set state.is_open then Some (call_held state.run) else None

-- the run that is open ends at the end of the last item at the latest, and has no more units than items were taken
abbrev pub is_kept : CallerState → Bool
is_kept state =
    if is_set state.is_open
    then nat_le (state.run.place + state.run.bits) state.reached && nat_le state.run.links state.taken && nat_le state.run.broken state.taken
    else true

-- an item may be taken: it begins at the end of the last one, below 2^60, and fewer than 2^32 - 1 were taken
abbrev pub may_take : CallerState → ItemParts → Bool
may_take state item = is_kept state && item.place == state.reached && nat_lt item.place (2 ^ 60) && nat_lt state.taken (2 ^ 32 - 1)

-- the unit that an item is, by its numbers and, of a whole one, by its fields
abbrev pub whole_told : ItemParts → FieldParts → UnitSeen
whole_told item fields = record {
  place = item.place;
  bits = item.bits;
  nac = item.nac;
  duid = item.duid;
  broken = false;
  link = link_held fields.has_lc fields.lc;
  algid = number_held fields.has_mi fields.algid;
}

abbrev pub unit_told : ItemParts → FieldParts → Option UnitSeen
unit_told item fields =
    if item.kind == 1 then Some (whole_told item fields)
    else if item.kind == 2 then Some (broken_unit item.place item.bits item.nac item.duid) else None

-- ---- what a caller returns

-- no unit can join the run that is open any more, once the recording was read up to a bit: that is more than 3,456 bits after its end
abbrev pub is_over : Option Call → ℕ → Bool
is_over None reached = false
is_over (Some call) reached = nat_lt (call.place + call.bits + 3456) reached

-- the run that is open ends, since it is over and the caller ends calls so
abbrev pub ends_so : ℕ → Option Call → ℕ → Bool
ends_so gap pending reached = is_set gap && is_over pending reached

-- the run that is open after an item
abbrev pub item_pending : CallerState → ItemParts → FieldParts → Option Call
item_pending state item fields = unit_pending (pending_held state) (unit_told item fields)

-- it ends with this item
abbrev pub ends_with : CallerState → ItemParts → FieldParts → Bool
ends_with state item fields = ends_so state.by_gap (item_pending state item fields) (item.place + item.bits)

-- the call that a caller returns of an item: the one that it ends, if it ends one; None if it may not be taken
abbrev pub item_answer_of : CallerState → ItemParts → FieldParts → Option Call
item_answer_of state item fields =
    option_or (unit_answer (pending_held state) (unit_told item fields))
    (if ends_with state item fields then linked_pending (item_pending state item fields) else None)

abbrev pub call_asked : CallerState → ItemParts → FieldParts → Option (Option Call)
call_asked state item fields = if may_take state item then Some (item_answer_of state item fields) else None

-- the call that a caller returns at the end
abbrev pub last_asked : CallerState → Option (Option Call)
last_asked state = if is_kept state then Some (linked_pending (pending_held state)) else None

-- the number that is returned: 1 if a call ends, 0 if none does, and -1 if the item may not be taken
abbrev pub call_answer : Option (Option Call) → ℤ
call_answer None = negsuc 0
call_answer (Some None) = pos 0
call_answer (Some (Some call)) = pos 1

-- the call that is stored then: the one that ends, if one does
abbrev pub call_left : Option (Option Call) → CallParts → CallParts
call_left None before = before
call_left (Some None) before = before
call_left (Some (Some call)) before = call_told call

-- the caller after the call: after the item, if it may be taken
abbrev pub caller_left : CallerState → ItemParts → FieldParts → CallerState
caller_left state item fields =
    if may_take state item
    then state_told state.by_gap (item.place + item.bits) (state.taken + 1) (if ends_with state item fields then None else item_pending state item fields)
    else state

-- and at the end one that has taken no item
abbrev pub finished_left : CallerState → CallerState
finished_left state = if is_kept state then state_told state.by_gap 0 0 None else state

-- and if the run that is open is ended, one that goes on at the same bit
abbrev pub closed_left : CallerState → CallerState
closed_left state = if is_kept state then state_told state.by_gap state.reached state.taken None else state

-- an item is a unit of a call: a whole or a broken unit that begins within it
abbrev pub has_unit : CallParts → ItemParts → Bool
has_unit call item = (item.kind == 1 || item.kind == 2) && nat_le call.place item.place && nat_lt item.place (call.place + call.bits)
