-- The calls of a list of items.
use Rattle.std.specs.{Prelude.{◌-◌, Bool, true, not, ◌&&◌, if◌then◌else◌, ◌==◌, List, [], ◌∷◌, map, filter, count_by, Option, None}, List.{list_all, list_any}}
use Rattle.std.specs.Option.{option_or}
use Rattle.p25_bch_nid.specs.Duids.{duid_tdu, duid_tdulc}
use Rattle.p25_units.specs.declared.item.Item.{Item}
use Rattle.p25_calls.specs.{declared.call.Call.{Call}, declared.call.CallEnd.{CallEnd}, declared.call.CallEnd.TheVariants.{Tdu, Tdulc, Open}}
use Rattle.p25_calls.specs.{declared.seen.UnitSeen.{UnitSeen}, Seen.{is_header, is_link_unit, is_voice, unit_end, units_of}}
use Rattle.p25_calls.specs.Runs.{Run, last_unit, runs_by, units_in}

-- the end of a call by its last data unit: with a terminator without or with link control (TDU or TDULC), or with none
abbrev pub end_of : UnitSeen → CallEnd
end_of unit = if unit.duid == duid_tdu then Tdu else if unit.duid == duid_tdulc then Tdulc else Open

-- the value of the first data unit that has one
abbrev pub first_had : {X : Type 0} → (UnitSeen → Option X) → List UnitSeen → Option X
first_had had [] = None
first_had had (unit ∷ units) = option_or (had unit) (first_had had units)

-- a run as a call: it reaches from the position of its first data unit to the end of its last one
unfoldable pub call_of : Run → Call
call_of run = record {
  place = run.first.place;
  bits = unit_end (last_unit run) - run.first.place;
  nac = run.first.nac;
  late = not (is_header run.first);
  end = end_of (last_unit run);
  links = count_by is_link_unit (units_in run);
  broken = count_by (λ unit. unit.broken) (units_in run);
  link = first_had (λ unit. unit.link) (units_in run);
  algid = first_had (λ unit. unit.algid) (units_in run);
}

-- a run is a call if it has voice data units alone, and a link data unit (LDU1 or LDU2) among them
abbrev pub is_call : Run → Bool
is_call run = list_all is_voice (units_in run) && list_any is_link_unit (units_in run)

-- the calls among some runs, in order
abbrev pub calls_among : List Run → List Call
calls_among runs = map call_of (filter is_call runs)

-- the calls of a list of items that no others follow, or only those that no further item can change
unfoldable pub calls_by : Bool → List Item → List Call
calls_by ended items = calls_among (runs_by ended (units_of items))

-- the calls of a list of items
abbrev pub calls_of : List Item → List Call
calls_of = calls_by true
