-- The reports of the commands, item by item.
use Rattle.std.specs.Prelude.{◌^◌, ◌+◌, ◌*◌, ◌/◌, ◌<◌, Bool, if◌then◌else◌, ◌≤◌, ℕ, List, [], ◌++◌, length, drop, flat_map, option_to_list}
use Rattle.p25_units.specs.{declared.item.Item.{Item}, Units.{whole_octets}}
use Rattle.p25_stream.specs.Repeats.{bridged, is_whole_item, repaired}
use Rattle.p25_follow.specs.{Following.{Follow, behind_item as follow_behind, written_before, written_end, written_item}, Relayed.{relayed}}
use Rattle.p25_filter.specs.declared.ending.Ending.TheVariants.{Done}
use Rattle.p25_recording_filters.specs.{declared.reports.show.Show.{Show}, declared.reports.changed.Change.{Change}}
use Rattle.p25_recording_filters.specs.declared.reports.changed.Change.TheVariants.{Repaired, Bridged, Relayed}
use Rattle.p25_recording_filters.specs.{ItemOutputs.{shown, faulty, call_line, calls_line, check_line, check_ending}, Reports.{Reporting}}
use Rattle.p25_calls.specs.Taking.{CallerParts, HasSoundPending, answer_to, behind_item, open_call}

-- the output of `show`: the line of each item
abbrev pub show_reporting : Reporting Show
show_reporting = record { piece = λ report item raw. shown item; behind = λ report item raw. report; closing = λ report. []; ending = λ report. Done }

-- the number of items that were whole data units, and of those that were not
pub record CheckParts : Type 0 where
  pub units : ℕ
  pub faults : ℕ

-- the output of `check`: the line of each item that is not a whole data unit, and at the end the two numbers
abbrev pub check_reporting : Reporting CheckParts
check_reporting = record {
  piece = λ report item raw. faulty item;
  behind = λ report item raw. record {
    units = report.units + (if is_whole_item item then 1 else 0);
    faults = report.faults + (if is_whole_item item then 0 else 1);
  };
  closing = λ report. check_line report.units report.faults;
  ending = λ report. check_ending report.faults;
}

-- a change of the bits of a recording, and the bits that are kept back
pub record ChangedParts : Type 0 where
  pub change : Change
  pub kept : List Bool

-- the bits of an item, changed
abbrev pub change_of : Change → Item → List Bool → List Bool
change_of Repaired item raw = repaired item raw
change_of (Bridged nac status) item raw = bridged nac status item []
change_of (Relayed nac status) item raw = relayed nac status item raw

-- the network access code (NAC) of a change is one
abbrev pub IsSoundChange : Change → Type 0
IsSoundChange Repaired = Unit {0}
IsSoundChange (Bridged nac status) = nac < 4096
IsSoundChange (Relayed nac status) = nac < 4096

-- the last bits, which do not fill an octet
abbrev pub unfilled : List Bool → List Bool
unfilled bits = drop (8 * (length bits / 8)) bits

abbrev pub changed_reporting : Reporting ChangedParts
changed_reporting = record {
  piece = λ report item raw. whole_octets (report.kept ++ change_of report.change item raw);
  behind = λ report item raw. record report { kept = unfilled (report.kept ++ change_of report.change item raw) };
  closing = λ report. [];
  ending = λ report. Done;
}

-- a follower, and the bits that are kept back
pub record FollowedParts : Type 0 where
  pub follower : Follow
  pub kept : List Bool

-- the bits that `follow` writes when an item arrives: those before its own, and its own
abbrev pub followed_item : Follow → Item → List Bool → List Bool
followed_item follower item raw = written_before follower item raw ++ written_item item raw

-- the output of `follow`: the bits with sync and NID written, and at the end those that are left
abbrev pub followed_reporting : Reporting FollowedParts
followed_reporting = record {
  piece = λ report item raw. whole_octets (report.kept ++ followed_item report.follower item raw);
  behind = λ report item raw. record {
    follower = follow_behind report.follower item raw;
    kept = unfilled (report.kept ++ followed_item report.follower item raw);
  };
  closing = λ report. whole_octets (report.kept ++ written_end report.follower);
  ending = λ report. Done;
}

-- a caller, and the number of calls that it has returned
pub record CallsParts : Type 0 where
  pub caller : CallerParts
  pub count : ℕ

-- it has returned no more calls than it took items, of which there are few, and the open run has a network access code (NAC)
pub record IsCalls (report : CallsParts) : Type 0 where
  pub sound : HasSoundPending report.caller
  pub fewer : report.count ≤ report.caller.taken
  pub few : report.caller.taken ≤ 2 ^ 29

abbrev pub calls_reporting : Reporting CallsParts
calls_reporting = record {
  piece = λ report item raw. flat_map call_line (option_to_list (answer_to report.caller item));
  behind = λ report item raw. record {
    caller = behind_item report.caller item;
    count = report.count + length (option_to_list (answer_to report.caller item));
  };
  closing = λ report.
      let last = option_to_list (open_call report.caller) in flat_map call_line last ++ calls_line (report.count + length last);
  ending = λ report. Done;
}
