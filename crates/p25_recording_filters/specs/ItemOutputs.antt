-- The output for the items of a recording.
use Rattle.std.specs.Prelude.{ℕ, ◌+◌, Bool, true, false, if◌then◌else◌, ◌==◌, List, [], ◌∷◌, ◌++◌, map, codes, decimal}
use Rattle.p25_units.specs.{Units.{whole_octets}, declared.item.Item.{Item}}
use Rattle.p25_stream.specs.{Items.{items_by}, Repeats.{is_whole_item}, Written.{written}}
use Rattle.p25_follow.specs.Following.{fresh_follow}
use Rattle.p25_soft.specs.Levels.{hard_bits}
use Rattle.p25_decide.specs.{DecidedFollowing.{changed_by}, DecidedRecordings.{decide_of, item_decided}}
use Rattle.p25_text.specs.ItemTexts.{item_text_of}
use Rattle.p25_calls.specs.{CallTexts.{call_text_of}, declared.call.Call.{Call}}
use Rattle.p25_filter.specs.{declared.ending.Ending.{Ending}, declared.ending.Ending.TheVariants.{Done, Found}}
use Rattle.p25_recording_filters.specs.SoftLevels.{filled, grouped, item_softened, octet_level, scanned}

-- the text of an item and the end of its line
abbrev pub shown : Item → List ℕ
shown item = item_text_of item ++ 10 ∷ []

-- the text of an item that is not a whole data unit, and the end of its line
abbrev pub faulty : Item → List ℕ
faulty item = if is_whole_item item then [] else shown item

-- the number of items that are whole data units, and of those that are not
unfoldable pub units_in : List Item → ℕ
units_in [] = 0
units_in (item ∷ items) = (if is_whole_item item then 1 else 0) + units_in items

unfoldable pub faults_in : List Item → ℕ
faults_in [] = 0
faults_in (item ∷ items) = (if is_whole_item item then 0 else 1) + faults_in items

-- the last line of a check
abbrev pub check_line : ℕ → ℕ → List ℕ
check_line units faults = codes "check units=" ++ decimal units ++ codes " faults=" ++ decimal faults ++ 10 ∷ []

-- the end of a check of some items
abbrev pub check_ending : ℕ → Ending
check_ending faults = if faults == 0 then Done else Found faults

-- the bits of items that lie end to end over some bits, each by a change of the bits that it covers
abbrev pub changed_bits : (Item → List Bool → List Bool) → List Item → List Bool → List Bool
changed_bits = written

-- the text of a call and the end of its line
abbrev pub call_line : Call → List ℕ
call_line call = call_text_of call ++ 10 ∷ []

-- the line of the number of calls
abbrev pub calls_line : ℕ → List ℕ
calls_line count = codes "calls=" ++ decimal count ++ 10 ∷ []

-- the output of `soft` for the octets of a soft recording, whether they are all or more may come: the bits of all items of the hard bits of its
-- levels, each broken packet (PDU) that begins at an even position softened
unfoldable pub soft_output : Bool → List ℕ → List ℕ
soft_output ended octets =
    let levels = scanned ended (map octet_level octets) in
    whole_octets (changed_bits (item_softened 0 levels) (items_by ended 0 (hard_bits levels)) (hard_bits levels))

-- the output of `decide` for the octets of a soft recording: if they are all, the bits of its levels, followed, with the coded fields of data units,
-- and failing blocks of packets (PDU), decoded from the levels. If more may come, those of it that a follower has settled
unfoldable pub decide_output : Bool → List ℕ → List ℕ
decide_output true octets = whole_octets (decide_of (filled (map octet_level octets)))
decide_output false octets =
    let levels = grouped (map octet_level octets) in
    whole_octets (changed_by (item_decided levels) false 0 fresh_follow (items_by false 0 (hard_bits levels)) (hard_bits levels))
