-- What a follower keeps between items as numbers and octets, and what it writes of an item.
use Rattle.std.specs.Prelude.{ℕ, ℤ, ◌+◌, ◌-◌, ◌*◌, ◌/◌, ◌%◌, ◌^◌, ◌==◌, ◌&&◌, ◌||◌, nat_le, nat_lt, Bool, true, if◌then◌else◌, List, [], length, take, drop, replicate, Option, Some, None, Result, Ok, Err}
use Rattle.p25_bits.specs.Bits.{bits_of, field_of, octet_bits, part}
use Rattle.p25_follow.specs.Following.{Follow, follow}
use Rattle.p25_recording_filters.specs.Commands.{FollowedParts, followed_reporting}
use Rattle.p25_units.specs.{Units.{whole_octets}, declared.item.Item.{Item}, declared.item.Item.TheVariants.{Broken, Gap, Cut}}
use Rattle.p25_c.specs.{Places.{filled, has_item, outside}, Rooms.{write_left}, Values.{is_set}, declared.followers.FollowerState.{FollowerState}}
use Rattle.p25_c.specs.declared.items.ItemParts.{ItemParts}

-- ---- what is kept

-- the name of the unit before, and the bits of the stretch after it
abbrev pub name_held : FollowerState → Option (ℕ × ℕ)
name_held state = if is_set state.has_unit then Some (state.nac, state.duid) else None

abbrev pub follow_held : FollowerState → Follow
follow_held state = follow (name_held state) (take state.stretch (octet_bits state.octets))

-- they, and the bits that wait for their octet
abbrev pub parts_held : FollowerState → FollowedParts
parts_held state = record { follower = follow_held state; kept = bits_of state.waits state.waiting }

-- the numbers fit a follower: fewer than 6,912 bits of a stretch, and none without a unit before it; a network access code (NAC) of 12
-- bits and a data unit identifier (DUID) of 4; and at most 7 bits wait
abbrev pub is_follower : FollowerState → Bool
is_follower state =
    nat_lt state.stretch 6912 && (is_set state.has_unit || state.stretch == 0) && nat_lt state.nac 4096 && nat_lt state.duid 16 && nat_lt state.waits 8
    && nat_lt state.waiting (2 ^ state.waits)

-- a name as numbers
abbrev pub has_name : Option (ℕ × ℕ) → ℕ
has_name None = 0
has_name (Some name) = 1

abbrev pub name_nac : Option (ℕ × ℕ) → ℕ
name_nac None = 0
name_nac (Some name) = name.0

abbrev pub name_duid : Option (ℕ × ℕ) → ℕ
name_duid None = 0
name_duid (Some name) = name.1

-- a follower by what it keeps, whose next item begins at a bit
abbrev pub follower_told : ℕ → FollowedParts → FollowerState
follower_told reached parts = record {
  reached = reached;
  nac = name_nac parts.follower.before;
  stretch = length parts.follower.stretch;
  duid = name_duid parts.follower.before;
  has_unit = has_name parts.follower.before;
  waits = length parts.kept;
  waiting = field_of parts.kept;
  octets = write_left (Ok (whole_octets (filled parts.follower.stretch))) (replicate 864 0);
}

-- before the first item
abbrev pub fresh_follower : FollowerState
fresh_follower = record { reached = 0; nac = 0; stretch = 0; duid = 0; has_unit = 0; waits = 0; waiting = 0; octets = replicate 864 0 }

-- ---- items

-- the item of numbers, as far as a follower looks at it: the name of a unit, a sync with too few bits after it, or a stretch
abbrev pub item_held : ItemParts → Item
item_held item =
    if item.kind == 1 || item.kind == 2 then Broken 0 item.bits item.nac item.duid []
    else if item.kind == 5 then Cut 0 item.bits else Gap 0 item.bits

-- the numbers are those of an item: a unit is at least two blocks of 72 bits, and has an identifier; a stretch is at most 4,096 bits
abbrev pub is_unit_told : ItemParts → Bool
is_unit_told item = nat_lt item.nac 4096 && nat_lt item.duid 16 && item.bits % 72 == 0 && nat_le 144 item.bits

abbrev pub is_item_told : ItemParts → Bool
is_item_told item =
    if item.kind == 1 || item.kind == 2 then is_unit_told item
    else if item.kind == 5 then true else (item.kind == 3 || item.kind == 4) && nat_le item.bits 4096

-- an item may be taken, of which octets are given from bit `begin` on: it begins at the end of the last one, and its bits are among them
abbrev pub may_follow : FollowerState → ItemParts → ℕ → ℕ → Bool
may_follow state item begin count = is_follower state && item.place == state.reached && is_item_told item && has_item begin item.place item.bits count

-- ---- what is written

-- the bits of an item
abbrev pub item_raw : ItemParts → ℕ → List ℕ → List Bool
item_raw item begin octets = part (item.place - begin) item.bits (octet_bits octets)

-- the octets that are written as an item is taken, or -1 if it may not be
abbrev pub item_followed : FollowerState → ItemParts → ℕ → List ℕ → List ℕ
item_followed state item begin octets = followed_reporting.piece (parts_held state) (item_held item) (item_raw item begin octets)

abbrev pub followed_octets : FollowerState → ItemParts → ℕ → List ℕ → Result (List ℕ) ℤ
followed_octets state item begin octets = if may_follow state item begin (length octets) then Ok (item_followed state item begin octets) else Err outside

-- what is kept then
abbrev pub item_behind : FollowerState → ItemParts → ℕ → List ℕ → FollowerState
item_behind state item begin octets =
    follower_told (item.place + item.bits) (followed_reporting.behind (parts_held state) (item_held item) (item_raw item begin octets))

-- the follower after the call: after the item, if it may be taken and the buffer has capacity for what is written
abbrev pub follower_left : FollowerState → ItemParts → ℕ → List ℕ → ℕ → FollowerState
follower_left state item begin octets room =
    if may_follow state item begin (length octets)
    then (if nat_le (length (item_followed state item begin octets)) room then item_behind state item begin octets else state)
    else state

-- the octets that are written at the end, or -1 if the numbers fit no follower
abbrev pub last_octets : FollowerState → Result (List ℕ) ℤ
last_octets state = if is_follower state then Ok (followed_reporting.closing (parts_held state)) else Err outside

-- the follower after that: one that has taken no item, if the buffer has capacity
abbrev pub ended_left : FollowerState → ℕ → FollowerState
ended_left state room =
    if is_follower state then (if nat_le (length (followed_reporting.closing (parts_held state))) room then fresh_follower else state) else state
