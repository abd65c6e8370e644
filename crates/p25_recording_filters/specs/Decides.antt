-- The work of `decide`: its remaining output, for any levels that may still come.
use Rattle.std.specs.Prelude.{◌≡◌, ℕ, ◌+◌, ◌-◌, ◌*◌, ◌^◌, ◌<◌, ◌≤◌, Bool, true, false, if◌then◌else◌, List, [], ◌++◌, length, drop, map, replicate, ℤ, pos, Some, None}
use Rattle.p25_units.specs.{Units.{whole_octets}, declared.item.Item.{Item}}
use Rattle.p25_stream.specs.{Items.{items_by}, Scan.{Scan, Gave}}
use Rattle.p25_follow.specs.Following.{Follow, behind_item, fresh_follow}
use Rattle.p25_soft.specs.Levels.{hard_bits}
use Rattle.p25_decide.specs.{DecidedFollowing.{before_item, changed_by, own_item}, DecidedRecordings.{item_decided}, DecidedStretches.{chain_over}, DecidedTaking.{AreFrom}}
use Rattle.p25_filter.specs.{Futures.{Future}, declared.ending.Ending.TheVariants.{Done}}
use Rattle.p25_recording_filters.specs.{declared.recording.Phase.{Phase}, declared.recording.Phase.TheVariants.{Reading, Ended, Closed}}
use Rattle.p25_recording_filters.specs.{Commands.{unfilled}, SoftLevels.{grouped, octet_level, scanned}, Softs.{IsHoldingAfter, first_level}}

-- the bits that a scanner holds, the follower, the levels from that of a whole group before the stretch that it keeps on, the bits that are kept back,
-- and the phase of the work
pub record DecideParts : Type 0 where
  pub scan : Scan
  pub follow : Follow
  pub levels : List ℤ
  pub kept : List Bool
  pub phase : Phase

-- before the first octet
abbrev pub fresh_decide : DecideParts
fresh_decide = record { scan = record { place = 0; held = []; finished = false }; follow = fresh_follow; levels = []; kept = []; phase = Reading }

-- the position at which the stretch starts that a follower keeps, if a scanner holds the bits from a position on
abbrev pub start_of : ℕ → Follow → ℕ
start_of place follow = place - length follow.stretch

-- the first level that is held: that of the group of four of that position
abbrev pub first_held : ℕ → Follow → ℕ
first_held place follow = first_level (start_of place follow)

-- the number of bits before the position of the scanner whose levels are held
abbrev pub ahead_of : ℕ → Follow → ℕ
ahead_of place follow = place - 2 * first_held place follow

-- levels from a first one on, each at its position in the recording
unfoldable pub placed : ℕ → List ℤ → List ℤ
placed first levels = replicate first (pos 0) ++ levels

-- the output for levels from the first one that is held on, if the bits that a follower keeps, and those from a position on, are not written yet
abbrev pub decide_written : Bool → ℕ → Follow → List ℤ → List Bool → List ℕ
decide_written ended place follow levels kept =
    let all = placed (first_held place follow) (scanned ended levels) in
    let bits = drop place (hard_bits all) in
    whole_octets (kept ++ changed_by (item_decided all) ended (start_of place follow) follow (items_by ended place bits) bits)

abbrev pub decide_future_by : Phase → DecideParts → Future
decide_future_by Reading work = record {
  writes = λ ended more. decide_written ended work.scan.place work.follow (work.levels ++ map octet_level more) work.kept;
  ends = λ ended more. if ended then Some Done else None;
  pauses = λ ended more. [];
}
decide_future_by Ended work = record {
  writes = λ ended more. decide_written true work.scan.place work.follow work.levels work.kept;
  ends = λ ended more. Some Done;
  pauses = λ ended more. [];
}
decide_future_by Closed work = record {
  writes = λ ended more. [];
  ends = λ ended more. Some Done;
  pauses = λ ended more. [];
}

unfoldable pub decide_future : DecideParts → Future
decide_future work = decide_future_by work.phase work

-- the levels that are held are those of the bits that the follower keeps and the scanner holds
pub record IsDeciding (scan : Scan) (follow : Follow) (levels : List ℤ) : Type 0 where
  pub there : length follow.stretch ≤ scan.place
  pub holding : IsHoldingAfter (ahead_of scan.place follow) scan levels
  pub few : first_held scan.place follow + length levels < 2 ^ 29

-- the next item was returned: the bits before its own and its own, decoded, were appended to those kept back, and the levels before those still
-- needed are dropped
pub record PutDecided (before : DecideParts) (out : List ℕ) (now : DecideParts) : Type 0 where
  pub item : Item
  pub raw : List Bool
  pub bits : List Bool
  pub own : List Bool
  pub gave : Gave before.scan item raw now.scan
  pub bits_are : (all : List ℤ) → AreFrom (first_held before.scan.place before.follow) (grouped before.levels) all
      → bits ≡ before_item (item_decided all) (start_of before.scan.place before.follow) before.follow item raw
  pub own_are : (all : List ℤ) → AreFrom (first_held before.scan.place before.follow) (grouped before.levels) all → own ≡ own_item (item_decided all) item raw
  pub piece : out ≡ whole_octets (before.kept ++ (bits ++ own))
  pub behind : now.kept ≡ unfilled (before.kept ++ (bits ++ own))
  pub follows : now.follow ≡ behind_item before.follow item raw
  pub left : now.levels ≡ drop (first_held now.scan.place now.follow - first_held before.scan.place before.follow) before.levels
  pub phase : now.phase ≡ before.phase

-- all that was left of a stretch at the end was returned, decoded
pub record PutLast (before : DecideParts) (out : List ℕ) (now : DecideParts) : Type 0 where
  pub bits : List Bool
  pub bits_are : (all : List ℤ) → AreFrom (first_held before.scan.place before.follow) (grouped before.levels) all
      → bits ≡ chain_over (item_decided all) (start_of before.scan.place before.follow) before.follow.before before.follow.stretch None
  pub piece : out ≡ whole_octets (before.kept ++ bits)
  pub scan : now.scan ≡ before.scan
  pub follow : now.follow ≡ before.follow
  pub levels : now.levels ≡ before.levels
  pub phase : now.phase ≡ Closed
