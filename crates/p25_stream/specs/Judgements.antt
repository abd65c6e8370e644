-- The knowledge that a scanner keeps of the item with which its bits begin.
use Rattle.std.specs.Prelude.{◌≡◌, ℕ, ◌-◌, ◌<◌, ◌≤◌, Bool, true, false, nat_le, nat_lt, List, ◌++◌, length}
use Rattle.p25_status.specs.Sync.{has_sync}
use Rattle.p25_units.specs.{Begins.{IsBegun}, Needs.{need_of}, declared.begun.Begun.{Begun}, declared.needs.Need.{Need}}
use Rattle.p25_units.specs.declared.needs.Need.TheVariants.{More, Length, NoLength}
use Rattle.p25_stream.specs.{Items.{sync_place, gap_of, gap_known}, declared.judged.Judged.{Judged}}
use Rattle.p25_stream.specs.declared.judged.Judged.TheVariants.{Searching, Waiting, Gap, Ready, NoUnit}

-- bits that begin with a sync, the need there, and the decoded parts of the data unit
pub record Needs (bits : List Bool) (need : Need) (begun : Begun) : Type 0 where
  pub synced : has_sync bits ≡ true
  pub needs : need_of bits ≡ need
  pub read : IsBegun begun bits

-- bits that begin with a sync, but no data unit
pub record HasNoUnit (bits : List Bool) (need : Need) : Type 0 where
  pub synced : has_sync bits ≡ true
  pub needs : need_of bits ≡ need

-- bits that begin with a position without a sync, all of whose positions with 48 bits have none
pub record IsSearched (bits : List Bool) (clear : ℕ) : Type 0 where
  pub few : clear < 4096
  pub all : clear ≡ length bits - 47
  pub none : clear ≤ sync_place bits

-- bits that begin with a gap that is known
pub record IsKnownGap (bits : List Bool) (count : ℕ) : Type 0 where
  pub unsynced : has_sync bits ≡ false
  pub is : count ≡ gap_of bits
  pub known : gap_known count (length bits) ≡ true

-- the first item is known
abbrev pub is_settled : Judged → Bool
is_settled (Searching clear) = false
is_settled (Waiting count begun) = false
is_settled (Gap count) = true
is_settled (Ready count begun) = true
is_settled (NoUnit field) = true

-- a number of bits is too small for more to be known
abbrev pub waits : Judged → ℕ → Bool
waits (Searching clear) have = nat_le (have - 47) clear
waits (Waiting count begun) have = nat_lt have count
waits (Gap count) have = false
waits (Ready count begun) have = false
waits (NoUnit field) have = false

-- the knowledge is true of the bits that are held
unfoldable pub IsJudged : Judged → List Bool → Type 0
IsJudged (Searching clear) bits = IsSearched bits clear
IsJudged (Waiting count begun) bits = Needs bits (More count) begun
IsJudged (Gap count) bits = IsKnownGap bits count
IsJudged (Ready count begun) bits = Needs bits (Length count) begun
IsJudged (NoUnit field) bits = HasNoUnit bits (NoLength field)

-- it was true before some bits arrived
pub record WasJudged (judged : Judged) (bits : List Bool) : Type 0 where
  pub before : List Bool
  pub more : List Bool
  pub is : bits ≡ before ++ more
  pub known : IsJudged judged before
