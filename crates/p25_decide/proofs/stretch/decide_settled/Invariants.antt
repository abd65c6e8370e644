use Rattle.std.proofs.Common.{◌≡◌, ℕ, ◌+◌, ◌-◌, ◌*◌, ◌≤◌, ◌++◌, List, cond, drop, length, Some, ℤ}
use Rattle.std.specs.Option.{is_some}
use Rattle.p25_bch_nid.specs.declared.nid.Nid.{Nid}
use Rattle.p25_follow.specs.{Chains.{chain_by}, Expected.{name_of, names_of}}
use Rattle.p25_decide.specs.{DecidedRecordings.{item_decided}, DecidedTaking.{AreFrom, over_by, over_left}}
use Rattle.p25_decide.proofs.stretch.decide_settled.Given as goal

abbrev pub invariant-loop-before : goal.invariant-loop-before
invariant-loop-before l = record {
  there : l.at ≤ length l.stretch;
  among : l.at ≤ length l.settled;
  filled : length l.out ≡ l.at;
  left : (name : Nid) → l.before ≡ Some name → drop l.at l.settled ≡ chain_by l.whole (Some (name_of name)) (drop l.at l.stretch) (names_of l.end);
  written : (first : ℕ) (all : List ℤ) → AreFrom first l.levels all
      → l.out ++ over_left l.whole (item_decided all) (2 * first + l.from + l.at) (names_of l.before) (drop l.at l.stretch) (names_of l.end) (drop l.at l.settled)
      ≡ over_by l.whole (item_decided all) (2 * first + l.from) (names_of l.fn.before) l.stretch (names_of l.end);
}

abbrev pub decreases-loop-before : goal.decreases-loop-before
decreases-loop-before l = 2 * (length l.stretch - l.at) + cond (is_some l.before) 1 0
