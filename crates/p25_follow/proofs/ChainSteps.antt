-- A chain as it is written step by step: the output so far together with the output still to come is always the same.
use Rattle.std.proofs.Common.{◌≡◌, ℕ, ◌≤◌, Bool, true, false, ◌||◌, List, ◌++◌, length, take, drop, Option, Some, None, sym, ◌∙◌, append_assoc, append-nil}
use Rattle.std.proofs.lemmas.Bool.{leb-false, leb-true, or_parts}
use Rattle.std.specs.Prelude.{nat_le}
use Rattle.p25_follow.specs.{Chains.{chain_by, with_front}, Expected.{kind_length}, Following.{Follow, follow, left_of}, Steps.{step_of}}
use Rattle.p25_follow.proofs.{ChainLaws.{chain_by-none, chain_by-some, chain_by-step, chain_by-stop, left_of-none, left_of-step, left_of-stop, left_of-waits}, StepLaws.{step_of-end}}

-- if no step can be made nothing is written, and all bits are left
pub chain-waits : (whole : Bool) (name : ℕ × ℕ) (bits out all : List Bool) (end : Option (ℕ × ℕ)) → (whole || nat_le 6912 (length bits)) ≡ false
    → out ++ chain_by whole (Some name) bits end ≡ all → out ≡ all
chain-waits whole name bits out all end stops is = rw (chain_by-some, stops, append-nil) at is

pub left-waits : (whole : Bool) (name : ℕ × ℕ) (bits : List Bool) (kept : Follow) → (whole || nat_le 6912 (length bits)) ≡ false → left_of (Some name) bits ≡ kept → follow (Some name) bits ≡ kept
left-waits whole name bits kept stops is = rw (left_of-waits name bits (leb-false 6912 (length bits) (or_parts whole (nat_le 6912 (length bits)) stops).1)) at is

-- if a data unit begins its bits are written
pub chain-stepped : (whole : Bool) (name next : ℕ × ℕ) (kind count : ℕ) (bits left out written all : List Bool) (end : Option (ℕ × ℕ)) → (whole || nat_le 6912 (length bits)) ≡ true
    → step_of name bits end ≡ Some kind → next ≡ (name.0, kind) → count ≡ kind_length kind → left ≡ drop count bits → written ≡ out ++ with_front next (take count bits)
    → out ++ chain_by whole (Some name) bits end ≡ all → written ++ chain_by whole (Some next) left end ≡ all
chain-stepped whole name next kind count bits left out written all end goes is is_next is_count is_left is_written before =
    rw (is_written, is_left, is_next, is_count, append_assoc) (rw (chain_by-step whole name bits end kind goes is) at before)

pub left-stepped : (whole : Bool) (name next : ℕ × ℕ) (kind count : ℕ) (bits left : List Bool) (end : Option (ℕ × ℕ)) (kept : Follow) → (whole || nat_le 6912 (length bits)) ≡ true → whole ≡ false
    → step_of name bits end ≡ Some kind → next ≡ (name.0, kind) → count ≡ kind_length kind → left ≡ drop count bits → left_of (Some name) bits ≡ kept → left_of (Some next) left ≡ kept
left-stepped whole name next kind count bits left end kept goes open_ is is_next is_count is_left before =
    let long : 6912 ≤ length bits = leb-true 6912 (length bits) (rw open_ at goes) in
    rw (is_next, is_left, is_count) (rw (left_of-step name bits kind long (sym (step_of-end name bits end long) ∙ is)) at before)

-- if none begins the bits are written unchanged
pub chain-stopped : (whole : Bool) (name : ℕ × ℕ) (bits out all : List Bool) (end : Option (ℕ × ℕ)) → (whole || nat_le 6912 (length bits)) ≡ true → step_of name bits end ≡ None
    → out ++ chain_by whole (Some name) bits end ≡ all → out ++ chain_by whole None bits end ≡ all
chain-stopped whole name bits out all end goes is before = rw chain_by-none (rw (chain_by-stop whole name bits end goes is) at before)

pub left-stopped : (whole : Bool) (name : ℕ × ℕ) (bits : List Bool) (end : Option (ℕ × ℕ)) (kept : Follow) → (whole || nat_le 6912 (length bits)) ≡ true → whole ≡ false → step_of name bits end ≡ None
    → left_of (Some name) bits ≡ kept → left_of None bits ≡ kept
left-stopped whole name bits end kept goes open_ is before =
    let long : 6912 ≤ length bits = leb-true 6912 (length bits) (rw open_ at goes) in
    rw left_of-none (rw (left_of-stop name bits long (sym (step_of-end name bits end long) ∙ is)) at before)

pub chain-ended : (whole : Bool) (bits out all : List Bool) (end : Option (ℕ × ℕ)) → out ++ chain_by whole None bits end ≡ all → out ++ bits ≡ all
chain-ended whole bits out all end before = rw chain_by-none at before
