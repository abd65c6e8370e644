-- Data units that lie end to end from a position on, with sync and NID written.
use Rattle.std.specs.Prelude.{ℕ, zero, suc, Bool, true, false, ◌||◌, if◌then◌else◌, nat_le, List, [], ◌++◌, length, take, drop, Option, Some, None}
use Rattle.p25_bits.specs.Bits.{part}
use Rattle.p25_unit_front.specs.Front.{unit_front}
use Rattle.p25_follow.specs.{Expected.{kind_length}, Steps.{step_of}}

-- transmitted bits with sync and NID of a name written: the first 70 bits of these, the status symbol that is there, the other 42 bits, and the bits
-- that are there
unfoldable pub with_front : ℕ × ℕ → List Bool → List Bool
with_front name bits =
    let front = unit_front name.0 name.1 in take 70 front ++ (part 70 2 bits ++ (drop 70 front ++ drop 114 bits))

-- the most bits that a step examines: those of four logical link data units
abbrev pub step_reach : ℕ
step_reach = 6912

-- the output at a position at which a data unit of a type begins, with the output for the bits after it; if none begins, the bits unchanged
unfoldable pub written_step : (ℕ × ℕ → List Bool → List Bool) → ℕ × ℕ → List Bool → Option ℕ → List Bool
written_step rest before bits None = bits
written_step rest before bits (Some kind) =
    with_front (before.0, kind) (take (kind_length kind) bits) ++ rest (before.0, kind) (drop (kind_length kind) bits)

-- the output for bits after a data unit with a name, in at most a given number of steps; if the bits are not whole, as far as it is decided
unfoldable pub chain_in : ℕ → Bool → Option (ℕ × ℕ) → List Bool → Option (ℕ × ℕ) → List Bool
chain_in zero whole before bits end = bits
chain_in (suc turns) whole None bits end = bits
chain_in (suc turns) whole (Some before) bits end =
    if whole || nat_le step_reach (length bits)
    then written_step (λ name left. chain_in turns whole (Some name) left end) before bits (step_of before bits end)
    else []

-- the output for bits after a data unit with a name, or after none. Whole bits reach to an end: the name of the data unit after them, or none. If
-- more of them may come, the decided output is written: a step is made if all bits that it examines are there
unfoldable pub chain_by : Bool → Option (ℕ × ℕ) → List Bool → Option (ℕ × ℕ) → List Bool
chain_by whole before bits end = chain_in (length bits) whole before bits end

-- the output for whole bits
abbrev pub chain_of : Option (ℕ × ℕ) → List Bool → Option (ℕ × ℕ) → List Bool
chain_of = chain_by true

-- the decided output for bits after which more may come
abbrev pub settled_of : Option (ℕ × ℕ) → List Bool → List Bool
settled_of before bits = chain_by false before bits None
