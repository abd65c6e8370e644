-- Pseudorandom numbers, the same on every run: each draw replaces a state below 2^32.
use Rattle.std.specs.Prelude.{ℕ, zero, suc, ◌+◌, ◌*◌, ◌/◌, ◌%◌, ◌^◌, List}
use Rattle.p25_bits.specs.Numbers.{each_below}

-- the state that a draw leaves
unfoldable pub state_behind : ℕ → ℕ
state_behind state = (1664525 * state + 1013904223) % 2 ^ 32

-- the state after a number of draws
unfoldable pub state_after : ℕ → ℕ → ℕ
state_after zero state = state
state_after (suc count) state = state_behind (state_after count state)

-- the draw after a number of others: the higher half of the state after it
unfoldable pub draw : ℕ → ℕ → ℕ
draw count state = state_after (suc count) state / 65536

-- a number of octets, each the lowest eight bits of a draw
unfoldable pub octets_drawn : ℕ → ℕ → List ℕ
octets_drawn count state = each_below count (λ k. draw k state % 256)

-- a value drawn from a state on, and the state after the draws
abbrev pub Drawing : Type 0 → Type 0
Drawing X = ℕ → X × ℕ

-- no draw
abbrev pub drawn : {X : Type 0} → X → Drawing X
drawn x = λ state. (x, state)

-- one draw
abbrev pub number_next : Drawing ℕ
number_next = λ state. (draw 0 state, state_after 1 state)

-- a number of octets
abbrev pub octets_next : ℕ → Drawing (List ℕ)
octets_next count = λ state. (octets_drawn count state, state_after count state)

-- first the one, and then the drawing that its value gives
abbrev pub and_then : {X Y : Type 0} → Drawing X → (X → Drawing Y) → Drawing Y
and_then first next = λ state. next (first state).0 (first state).1
