-- The least distances of a step, from those of the step after it: each is the least over the symbols, which are added one after another.
use Rattle.std.proofs.Common.{◌≡◌, ℕ, zero, suc, ◌≢◌, ◌+◌, ◌-◌, ◌*◌, ◌/◌, ◌%◌, ◌<◌, ◌≤◌, inl, inr, List, length, get_or, set, refl, ap₂, sym, subst, ◌∙◌, arith, min}
use Rattle.std.proofs.lemmas.Bool.{cases_lt}
use Rattle.p25_bits.specs.Least.{IsLowestLeast}
use Rattle.p25_bits.proofs.LeastLaws.{IsLowestLeast-one, IsLowestLeast-less, IsLowestLeast-kept}
use borrow.Rule.Slice.PartMut.{mid_of}
use Rattle.p25_bits.proofs.PartLaws.{get_or-part}
use Rattle.p25_trellis.specs.{Tables.{nibble_distance}, Costs.{received_cost}, Least.{rest_in, step_cost, HasLeastFrom, HasLowestFrom}}
use Rattle.p25_trellis.proofs.{CostLaws.{rest-le, rest_in-other, rest_in-same}, DistanceLaws.{nibble_distance-le}}

-- an eighth of the rank of the symbol 0 is the cost of its nibble
pub received_cost-is : (received ranks : List ℕ) (step state nibble : ℕ)
    → get_or ranks state 0 ≡ 8 * nibble_distance nibble (get_or received step 0) + 0 → get_or ranks state 0 / 8 ≡ received_cost received step nibble
unfolding received_cost
received_cost-is received ranks step state nibble is = omega (arith, is)

-- costs against nibbles received are at most four
received_cost-le : (received : List ℕ) (step nibble : ℕ) → received_cost received step nibble ≤ 4
unfolding received_cost
received_cost-le received step nibble = nibble_distance-le nibble (get_or received step 0)

-- so the cost after a step is at most four for each of 48 steps
near_rest-le : (states : ℕ) (point : ℕ → ℕ → ℕ) (received rests : List ℕ) (step symbol : ℕ) → HasLeastFrom states point (received_cost received) rests (suc step) → step < 48 → symbol < states
    → rest_in rests (suc step) symbol ≤ 192
near_rest-le states point received rests step symbol after early below = rest-le states point _ rests 4 step symbol (received_cost-le received) after early below

-- the eight entries of the step after one
next_rest : (rests : List ℕ) (step symbol : ℕ) → symbol < 8 → get_or (mid_of (8 * step + 8) (8 * step + 16 - (8 * step + 8)) rests) symbol 0 ≡ rest_in rests (suc step) symbol
unfolding rest_in
next_rest rests step symbol below =
    let eight : 8 * step + 16 - (8 * step + 8) ≡ 8 = omega arith in
    let place : 8 * step + 8 + symbol ≡ 8 * suc step + symbol = omega arith in
    simp (eight, get_or-part, place)

-- values that agree have one lowest least
IsLowestLeast-same : (states : ℕ) (f g : ℕ → ℕ) (symbol least : ℕ) → ((other : ℕ) → other < states → f other ≡ g other) → IsLowestLeast states f symbol least → IsLowestLeast states g symbol least
IsLowestLeast-same states f g symbol least same was = record {
  below = was.below;
  is = sym (same symbol was.below) ∙ was.is;
  none_less = λ other below. omega (arith, was.none_less other below, same other below);
  lowest = λ other lower.
      let below : other < states = omega (arith, was.below, lower) in
      omega (arith, was.lowest other lower, same other below);
}

-- the least of a step is that of its costs
pub IsLowestLeast-step : (states : ℕ) (point : ℕ → ℕ → ℕ) (received rests : List ℕ) (step state nibble symbol least : ℕ) → states ≤ 8 → nibble ≡ get_or received step 0
    → IsLowestLeast states (λ other. nibble_distance (point state other) nibble + get_or (mid_of (8 * step + 8) (8 * step + 16 - (8 * step + 8)) rests) other 0) symbol least
    → IsLowestLeast states (step_cost point (received_cost received) rests step state) symbol least
unfolding step_cost received_cost
IsLowestLeast-step states point received rests step state nibble symbol least few is was =
    IsLowestLeast-same states (λ other. nibble_distance (point state other) nibble + get_or
    (mid_of (8 * step + 8) (8 * step + 16 - (8 * step + 8)) rests) other 0) (step_cost point (received_cost received) rests step state) symbol least
    (λ other below. ap₂ ◌+◌ (simp is) (next_rest rests step other (omega arith)))
    was

-- the entry of a table for a state at a step, as it is read
pub rest_read : (rests : List ℕ) (step state column : ℕ) → column ≡ state → get_or rests (8 * step + column) 0 ≡ rest_in rests step state
unfolding rest_in
rest_read rests step state column same = simp same

-- so the least of a step fits an octet
pub least-fits : (states : ℕ) (point : ℕ → ℕ → ℕ) (received rests : List ℕ) (step state symbol least : ℕ) → HasLeastFrom states point (received_cost received) rests (suc step) → step < 48
    → IsLowestLeast states (step_cost point (received_cost received) rests step state) symbol least → least < 256
unfolding step_cost
least-fits states point received rests step state symbol least after early choice =
    omega (arith, choice.is, received_cost-le received, near_rest-le states point received)

-- the cost of a step depends on the entries after it alone
pub IsLowestLeast-next : (states : ℕ) (point cost : ℕ → ℕ → ℕ) (rests others : List ℕ) (step state symbol least : ℕ) → states ≤ 8
    → ((next : ℕ) → next < 8 → rest_in others (suc step) next ≡ rest_in rests (suc step) next)
    → IsLowestLeast states (step_cost point cost rests step state) symbol least → IsLowestLeast states (step_cost point cost others step state) symbol least
unfolding step_cost
IsLowestLeast-next states point cost rests others step state symbol least few same was =
    IsLowestLeast-same states (λ next. cost step (point state next) + rest_in rests (suc step) next) (λ next. cost step (point state next) + rest_in others (suc step) next) symbol least
    (λ next below. cc (same next (omega (arith, few, below))))
    was

-- one symbol more lowers the least rank: the symbols before it are lower, so it has to have less
pub lowered_more : (value : ℕ → ℕ) (n least new here : ℕ) → n < 8 → (n ≡ 0 → least ≡ 65535) → (0 < n → IsLowestLeast n value (least % 8) (least / 8)) → here ≡ 8 * value n + n
    → here ≤ 65535 → new ≡ min least here → IsLowestLeast (n + 1) value (new % 8) (new / 8)
lowered_more value zero least new here few first so_far is low lowered =
    let whole : new ≡ here = omega (arith, lowered, first refl, low) in
    subst (λ k. IsLowestLeast 1 value k (new / 8)) (omega (arith, whole, is)) (IsLowestLeast-one value _ (sym (omega (arith, whole, is))))
lowered_more value (suc n) least new here few first so_far is low lowered =
    let was = so_far (omega arith) in
    elim (cases_lt here least) [
      | inl less ↦
          let whole : new ≡ here = omega (arith, lowered, less) in
          subst (λ k. IsLowestLeast (suc n + 1) value k (new / 8)) (omega (arith, whole, is, few))
          (IsLowestLeast-less (suc n) value (least % 8) (least / 8) (new / 8) was (omega (arith, whole, is, few)) (omega (arith, less, whole, was.below)))
      | inr not_less ↦
          subst (λ k. IsLowestLeast (suc n + 1) value (k % 8) (k / 8)) (omega (arith, lowered, not_less))
          (IsLowestLeast-kept (suc n) value (least % 8) (least / 8) (value (suc n)) was refl (omega (arith, not_less, is, was.below)))
    ]

-- a write at a step changes no cost of a later step, and none of its own
step_cost-write : (point cost : ℕ → ℕ → ℕ) (rests : List ℕ) (step column value later state symbol : ℕ) → column < 8 → symbol < 8 → step ≤ later
    → step_cost point cost rests later state symbol ≡ step_cost point cost (set rests (8 * step + column) value) later state symbol
unfolding step_cost
step_cost-write point cost rests step column value later state symbol few low late =
    let other : 8 * suc later + symbol ≢ 8 * step + column = omega arith in
    simp rest_in-other

-- two writes at a step keep the lowest least at another position
pub lowest-kept : (states : ℕ) (point cost : ℕ → ℕ → ℕ) (rests symbols : List ℕ) (step column least symbol later state : ℕ) → states ≤ 8 → column < 8 → step ≤ later → state < 8
    → 8 * later + state ≢ 8 * step + column → IsLowestLeast states (step_cost point cost rests later state) (rest_in symbols later state) (rest_in rests later state)
    → let written : List ℕ = set rests (8 * step + column) least in
    IsLowestLeast states (step_cost point cost written later state) (rest_in (set symbols (8 * step + column) symbol) later state) (rest_in written later state)
lowest-kept states point cost rests symbols step column least symbol later state few row late low other was =
    simp (sym (rest_in-other symbols step column later state symbol row low other)) at
    (rw (sym (rest_in-other rests step column later state least row low other)) at
    (IsLowestLeast-same states (step_cost point cost rests later state) (step_cost point cost (set rests (8 * step + column) least) later state) (rest_in symbols later state) (rest_in rests later state)
    (λ symbol below. step_cost-write point cost rests step column least later state symbol row (omega arith) late)
    was))

-- and the entry that they write
pub lowest-written : (states : ℕ) (point cost : ℕ → ℕ → ℕ) (rests symbols : List ℕ) (step state least symbol : ℕ) → states ≤ 8 → state < 8 → 8 * step + state < length rests
    → 8 * step + state < length symbols → IsLowestLeast states (step_cost point cost rests step state) symbol least
    → let written : List ℕ = set rests (8 * step + state) least in
    IsLowestLeast states (step_cost point cost written step state) (rest_in (set symbols (8 * step + state) symbol) step state) (rest_in written step state)
lowest-written states point cost rests symbols step state least symbol few row there inside was =
    let written = set rests (8 * step + state) least in
    rw (sym (rest_in-same symbols step state symbol inside)) at (subst (λ n. IsLowestLeast states (step_cost point cost written step state) symbol n) (sym (rest_in-same rests step state least there))
    (IsLowestLeast-same states (step_cost point cost rests step state) (step_cost point cost written step state) symbol least
    (λ other below. step_cost-write point cost rests step state least step state other row (omega arith) (omega arith))
    was))

-- two writes at a step leave the entries of the tables after it
pub HasLowestFrom-write : {states : ℕ} {point cost : ℕ → ℕ → ℕ} {rests symbols : List ℕ} (step column least symbol : ℕ) → states ≤ 8 → column < 8
    → HasLowestFrom states point cost rests symbols (suc step)
    → HasLowestFrom states point cost (set rests (8 * step + column) least) (set symbols (8 * step + column) symbol) (suc step)
HasLowestFrom-write {states} {point} {cost} {rests} {symbols} step column least symbol few row has = record {
  at = λ later state late early below.
      let other : 8 * later + state ≢ 8 * step + column = omega arith in
      lowest-kept states point cost rests symbols step column least symbol later state few row (omega arith) (omega arith) other (has.at later state late early below);
}
