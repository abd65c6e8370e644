-- The least cost after a state, from the last step to the first: the least over its symbols of the cost of the step and its rest.
use Rattle.std.proofs.Common.{◌≡◌, ◌≢◌, ℕ, zero, suc, ◌+◌, ◌*◌, ◌<◌, ◌≤◌, inl, inr, List, [], ◌∷◌, length, get_or, set, refl, ap, ap₂, sym, subst, ◌∙◌, arith, All, below_more, get_or-set_same, get_or-set_other, ◌-◌, ◌^◌, add-one}
use Rattle.std.proofs.{Math.Nat.{mul-suc, mul-le-mul_left}, lemmas.Bool.{cases_lt}, lemmas.List.{get_or_past}}
use Rattle.p25_bits.specs.Least.{IsLowestLeast}
use Rattle.p25_trellis.proofs.PathLaws.{length-nibbles_from}
use Rattle.p25_trellis.specs.{Trellis.{nibbles_from}, Costs.{total_cost, symbols_cost, cost_in}, Least.{rest_in, step_cost, IsEnd, IsLeastEnd, HasLeastFrom}}

-- the cost of nibbles is at most their number times the limit
pub total_cost-le : (cost : ℕ → ℕ → ℕ) (limit step : ℕ) (nibbles : List ℕ) → ((i n : ℕ) → cost i n ≤ limit) → total_cost cost step nibbles ≤ limit * length nibbles
unfolding total_cost
total_cost-le cost limit step [] low = omega arith
total_cost-le cost limit step (nibble ∷ nibbles) low = omega (arith, low, total_cost-le cost limit (suc step) nibbles low, mul-suc limit)

-- a cost in a table is at most the limit of its numbers
pub cost_in-le : (table : List ℕ) (limit step nibble : ℕ) → All (λ cost. cost ≤ limit) table → cost_in table step nibble ≤ limit
unfolding cost_in
cost_in-le table limit step nibble low = elim (cases_lt (16 * step + nibble) (length table)) [
  | inl inside ↦ low (16 * step + nibble) 0 inside
  | inr past ↦ omega (arith, get_or_past table (16 * step + nibble) 0 past)
]

-- the cost of a symbol and of the symbols after it
pub symbols_cost-cons : (point cost : ℕ → ℕ → ℕ) (step state symbol : ℕ) (symbols : List ℕ)
    → symbols_cost point cost step state (symbol ∷ symbols) ≡ cost step (point state symbol) + symbols_cost point cost (suc step) symbol symbols
unfolding symbols_cost total_cost nibbles_from
symbols_cost-cons point cost step state symbol symbols = refl

pub symbols_cost-last : (point cost : ℕ → ℕ → ℕ) (step state : ℕ) → symbols_cost point cost step state (0 ∷ []) ≡ cost step (point state 0)
unfolding symbols_cost total_cost nibbles_from
symbols_cost-last point cost step state = omega arith

-- the end of a path has one symbol more than there are before its 0
pub length-end : (states before : ℕ) (symbols : List ℕ) → IsEnd states before symbols → length symbols ≡ suc before
length-end states zero symbols is = simp is
length-end states (suc before) [] is = absurd is
length-end states (suc before) (symbol ∷ symbols) is = cc (length-end states before symbols is.1)

-- the entry of a table for a state after a write for another
pub rest_in-other : (table : List ℕ) (step state other_step other value : ℕ) → state < 8 → other < 8 → 8 * other_step + other ≢ 8 * step + state
    → rest_in (set table (8 * step + state) value) other_step other ≡ rest_in table other_step other
unfolding rest_in
rest_in-other table step state other_step other value row column differ =
    get_or-set_other table (8 * step + state) (8 * other_step + other) value 0 differ

pub rest_in-same : (table : List ℕ) (step state value : ℕ) → 8 * step + state < length table → rest_in (set table (8 * step + state) value) step state ≡ value
unfolding rest_in
rest_in-same table step state value inside = get_or-set_same table (8 * step + state) value 0 inside

-- the cost of the lowest least symbol of a step is the least cost of an end from the state
pub IsLeastEnd-step : (states : ℕ) (point cost : ℕ → ℕ → ℕ) (rests : List ℕ) (step before state symbol least : ℕ)
    → HasLeastFrom states point cost rests (suc step) → step + suc before ≡ 48
    → IsLowestLeast states (step_cost point cost rests step state) symbol least
    → IsLeastEnd states (suc before) (symbols_cost point cost step state) least
unfolding step_cost
IsLeastEnd-step states point cost rests step before state symbol least after place choice =
    let rest = after.at (suc step) before symbol (omega arith) (omega arith) choice.below in record {
      end = symbol ∷ rest.end;
      is_end = (choice.below, rest.is_end);
      costs = cc (symbols_cost-cons point cost step state symbol rest.end, rest.costs, choice.is);
      none_less = no_end;
    }
  where
    no_end : (other : List ℕ) → IsEnd states (suc before) other → least ≤ symbols_cost point cost step state other
    no_end [] is = absurd is
    no_end (y ∷ ys) is =
        let rest = after.at (suc step) before y (omega arith) (omega arith) is.0 in
        omega (arith, choice.none_less, rest.none_less, symbols_cost-cons point)

-- the costs of a table with small costs have small sums
pub least-le : (states before step state least : ℕ) (point cost : ℕ → ℕ → ℕ) (limit : ℕ)
    → ((i n : ℕ) → cost i n ≤ limit) → IsLeastEnd states before (symbols_cost point cost step state) least → least ≤ limit * suc before
unfolding symbols_cost
least-le states before step state least point cost limit low is =
    omega (
      arith,
      is.costs,
      total_cost-le cost limit,
      ap (λ n. limit * n) (length-nibbles_from point state is.end ∙ length-end states before is.end is.is_end),
    )

pub rest-le : (states : ℕ) (point cost : ℕ → ℕ → ℕ) (rests : List ℕ) (limit step symbol : ℕ) → ((i n : ℕ) → cost i n ≤ limit)
    → HasLeastFrom states point cost rests (suc step) → step < 48 → symbol < states → rest_in rests (suc step) symbol ≤ limit * 48
rest-le states point cost rests limit step symbol low after early below =
    let before = 47 - step in
    let short : suc before ≤ 48 = omega arith in
    omega (arith, (least-le states before (suc step) symbol (rest_in rests (suc step) symbol) point cost limit low (after.at (suc step) before symbol (omega arith) (omega arith) below)), mul-le-mul_left limit short)

pub step_cost-lt : (states : ℕ) (point : ℕ → ℕ → ℕ) (costs rests : List ℕ) (step state symbol : ℕ) → All (λ cost. cost ≤ 2 ^ 24) costs
    → HasLeastFrom states point (cost_in costs) rests (suc step) → step < 48 → symbol < states → step_cost point (cost_in costs) rests step state symbol < 2 ^ 32
unfolding step_cost
step_cost-lt states point costs rests step state symbol low after early below =
    let each : (i n : ℕ) → cost_in costs i n ≤ 2 ^ 24 = λ i n. cost_in-le costs _ i n low in
    omega (arith, each, rest-le states point (cost_in costs) rests (2 ^ 24))

-- the sum of the entries of two tables is the cost of the step
pub step_cost-sum : (point : ℕ → ℕ → ℕ) (costs rests : List ℕ) (step state symbol nibble column : ℕ) → nibble ≡ point state symbol → column ≡ symbol
    → get_or costs (16 * step + nibble) 0 + get_or rests (8 * (step + 1) + column) 0 ≡ step_cost point (cost_in costs) rests step state symbol
unfolding step_cost cost_in rest_in
step_cost-sum point costs rests step state symbol nibble column is same =
    ap₂ ◌+◌ (simp is) (rw add-one (simp same))

-- one more state of the last step is filled in
pub last_more : (rests : List ℕ) (state column value : ℕ) (wanted : ℕ → ℕ) → state < 8 → length rests ≡ 392 → column ≡ state → value ≡ wanted state
    → ((s : ℕ) → s < state → rest_in rests 48 s ≡ wanted s) → (s : ℕ) → s < state + 1 → rest_in (set rests (384 + column) value) 48 s ≡ wanted s
unfolding rest_in
last_more rests state column value wanted row long same is so_far =
    below_more _ state
    (λ s below. get_or-set_other rests _ _ value 0 (omega arith) ∙ so_far s below)
    (cc (same, get_or-set_same rests (384 + column) value 0 (omega arith), is))

-- the cost of a nibble at the last step, as it is read
pub cost_in-last : (costs : List ℕ) (nibble point : ℕ) → nibble ≡ point → get_or costs (768 + nibble) 0 ≡ cost_in costs 48 point
unfolding cost_in
cost_in-last costs nibble point is = simp is

-- the least that can follow the last step is the cost of its symbol 0
pub HasLeastFrom-last : (states : ℕ) (point cost : ℕ → ℕ → ℕ) (rests : List ℕ) → ((s : ℕ) → s < states → rest_in rests 48 s ≡ cost 48 (point s 0)) → HasLeastFrom states point cost rests 48
HasLeastFrom-last states point cost rests last = record { at = at_last }
  where
    at_last : (step before state : ℕ) → 48 ≤ step → step + before ≡ 48 → state < states → IsLeastEnd states before (symbols_cost point cost step state) (rest_in rests step state)
    at_last step (suc before) state late place row = absurd (omega arith)
    at_last step zero state late place row =
        let at_end : 48 ≡ step = omega arith in
        let whole = symbols_cost-last point cost step state ∙ sym (rw at_end at (last state row)) in record {
          end = 0 ∷ [];
          is_end = refl;
          costs = whole;
          none_less = λ other is. omega (arith, ap (symbols_cost point cost step state) is, whole);
        }

-- a write for a state of a step changes nothing of the steps after it
pub HasLeastFrom-write : (states : ℕ) (point cost : ℕ → ℕ → ℕ) (rests : List ℕ) (step column value : ℕ) → states ≤ 8 → column < 8
    → HasLeastFrom states point cost rests (suc step) → HasLeastFrom states point cost (set rests (8 * step + column) value) (suc step)
HasLeastFrom-write states point cost rests step column value few row after = record {
  at = λ later before state late place below.
      let other : 8 * later + state ≢ 8 * step + column = omega arith in
      subst
      (λ (least : ℕ). IsLeastEnd states before (symbols_cost point cost later state) least)
      (sym (rest_in-other rests step column later state value row (omega arith) other))
      (after.at later before state late place below);
}

-- one more state of a step is filled in
pub here_more : (states : ℕ) (point cost : ℕ → ℕ → ℕ) (rests : List ℕ) (step state column value : ℕ) → states ≤ 8 → state < states → step < 48
    → length rests ≡ 392 → column ≡ state
    → ((before s : ℕ) → step + before ≡ 48 → s < state → IsLeastEnd states before (symbols_cost point cost step s) (rest_in rests step s))
    → ((before : ℕ) → step + before ≡ 48 → IsLeastEnd states before (symbols_cost point cost step state) value) → (before s : ℕ) → step + before ≡ 48
    → s < state + 1 → IsLeastEnd states before (symbols_cost point cost step s) (rest_in (set rests (8 * step + column) value) step s)
here_more states point cost rests step state column value few below early long same so_far now before s place more =
    below_more (λ t. IsLeastEnd states before (symbols_cost point cost step t) (rest_in (set rests (8 * step + column) value) step t)) state earlier here s more
  where
    earlier : (t : ℕ) → t < state → IsLeastEnd states before (symbols_cost point cost step t) (rest_in (set rests (8 * step + column) value) step t)
    earlier t lower =
        rw (rest_in-other rests step column step t value (omega arith) (omega arith) (omega arith)) (so_far before t place lower)

    here : IsLeastEnd states before (symbols_cost point cost step state) (rest_in (set rests (8 * step + column) value) step state)
    here =
        subst
        (λ (least : ℕ). IsLeastEnd states before (symbols_cost point cost step state) least)
        (sym (ap (λ n. rest_in (set rests (8 * step + column) value) step n) (sym same) ∙ rest_in-same rests step column value (omega arith)))
        (now before place)

-- all states of a step are filled in
pub HasLeastFrom-more : (states : ℕ) (point cost : ℕ → ℕ → ℕ) (rests : List ℕ) (step : ℕ) → HasLeastFrom states point cost rests (suc step)
    → ((before s : ℕ) → step + before ≡ 48 → s < states → IsLeastEnd states before (symbols_cost point cost step s) (rest_in rests step s))
    → HasLeastFrom states point cost rests step
HasLeastFrom-more states point cost rests step after here = record { at = at_step }
  where
    at_step : (other before state : ℕ) → step ≤ other → other + before ≡ 48 → state < states → IsLeastEnd states before (symbols_cost point cost other state) (rest_in rests other state)
    at_step other before state late place row = elim (cases_lt step other) [
      | inl later ↦ after.at other before state later place row
      | inr not_later ↦
          let same : step ≡ other = omega arith in
          let there : step + before ≡ 48 = omega arith in
          subst (λ (i : ℕ). IsLeastEnd states before (symbols_cost point cost i state) (rest_in rests i state)) same (here before state there row)
    ]

-- a least end, if the number of symbols before its 0 is that of the step
pub IsLeastEnd-at : (states : ℕ) (point cost : ℕ → ℕ → ℕ) (rests : List ℕ) (step state symbol least : ℕ) → step < 48
    → HasLeastFrom states point cost rests (suc step) → IsLowestLeast states (step_cost point cost rests step state) symbol least → (before : ℕ)
    → step + before ≡ 48 → IsLeastEnd states before (symbols_cost point cost step state) least
IsLeastEnd-at states point cost rests step state symbol least early after choice zero place = absurd (omega arith)
IsLeastEnd-at states point cost rests step state symbol least early after choice (suc before) place =
    IsLeastEnd-step states point cost rests step before state symbol least after place choice

-- the least costs that a table has from a step on it has from a later one on
pub HasLeastFrom-later : (states : ℕ) (point cost : ℕ → ℕ → ℕ) (rests : List ℕ) (from later : ℕ) → from ≤ later → HasLeastFrom states point cost rests from → HasLeastFrom states point cost rests later
HasLeastFrom-later states point cost rests from later order has = record {
  at = λ step before state late place row. has.at step before state (omega arith) place row;
}

pub rest_in-first : (table : List ℕ) → rest_in table 0 0 ≡ get_or table 0 0
unfolding rest_in
rest_in-first table = refl
