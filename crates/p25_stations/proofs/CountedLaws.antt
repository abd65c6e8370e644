-- The number of false passes rises at each step that is one, and at no other. So none is counted if and only if a run is clean: for every machine
-- whose steps count so. One event after the other.
use Rattle.std.proofs.Common.{◌≡◌, ℕ, Bool, true, false, List, [], ◌∷◌, refl, ap, sym, ◌∙◌, arith}
use Rattle.p25_delivery.specs.Runs.{run_by, steps_by, EachIs}
use Rattle.p25_stations.specs.Steps.{counted_when}

none-before : (b : Bool) (count : ℕ) → counted_when b count ≡ 0 → (b ≡ false) × (count ≡ 0)
unfolding counted_when
none-before true count e = absurd (omega arith)
none-before false count e = (refl, e)

-- the number of false passes that a state counts, whether a step is one, and that each step counts its own
abbrev pub Counts : {W E S : Type 0} → (W → E → W × S) → (W → ℕ) → (S → Bool) → Type 0
Counts {W} {E} {S} step passes is_false = (w : W) (event : E) → passes (step w event).0 ≡ counted_when (is_false (step w event).1) (passes w)

-- if none is counted after a run, none was before, and none of its steps was one
pub none-counted : {W E S : Type 0} (step : W → E → W × S) (passes : W → ℕ) (is_false : S → Bool) → Counts step passes is_false →
    (events : List E) (w : W) → passes (run_by step w events) ≡ 0 → (passes w ≡ 0) × EachIs (λ (s : S). is_false s ≡ false) (steps_by step w events)
unfolding run_by steps_by EachIs
none-counted step passes is_false counts [] w e = (e, tt)
none-counted step passes is_false counts (event ∷ events) w e =
    let rest = none-counted step passes is_false counts events (step w event).0 e in
    let here = none-before (is_false (step w event).1) (passes w) (cc (counts w event)) in
    (here.1, (here.0, rest.1))

-- and if none of its steps is one, none is counted
pub none-from : {W E S : Type 0} (step : W → E → W × S) (passes : W → ℕ) (is_false : S → Bool) → Counts step passes is_false →
    (events : List E) (w : W) → passes w ≡ 0 → EachIs (λ (s : S). is_false s ≡ false) (steps_by step w events) → passes (run_by step w events) ≡ 0
unfolding run_by steps_by EachIs counted_when
none-from step passes is_false counts [] w e clean = e
none-from step passes is_false counts (event ∷ events) w e clean =
    none-from step passes is_false counts events (step w event).0 (cc (counts w event)) clean.1
