-- Runs of a state machine, and properties of each entry of a list. One entry after the other.
use Rattle.std.proofs.{Common.{◌≡◌, List, [], ◌∷◌, ◌++◌, refl, ap}, lemmas.List.Elements.{All-head, All-tail}}
use Rattle.std.specs.Prelude.{All}
use Rattle.p25_delivery.specs.Runs.{run_by, steps_by, MeetAt, EachIs}

-- an invariant that each step keeps, if its event meets a condition, is kept by a run of such events
pub run-keeps : {W E S : Type 0} (step : W → E → W × S) (Meets : W → E → Type 0) (Keeps : W → Type 0) → ((w : W) (event : E) → Keeps w → Meets w event → Keeps (step w event).0) →
    (events : List E) (w : W) → Keeps w → MeetAt step Meets w events → Keeps (run_by step w events)
unfolding run_by MeetAt
run-keeps step Meets Keeps next [] w k m = k
run-keeps step Meets Keeps next (event ∷ events) w k m = run-keeps step Meets Keeps next events (step w event).0 (next w event k m.0) m.1

-- and if the condition is one on the event alone
pub run-keeps_each : {W E S : Type 0} (step : W → E → W × S) (Is : E → Type 0) (Keeps : W → Type 0) → ((w : W) (event : E) → Keeps w → Is event → Keeps (step w event).0) →
    (events : List E) (w : W) → Keeps w → EachIs Is events → Keeps (run_by step w events)
unfolding run_by EachIs
run-keeps_each step Is Keeps next [] w k are = k
run-keeps_each step Is Keeps next (event ∷ events) w k are = run-keeps_each step Is Keeps next events (step w event).0 (next w event k are.0) are.1

-- an invariant that every step keeps is kept by every run
pub run-keeps_all : {W E S : Type 0} (step : W → E → W × S) (Keeps : W → Type 0)
    → ((w : W) (event : E) → Keeps w → Keeps (step w event).0) → (events : List E) (w : W) → Keeps w → Keeps (run_by step w events)
unfolding run_by
run-keeps_all step Keeps next [] w k = k
run-keeps_all step Keeps next (event ∷ events) w k = run-keeps_all step Keeps next events (step w event).0 (next w event k)

-- one run after another
pub run-append : {W E S : Type 0} (step : W → E → W × S) (w : W) (xs ys : List E) → run_by step w (xs ++ ys) ≡ run_by step (run_by step w xs) ys
unfolding run_by
run-append step w [] ys = refl
run-append step w (x ∷ xs) ys = run-append step (step w x).0 xs ys

pub steps-append : {W E S : Type 0} (step : W → E → W × S) (w : W) (xs ys : List E) → steps_by step w (xs ++ ys) ≡ steps_by step w xs ++ steps_by step (run_by step w xs) ys
unfolding run_by steps_by
steps-append step w [] ys = refl
steps-append {W} {E} {S} step w (x ∷ xs) ys = cc (steps-append step (step w x).0 xs ys)

-- events one after the other that each meet a condition at their moment do so together
pub meet-append : {W E S : Type 0} (step : W → E → W × S) (Meets : W → E → Type 0) (w : W) (xs ys : List E)
    → MeetAt step Meets w xs → MeetAt step Meets (run_by step w xs) ys → MeetAt step Meets w (xs ++ ys)
unfolding run_by MeetAt
meet-append step Meets w [] ys m n = n
meet-append step Meets w (x ∷ xs) ys m n = (m.0, meet-append step Meets (step w x).0 xs ys m.1 n)

-- a condition that all elements of a list meet is met by each entry
pub each-all : {X : Type 0} (Is : X → Type 0) (xs : List X) → All Is xs → EachIs Is xs
unfolding EachIs
each-all Is [] all = tt
each-all Is (x ∷ xs) all = (All-head Is x xs all, each-all Is xs (All-tail Is x xs all))
