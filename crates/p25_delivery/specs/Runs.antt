-- Runs of a state machine whose step maps a state and an event to the next state and an output.
use Rattle.std.specs.Prelude.{List, [], ◌∷◌}

-- the state after a list of events
unfoldable pub run_by : {W E S : Type 0} → (W → E → W × S) → W → List E → W
run_by step w [] = w
run_by step w (event ∷ events) = run_by step (step w event).0 events

-- the outputs of the steps of a list of events, in order
unfoldable pub steps_by : {W E S : Type 0} → (W → E → W × S) → W → List E → List S
steps_by step w [] = []
steps_by step w (event ∷ events) = (step w event).1 ∷ steps_by step (step w event).0 events

-- each event of a list meets a condition at its moment
unfoldable pub MeetAt : {W E S : Type 0} → (W → E → W × S) → (W → E → Type 0) → W → List E → Type 0
MeetAt step Meets w [] = Unit {0}
MeetAt step Meets w (event ∷ events) = Meets w event × MeetAt step Meets (step w event).0 events

-- each entry of a list meets a condition
unfoldable pub EachIs : {X : Type 0} → (X → Type 0) → List X → Type 0
EachIs Is [] = Unit {0}
EachIs Is (x ∷ xs) = Is x × EachIs Is xs
