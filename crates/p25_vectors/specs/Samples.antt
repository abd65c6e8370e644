-- The sample data units, in order, and their counts.
use Rattle.std.specs.Prelude.{ℕ, zero, suc, ◌/◌, ◌%◌, Bool, List, replicate, sum}
use Rattle.p25_bits.specs.Numbers.{each_below}
use Rattle.p25_status.specs.{Status.{status_modulo}, Woven.{woven}, declared.symbols.Status.{Status}}
use Rattle.p25_units.specs.{UnitParts.{UnitParts}, Units.{body_length, unit_image_of}, declared.frame.Frame.{Frame}, declared.unit.Body.{Body}}
use Rattle.p25_vectors.specs.{Draws.{Drawing, and_then, drawn, number_next}, Bodies.{body_next, kind_of}}
use Rattle.p25_vectors.specs.{Damage.{damaged, inversions, unit_hits}, declared.bodies.Kind.{Kind}}

-- the frame of a data unit with a body, with one status symbol everywhere
abbrev pub frame_of : ℕ → Status → Body → Frame
frame_of nac status body =
    let unit : UnitParts = record { nac = nac; body = body } in
    record { unit = unit; statuses = replicate (body_length body / 70) status }

-- the frame of a type: its network access code (NAC), its status symbol, and its contents
unfoldable pub frame_next : Kind → Drawing Frame
frame_next kind =
    and_then number_next (λ nac. and_then number_next (λ symbol. and_then (body_next kind) (λ body.
    drawn (frame_of (nac % 4096) (status_modulo symbol) body))))

-- the transmitted bits of a frame, damaged by the draws after a state; no status symbol is damaged
unfoldable pub damaged_image : Frame → ℕ → List Bool
damaged_image frame state = woven (damaged (unit_hits frame.unit.body state).0 (unit_image_of frame.unit)) frame.statuses

-- the state after a data unit of a type and its damage
unfoldable pub state_behind_unit : Kind → ℕ → ℕ
state_behind_unit kind state = let framed = frame_next kind state in (unit_hits framed.0.unit.body framed.1).1

-- the state before the data unit of an index, from 0
unfoldable pub state_before : ℕ → ℕ
state_before zero = 0
state_before (suc i) = state_behind_unit (kind_of i) (state_before i)

-- the frame of the data unit of an index
unfoldable pub sample_frame : ℕ → Frame
sample_frame i = (frame_next (kind_of i) (state_before i)).0

-- the state before its damage
abbrev pub damage_state : ℕ → ℕ
damage_state i = (frame_next (kind_of i) (state_before i)).1

-- the transmitted bits of a sample data unit, damaged
unfoldable pub sample_bits : ℕ → List Bool
sample_bits i = damaged_image (sample_frame i) (damage_state i)

-- the number of them that are inverted
unfoldable pub sample_flips : ℕ → ℕ
sample_flips i = inversions (unit_hits (sample_frame i).unit.body (damage_state i)).0

-- the number of inverted bits of the first data units
unfoldable pub flips_of : ℕ → ℕ
flips_of units = sum (each_below units sample_flips)
