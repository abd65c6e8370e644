use Rattle.std.proofs.{Common.{◌≡◌, ℕ, ◌*◌, ◌/◌, List, length, replicate, ap, ◌∙◌, arith}, lemmas.List.{length-replicate}}
use Rattle.p25_status.specs.declared.symbols.Status.{Status}
use Rattle.p25_units.specs.{UnitParts.{UnitParts}, Units.{frame_length_of}}
use Rattle.p25_units.proofs.ReadingsLaws.{IsWholeBody-sendable}
use Rattle.p25_units.proofs.frame.Frame.filled.Goals as goal

-- there is a status symbol for each 72 bits
symbols_of : (unit : UnitParts) (status : Status) (count : ℕ) (statuses : List Status)
    → count ≡ frame_length_of unit → statuses ≡ replicate (count / 72) status → 72 * length statuses ≡ frame_length_of unit
unfolding frame_length_of
symbols_of unit status count statuses value list = omega (arith, value, ap length list, length-replicate (count / 72) status)

pub returns-clause-value : goal.returns-clause-value
returns-clause-value c =
    ap (λ (statuses : List Status). record { unit = c.args.unit; statuses = statuses }) (c.filled-statuses.ensures.list ∙ ap (λ (n : ℕ). replicate (n / 72) c.args.status) c.frame_length.ensures.value)

pub returns-clause-sound : goal.returns-clause-sound
returns-clause-sound c = λ whole. record {
  whole = whole;
  symbols = symbols_of c.args.unit c.args.status c.frame_length.result c.filled-statuses.result c.frame_length.ensures.value c.filled-statuses.ensures.list;
}

pub returns-clause-sendable : goal.returns-clause-sendable
returns-clause-sendable c = λ sendable. record {
  whole = IsWholeBody-sendable c.args.unit.body sendable;
  symbols = symbols_of c.args.unit c.args.status c.frame_length.result c.filled-statuses.result c.frame_length.ensures.value c.filled-statuses.ensures.list;
}
