-- The storage of the events of a history in the logic.
use Rattle.std.specs.{Prelude.{◌≡◌, ℕ, List, [], cond, ◌==◌, refl}, Coded.{Coded, code_by, coded×, coded_ℕ, coded_list}}
use Rattle.p25_io.specs.Events.{Event, Read, ReadFailed, Wrote, WriteFailed}

-- the constructor of an event, a count and octets
abbrev Parts : Type 0
Parts = ℕ × (ℕ × List ℕ)

abbrev to_parts : Event → Parts
to_parts (Read octets) = (0, (0, octets))
to_parts ReadFailed = (1, (0, []))
to_parts (Wrote piece) = (2, (0, piece))
to_parts (WriteFailed piece count) = (3, (count, piece))

abbrev from_parts : Parts → Event
from_parts p = cond (p.0 == 0) (Read p.1.1) (cond (p.0 == 1) ReadFailed (cond (p.0 == 2) (Wrote p.1.1) (WriteFailed p.1.1 p.1.0)))

pub from_parts-to_parts : (event : Event) → from_parts (to_parts event) ≡ event
from_parts-to_parts (Read octets) = refl
from_parts-to_parts ReadFailed = refl
from_parts-to_parts (Wrote piece) = refl
from_parts-to_parts (WriteFailed piece count) = refl

abbrev pub events_code : Coded (List Event)
events_code = coded_list (code_by Parts (coded× coded_ℕ (coded× coded_ℕ (coded_list coded_ℕ))) to_parts from_parts from_parts-to_parts)
