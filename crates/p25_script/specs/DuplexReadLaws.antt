-- No words of a script line of both stations are refused as a line that is too long. By cases of their decoding.
use Rattle.std.specs.Prelude.{◌≡◌, ◌≢◌, ℕ, List, [], ◌∷◌, Option, Some, Err}
use Rattle.p25_line.specs.declared.fault.LineFault.TheVariants.{Long}
use Rattle.p25_line.proofs.LineReadLaws.{keyed-not_long, named-not_long, value-not_long}
use Rattle.p25_script.specs.{Script.{event_named}, Values.{message_in, places_in}, declared.names.EventKind.{EventKind}}
use Rattle.p25_script.specs.declared.names.EventKind.TheVariants.{Send as SendLine, Timeout as TimeoutLine, Reopen as ReopenLine}
use Rattle.p25_script.specs.DuplexLines.{duplex_by_words, event_behind, event_of_side, hearer_named, start_named}
use Rattle.p25_script.specs.{declared.duplex_read.DuplexStart.{DuplexStart}, declared.duplex_read.DuplexStart.TheVariants.{Acts, Delivery}}
use Rattle.p25_duplex.specs.{declared.event.DuplexEvent.TheVariants.{Deliver, Send}, declared.side.Side.{Side}}

side-not_long : (side : Side) (kind : Option EventKind) (others : List (List ℕ)) → event_of_side side kind others ≡ Err Long → ⊥
side-not_long side (Some SendLine) (message ∷ []) e = value-not_long (Send side) (message_in message) e
side-not_long side (Some TimeoutLine) [] e = cc e
side-not_long side (Some ReopenLine) [] e = cc e
side-not_long side kind others e = cc e

start-not_long : (start : DuplexStart) (others : List (List ℕ)) → event_behind start others ≡ Err Long → ⊥
start-not_long (Acts side) (word ∷ others) e = side-not_long side (event_named word) others e
start-not_long Delivery (direction ∷ places ∷ []) e = keyed-not_long Deliver (hearer_named direction) (places_in places) e
start-not_long start others e = cc e

pub duplex_not_long : (words : List (List ℕ)) → duplex_by_words words ≢ Err Long
duplex_not_long [] e = cc e
duplex_not_long (first ∷ others) e = named-not_long event_behind others (λ start. start-not_long start others) (start_named first) e
