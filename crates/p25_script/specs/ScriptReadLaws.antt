-- No words of a script line are refused as a line that is too long. By cases of their decoding.
use Rattle.std.specs.Prelude.{◌≡◌, ◌≢◌, ℕ, List, [], ◌∷◌, Err}
use Rattle.p25_line.specs.declared.fault.LineFault.TheVariants.{Long}
use Rattle.p25_line.proofs.LineReadLaws.{keyed-not_long, named-not_long, value-not_long}
use Rattle.p25_stations.specs.declared.step.Event.TheVariants.{Send}
use Rattle.p25_script.specs.{Values.{message_in, places_in}, Script.{delivery, event_by_words, event_in, event_named, way_named}}
use Rattle.p25_script.specs.declared.names.EventKind.{EventKind}
use Rattle.p25_script.specs.declared.names.EventKind.TheVariants.{Send as SendLine, Deliver as DeliverLine, Timeout as TimeoutLine, Reopen as ReopenLine}

kind-not_long : (kind : EventKind) (others : List (List ℕ)) → event_in kind others ≡ Err Long → ⊥
kind-not_long SendLine (message ∷ []) e = value-not_long Send (message_in message) e
kind-not_long TimeoutLine [] e = cc e
kind-not_long ReopenLine [] e = cc e
kind-not_long DeliverLine (way ∷ places ∷ []) e = keyed-not_long delivery (way_named way) (places_in places) e
kind-not_long kind others e = cc e

pub event_not_long : (words : List (List ℕ)) → event_by_words words ≢ Err Long
event_not_long [] e = cc e
event_not_long (first ∷ others) e = named-not_long event_in others (λ kind. kind-not_long kind others) (event_named first) e
