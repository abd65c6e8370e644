-- No words of a script line of long messages are refused as a line that is too long. By cases of their decoding.
use Rattle.std.specs.{Prelude.{◌≡◌, ◌≢◌, ℕ, Bool, true, false, if◌then◌else◌, List, [], ◌∷◌, codes, Result, Ok, Err}, Str.{bytes_eq}}
use Rattle.std.proofs.Common.{refl}
use Rattle.p25_line.specs.{declared.fault.LineFault.{LineFault}, declared.fault.LineFault.TheVariants.{Long, Kind as WrongKind}}
use Rattle.p25_stations.specs.declared.step.Event.{Event}
use Rattle.p25_fragments.specs.{declared.long_step.LongEvent.{LongEvent}, declared.long_step.LongEvent.TheVariants.{Long as LongIt}}
use Rattle.p25_line.proofs.LineReadLaws.{value-not_long}
use Rattle.p25_script.specs.{Script.{event_by_words}, ScriptReadLaws.{event_not_long}}
use Rattle.p25_script.specs.LongScript.{inner_or_fault, long_event_by_words, long_in, long_message_in, other_event}

long-not_long : (others : List (List ℕ)) → long_in others ≡ Err Long → ⊥
long-not_long (word ∷ []) e = value-not_long LongIt (long_message_in word) e
long-not_long others e = cc e

inner-not_long : (read : Result Event LineFault) → (read ≡ Err Long → ⊥) → inner_or_fault read ≡ Err Long → ⊥
inner-not_long (Ok event) other e = cc e
inner-not_long (Err fault) other e = let same : fault ≡ Long = cc e in other (cc same)

either-not_long : (b : Bool) (one other : Result LongEvent LineFault) → (one ≡ Err Long → ⊥) → (other ≡ Err Long → ⊥) →
    (if b then one else other) ≡ Err Long → ⊥
either-not_long true one other x y e = x e
either-not_long false one other x y e = y e

wrong-not_long : (read : Result LongEvent LineFault) → read ≡ Err WrongKind → read ≡ Err Long → ⊥
wrong-not_long read wrong e = cc (wrong, e)

pub long_event_not_long : (words : List (List ℕ)) → long_event_by_words words ≢ Err Long
long_event_not_long [] e = cc e
long_event_not_long (first ∷ others) e =
    let read = event_by_words (first ∷ others) in
    let inner = inner-not_long read (event_not_long (first ∷ others)) in
    let wrong = wrong-not_long (Err WrongKind) refl in
    either-not_long (bytes_eq first (codes "long")) (long_in others) (other_event first others) (long-not_long others)
    (either-not_long (bytes_eq first (codes "send")) (Err WrongKind) (inner_or_fault read) wrong inner) e
