-- The consequences of a live run of events: laws of the order of reads and writes.
use Rattle.std.specs.Prelude.{◌≡◌, ℕ, false, List, [], ◌∷◌, ◌++◌, None}
use Rattle.p25_io.specs.Events.{Event, Read, ReadFailed, Wrote, WriteFailed}
use Rattle.p25_filter.specs.{declared.ending.FilterEnd.{FilterEnd}, declared.ending.FilterEnd.TheVariants.{ReadFault, WriteFault}, Futures.{Future}}
use Rattle.p25_filter.specs.Traces.{IsLive, IsRun, after_all, at_first}

-- at each read all output that the octets read before determine was written
abbrev pub AllIsWrittenFirst : Type 0
AllIsWrittenFirst = (future : Future) (before after : List Event) (octets : List ℕ) → IsLive future at_first (before ++ Read octets ∷ after)
    → (after_all at_first before).text ≡ future.writes false (after_all at_first before).octets

-- at each read the octets read before cause no refusal
abbrev pub NoReadAfterRefusal : Type 0
NoReadAfterRefusal = (future : Future) (before after : List Event) (octets : List ℕ) → IsLive future at_first (before ++ Read octets ∷ after)
    → future.ends false (after_all at_first before).octets ≡ None

-- of two reads with no write between them the first determined nothing
abbrev pub NoReadAhead : Type 0
NoReadAhead = (future : Future) (before after : List Event) (first second : List ℕ) → IsLive future at_first (before ++ Read first ∷ Read second ∷ after)
    → future.writes false ((after_all at_first before).octets ++ first) ≡ future.writes false (after_all at_first before).octets

-- no read is after the end of the input
abbrev pub NoReadAfterEnd : Type 0
NoReadAfterEnd = (future : Future) (before between after : List Event) (octets : List ℕ)
    → IsLive future at_first (before ++ Read [] ∷ (between ++ Read octets ∷ after)) → ⊥

-- no write is empty
abbrev pub NoEmptyWrite : Type 0
NoEmptyWrite = (future : Future) (before after : List Event) → IsLive future at_first (before ++ Wrote [] ∷ after) → ⊥

-- a fault is the last event
abbrev pub NothingAfterReadFault : Type 0
NothingAfterReadFault = (future : Future) (before after : List Event) → IsLive future at_first (before ++ ReadFailed ∷ after) → after ≡ []

abbrev pub NothingAfterWriteFault : Type 0
NothingAfterWriteFault = (future : Future) (before after : List Event) (piece : List ℕ) (count : ℕ)
    → IsLive future at_first (before ++ WriteFailed piece count ∷ after) → after ≡ []

-- the end states a read that fails
abbrev pub ReadFaultIsTold : Type 0
ReadFaultIsTold = (future : Future) (before after : List Event) (end : FilterEnd) → IsRun future (before ++ ReadFailed ∷ after) end → end ≡ ReadFault

abbrev pub WriteFaultIsTold : Type 0
WriteFaultIsTold = (future : Future) (before after : List Event) (piece : List ℕ) (count : ℕ) (end : FilterEnd)
    → IsRun future (before ++ WriteFailed piece count ∷ after) end → end ≡ WriteFault
