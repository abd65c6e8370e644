-- Two futures with the same output and ends, and with allocations that may fail after the same texts, are equal, because functions with the same
-- values are.
use Rattle.std.proofs.Common.{◌≡◌, ℕ, Bool, List}
use Rattle.p25_filter.specs.Futures.{Future}

pub same-future : {f g : Future} → ((is : Bool) (octets : List ℕ) → f.writes is octets ≡ g.writes is octets)
    → ((is : Bool) (octets : List ℕ) → f.ends is octets ≡ g.ends is octets) → ((is : Bool) (octets : List ℕ) → f.pauses is octets ≡ g.pauses is octets) → f ≡ g
same-future writes ends pauses = λ i. record { writes = λ is octets. writes is octets i; ends = λ is octets. ends is octets i; pauses = λ is octets. pauses is octets i }
