-- The results of a writer in one step and in two.
use Rattle.std.proofs.Common.{◌≡◌, ℕ, ◌+◌, ◌-◌, ◌<◌, List, [], ◌∷◌, ◌++◌, Option, length, take, drop, arith, ap, sym, subst, ◌∙◌, append_assoc, append-nil}
use Rattle.std.proofs.{lemmas.List.{take_rest}, Math.Seq.{take-add}, KnownBytes.{Appends-trans}, lemmas.Grind.{flat_map-append}}
use Rattle.p25_io.specs.{Asked.{Answered, Took, refusals_in}, declared.asked.AskedWriter.{AskedWriter}, StreamsLaws.{write_faults_in-append, writes_in-append}}
use Rattle.p25_io.specs.Events.{Event, Read, ReadFailed, Wrote, WriteFailed, octets_written, write_faults_in, writes_in, written_by}

refusals_in-append : (xs ys : List Event) → refusals_in (xs ++ ys) ≡ refusals_in xs + refusals_in ys
refusals_in-append [] ys = omega arith
refusals_in-append (Wrote [] ∷ xs) ys = omega (arith, refusals_in-append xs ys)
refusals_in-append (Wrote (octet ∷ octets) ∷ xs) ys = refusals_in-append xs ys
refusals_in-append (WriteFailed piece count ∷ xs) ys = omega (arith, refusals_in-append xs ys)
refusals_in-append (Read octets ∷ xs) ys = refusals_in-append xs ys
refusals_in-append (ReadFailed ∷ xs) ys = refusals_in-append xs ys

-- the octets, the flushes and the faults of the results of a writer
pub Took-answered : {W : Type 0} (contents : W → Option (List ℕ)) (before now : AskedWriter W) (octets : List ℕ) (writes flushes : List Event)
    → Answered contents before octets writes flushes now → octets_written writes ≡ octets
    → Took contents before octets (writes_in flushes) (refusals_in writes + write_faults_in flushes) now
Took-answered contents before now octets writes flushes answered same = record {
  wrote = answered.wrote;
  taken = ap octets_written answered.writes ∙ flat_map-append written_by before.writes.events writes ∙ ap (λ (zs : List ℕ). octets_written before.writes.events ++ zs) same;
  flushed = ap writes_in answered.flushes ∙ writes_in-append before.flushes.events flushes;
  failed =
      omega (
        arith,
        ap refusals_in answered.writes,
        refusals_in-append before.writes.events writes,
        ap write_faults_in answered.flushes,
        write_faults_in-append before.flushes.events flushes,
      );
}

-- octets that the writer took
pub Took-some : {W : Type 0} (contents : W → Option (List ℕ)) (before now : AskedWriter W) (octets : List ℕ) → 0 < length octets
    → Answered contents before octets (Wrote octets ∷ []) [] now → Took contents before octets 0 0 now
Took-some contents before now [] some answered = absurd (omega (arith, some))
Took-some contents before now (octet ∷ octets) some answered =
    Took-answered contents before now (octet ∷ octets) (Wrote (octet ∷ octets) ∷ []) [] answered (append-nil (octet ∷ octets))

-- a write that took nothing
pub Took-nothing : {W : Type 0} (contents : W → Option (List ℕ)) (before now : AskedWriter W) (octets : List ℕ) → octets ≡ []
    → Answered contents before octets (Wrote octets ∷ []) [] now → Took contents before [] 0 1 now
Took-nothing contents before now [] none answered = Took-answered contents before now [] (Wrote [] ∷ []) [] answered (append-nil [])
Took-nothing contents before now (octet ∷ octets) none answered = cc

-- a step after a step
pub Took-trans : {W : Type 0} (contents : W → Option (List ℕ)) (before next now : AskedWriter W) (xs ys : List ℕ) (n j : ℕ)
    → Took contents before xs 0 0 next → Took contents next ys n j now → Took contents before (xs ++ ys) n j now
Took-trans contents before next now xs ys n j first second = record {
  wrote = Appends-trans _ _ _ _ _ first.wrote second.wrote;
  taken = second.taken ∙ ap (λ (zs : List ℕ). zs ++ ys) first.taken ∙ append_assoc (octets_written before.writes.events) xs ys;
  flushed = omega (arith, first.flushed, second.flushed);
  failed = omega (arith, first.failed, second.failed);
}

-- nothing more was taken
pub Took-then : {W : Type 0} (contents : W → Option (List ℕ)) (before next now : AskedWriter W) (xs : List ℕ) (m i : ℕ)
    → Took contents before xs 0 0 next → Took contents next [] m i now → Took contents before xs m i now
Took-then contents before next now xs m i first second =
    subst (λ (octets : List ℕ). Took contents before octets m i now) (append-nil xs) (Took-trans contents before next now xs [] m i first second)

-- the octets that are done and the next ones, of those that are left
pub take-done_next : (piece : List ℕ) (done count : ℕ) → take (done + count) piece ≡ take done piece ++ take count (take (length piece - done) (drop done piece))
take-done_next piece done count =
    take-add done count piece ∙ ap (λ rest. take done piece ++ take count rest) (sym (take_rest piece done))

pub Took-next : {W : Type 0} (contents : W → Option (List ℕ)) (before next now : AskedWriter W) (piece : List ℕ) (done count : ℕ)
    → Took contents before (take done piece) 0 0 next → Took contents next (take count (take (length piece - done) (drop done piece))) 0 0 now
    → Took contents before (take (done + count) piece) 0 0 now
Took-next contents before next now piece done count first second =
    subst (λ (octets : List ℕ). Took contents before octets 0 0 now) (sym (take-done_next piece done count)) (Took-trans contents before next now _ _ 0 0 first second)
