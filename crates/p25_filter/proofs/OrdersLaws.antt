-- The order in a live run of events: a read only while more octets may come and all decided output is written, and nothing after a fault.
use Rattle.std.proofs.Common.{◌≡◌, ℕ, false, List, [], ◌∷◌, ◌++◌, take, refl, sym, subst, ◌∙◌}
use Rattle.p25_io.specs.Events.{Event, Read, ReadFailed, Wrote, WriteFailed}
use Rattle.p25_filter.specs.{declared.ending.FilterEnd.{FilterEnd}, declared.ending.FilterEnd.TheVariants.{ReadFault, WriteFault, TooLong}, Futures.{Future}}
use Rattle.p25_filter.specs.Traces.{Broken, EndsAs, Going, IsLive, IsRun, Over, Standing, after_all, at_first, standing_after, standing_at}
use Rattle.p25_filter.proofs.TracesLaws.{IsLive-parts, after_all-append}

pub no_read-ahead : (future : Future) (before after : List Event) (first second : List ℕ) → IsLive future at_first (before ++ Read first ∷ Read second ∷ after)
    → future.writes false ((after_all at_first before).octets ++ first) ≡ future.writes false (after_all at_first before).octets
no_read-ahead future before after first second live =
    let parts = IsLive-parts future at_first before (Read first ∷ Read second ∷ after) live in
    sym parts.1.1.0.0.wrote ∙ parts.1.0.0.wrote

-- once the input is over no read comes
pub no-more_reads : (future : Future) (at : Standing) (between after : List Event) (octets : List ℕ) → (at.phase ≡ Going → ⊥)
    → IsLive future at (between ++ Read octets ∷ after) → ⊥
no-more_reads future at (ReadFailed ∷ between) after octets not live = not live.0.going
no-more_reads future at (Wrote piece ∷ between) after octets not live = no-more_reads future (standing_after at (Wrote piece)) between after octets not live.1
no-more_reads future at (WriteFailed piece count ∷ between) after octets not live =
    no-more_reads future (standing_after at (WriteFailed piece count)) between after octets (λ (same : Broken ≡ Going). cc) live.1
no-more_reads future at between after octets not live = not live.0.0.going

pub no_read-after_end : (future : Future) (before between after : List Event) (octets : List ℕ)
    → IsLive future at_first (before ++ Read [] ∷ (between ++ Read octets ∷ after)) → ⊥
no_read-after_end future before between after octets live =
    let parts = IsLive-parts future at_first before (Read [] ∷ (between ++ Read octets ∷ after)) live in
    no-more_reads future (standing_after (after_all at_first before) (Read [])) between after octets (λ (same : Over ≡ Going). cc) parts.1.1

-- after a fault nothing comes
broken-last : (future : Future) (octets text : List ℕ) (after : List Event) → IsLive future (standing_at Broken octets text) after → after ≡ []
broken-last future octets text [] live = refl
broken-last future octets text (Read other ∷ after) live = let going : Broken ≡ Going = live.0.0.going in cc
broken-last future octets text (ReadFailed ∷ after) live = let going : Broken ≡ Going = live.0.going in cc
broken-last future octets text (Wrote piece ∷ after) live = absurd live.0.decided
broken-last future octets text (WriteFailed piece count ∷ after) live = absurd live.0.0.decided

pub nothing-after_read_fault : (future : Future) (before after : List Event) → IsLive future at_first (before ++ ReadFailed ∷ after) → after ≡ []
nothing-after_read_fault future before after live =
    let parts = IsLive-parts future at_first before (ReadFailed ∷ after) live in
    broken-last future (after_all at_first before).octets (after_all at_first before).text after parts.1.1

pub nothing-after_write_fault : (future : Future) (before after : List Event) (piece : List ℕ) (count : ℕ)
    → IsLive future at_first (before ++ WriteFailed piece count ∷ after) → after ≡ []
nothing-after_write_fault future before after piece count live =
    let parts = IsLive-parts future at_first before (WriteFailed piece count ∷ after) live in
    broken-last future (after_all at_first before).octets ((after_all at_first before).text ++ take count piece) after parts.1.1

-- the last of some events is one alone
last-is : (xs ys : List Event) (x y : Event) → xs ++ x ∷ [] ≡ ys ++ y ∷ [] → x ≡ y
last-is [] (b ∷ []) x y same = cc
last-is (a ∷ []) [] x y same = cc
last-is (a ∷ xs) (b ∷ ys) x y same = let rest : xs ++ x ∷ [] ≡ ys ++ y ∷ [] = cc in last-is xs ys x y rest
last-is xs ys x y same = cc

-- and the end states that fault
read-told-at : (future : Future) (before : List Event) (octets text : List ℕ) (end : FilterEnd)
    → EndsAs future (before ++ ReadFailed ∷ []) (standing_at Broken octets text) end → end ≡ ReadFault
read-told-at future before octets text TooLong ends = let going : Broken ≡ Going = ends.going in cc
read-told-at future before octets text ReadFault ends = refl
read-told-at future before octets text WriteFault ends =
    let same : ReadFailed ≡ WriteFailed ends.0 ends.1 = last-is before ends.2.0 ReadFailed (WriteFailed ends.0 ends.1) ends.2.1 in cc
read-told-at future before octets text end ends = absurd ends

write-told-at : (future : Future) (before : List Event) (piece : List ℕ) (count : ℕ) (octets text : List ℕ) (end : FilterEnd)
    → EndsAs future (before ++ WriteFailed piece count ∷ []) (standing_at Broken octets text) end → end ≡ WriteFault
write-told-at future before piece count octets text TooLong ends = let going : Broken ≡ Going = ends.going in cc
write-told-at future before piece count octets text WriteFault ends = refl
write-told-at future before piece count octets text ReadFault ends =
    let same : WriteFailed piece count ≡ ReadFailed = last-is before ends.0 (WriteFailed piece count) ReadFailed ends.1 in cc
write-told-at future before piece count octets text end ends = absurd ends

pub read_fault-told : (future : Future) (before after : List Event) (end : FilterEnd) → IsRun future (before ++ ReadFailed ∷ after) end → end ≡ ReadFault
read_fault-told future before after end run =
    let none = nothing-after_read_fault future before after run.live in
    let last = subst (λ (es : List Event). EndsAs future (before ++ ReadFailed ∷ es) (after_all at_first (before ++ ReadFailed ∷ es)) end) none run.ends in
    let at = after_all at_first before in
    read-told-at future before at.octets at.text end
    (subst (λ (s : Standing). EndsAs future (before ++ ReadFailed ∷ []) s end) (after_all-append at_first before (ReadFailed ∷ [])) last)

pub write_fault-told : (future : Future) (before after : List Event) (piece : List ℕ) (count : ℕ) (end : FilterEnd)
    → IsRun future (before ++ WriteFailed piece count ∷ after) end → end ≡ WriteFault
write_fault-told future before after piece count end run =
    let none = nothing-after_write_fault future before after piece count run.live in
    let last =
    subst (λ (es : List Event). EndsAs future (before ++ WriteFailed piece count ∷ es) (after_all at_first (before ++ WriteFailed piece count ∷ es)) end)
    none run.ends in
    let at = after_all at_first before in
    write-told-at future before piece count at.octets (at.text ++ take count piece) end
    (subst (λ (s : Standing). EndsAs future (before ++ WriteFailed piece count ∷ []) s end)
    (after_all-append at_first before (WriteFailed piece count ∷ [])) last)
