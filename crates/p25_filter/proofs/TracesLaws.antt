-- Live runs of events: the first octets of an input, and events after events.
use Rattle.std.proofs.{Common.{◌≡◌, ℕ, ◌+◌, ◌-◌, ◌≤◌, List, [], ◌∷◌, ◌++◌, length, take, min, refl, ap, sym, ◌∙◌, arith, append_assoc, length-take}, lemmas.List.{take-take, take_min}, Math.Seq.{take-append-add}}
use Rattle.p25_io.specs.Events.{Event}
use Rattle.p25_filter.specs.{declared.ending.FilterEnd.{FilterEnd}, declared.ending.FilterEnd.TheVariants.{ReadFault, WriteFault}, Futures.{Future}, Runs.{input_most}}
use Rattle.p25_filter.specs.Traces.{EndsAs, IsLive, Standing, after_all, standing_after}

-- the first octets of an input and some more
pub first-take : (octets more : List ℕ) → length octets ≤ input_most → take input_most (octets ++ more) ≡ octets ++ take (input_most - length octets) more
first-take octets more few =
    let e : input_most ≡ length octets + (input_most - length octets) = omega arith in
    ap (λ (n : ℕ). take n (octets ++ more)) e ∙ take-append-add octets more (input_most - length octets)

-- the octets before a read and those that it returned: the first of both are those before, and those of the read that fit
pub first-read : (octets buf : List ℕ) (count fits : ℕ) → length octets ≤ input_most → count ≤ length buf → fits ≡ min count (input_most - length octets)
    → take input_most (octets ++ take count buf) ≡ octets ++ take fits buf
first-read octets buf count fits few there fit =
    let piece = take count buf in
    let same : min (input_most - length octets) (length piece) ≡ fits = omega (arith, fit, there, length-take count buf) in
    first-take octets piece few ∙ ap (λ (zs : List ℕ). octets ++ zs) (
    sym (take_min (input_most - length octets) piece) ∙ ap (λ (n : ℕ). take n piece) same ∙ take-take fits count buf (omega (arith, fit))
    )

-- events after events
pub after_all-append : (at : Standing) (xs ys : List Event) → after_all at (xs ++ ys) ≡ after_all (after_all at xs) ys
after_all-append at [] ys = refl
after_all-append at (x ∷ xs) ys = after_all-append (standing_after at x) xs ys

pub IsLive-append : (future : Future) (at : Standing) (xs ys : List Event) → IsLive future at xs → IsLive future (after_all at xs) ys → IsLive future at (xs ++ ys)
IsLive-append future at [] ys live more = more
IsLive-append future at (x ∷ xs) ys live more = (live.0, IsLive-append future (standing_after at x) xs ys live.1 more)

pub IsLive-parts : (future : Future) (at : Standing) (xs ys : List Event) → IsLive future at (xs ++ ys) → IsLive future at xs × IsLive future (after_all at xs) ys
IsLive-parts future at [] ys live = (tt, live)
IsLive-parts future at (x ∷ xs) ys live = let parts = IsLive-parts future (standing_after at x) xs ys live.1 in ((live.0, parts.0), parts.1)

-- an end after more events before
pub EndsAs-after : (future : Future) (xs ys : List Event) (at : Standing) (end : FilterEnd) → EndsAs future ys at end → EndsAs future (xs ++ ys) at end
EndsAs-after future xs ys at ReadFault ends = (xs ++ ends.0, ap (λ (es : List Event). xs ++ es) ends.1 ∙ sym (append_assoc xs ends.0 _))
EndsAs-after future xs ys at WriteFault ends = (ends.0, ends.1, (xs ++ ends.2.0, ap (λ (es : List Event). xs ++ es) ends.2.1 ∙ sym (append_assoc xs ends.2.0 _)))
EndsAs-after future xs ys at end ends = ends
