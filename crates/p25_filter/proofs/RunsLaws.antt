-- The state at the end of the work, by the events that were made: the octets taken, the text written, and the condition of the end on both, by the
-- exposed octets that the events read and wrote (`Went`).
use Rattle.std.proofs.Common.{◌≡◌, ℕ, ◌+◌, ◌<◌, ◌≤◌, Bool, true, false, cond, nat_lt, zero, suc, List, [], ◌∷◌, ◌++◌, length, take, Option, Some, None, refl, ap, sym, subst, ◌∙◌, arith, append_assoc, append-nil, length-append}
use Rattle.std.proofs.{lemmas.List.{take_all}, lemmas.Bool.Decides.{nat_tests}, Math.Seq.{take-append-add}, lemmas.Bool.{ltb-false}}
use Rattle.std.specs.Prelude.{Contains, IfSome}
use Rattle.p25_io.specs.Events.{Event, Read, ReadFailed, Wrote, WriteFailed, octets_read, octets_written}
use Rattle.p25_io.specs.Octets.{Taken, Appended, AppendedBeginning}
use Rattle.p25_io.proofs.OctetsLaws.{Appended-same, AppendedBeginning-longer, AppendedBeginning-same, Taken-same, Taken-told}
use Rattle.p25_filter.specs.{declared.ending.Ending.{Ending}, declared.ending.FilterEnd.{FilterEnd}, declared.ending.FilterEnd.TheVariants.{Ended, ReadFault, WriteFault, TooLong, Memory}}
use Rattle.p25_filter.specs.{Futures.{Future}, Runs.{Filtered, IsFinal, IsMemory, IsReadFault, IsWriteFault, Meets, all_written, input_most, read_most}}
use Rattle.p25_filter.specs.Traces.{AreReads, Begins, Broken, EndsAs, Going, HasReadFault, HasWriteFault, IsDecided, IsFinalAt, IsLive, IsMemoryAt, IsRun, IsSettled, Over, Phase, Standing, after_all, at_first, standing_after}
use Rattle.p25_filter.proofs.{TracesLaws.{IsLive-parts, after_all-append}, WentLaws.{HasEnd, Went}}
pub use Rattle.p25_filter.proofs.TracesLaws.{first-take}

-- all octets of an input that is not too long count
not-long : (most count : ℕ) (x y : List ℕ) → count ≤ most → cond (nat_lt most count) x y ≡ y
not-long most count x y few = grind (arith, nat_tests)

pub ended-input : (told : Option (List ℕ)) (octets input : List ℕ) → IfSome told (λ all. all ≡ octets) → told ≡ Some input → input ≡ octets
ended-input None octets input all same = cc
ended-input (Some one) octets input all same = let e : one ≡ input = cc in sym e ∙ all

-- the exposed octets of a source are those taken and those left
pub told-parts : (told now : Option (List ℕ)) (octets input : List ℕ) → Taken told octets now → told ≡ Some input → (rest : List ℕ) × (input ≡ octets ++ rest)
told-parts told now octets input taken same =
    let parts = Taken-told (subst (λ (o : Option (List ℕ)). Taken o octets now) same taken) in
    (parts.0, parts.2)

-- if none of the exposed octets of a source are left, all of them were taken
taken-all : (told now : Option (List ℕ)) (octets : List ℕ) → Taken told octets now → IfSome now (λ rest. rest ≡ []) → IfSome told (λ input. input ≡ octets)
taken-all None now octets taken none = tt
taken-all (Some input) None octets taken none = let wrong : Some input ≡ None = taken.left in cc
taken-all (Some input) (Some rest) octets taken none =
    let same : Some input ≡ Some (octets ++ rest) = taken.left in
    let whole : input ≡ octets ++ rest = cc in
    whole ∙ ap (λ (zs : List ℕ). octets ++ zs) none ∙ append-nil octets

-- the first octets of some are the first of those before, and maybe more
take-some : (n : ℕ) (xs ys : List ℕ) → (more : List ℕ) × (take n (xs ++ ys) ≡ take n xs ++ more)
take-some zero xs ys = ([], refl)
take-some (suc n) [] ys = (take (suc n) ys, refl)
take-some (suc n) (x ∷ xs) ys = let next = take-some n xs ys in (next.0, ap (λ (zs : List ℕ). x ∷ zs) next.1)

-- a decided text begins all that is to be written
decided-begins : (future : Future) (phase : Phase) (octets rest text : List ℕ) → IsDecided future phase octets text
    → (phase ≡ Over → (length octets ≤ input_most) × (rest ≡ [])) → Begins text (all_written future (octets ++ rest))
decided-begins future Going octets rest text decided over = by_length (nat_lt input_most (length (octets ++ rest))) refl
  where
    by_length : (long : Bool) → nat_lt input_most (length (octets ++ rest)) ≡ long
        → Begins text (cond long (future.writes false (take input_most (octets ++ rest))) (future.writes true (octets ++ rest)))
    by_length true is =
        let first = take-some input_most octets rest in
        subst (λ (zs : List ℕ). Begins text (future.writes false zs)) (sym first.1) (decided false first.0)
    by_length false is =
        let few : length octets ≤ input_most = omega (arith, ltb-false input_most (length (octets ++ rest)) is, length-append octets rest) in
        subst (λ (zs : List ℕ). Begins text (future.writes true (zs ++ rest))) (take_all input_most octets few) (decided true rest)
decided-begins future Over octets rest text decided over =
    let ended = over refl in
    let same : octets ++ rest ≡ octets = ap (λ (zs : List ℕ). octets ++ zs) ended.1 ∙ append-nil octets in
    let whole : all_written future octets ≡ future.writes true octets =
    not-long input_most (length octets) (future.writes false (take input_most octets)) (future.writes true octets) ended.0 in
    subst (λ (zs : List ℕ). Begins text zs) (sym (ap (all_written future) same ∙ whole)) decided
decided-begins future Broken octets rest text decided over = absurd decided

-- the standing after some events has the octets that they read and the text that they wrote
after-octets : (at : Standing) (events : List Event) → (after_all at events).octets ≡ at.octets ++ octets_read events
after-octets at [] = sym (append-nil at.octets)
after-octets at (Read octets ∷ events) = after-octets (standing_after at (Read octets)) events ∙ append_assoc at.octets octets (octets_read events)
after-octets at (event ∷ events) = after-octets (standing_after at event) events

after-text : (at : Standing) (events : List Event) → (after_all at events).text ≡ at.text ++ octets_written events
after-text at [] = sym (append-nil at.text)
after-text at (Wrote piece ∷ events) = after-text (standing_after at (Wrote piece)) events ∙ append_assoc at.text piece (octets_written events)
after-text at (WriteFailed piece count ∷ events) =
    after-text (standing_after at (WriteFailed piece count)) events ∙ append_assoc at.text (take count piece) (octets_written events)
after-text at (event ∷ events) = after-text (standing_after at event) events

-- the input is over only by a read that gave none
over-read : (at : Standing) (events : List Event) → (at.phase ≡ Over → ⊥) → (after_all at events).phase ≡ Over → HasEnd events
over-read at [] not over = not over
over-read at (Read [] ∷ events) not over = tt
over-read at (Wrote piece ∷ events) not over = over-read (standing_after at (Wrote piece)) events not over
over-read at (event ∷ events) not over = over-read (standing_after at event) events (λ same. cc same) over

HasEnd-front : (xs ys : List Event) → HasEnd xs → HasEnd (xs ++ ys)
HasEnd-front [] ys ended = absurd ended
HasEnd-front (Read [] ∷ xs) ys ended = tt
HasEnd-front (event ∷ xs) ys ended = HasEnd-front xs ys ended

-- at most the octets of the longest input and of one read more, and at most those of the longest input if the input has ended
record IsBounded (at : Standing) : Type 0 where
  few : length at.octets ≤ input_most + read_most
  over : at.phase ≡ Over → length at.octets ≤ input_most

bounded-first : IsBounded at_first
bounded-first = record { few = omega arith; over = λ (same : Going ≡ Over). cc }

bounded-read : (future : Future) (at : Standing) (octets : List ℕ) → IsSettled future at → length octets ≤ read_most → IsBounded (standing_after at (Read octets))
bounded-read future at [] settled few =
    record { few = omega (arith, length-append at.octets [], settled.few); over = λ same. omega (arith, length-append at.octets [], settled.few) }
bounded-read future at (octet ∷ octets) settled few =
    record { few = omega (arith, length-append at.octets (octet ∷ octets), settled.few, few); over = λ (same : Going ≡ Over). cc }

bounded : (future : Future) (at : Standing) (events : List Event) → IsLive future at events → IsBounded at → IsBounded (after_all at events)
bounded future at [] live is = is
bounded future at (Read octets ∷ events) live is =
    bounded future (standing_after at (Read octets)) events live.1 (bounded-read future at octets live.0.0 live.0.1)
bounded future at (ReadFailed ∷ events) live is =
    bounded future (standing_after at ReadFailed) events live.1 (record { few = is.few; over = λ (same : Broken ≡ Over). cc })
bounded future at (Wrote piece ∷ events) live is =
    bounded future (standing_after at (Wrote piece)) events live.1 (record { few = is.few; over = is.over })
bounded future at (WriteFailed piece count ∷ events) live is =
    bounded future (standing_after at (WriteFailed piece count)) events live.1 (record { few = is.few; over = λ (same : Broken ≡ Over). cc })

-- the end of an input or a refusal within it
final-meets : (told first last : Option (List ℕ)) (future : Future) (phase : Phase) (octets text : List ℕ) (ending : Ending)
    → IsFinalAt future phase octets text ending → (phase ≡ Over → (length octets ≤ input_most) × IfSome told (λ input. input ≡ octets))
    → Appended first text last → IsFinal told first last future octets ending
final-meets told first last future Going octets text ending final over appended =
    let e = append-nil (take input_most octets) in
    record {
      ended = false;
      all = λ same. cc;
      ends = ap (future.ends false) (sym e) ∙ final.0 false [];
      stays = λ same is more. final.0 is more;
      wrote = Appended-same (sym (final.1 false []) ∙ ap (future.writes false) e) appended;
    }
final-meets told first last future Over octets text ending final over appended =
    let ended = over refl in
    let e = take_all input_most octets ended.0 in
    record {
      ended = true;
      all = λ same. ended;
      ends = ap (future.ends true) e ∙ final.0;
      stays = λ same. cc;
      wrote = Appended-same (final.1 ∙ ap (future.writes true) (sym e)) appended;
    }
final-meets told first last future Broken octets text ending final over appended = absurd final

-- an allocation failed
memory-meets : (told first last : Option (List ℕ)) (future : Future) (phase : Phase) (octets text : List ℕ)
    → IsMemoryAt future phase octets text → (phase ≡ Over → (length octets ≤ input_most) × IfSome told (λ input. input ≡ octets))
    → Appended first text last → IsMemory told first last future octets
memory-meets told first last future Going octets text pauses over appended =
    record { ended = false; all = λ same. cc; text = text; pauses = pauses; wrote = appended }
memory-meets told first last future Over octets text pauses over appended =
    let ended = over refl in
    record {
      ended = true;
      all = λ same. ended;
      text = text;
      pauses = subst (λ (zs : List ℕ). Contains (future.pauses true zs) text) (sym (take_all input_most octets ended.0)) pauses;
      wrote = appended;
    }
memory-meets told first last future Broken octets text pauses over appended = absurd pauses

-- a write failed
cut-front : (first last : Option (List ℕ)) (text piece whole : List ℕ) (count : ℕ) → Appended first (text ++ take count piece) last → Begins (text ++ piece) whole
    → AppendedBeginning first whole last
cut-front first last text piece whole count appended begins =
    let beginning : AppendedBeginning first (text ++ piece) last =
    record { count = length text + count; beginning = Appended-same (sym (take-append-add text piece count)) appended } in
    AppendedBeginning-same (sym begins.is) (AppendedBeginning-longer begins.rest beginning)

-- no octets are left if the exposed ones are none
none-is : (left : Option (List ℕ)) (rest : List ℕ) → IfSome left (λ some. some ≡ []) → left ≡ Some rest → rest ≡ []
none-is None rest none same = cc
none-is (Some some) rest none same = let equal : some ≡ rest = cc same in sym equal ∙ none

module _ (told left first last : Option (List ℕ)) (future : Future) where
  -- the octets taken and written, and the condition of the end on them
  meets : (events : List Event) (end : FilterEnd) → IsRun future events end → Went told left first last events
      → Meets told left first last future (after_all at_first events).octets end
  meets events end run went = by_end end run.ends
    where
      at : Standing
      at = after_all at_first events

      appended : Appended first (after_all at_first events).text last
      appended = Appended-same (sym (after-text at_first events)) went.appended

      over : (after_all at_first events).phase ≡ Over
          → (length (after_all at_first events).octets ≤ input_most) × IfSome told (λ input. input ≡ (after_all at_first events).octets)
      over same = (
        (bounded future at_first events run.live bounded-first).over same,
        taken-all told left (after_all at_first events).octets (Taken-same (sym (after-octets at_first events)) went.taken)
            (went.ending (over-read at_first events (λ (going : Going ≡ Over). cc) same)),
      )

      by_end : (end : FilterEnd) → EndsAs future events (after_all at_first events) end → Meets told left first last future (after_all at_first events).octets end
      by_end (Ended ending) ends = final-meets told first last future at.phase at.octets at.text ending ends over appended
      by_end Memory ends = memory-meets told first last future at.phase at.octets at.text ends over appended
      by_end TooLong ends = record { many = ends.many; ends = ends.ends; wrote = Appended-same ends.wrote appended }
      by_end ReadFault ends =
          let before = after_all at_first ends.0 in
          let is : after_all at_first events ≡ standing_after before ReadFailed =
          ap (after_all at_first) ends.1 ∙ after_all-append at_first ends.0 (ReadFailed ∷ []) in
          let live = IsLive-parts future at_first ends.0 (ReadFailed ∷ []) (subst (λ (es : List Event). IsLive future at_first es) ends.1 run.live) in
          let settled : IsSettled future before = live.1.0 in
          subst (λ (s : Standing). IsReadFault first last future s.octets) (sym is) (record {
            few = settled.few;
            ends = settled.ends;
            wrote = Appended-same (ap (λ (s : Standing). s.text) is ∙ settled.wrote) appended;
          })
      by_end WriteFault ends =
          let piece = ends.0 in
          let count = ends.1 in
          let front = ends.2.0 in
          let before = after_all at_first front in
          let is : after_all at_first events ≡ standing_after before (WriteFailed piece count) =
          ap (after_all at_first) ends.2.1 ∙ after_all-append at_first front (WriteFailed piece count ∷ []) in
          let live =
          IsLive-parts future at_first front (WriteFailed piece count ∷ []) (subst (λ (es : List Event). IsLive future at_first es) ends.2.1 run.live) in
          let ended : HasEnd front → HasEnd events =
          λ (has : HasEnd front). subst HasEnd (sym ends.2.1) (HasEnd-front front (WriteFailed piece count ∷ []) has) in
          subst (λ (s : Standing). IsWriteFault left first last future s.octets) (sym is) (record {
            beginning = λ rest same.
                cut-front first last before.text piece (all_written future (before.octets ++ rest)) count
                (Appended-same (ap (λ (s : Standing). s.text) is) appended)
                (decided-begins future before.phase before.octets rest (before.text ++ piece) live.1.0.0.decided
                (λ over_before. (
                  (bounded future at_first front live.0 bounded-first).over over_before,
                  none-is left rest (went.ending (ended (over-read at_first front (λ (going : Going ≡ Over). cc) over_before))) same,
                )));
          })

  pub run-filtered : (events : List Event) (end : FilterEnd) → IsRun future events end → Went told left first last events
      → Filtered told left first last future end
  run-filtered events end run went = record {
    octets = (after_all at_first events).octets;
    taken = Taken-same (sym (after-octets at_first events)) went.taken;
    few = (bounded future at_first events run.live bounded-first).few;
    meets = meets events end run went;
  }

-- no read after the end of the input gives octets
nothing-behind : (future : Future) (at : Standing) (events : List Event) → (at.phase ≡ Going → ⊥) → IsLive future at events → octets_read events ≡ []
nothing-behind future at [] not live = refl
nothing-behind future at (Read octets ∷ events) not live = absurd (not live.0.0.going)
nothing-behind future at (ReadFailed ∷ events) not live = absurd (not live.0.going)
nothing-behind future at (Wrote piece ∷ events) not live = nothing-behind future (standing_after at (Wrote piece)) events not live.1
nothing-behind future at (WriteFailed piece count ∷ events) not live =
    nothing-behind future (standing_after at (WriteFailed piece count)) events (λ (same : Broken ≡ Going). cc) live.1

module _ (future : Future) (input rest : List ℕ) (none : all_written future input ≡ []) where
  -- a chunk that is due is not empty, so something is to be written
  due-some : (at : Standing) (more piece : List ℕ) → input ≡ at.octets ++ more → IsBounded at → (at.phase ≡ Over → more ≡ []) → 0 < length piece
      → IsDecided future at.phase at.octets (at.text ++ piece) → ⊥
  due-some at more piece whole is over some decided =
      let begins = decided-begins future at.phase at.octets more (at.text ++ piece) decided (λ same. (is.over same, over same)) in
      omega (arith, some, ap length begins.is, ap length (ap (all_written future) (sym whole) ∙ none), length-append (at.text ++ piece) begins.rest, length-append at.text piece)

  -- the events for an input without output are reads alone
  quiet-by : (at : Standing) (events : List Event) → IsLive future at events → IsBounded at → input ≡ at.octets ++ (octets_read events ++ rest)
      → (at.phase ≡ Over → octets_read events ++ rest ≡ []) → (HasEnd events → rest ≡ []) → AreReads events
  quiet-by at [] live is whole over ended = tt
  quiet-by at (Read [] ∷ events) live is whole over ended =
      let left : octets_read events ++ rest ≡ [] =
      ap (λ (zs : List ℕ). zs ++ rest) (nothing-behind future (standing_after at (Read [])) events (λ (same : Over ≡ Going). cc) live.1) ∙ ended tt in
      quiet-by (standing_after at (Read [])) events live.1 (bounded-read future at [] live.0.0 live.0.1)
      (whole ∙ sym (append_assoc at.octets [] (octets_read events ++ rest))) (λ same. left) (λ has. ended tt)
  quiet-by at (Read (octet ∷ octets) ∷ events) live is whole over ended =
      quiet-by (standing_after at (Read (octet ∷ octets))) events live.1 (bounded-read future at (octet ∷ octets) live.0.0 live.0.1)
      (whole
      ∙ ap (λ (zs : List ℕ). at.octets ++ zs) (append_assoc (octet ∷ octets) (octets_read events) rest)
      ∙ sym (append_assoc at.octets (octet ∷ octets) (octets_read events ++ rest))) (λ (same : Going ≡ Over). cc) ended
  quiet-by at (ReadFailed ∷ events) live is whole over ended =
      quiet-by (standing_after at ReadFailed) events live.1 (record { few = is.few; over = λ (same : Broken ≡ Over). cc }) whole (λ (same : Broken ≡ Over). cc) ended
  quiet-by at (Wrote piece ∷ events) live is whole over ended =
      absurd (due-some at (octets_read events ++ rest) piece whole is over live.0.some live.0.decided)
  quiet-by at (WriteFailed piece count ∷ events) live is whole over ended =
      absurd (due-some at (octets_read events ++ rest) piece whole is over live.0.0.some live.0.0.decided)

pub run-quiet : (told left first last : Option (List ℕ)) (future : Future) (events : List Event) (end : FilterEnd) → IsRun future events end
    → Went told left first last events → (input : List ℕ) → told ≡ Some input → all_written future input ≡ [] → AreReads events
run-quiet told left first last future events end run went input same none =
    let parts = Taken-told (subst (λ (o : Option (List ℕ)). Taken o (octets_read events) left) same went.taken) in
    quiet-by future input parts.0 none at_first events run.live bounded-first parts.2 (λ (going : Going ≡ Over). cc) (λ has. none-is left parts.0 (went.ending has) parts.1)

-- a fault that the end states is among the events
has-read : (before : List Event) → HasReadFault (before ++ ReadFailed ∷ [])
has-read [] = tt
has-read (ReadFailed ∷ before) = tt
has-read (event ∷ before) = has-read before

has-write : (before : List Event) (piece : List ℕ) (count : ℕ) → HasWriteFault (before ++ WriteFailed piece count ∷ [])
has-write [] piece count = tt
has-write (WriteFailed other so_many ∷ before) piece count = tt
has-write (event ∷ before) piece count = has-write before piece count

pub run-read_fault : (future : Future) (events : List Event) (end : FilterEnd) → IsRun future events end → end ≡ ReadFault → HasReadFault events
run-read_fault future events end run same =
    let ends = (subst (λ (e : FilterEnd). IsRun future events e) same run).ends in
    subst HasReadFault (sym ends.1) (has-read ends.0)

pub run-write_fault : (future : Future) (events : List Event) (end : FilterEnd) → IsRun future events end → end ≡ WriteFault → HasWriteFault events
run-write_fault future events end run same =
    let ends = (subst (λ (e : FilterEnd). IsRun future events e) same run).ends in
    subst HasWriteFault (sym ends.2.1) (has-write ends.2.0 ends.0 ends.1)
