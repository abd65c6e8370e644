-- The progress of the work on lines: octets come, a line is taken, a chunk is returned, the input ends. A line that is too long is refused whatever
-- its octets are, so its kept beginning serves as well as all of it. By induction on the octets that come.
use Rattle.std.proofs.Common.{◌≡◌, ℕ, ◌+◌, ◌<◌, ◌≤◌, ◌-◌, min, Bool, true, false, cond, nat_eq, nat_lt, List, [], ◌∷◌, ◌++◌, length, take, drop, Some, Result, Ok, Err, refl, ap, ap₂, sym, subst, ◌∙◌, arith, append_assoc, append-nil, length-append, length-take}
use Rattle.std.proofs.{lemmas.List.{take-append-drop, take_all, take_min}, Math.Seq.{take-append-add}, lemmas.Bool.Decides.{nat_tests}, lemmas.Bool.{cond-true, lt-ltb}}
use Rattle.std.specs.{Prelude.{Contains, is_ok}, List.{concat}}
use Rattle.p25_line.specs.declared.{fault.LineFault.{LineFault}, fault.LineFault.TheVariants.{Long}}
use Rattle.p25_filter.specs.{declared.ending.Ending.{Ending}, declared.ending.Ending.TheVariants.{BadLine, Done}, declared.ending.Refusal.{Refusal}}
use Rattle.p25_filter.specs.{declared.ending.Refusal.TheVariants.{Ended, Memory}, declared.line_filter.LinePhase.{LinePhase}}
use Rattle.p25_filter.specs.{declared.line_filter.LinePhase.TheVariants.{Reading, Ready, ReadyLast, Closing, Closed}, Futures.{IsClosed, IsIdle, IsPausing, IsRefusedBy, NextPiece, Progress}}
use Rattle.p25_filter.specs.{Lines.{closing_by, each_behind, lines_ending, lines_in, texts_before}, LineRules.{LineRules, LinesTaken, first_taken, lines_taken, written_for}}
use Rattle.p25_filter.specs.LineFilters.{IsLineReady, IsTextReady, LineFiltering, closes_with, ends_with, is_ended_phase, line_future, line_filtering, lines_left, texts_of, taken_from}
use Rattle.p25_filter.proofs.LinesLaws.{Contains-here, Contains-later, Contains-none, each_behind-from, each_behind-in, each_behind-none, lines_in-end, lines_in-part, octets_before}

-- a chunk of at most `most` octets, and the rest
pub piece-is : (xs : List ℕ) (most count : ℕ) → count ≡ min (length xs) most → take count xs ≡ take most xs
piece-is xs most count same = let other : count ≡ min most (length xs) = omega (arith, same) in rw other (take_min most xs)

pub piece-left : (xs out : List ℕ) (most : ℕ) → out ≡ take most xs → xs ≡ out ++ drop (length out) xs
piece-left xs out most same =
    let few : length out ≡ min most (length xs) = ap length same ∙ length-take most xs in
    let front : out ≡ take (length out) xs = same ∙ sym (take_min most xs) ∙ ap (λ (n : ℕ). take n xs) (sym few) in
    sym (ap (λ (zs : List ℕ). zs ++ drop (length out) xs) front ∙ take-append-drop (length out) xs)

-- if an allocation may fail, and if not
wanting : (wants : Bool) (texts : List (List ℕ)) (pause : List ℕ) → wants ≡ true → Contains texts pause → Contains (cond wants texts []) pause
wanting true texts pause same is = is
wanting false texts pause same is = cc

when_wanting : (wants : Bool) (texts : List (List ℕ)) (pause : List ℕ) → Contains (cond wants texts []) pause → (wants ≡ true) × Contains texts pause
when_wanting true texts pause is = (refl, is)
when_wanting false texts pause is = absurd (Contains-none pause is)

-- before an octet no line is there and the input has not ended, so a line is being read; and at the end all was given
is_reading : (phase : LinePhase) → texts_of phase ≡ 0 → is_ended_phase phase ≡ false → phase ≡ Reading
is_reading Reading none going = refl
is_reading Ready none going = absurd (omega arith)
is_reading phase none going = cc

is_closed : (phase : LinePhase) → texts_of phase ≡ 0 → is_ended_phase phase ≡ true → phase ≡ Closed
is_closed ReadyLast none ended = absurd (omega arith)
is_closed Closing none ended = absurd (omega arith)
is_closed Closed none ended = refl
is_closed phase none ended = cc

-- a function that is the same for all lists of lines whose first is too long does not depend on that line
module _ {X : Type 0} (f : List (List ℕ) → X) (x : X) (first : (line : List ℕ) (lines : List (List ℕ)) → 8192 < length line → f (line ∷ lines) ≡ x) where
  long-same : (more : List ℕ) (ended : Bool) (line other : List ℕ) → 8192 < length line → 8192 < length other
      → f (lines_in ended line more) ≡ f (lines_in ended other more)
  unfolding lines_in
  long-same [] false line other long also = refl
  long-same [] true line other long also =
      ap f (cond-true (nat_lt 0 (length line)) (line ∷ []) [] (lt-ltb 0 (length line) (omega arith)))
      ∙ first line [] long
      ∙ sym (first other [] also)
      ∙ ap f (sym (cond-true (nat_lt 0 (length other)) (other ∷ []) [] (lt-ltb 0 (length other) (omega arith))))
  long-same (octet ∷ more) ended line other long also =
      by_test (nat_eq octet 10)
      (long-same more ended (line ++ octet ∷ []) (other ++ octet ∷ []) (omega (arith, length-append line (octet ∷ []))) (omega (arith, length-append other (octet ∷ []))))
    where
      by_test : (test : Bool) → f (lines_in ended (line ++ octet ∷ []) more) ≡ f (lines_in ended (other ++ octet ∷ []) more)
          → f (cond test (line ∷ lines_in ended [] more) (lines_in ended (line ++ octet ∷ []) more))
          ≡ f (cond test (other ∷ lines_in ended [] more) (lines_in ended (other ++ octet ∷ []) more))
      by_test true same = first line (lines_in ended [] more) long ∙ sym (first other (lines_in ended [] more) also)
      by_test false same = same

  -- the octets kept of a line can replace the line
  either : (P : List ℕ → X) (line : List ℕ) → (8192 < length (take 8193 line) → 8192 < length line → P line ≡ P (take 8193 line)) → P line ≡ P (take 8193 line)
  either P line long = by_length (nat_lt 8193 (length line)) refl
    where
      by_length : (more : Bool) → nat_lt 8193 (length line) ≡ more → P line ≡ P (take 8193 line)
      by_length true same =
          let more : 8193 < length line = grind (arith, nat_tests, same) in
          long (omega (arith, more, length-take 8193 line)) (omega (arith, more))
      by_length false same = ap P (sym (take_all 8193 line (grind (arith, nat_tests, same))))

  kept-same : (ended : Bool) (line more : List ℕ) → f (lines_in ended line more) ≡ f (lines_in ended (take 8193 line) more)
  kept-same ended line more = either (λ l. f (lines_in ended l more)) line (λ also long. long-same more ended line (take 8193 line) long also)

  kept-first : (line : List ℕ) (lines : List (List ℕ)) → f (line ∷ lines) ≡ f (take 8193 line ∷ lines)
  kept-first line lines = either (λ l. f (l ∷ lines)) line (λ also long. first line lines long ∙ sym (first (take 8193 line) lines also))

module _ {M : Type 0} (rules : LineRules M) where
  -- the result of lines, by the result of the first
  taken-first : (number : ℕ) (machine : M) (line : List ℕ) (lines : List (List ℕ)) (is : Result (M × List ℕ) LineFault) → rules.take machine line ≡ is
      → lines_taken rules.take number machine (line ∷ lines) ≡ first_taken number machine (λ next. lines_taken rules.take (number + 1) next lines) is
  unfolding lines_taken
  taken-first number machine line lines is same = ap (first_taken number machine (λ next. lines_taken rules.take (number + 1) next lines)) same

  -- the texts after which memory may be wanting
  abbrev pub pauses_of : List ℕ → LinesTaken M → List (List ℕ)
  pauses_of left taken = cond rules.wants (each_behind left (texts_before taken.texts)) []

  -- octets arrive, and the result of the lines that are left is that of the lines with these octets
  comes : (machine : M) (lines : ℕ) (rest : List ℕ) (octets line then : List ℕ) (next : LinePhase)
      → ((ended : Bool) (more : List ℕ) → lines_taken rules.take (lines + 1) machine (lines_in ended line (octets ++ more))
      ≡ lines_taken rules.take (lines + 1) machine (lines_left next then ended more))
      → ((ended : Bool) → ended ≡ closes_with next ended) → ((ended : Bool) → ended ≡ ends_with next ended)
      → Progress (line_future rules (line_filtering machine line lines rest Reading)) octets [] (line_future rules (line_filtering machine then lines rest next))
  unfolding line_future
  comes machine lines rest octets line then next left closes ends = record {
    writes = λ ended more. ap₂ (λ (b : Bool) (t : LinesTaken M). rest ++ written_for rules b t) (closes ended) (left ended more);
    ends = λ ended more. ap₂ (λ (b : Bool) (t : LinesTaken M). lines_ending b t.refusal) (ends ended) (left ended more);
    pauses = λ ended more pause is. rw (left ended more) is;
  }

  -- a property of work while it reads a line holds for work before an octet
  reading : (P : LinePhase → Type 0) (phase : LinePhase) → texts_of phase ≡ 0 → is_ended_phase phase ≡ false → P Reading → P phase
  reading P phase none going holds = subst P (sym (is_reading phase none going)) holds

  -- the octets that are kept of a line
  pub kept-of : (line octets : List ℕ) (fits : ℕ) → length line ≤ 8193 → fits ≡ min (length octets) (8193 - length line)
      → line ++ take fits octets ≡ take 8193 (line ++ octets)
  kept-of line octets fits short same =
      ap (λ (n : ℕ). line ++ take n octets) same
      ∙ ap (λ (os : List ℕ). line ++ os) (take-min (8193 - length line))
      ∙ sym (take-append-add line octets (8193 - length line))
      ∙ (let all : length line + (8193 - length line) ≡ 8193 = omega (arith, short) in ap (λ (n : ℕ). take n (line ++ octets)) all)
    where
      take-min : (n : ℕ) → take (min (length octets) n) octets ≡ take n octets
      take-min n = let other : min (length octets) n ≡ min n (length octets) = omega arith in ap (λ (k : ℕ). take k octets) other ∙ take_min n octets

  -- the steps of `push_some`: of a line that has begun some octets are kept, and the line goes on or ends
  module _ (too_long : (machine : M) (line : List ℕ) → 8192 < length line → rules.take machine line ≡ Err Long) (work now : LineFiltering M) (octets : List ℕ) (count : ℕ)
      (before : count ≡ octets_before octets) (none : texts_of work.phase ≡ 0) (going : is_ended_phase work.phase ≡ false) where
    abbrev pub whole : List ℕ
    whole = work.line ++ take count octets

    -- the result of lines
    abbrev came : List (List ℕ) → LinesTaken M
    came = lines_taken rules.take (work.lines + 1) work.machine

    -- the result of lines of which the first is too long
    first-long : (line : List ℕ) (lines : List (List ℕ)) → 8192 < length line → came (line ∷ lines) ≡ record { texts = []; machine = work.machine; refusal = Some (BadLine (work.lines + 1) Long) }
    first-long line lines long = taken-first (work.lines + 1) work.machine line lines (Err Long) (too_long work.machine line long)

    goes-on : (then : List ℕ) (next : LinePhase) → now ≡ line_filtering work.machine then work.lines work.left next → (taken : List ℕ)
        → Progress (line_future rules (line_filtering work.machine work.line work.lines work.left Reading)) taken
        [] (line_future rules (line_filtering work.machine then work.lines work.left next))
        → Progress (line_future rules work) taken [] (line_future rules now)
    goes-on then next is taken progress =
        subst (λ (w : LineFiltering M). Progress (line_future rules work) taken [] (line_future rules w)) (sym is)
        (reading (λ p. Progress (line_future rules (line_filtering work.machine work.line work.lines work.left p)) taken []
        (line_future rules (line_filtering work.machine then work.lines work.left next))) work.phase none going progress)

    -- the line goes on
    pub step-part : now ≡ line_filtering work.machine (take 8193 whole) work.lines work.left Reading → Progress (line_future rules work) (take count octets) [] (line_future rules now)
    unfolding lines_in
    step-part is =
        goes-on (take 8193 whole) Reading is (take count octets)
        (comes work.machine work.lines work.left (take count octets) work.line (take 8193 whole) Reading
        (λ ended more. ap came (subst (λ (n : ℕ). lines_in ended work.line (take n octets ++ more) ≡ lines_in ended (work.line ++ take n octets) more) (sym before)
        (lines_in-part ended work.line octets more)) ∙ kept-same came _ first-long ended whole more)
        (λ ended. refl) (λ ended. refl))

    -- the line ends
    pub step-end : count < length octets → now ≡ line_filtering work.machine (take 8193 whole) work.lines work.left Ready
        → Progress (line_future rules work) (take (count + 1) octets) [] (line_future rules now)
    step-end there is =
        goes-on (take 8193 whole) Ready is (take (count + 1) octets)
        (comes work.machine work.lines work.left (take (count + 1) octets) work.line (take 8193 whole) Ready
        (λ ended more. ap came (subst (λ (n : ℕ). n < length octets → lines_in ended work.line (take (n + 1) octets ++ more) ≡ (work.line ++ take n octets) ∷ lines_in ended [] more) (sym before)
        (lines_in-end ended work.line octets more) there) ∙ kept-first came _ first-long whole (lines_in ended [] more))
        (λ ended. refl) (λ ended. refl))

  -- the steps of `finish`: the input ends after a line that has begun, or none
  working-finish : (machine : M) (line : List ℕ) (lines : ℕ) (rest : List ℕ) → 0 < length line
      → IsClosed (line_future rules (line_filtering machine line lines rest Reading)) (line_future rules (line_filtering machine line lines rest ReadyLast))
  unfolding line_future lines_in
  working-finish machine line lines rest some =
      let last : cond (nat_lt 0 (length line)) (line ∷ []) [] ≡ line ∷ [] = cond-true (nat_lt 0 (length line)) (line ∷ []) [] (lt-ltb 0 (length line) some) in
      let same = ap (lines_taken rules.take (lines + 1) machine) (sym last) in
      record {
        writes = λ ended more. ap (λ (t : LinesTaken M). rest ++ written_for rules true t) same;
        ends = λ ended more. ap (λ (t : LinesTaken M). lines_ending true t.refusal) same;
        pauses = λ ended more. ap (pauses_of rest) same;
      }

  working-finish_none : (machine : M) (line : List ℕ) (lines : ℕ) (rest : List ℕ) → length line ≡ 0
      → IsClosed (line_future rules (line_filtering machine line lines rest Reading)) (line_future rules (line_filtering machine line lines rest Closing))
  unfolding line_future lines_in
  working-finish_none machine [] lines rest none = record { writes = λ ended more. refl; ends = λ ended more. refl; pauses = λ ended more. refl }
  working-finish_none machine (octet ∷ line) lines rest none = absurd (omega arith)

  module _ (machine : M) (line : List ℕ) (lines : ℕ) (rest : List ℕ) (phase : LinePhase) (none : texts_of phase ≡ 0) (going : is_ended_phase phase ≡ false) where
    abbrev pub closes-as : LinePhase → Type 0
    closes-as next = IsClosed (line_future rules (line_filtering machine line lines rest phase)) (line_future rules (line_filtering machine line lines rest next))

    pub step-finish : 0 < length line → closes-as ReadyLast
    step-finish some =
        reading (λ p. IsClosed (line_future rules (line_filtering machine line lines rest p)) (line_future rules (line_filtering machine line lines rest ReadyLast)))
        phase none going (working-finish machine line lines rest some)

    pub step-finish_none : length line ≡ 0 → closes-as Closing
    step-finish_none empty =
        reading (λ p. IsClosed (line_future rules (line_filtering machine line lines rest p)) (line_future rules (line_filtering machine line lines rest Closing)))
        phase none going (working-finish_none machine line lines rest empty)

  -- the steps of `give`: a chunk of the text is returned
  pub step-give : (before now : LineFiltering M) (out rest : List ℕ) → before.left ≡ out ++ rest → now ≡ record before { left = rest }
      → Progress (line_future rules before) [] out (line_future rules now)
  unfolding line_future
  step-give before now out rest whole is = rw is (record {
    writes = λ ended more.
        let after = written_for rules (closes_with before.phase ended) (taken_from rules before ended more) in
        rw whole (append_assoc out rest after);
    ends = λ ended more. refl;
    pauses = λ ended more pause there.
        let texts = texts_before (taken_from rules before ended more).texts in
        let now_there = when_wanting rules.wants _ pause there in
        let part = each_behind-from rest texts pause now_there.1 in
        wanting rules.wants _ (out ++ pause) now_there.0 (rw (whole, ← part.2, ← append_assoc out rest part.0) (each_behind-in (out ++ rest) texts part.0 part.1));
  })

  -- and so after a text was got ready
  pub step-after : (before mid now : LineFiltering M) (out rest : List ℕ) → NextPiece (line_future rules before) (Ok true) [] (line_future rules mid)
      → mid.left ≡ out ++ rest → now ≡ record mid { left = rest } → NextPiece (line_future rules before) (Ok true) out (line_future rules now)
  unfolding NextPiece
  step-after before mid now out rest first whole is =
      let then = step-give mid now out rest whole is in
      record {
        writes = λ ended more. first.writes ended more ∙ then.writes ended more;
        ends = λ ended more. first.ends ended more ∙ then.ends ended more;
        pauses = λ ended more pause there. first.pauses ended more (out ++ pause) (then.pauses ended more pause there);
      }

  -- the steps of `ready`: the output at the end is to be returned
  working-close : (machine : M) (line : List ℕ) (lines : ℕ)
      → NextPiece (line_future rules (line_filtering machine line lines [] Closing)) (Ok true) [] (line_future rules (line_filtering machine line lines (rules.closing machine) Closed))
  unfolding NextPiece line_future written_for texts_before each_behind lines_taken
  working-close machine line lines = record {
    writes = λ ended more. sym (append-nil (rules.closing machine));
    ends = λ ended more. refl;
    pauses = λ ended more pause is. absurd (Contains-none pause (when_wanting rules.wants [] pause is).1);
  }

  module _ (machine : M) (line : List ℕ) (lines : ℕ) (phase next : LinePhase)
      (left : (ended : Bool) (more : List ℕ) → lines_left phase line ended more ≡ line ∷ lines_left next [] ended more)
      (ends : (ended : Bool) → ends_with next ended ≡ ends_with phase ended) (closes : (ended : Bool) → closes_with next ended ≡ closes_with phase ended) where
    -- the result of the lines that are left
    abbrev comes-left : Bool → List ℕ → LinesTaken M
    comes-left ended more = lines_taken rules.take (lines + 1) machine (lines_left phase line ended more)

    abbrev rest-left : Bool → List ℕ → M → LinesTaken M
    rest-left ended more then = lines_taken rules.take (lines + 1 + 1) then (lines_left next [] ended more)

    left-first : (ended : Bool) (more : List ℕ) (is : Result (M × List ℕ) LineFault) → rules.take machine line ≡ is → comes-left ended more ≡ first_taken (lines + 1) machine (rest-left ended more) is
    left-first ended more is same =
        ap (lines_taken rules.take (lines + 1) machine) (left ended more) ∙ taken-first (lines + 1) machine line (lines_left next [] ended more) is same

    before-left : (ended : Bool) (more : List ℕ) (then : M) (text : List ℕ) → rules.take machine line ≡ Ok (then, text)
        → texts_before (comes-left ended more).texts ≡ [] ∷ each_behind text (texts_before (rest-left ended more then).texts)
    unfolding texts_before
    before-left ended more then text is = ap (λ (t : LinesTaken M). texts_before t.texts) (left-first ended more (Ok (then, text)) is)

    -- a line that is there was taken, and its text is to be given
    text-ready : (then : M) (text : List ℕ) → rules.take machine line ≡ Ok (then, text)
        → Progress (line_future rules (line_filtering machine line lines [] phase)) [] [] (line_future rules (line_filtering then [] (lines + 1) text next))
    unfolding line_future written_for
    text-ready then text is = record {
      writes = λ ended more.
          let after = rest-left ended more then in
          ap (written_for rules (closes_with phase ended)) (left-first ended more (Ok (then, text)) is)
          ∙ append_assoc text (concat after.texts) (closing_by (closes_with phase ended) after.refusal (rules.closing after.machine))
          ∙ ap (λ (b : Bool). text ++ written_for rules b after) (sym (closes ended));
      ends = λ ended more.
          ap (λ (t : LinesTaken M). lines_ending (ends_with phase ended) t.refusal) (left-first ended more (Ok (then, text)) is)
          ∙ ap (λ (b : Bool). lines_ending b (rest-left ended more then).refusal) (sym (ends ended));
      pauses = λ ended more pause there.
          let now = when_wanting rules.wants _ pause there in
          wanting rules.wants _ pause now.0
          (rw (each_behind-none (texts_before (comes-left ended more).texts), before-left ended more then text is) (Contains-later [] _ pause now.1));
    }

    -- an allocation failed for a line that is ready
    wanting-given : (is : Result (M × List ℕ) LineFault) → rules.take machine line ≡ is → is_ok is ≡ true → rules.wants ≡ true
        → IsPausing (line_future rules (line_filtering machine line lines [] phase))
    unfolding line_future
    wanting-given (Ok next) is ok wants =
        λ ended more.
        wanting rules.wants _ [] wants
        (rw (each_behind-none (texts_before (comes-left ended more).texts), before-left ended more next.0 next.1 is) (Contains-here [] _))
    wanting-given (Err fault) is ok wants = cc ok

    -- a line that is ready was taken or refused, or an allocation failed for it
    line-ready : (now : LineFiltering M) (answer : Result Bool Refusal) → IsLineReady rules next (line_filtering machine line lines [] phase) answer now
        → NextPiece (line_future rules (line_filtering machine line lines [] phase)) answer [] (line_future rules now)
    unfolding NextPiece IsRefusedBy line_future written_for
    line-ready now (Ok true) (same, ready) =
        subst (λ (n : LineFiltering M). Progress (line_future rules (line_filtering machine line lines [] phase)) [] [] (line_future rules n)) (sym ready.now_is)
        (text-ready ready.machine ready.text ready.taken)
    line-ready now (Ok false) (same, ready) = cc same
    line-ready now (Err Memory) (same, (wants, ok)) = wanting-given (rules.take machine line) refl ok wants
    line-ready now (Err (Ended ending)) (same, (fault, is, refused)) =
        record {
          writes = λ ended more. ap (written_for rules (closes_with phase ended)) (left-first ended more (Err fault) refused);
          ends = λ ended more.
              ap (λ (t : LinesTaken M). lines_ending (ends_with phase ended) t.refusal) (left-first ended more (Err fault) refused)
              ∙ ap (λ (e : Ending). Some e) (sym is);
        }

  -- without a line to take and a chunk to return, the output that the octets so far determine is written, and they cause no refusal; at the end all is written
  working-idle : (machine : M) (line : List ℕ) (lines : ℕ) (phase : LinePhase) → texts_of phase ≡ 0
      → IsIdle (is_ended_phase phase) (line_future rules (line_filtering machine line lines [] phase))
  unfolding IsIdle line_future lines_in written_for lines_taken
  working-idle machine line lines Reading none = (refl, refl)
  working-idle machine line lines Closed none = λ ended more. refl
  working-idle machine line lines phase none = absurd (omega arith)

  working-done : (machine : M) (line : List ℕ) (lines : ℕ) (rest : List ℕ) (ended : Bool) (more : List ℕ)
      → (line_future rules (line_filtering machine line lines rest Closed)).ends ended more ≡ Some Done
  unfolding line_future lines_taken
  working-done machine line lines rest ended more = refl

  -- the steps of `take_line`: the text for the line that is there is to be given
  pub text-taken : (before : LineFiltering M) (machine then : M) (line items after text : List ℕ) (lines : ℕ) (left : List ℕ) (was phase : LinePhase)
      → line_filtering machine items lines left was ≡ before → line ≡ items → after ≡ []
      → rules.take machine line ≡ Ok (then, text) → IsTextReady rules phase before (line_filtering then after (lines + 1) text phase)
  text-taken before machine then line items after text lines left was phase view slice none taken =
      rw (← view) (record { machine = then; text = text; taken = rw slice at taken; now_is = rw none })

  -- a property of a phase with nothing left to be returned holds for such work
  at_phase : (P : LineFiltering M → Type 0) (work : LineFiltering M) (phase : LinePhase) → work.phase ≡ phase → work.left ≡ []
      → P (line_filtering work.machine work.line work.lines [] phase) → P work
  at_phase P work phase is none holds =
      subst (λ (p : LinePhase). P (line_filtering work.machine work.line work.lines work.left p)) (sym is)
      (subst (λ (l : List ℕ). P (line_filtering work.machine work.line work.lines l phase)) (sym none) holds)

  module _ (before now : LineFiltering M) (answer : Result Bool Refusal) (none : before.left ≡ []) where
    pub step-line : before.phase ≡ Ready → IsLineReady rules Reading before answer now → NextPiece (line_future rules before) answer [] (line_future rules now)
    step-line is =
        at_phase (λ w. IsLineReady rules Reading w answer now → NextPiece (line_future rules w) answer [] (line_future rules now)) before Ready is none
        (line-ready before.machine before.line before.lines Ready Reading (λ ended more. refl) (λ ended. refl) (λ ended. refl) now answer)

    pub step-last : before.phase ≡ ReadyLast → IsLineReady rules Closing before answer now → NextPiece (line_future rules before) answer [] (line_future rules now)
    step-last is =
        at_phase (λ w. IsLineReady rules Closing w answer now → NextPiece (line_future rules w) answer [] (line_future rules now)) before ReadyLast is none
        (line-ready before.machine before.line before.lines ReadyLast Closing (λ ended more. refl) (λ ended. refl) (λ ended. refl) now answer)

  pub step-close : (before now : LineFiltering M) → before.phase ≡ Closing → before.left ≡ [] → now ≡ record before { left = rules.closing before.machine; phase = Closed }
      → NextPiece (line_future rules before) (Ok true) [] (line_future rules now)
  step-close before now is none then =
      rw then
      (at_phase (λ w. NextPiece (line_future rules w) (Ok true) [] (line_future rules (record w { left = rules.closing before.machine; phase = Closed }))) before Closing is none
      (working-close before.machine before.line before.lines))

  pub step-none : (before now : LineFiltering M) (out : List ℕ) → now ≡ before → NextPiece (line_future rules before) (Ok false) out (line_future rules now)
  unfolding NextPiece
  step-none before now out same = ap (line_future rules) same

  pub step-idle : (work : LineFiltering M) → texts_of work.phase ≡ 0 → work.left ≡ [] → IsIdle (is_ended_phase work.phase) (line_future rules work)
  step-idle work none empty =
      subst (λ (l : List ℕ). IsIdle (is_ended_phase work.phase) (line_future rules (line_filtering work.machine work.line work.lines l work.phase))) (sym empty)
      (working-idle work.machine work.line work.lines work.phase none)

  pub step-done : (work : LineFiltering M) → is_ended_phase work.phase ≡ true → texts_of work.phase ≡ 0 → (ended : Bool) (more : List ℕ)
      → (line_future rules work).ends ended more ≡ Some Done
  step-done work is none ended more =
      subst (λ (p : LinePhase). (line_future rules (line_filtering work.machine work.line work.lines work.left p)).ends ended more ≡ Some Done) (sym (is_closed work.phase none is))
      (working-done work.machine work.line work.lines work.left ended more)
