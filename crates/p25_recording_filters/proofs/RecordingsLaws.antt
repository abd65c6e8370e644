-- The progress of a recording's work: octets come, an item is returned, the input ends. Each is one unfolding of the definition of the output.
use Rattle.std.proofs.Common.{◌≡◌, ◌≢◌, ℕ, Bool, true, false, List, [], ◌∷◌, ◌++◌, take, drop, Some, Ok, refl, ap, sym, ◌∙◌, append_assoc, append-nil}
use Rattle.std.proofs.{Math.Nat.{add-zero}, lemmas.List.{take-append-le, drop-append-le}}
use Rattle.p25_bits.specs.Bits.{octet_bits}
use Rattle.p25_bits.proofs.BitsLaws.{octet_bits-append, octet_bits-nil}
use Rattle.p25_units.specs.{declared.item.Item.{Item}, Items.{covered, place_of}}
use Rattle.p25_stream.specs.{Items.{items_by, items_in}, ItemLaws.{GaveItems}, Scan.{Scan, Gave, given}}
use Rattle.p25_stream.proofs.ItemLaws.{item-covers}
use Rattle.p25_follow.specs.Relayed.{IsFitItem}
use Rattle.p25_follow.proofs.FitLaws.{items-fit}
use Rattle.p25_filter.specs.Futures.{IsClosed, IsIdle, NextPiece, Progress}
use Rattle.p25_filter.proofs.LinesLaws.{Contains-none}
use Rattle.p25_recording_filters.specs.{declared.recording.Phase.{Phase}, declared.recording.Phase.TheVariants.{Reading, Ended, Closed}}
use Rattle.p25_recording_filters.specs.Recordings.{HasClosed, IsClosing, IsClosingBy, RecordingParts, bits_ending, bits_written, fresh, has_ended, phase_future, recording_future}
use Rattle.p25_recording_filters.specs.Reports.{IgnoresBits, Reporting}
use Rattle.p25_recording_filters.proofs.ReportsLaws.{behind-cons, behind-nil, reported-cons, reported-nil}

-- an item that was returned begins at the position from which bits were held
pub gave-place : (before now : Scan) (item : Item) (raw : List Bool) → Gave before item raw now → place_of item ≡ before.place
gave-place before now item raw gave =
    rw add-zero at (item-covers before.finished before.place before.held [] item (given now) gave.items).1

-- an item that was given has as many bits as a scan gives it
pub gave-fits : (before now : Scan) (item : Item) (raw : List Bool) → Gave before item raw now → IsFitItem item
gave-fits before now item raw gave = items-fit before.finished before.place before.held [] item (given now) gave.items

module _ {R : Type 0} (reporting : Reporting R) where
  -- the output for an item and the bits kept after it are those for the bits that it covers, if the report is given these bits or examines none
  pub put-alike : (looks : Bool) → (looks ≡ false → IgnoresBits reporting) → (report : R) (item : Item) (raw bits : List Bool) → (looks ≡ true → raw ≡ bits)
      → (reporting.piece report item raw ≡ reporting.piece report item bits) × (reporting.behind report item raw ≡ reporting.behind report item bits)
  put-alike true ignores report item raw bits same =
      (rw (same refl), rw (same refl))
  put-alike false ignores report item raw bits same = ((ignores refl).piece report item raw bits, (ignores refl).behind report item raw bits)

  -- the bits that are held, with octets that come
  held-octets : (held : List Bool) (octets more : List ℕ) → held ++ octet_bits (octets ++ more) ≡ (held ++ octet_bits octets) ++ octet_bits more
  held-octets held octets more = rw (octet_bits-append, append_assoc)

  held-none : (held : List Bool) → held ++ octet_bits [] ≡ held
  held-none held = rw (octet_bits-nil, append-nil)

  -- octets come
  pub future-push : (report : R) (scan next : Scan) (octets : List ℕ) → next.place ≡ scan.place → next.held ≡ scan.held ++ octet_bits octets
      → Progress (phase_future reporting report scan Reading) octets [] (phase_future reporting report next Reading)
  future-push report scan next octets place held = record {
    writes = λ ended more. rw (place, held, held-octets);
    ends = λ ended more. rw (place, held, held-octets);
    pauses = λ ended more pause is. absurd (Contains-none pause is);
  }

  -- the input ends
  pub future-finish : (report : R) (scan next : Scan) → next.place ≡ scan.place → next.held ≡ scan.held
      → IsClosed (phase_future reporting report scan Reading) (phase_future reporting report next Ended)
  future-finish report scan next place held = record {
    writes = λ ended more. rw (place, held, held-none);
    ends = λ ended more. rw (place, held, held-none);
    pauses = λ ended more. refl;
  }

  -- the output for bits whose first item is returned
  written-item : (ended : Bool) (report : R) (place next_place : ℕ) (bits left : List Bool) (item : Item)
      → items_by ended place bits ≡ item ∷ items_by ended next_place left → drop (covered item) bits ≡ left
      → bits_written reporting ended report place bits
      ≡ reporting.piece report item (take (covered item) bits) ++ bits_written reporting ended (reporting.behind report item (take (covered item) bits)) next_place left
  written-item ended report place next_place bits left item first rest =
      rw (first, reported-cons, rest)

  ending-item : (ended : Bool) (report : R) (place next_place : ℕ) (bits left : List Bool) (item : Item)
      → items_by true place bits ≡ item ∷ items_by true next_place left → drop (covered item) bits ≡ left
      → bits_ending reporting ended report place bits ≡ bits_ending reporting ended (reporting.behind report item (take (covered item) bits)) next_place left
  ending-item ended report place next_place bits left item first rest =
      rw (first, behind-cons, rest)

  -- an item is given, while more octets may come
  given-reading : GaveItems → (report : R) (scan next : Scan) (item : Item) (raw : List Bool) → scan.finished ≡ false → Gave scan item raw next
      → Progress (phase_future reporting report scan Reading) [] (reporting.piece report item raw) (phase_future reporting (reporting.behind report item raw) next Reading)
  given-reading gave_items report scan next item raw going gave =
      let left : (more : List ℕ) → drop (covered item) (scan.held ++ octet_bits more) ≡ next.held ++ octet_bits more =
      λ more. rw (drop-append-le (covered item) scan.held (octet_bits more) gave.there, gave.left) in
      let front : (more : List ℕ) → take (covered item) (scan.held ++ octet_bits more) ≡ raw =
      λ more. take-append-le (covered item) scan.held (octet_bits more) gave.there ∙ sym gave.raw_bits in
      let first : (ended : Bool) (more : List ℕ) → items_by ended scan.place (scan.held ++ octet_bits more) ≡ item ∷ items_by ended next.place (next.held ++ octet_bits more) =
      λ ended more. gave_items scan next item raw ended (octet_bits more) gave (λ done. cc) in
      record {
        writes = λ ended more.
            rw (written-item ended report scan.place next.place (scan.held ++ octet_bits more) (next.held ++ octet_bits more) item (first ended more) (left more), front more);
        ends = λ ended more.
            rw (ending-item ended report scan.place next.place (scan.held ++ octet_bits more) (next.held ++ octet_bits more) item (first true more) (left more), front more);
        pauses = λ ended more pause is. absurd (Contains-none pause is);
      }

  -- an item is given after the end of the input
  given-ended : (report : R) (scan next : Scan) (item : Item) (raw : List Bool) → scan.finished ≡ true → Gave scan item raw next
      → Progress (phase_future reporting report scan Ended) [] (reporting.piece report item raw) (phase_future reporting (reporting.behind report item raw) next Ended)
  given-ended report scan next item raw done gave =
      let next_done : next.finished ≡ true = gave.same ∙ done in
      let first = rw (done, next_done) at gave.items in
      record {
        writes = λ ended more. rw (written-item true report scan.place next.place scan.held next.held item first (sym gave.left), gave.raw_bits);
        ends = λ ended more. rw (ending-item true report scan.place next.place scan.held next.held item first (sym gave.left), gave.raw_bits);
        pauses = λ ended more pause is. absurd (Contains-none pause is);
      }

  -- an item is given
  pub future-item : GaveItems → (phase : Phase) (report : R) (scan next : Scan) (item : Item) (raw : List Bool) → scan.finished ≡ has_ended phase → phase ≢ Closed → Gave scan item raw next
      → Progress (phase_future reporting report scan phase) [] (reporting.piece report item raw) (phase_future reporting (reporting.behind report item raw) next phase)
  future-item gave_items Reading report scan next item raw same unclosed gave = given-reading gave_items report scan next item raw same gave
  future-item gave_items Ended report scan next item raw same unclosed gave = given-ended report scan next item raw same gave
  future-item gave_items Closed report scan next item raw same unclosed gave = absurd (unclosed refl)

  -- if no item is left, the output at the end is returned
  pub future-close : (report : R) (scan : Scan) → scan.finished ≡ true
      → given scan ≡ [] → Progress (phase_future reporting report scan Ended) [] (reporting.closing report) (phase_future reporting report scan Closed)
  future-close report scan done none =
      let no_items = rw done at none in
      record {
        writes = λ ended more. rw (no_items, reported-nil, append-nil);
        ends = λ ended more. rw (no_items, behind-nil);
        pauses = λ ended more pause is. absurd (Contains-none pause is);
      }

  -- if no output is left, the output that the octets so far determine is written
  pub future-idle : (phase : Phase) (report : R) (scan : Scan) → scan.finished ≡ has_ended phase → phase ≢ Ended → given scan ≡ [] → IsIdle (has_ended phase) (phase_future reporting report scan phase)
  unfolding IsIdle
  future-idle Reading report scan same unclosed none =
      let no_items = rw same at none in
      (rw (held-none, no_items, reported-nil), refl)
  future-idle Ended report scan same unclosed none = absurd (unclosed refl)
  future-idle Closed report scan same unclosed none = λ ended more. refl

  -- a recording's phase: more octets may come, the input has ended, or the end was written
  is-reading : (phase : Phase) → has_ended phase ≡ false → phase ≡ Reading
  is-reading Reading going = refl
  is-reading phase going = cc

  is-closed : (phase : Phase) → has_ended phase ≡ true → (phase ≡ Ended → ⊥) → phase ≡ Closed
  is-closed Reading ended other = cc
  is-closed Ended ended other = absurd (other refl)
  is-closed Closed ended other = refl

  -- the steps of `push`, `finish`, `next` and `ending`
  pub step-push : (report : R) (scan next : Scan) (phase : Phase) (octets : List ℕ)
      → has_ended phase ≡ false → next ≡ record { place = scan.place; held = scan.held ++ octet_bits octets; finished = scan.finished }
      → Progress (recording_future reporting (record { report = report; scan = scan; phase = phase })) octets [] (recording_future reporting (record { report = report; scan = next; phase = phase }))
  unfolding recording_future
  step-push report scan next phase octets going same =
      rw (is-reading phase going) (future-push report scan next octets (rw same) (rw same))

  pub step-finish : (report : R) (scan next : Scan) (phase : Phase) → has_ended phase ≡ false → next ≡ record { place = scan.place; held = scan.held; finished = true }
      → IsClosed (recording_future reporting (record { report = report; scan = scan; phase = phase })) (recording_future reporting (record { report = report; scan = next; phase = Ended }))
  unfolding recording_future
  step-finish report scan next phase going same =
      rw (is-reading phase going) (future-finish report scan next (rw same) (rw same))

  pub step-item : GaveItems → (report behind : R) (scan next : Scan) (phase : Phase) (item : Item) (raw : List Bool) (out : List ℕ)
      → scan.finished ≡ has_ended phase → HasClosed phase scan → Gave scan item raw next → out ≡ reporting.piece report item raw → behind ≡ reporting.behind report item raw
      → NextPiece (recording_future reporting (record { report = report; scan = scan; phase = phase }))
      (Ok true) out (recording_future reporting (record { report = behind; scan = next; phase = phase }))
  unfolding recording_future NextPiece
  step-item gave_items report behind scan next phase item raw out same closed gave piece kept =
      let unclosed : phase ≢ Closed = λ is. no_items (given next) (sym (closed is) ∙ gave.items) in
      rw (piece, kept) (future-item gave_items phase report scan next item raw same unclosed gave)
    where
      no_items : (items : List Item) → [] ≡ item ∷ items → ⊥
      no_items items e = cc

  -- the result of the call for the chunk at the end
  close-none : (before now : RecordingParts R) (answer : Bool) (out : List ℕ)
      → answer ≡ false → now ≡ before → NextPiece (recording_future reporting before) (Ok answer) out (recording_future reporting now)
  unfolding NextPiece
  close-none before now answer out none same = rw none (ap (recording_future reporting) same)

  close-end : (report : R) (scan : Scan) (now : RecordingParts R) (answer : Bool) (out : List ℕ) → scan.finished ≡ true → given scan ≡ [] → answer ≡ true → out ≡ reporting.closing report
      → now ≡ record { report = report; scan = scan; phase = Closed }
      → NextPiece (recording_future reporting (record { report = report; scan = scan; phase = Ended })) (Ok answer) out (recording_future reporting now)
  unfolding NextPiece recording_future
  close-end report scan now answer out done none yes_is piece same =
      rw (yes_is, piece, same) (future-close report scan done none)

  close-by : (phase : Phase) (report : R) (scan : Scan) (now : RecordingParts R) (answer : Bool) (out : List ℕ) → scan.finished ≡ has_ended phase → given scan ≡ []
      → IsClosingBy reporting phase (record { report = report; scan = scan; phase = phase }) answer out now
      → NextPiece (recording_future reporting (record { report = report; scan = scan; phase = phase })) (Ok answer) out (recording_future reporting now)
  close-by Ended report scan now answer out same none closing = close-end report scan now answer out same none closing.0 closing.1 closing.2
  close-by other report scan now answer out same none closing = close-none (record { report = report; scan = scan; phase = other }) now answer out closing.0 closing.1

  pub step-close : (before now : RecordingParts R) (answer : Bool) (out : List ℕ) → before.scan.finished ≡ has_ended before.phase → given before.scan ≡ [] → IsClosing reporting before answer out now
      → NextPiece (recording_future reporting before) (Ok answer) out (recording_future reporting now)
  step-close before now answer out same none closing = close-by before.phase before.report before.scan now answer out same none closing

  -- if it returned none, all output that the octets so far determine is written
  idle-by : (phase : Phase) (report : R) (scan : Scan) (now : RecordingParts R) (answer : Bool) (out : List ℕ) → scan.finished ≡ has_ended phase → given scan ≡ [] → answer ≡ false
      → IsClosingBy reporting phase (record { report = report; scan = scan; phase = phase }) answer out now
      → (now.phase ≡ Ended → ⊥) × (given now.scan ≡ []) × IsIdle (has_ended now.phase) (recording_future reporting now)
  unfolding recording_future
  idle-by Ended report scan now answer out same none no_piece closing = cc
  idle-by other report scan now answer out same none no_piece closing =
      rw closing.1 ((λ is. cc), none, future-idle other report scan same (λ is. cc) none)

  pub step-idle : (before now : RecordingParts R) (answer : Bool) (out : List ℕ)
      → before.scan.finished ≡ has_ended before.phase → given before.scan ≡ [] → answer ≡ false → IsClosing reporting before answer out now
      → (now.phase ≡ Ended → ⊥) × (given now.scan ≡ []) × IsIdle (has_ended now.phase) (recording_future reporting now)
  step-idle before now answer out same none no_piece closing = idle-by before.phase before.report before.scan now answer out same none no_piece closing

  pub step-ending : (work : RecordingParts R) → has_ended work.phase ≡ true
      → (work.phase ≡ Ended → ⊥) → (ended : Bool) (more : List ℕ) → (recording_future reporting work).ends ended more ≡ Some (reporting.ending work.report)
  unfolding recording_future
  step-ending work is other ended more = rw (is-closed work.phase is other)

  -- before the first octet nothing is decided
  pub fresh-none : (report : R) → given (fresh report).scan ≡ []
  unfolding items_by items_in
  fresh-none report = refl

  pub fresh-idle : (report : R) → IsIdle false (recording_future reporting (fresh report))
  unfolding recording_future
  fresh-idle report = future-idle Reading report (fresh report).scan refl (λ is. cc) (fresh-none report)

-- while more octets may come, nothing was written at the end
pub going-open : (phase : Phase) → has_ended phase ≡ false → phase ≡ Closed → ⊥
going-open Reading going is = cc
going-open phase going is = cc
