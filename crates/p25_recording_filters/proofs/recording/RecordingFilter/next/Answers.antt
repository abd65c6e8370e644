use Rattle.std.proofs.{lemmas.Bool.{true≢false}, Common.{◌≡◌, ℕ, ◌+◌, ◌<◌, ◌≤◌, Bool, true, false, List, [], ◌∷◌, length, take, Result, Ok, refl, ap, sym, subst, ◌∙◌, arith, length-drop, length-take}}
use Rattle.p25_units.specs.{Items.{covered, place_of}, declared.item.Item.{Item}}
use Rattle.p25_stream.specs.Scan.{Gave, given}
use Rattle.p25_filter.specs.{Futures.{NextPiece}, declared.ending.Refusal.{Refusal}}
use Rattle.p25_recording_filters.specs.{declared.recording.{Recording.TheInside.{Inside}, Phase.{Phase}}, Recordings.{RecordingParts, has_ended, pieces_of, recording, recording_future}}
use Rattle.p25_recording_filters.proofs.RecordingsLaws.{gave-fits, gave-place, put-alike, step-close, step-idle, step-item}
use Rattle.p25_recording_filters.proofs.recording.RecordingFilter.next.Goals.{then-LOOKS_AT_BITS, else-LOOKS_AT_BITS}
use Rattle.p25_recording_filters.proofs.recording.RecordingFilter.next.Goals as goal

no_piece : (answer : Bool) → ◌≡◌ {A = Result Bool Refusal} (Ok answer) (Ok false) → answer ≡ false
no_piece answer same = cc

no_items : (items : List Item) (item : Item) → [] ≡ item ∷ items → ⊥
no_items items item e = cc

-- an item was taken, with its bits if the report examines them, and nothing else changed
abbrev IsTaken : {R : Type 0} → Bool → Inside R → Inside R → Type 0
IsTaken looks before now =
    Gave before.scanner now.item (take (covered now.item) before.scanner.held) now.scanner
    × (looks ≡ true → now.raw ≡ take (covered now.item) before.scanner.held) × (now.report ≡ before.report) × (now.phase ≡ before.phase)

taken : (g : _) (c : goal.After-put-arg-4-1 g) → IsTaken g.R.Report.LOOKS_AT_BITS c.self.inside c.if-LOOKS_AT_BITS.self-inside
taken g c = elim c.if-LOOKS_AT_BITS.branch [
  | then-LOOKS_AT_BITS w ↦
      let gave = w.next_in-taken.ensures.given (sym w.taken-is ∙ c.if-not-taken.false) in
      rw w.self-inside-is (subst (λ bits. Gave c.self.inside.scanner w.next_in-taken.new.item bits w.next_in-taken.new.self) gave.raw_bits gave, (λ looks. gave.raw_bits), refl, refl)
  | else-LOOKS_AT_BITS w ↦
      rw w.self-inside-is (
        w.next_item_in-taken.ensures.given (sym w.taken-is ∙ c.if-not-taken.false),
        (λ looks. absurd (true≢false (sym looks ∙ sym c.LOOKS_AT_BITS.ensures ∙ w.if-LOOKS_AT_BITS.false))),
        refl,
        refl,
      )
]

pub put-requires-clause-fits : goal.put-requires-clause-fits
put-requires-clause-fits g c = let now = c.if-LOOKS_AT_BITS.self-inside in gave-fits c.self.inside.scanner now.scanner now.item _ (taken g c).0

pub put-requires-clause-raw : goal.put-requires-clause-raw
put-requires-clause-raw g c looks =
    let scan = c.self.inside.scanner in
    let item = c.if-LOOKS_AT_BITS.self-inside.item in
    let went = taken g c in
    omega (arith, ap length (went.1 looks), length-take (covered item) scan.held, went.0.there)

pub put-requires-clause-reached : goal.put-requires-clause-reached
put-requires-clause-reached g c =
    let scan = c.self.inside.scanner in
    let now = c.if-LOOKS_AT_BITS.self-inside in
    let went = taken g c in
    subst (λ report. g.R.Report.HasReached report (place_of now.item)) (sym went.2)
    (subst (λ (at : ℕ). g.R.Report.HasReached c.self.inside.report at) (sym (gave-place scan now.scanner now.item _ went.0)) c.self.invariant.4)

pub put-requires-clause-below : goal.put-requires-clause-below
put-requires-clause-below g c =
    let scan = c.self.inside.scanner in
    let now = c.if-LOOKS_AT_BITS.self-inside in
    omega (arith, gave-place scan now.scanner now.item _ (taken g c).0, ap g.R.Report.counted (taken g c).2, c.self.invariant.1, c.self.invariant.2)

pub invariant_of-self : goal.invariant_of-self
invariant_of-self g c =
    let scan = c.self.inside.scanner in
    let now = c.if-LOOKS_AT_BITS.self-inside in
    let item = now.item in
    let went = taken g c.before in
    let gave = went.0 in
    let held = ap length gave.left ∙ length-drop (covered item) scan.held in (
      gave.same ∙ c.self.invariant.0 ∙ ap has_ended (sym went.3),
      omega (arith, c.put.ensures.counted, ap g.R.Report.counted went.2, c.self.invariant.1, gave.place, gave.some),
      omega (arith, gave.place, gave.there, held, c.self.invariant.2),
      λ is. absurd (no_items _ item (sym (c.self.invariant.3 (sym went.3 ∙ is)) ∙ gave.items)),
      subst (λ (at : ℕ). g.R.Report.HasReached c.put.new.self at) (ap (λ (at : ℕ). at + covered item) (gave-place scan now.scanner item _ gave) ∙ sym gave.place) c.put.ensures.reached,
    )

pub returns-clause-piece : goal.returns-clause-piece
returns-clause-piece g c =
    let R = g.row.R.Denot in
    let reporting = g.R.Report.reporting in
    let s = c.self.inside in
    let now = c.if-LOOKS_AT_BITS.self-inside in
    let item = now.item in
    let went = taken g c.before in
    let bits = take (covered item) s.scanner.held in
    let alike = put-alike reporting g.R.Report.LOOKS_AT_BITS g.met.R.Report.ignores_bits now.report item now.raw bits went.1 in
    let last : Phase → RecordingParts R = recording c.put.new.self now.scanner in
    let next = step-item reporting c.item_laws.ensures.gave s.report c.put.new.self s.scanner now.scanner s.phase item bits c.put.new.out c.self.invariant.0 c.self.invariant.3 went.0
    (c.put.ensures.piece ∙ alike.0 ∙ ap (λ report. reporting.piece report item bits) went.2) (c.put.ensures.behind ∙ alike.1 ∙ ap (λ report. reporting.behind report item bits) went.2) in
    subst (λ (phase : Phase). NextPiece (recording_future reporting c.args.self.now) (Ok true) c.put.new.out (recording_future reporting (last phase))) (sym went.3)
    (subst (λ (r : RecordingParts R). NextPiece (recording_future reporting r) (Ok true) c.put.new.out (recording_future reporting (last s.phase))) c.self.view_is next)

pub returns-clause-smaller : goal.returns-clause-smaller
returns-clause-smaller g c = λ is.
    let s = c.self.inside in
    let now = c.if-LOOKS_AT_BITS.self-inside in
    let gave = (taken g c.before).0 in
    let held = ap length gave.left ∙ length-drop (covered now.item) s.scanner.held in
    subst (λ (r : RecordingParts g.row.R.Denot). length now.scanner.held + pieces_of now.phase < length r.scan.held + pieces_of r.phase) c.self.view_is
    (omega (arith, held, gave.some, gave.there, ap pieces_of (taken g c.before).3))

pub returns-clause-size : goal.returns-clause-size
returns-clause-size g c =
    let s = c.self.inside in
    let now = c.if-LOOKS_AT_BITS.self-inside in
    let gave = (taken g c.before).0 in
    let held = ap length gave.left ∙ length-drop (covered now.item) s.scanner.held in
    subst (λ (r : RecordingParts g.row.R.Denot). now.scanner.place + length now.scanner.held ≤ r.scan.place + length r.scan.held) c.self.view_is
    (omega (arith, held, gave.place, gave.there))

pub returns-then-is_drained-clause-piece : goal.returns-then-is_drained-clause-piece
returns-then-is_drained-clause-piece g c =
    let R = g.row.R.Denot in
    let finished = subst (λ (r : RecordingParts R). r.scan.finished ≡ has_ended r.phase) c.self.view_is c.self.invariant.0 in
    let none = subst (λ (r : RecordingParts R). given r.scan ≡ []) c.self.view_is (c.is_drained.ensures.0 c.if-is_drained.true) in
    step-close g.R.Report.reporting c.args.self.now c.close.new.self c.close.result c.close.new.out finished none c.close.ensures

pub returns-then-is_drained-clause-idle : goal.returns-then-is_drained-clause-idle
returns-then-is_drained-clause-idle g c =
    let R = g.row.R.Denot in
    let finished = subst (λ (r : RecordingParts R). r.scan.finished ≡ has_ended r.phase) c.self.view_is c.self.invariant.0 in
    let none = subst (λ (r : RecordingParts R). given r.scan ≡ []) c.self.view_is (c.is_drained.ensures.0 c.if-is_drained.true) in
    λ same. (step-idle g.R.Report.reporting c.args.self.now c.close.new.self c.close.result c.close.new.out finished none (no_piece c.close.result same) c.close.ensures).2
