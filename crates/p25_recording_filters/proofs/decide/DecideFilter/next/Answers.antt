use Rattle.std.proofs.Common.{◌≡◌, ◌<◌, [], length, refl, ap, subst, sym, ◌∙◌, arith}
use Rattle.p25_stream.specs.Scan.{given}
use Rattle.p25_filter.specs.Futures.{NextPiece}
use Rattle.p25_recording_filters.specs.{declared.recording.Phase.TheVariants.{Ended}, Decides.{DecideParts, IsDeciding}, Recordings.{HasClosed, has_ended}}
use Rattle.p25_recording_filters.proofs.DecideRecordingsLaws.{size-item, step-idle, step-item, step-last}
use Rattle.p25_recording_filters.proofs.decide.DecideFilter.next.Goals as goal

pub returns-then-not-is_drained-clause-piece : goal.returns-then-not-is_drained-clause-piece
returns-then-not-is_drained-clause-piece c =
    let deciding_so = subst (λ (r : DecideParts). IsDeciding r.scan r.follow r.levels) c.self.view_is c.self.invariant.0 in
    let same = subst (λ (r : DecideParts). r.scan.finished ≡ has_ended r.phase) c.self.view_is c.self.invariant.3 in
    let closed = subst (λ (r : DecideParts). HasClosed r.phase r.scan) c.self.view_is c.self.invariant.4 in
    step-item c.item_laws.ensures.gave c.args.self.now c.put_next.new.self c.put_next.new.out same closed deciding_so c.put_next.ensures

pub returns-then-not-is_drained-clause-size : goal.returns-then-not-is_drained-clause-size
returns-then-not-is_drained-clause-size c =
    let deciding_so = subst (λ (r : DecideParts). IsDeciding r.scan r.follow r.levels) c.self.view_is c.self.invariant.0 in
    omega (arith, size-item c.args.self.now c.put_next.new.self c.put_next.new.out deciding_so c.put_next.ensures)

pub returns-in-Ended-clause-piece : goal.returns-in-Ended-clause-piece
returns-in-Ended-clause-piece c =
    let deciding_so = subst (λ (r : DecideParts). IsDeciding r.scan r.follow r.levels) c.self.view_is c.self.invariant.0 in
    let same = subst (λ (r : DecideParts). r.scan.finished ≡ has_ended r.phase) c.self.view_is c.self.invariant.3 in
    let none = subst (λ (r : DecideParts). given r.scan ≡ []) c.self.view_is (c.is_drained.ensures.0 c.if-not-is_drained.false) in
    let ended = sym (ap (λ (r : DecideParts). r.phase) c.self.view_is) ∙ c.in-Ended.is in
    step-last c.args.self.now c.put_last.new.self c.put_last.new.out ended (same ∙ ap has_ended ended) deciding_so none c.put_last.ensures

pub returns-in_default : goal.returns-in_default
unfolding NextPiece
returns-in_default c =
    let deciding_so = subst (λ (r : DecideParts). IsDeciding r.scan r.follow r.levels) c.self.view_is c.self.invariant.0 in
    let few = subst (λ (r : DecideParts). length r.kept < 8) c.self.view_is c.self.invariant.1 in
    let same = subst (λ (r : DecideParts). r.scan.finished ≡ has_ended r.phase) c.self.view_is c.self.invariant.3 in
    let none = subst (λ (r : DecideParts). given r.scan ≡ []) c.self.view_is (c.is_drained.ensures.0 c.if-not-is_drained.false) in
    let open_ = subst (λ (r : DecideParts). r.phase ≡ Ended → ⊥) c.self.view_is c.in_default.not-Ended in
    record {
      piece = refl;
      drained = λ is. (none, open_);
      idle = λ is. step-idle c.args.self.now same open_ deciding_so few none;
      smaller = λ is. absurd (cc);
      same = refl;
      size = omega arith;
    }
