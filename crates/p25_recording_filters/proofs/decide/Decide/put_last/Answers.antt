use Rattle.std.proofs.Common.{None, refl, ap, sym, subst, ◌∙◌, List, ℤ}
use Rattle.p25_decide.specs.{DecidedRecordings.{item_decided}, DecidedStretches.{chain_over}, DecidedTaking.{AreFrom}}
use Rattle.p25_recording_filters.specs.{declared.recording.Phase.TheVariants.{Closed}, Decides.{DecideParts, PutLast, first_held}}
use Rattle.p25_recording_filters.proofs.{DecideItemLaws.{starts-at}, DecideRecordingsLaws.{deciding}}
use Rattle.p25_recording_filters.proofs.decide.Decide.put_last.Goals as goal

pub returns : goal.returns
returns c =
    let s = c.self.inside in
    let follow = s.decider in
    let first = first_held s.scanner.place follow in
    let starts = starts-at s.place c.kept.result s.scanner follow c.self.invariant.2 c.kept.ensures.value c.self.invariant.0.there in
    subst (λ (r : DecideParts). PutLast r c.put_behind.new.out (deciding s.scanner c.finish.new.self s.levels c.put_behind.new.kept Closed)) c.self.view_is
    record {
      bits = c.finish.new.out;
      bits_are = λ all are.
          c.finish.ensures.out first all (subst (λ (ls : List ℤ). AreFrom first ls all) (sym c.groups.ensures.list) are)
          ∙ ap (λ n. chain_over (item_decided all) n follow.before follow.stretch None) starts;
      piece = c.put_behind.ensures.octets;
      scan = refl;
      follow = c.finish.ensures.same;
      levels = refl;
      phase = refl;
    }
