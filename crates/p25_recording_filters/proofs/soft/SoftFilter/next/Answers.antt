use Rattle.std.proofs.Common.{◌≡◌, ◌<◌, [], length, refl, subst, arith}
use Rattle.p25_stream.specs.Scan.{given}
use Rattle.p25_filter.specs.Futures.{NextPiece}
use Rattle.p25_recording_filters.specs.Softs.{IsHolding, SoftParts}
use Rattle.p25_recording_filters.proofs.SoftRecordingsLaws.{step-idle, step-item, step-size}
use Rattle.p25_recording_filters.proofs.soft.SoftFilter.next.Goals as goal

pub returns-clause-piece : goal.returns-clause-piece
returns-clause-piece c =
    let holding = subst (λ (r : SoftParts). IsHolding r.scan r.levels) c.self.view_is c.self.invariant.0 in
    step-item c.item_laws.ensures.gave c.args.self.now c.put_next.new.self c.put_next.new.out holding c.put_next.ensures

pub returns-clause-size : goal.returns-clause-size
returns-clause-size c =
    let holding = subst (λ (r : SoftParts). IsHolding r.scan r.levels) c.self.view_is c.self.invariant.0 in
    omega (arith, step-size c.args.self.now c.put_next.new.self c.put_next.new.out holding c.put_next.ensures)

pub returns-then-is_drained-clause-piece : goal.returns-then-is_drained-clause-piece
unfolding NextPiece
returns-then-is_drained-clause-piece c = refl

pub returns-then-is_drained-clause-drained : goal.returns-then-is_drained-clause-drained
returns-then-is_drained-clause-drained c = λ same. subst (λ (r : SoftParts). given r.scan ≡ []) c.self.view_is (c.is_drained.ensures.0 c.if-is_drained.true)

pub returns-then-is_drained-clause-idle : goal.returns-then-is_drained-clause-idle
returns-then-is_drained-clause-idle c =
    let holding = subst (λ (r : SoftParts). IsHolding r.scan r.levels) c.self.view_is c.self.invariant.0 in
    let few = subst (λ (r : SoftParts). length r.kept < 8) c.self.view_is c.self.invariant.1 in
    let none = subst (λ (r : SoftParts). given r.scan ≡ []) c.self.view_is (c.is_drained.ensures.0 c.if-is_drained.true) in
    λ same. step-idle c.args.self.now holding few none
