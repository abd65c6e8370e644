use Rattle.std.proofs.Common.{◌≡◌, ℕ, ◌+◌, ◌<◌, Option, sym, ap, subst, ◌∙◌, arith}
use Rattle.std.specs.Prelude.{IfSome}
use Rattle.p25_calls.specs.{declared.call.Call.{Call}, Taking.{CallerParts, answer_to, behind_item, unit_answer, unit_pending}}
use Rattle.p25_calls.proofs.CallerSteps.{ended-nac, pending-before, pending-kept, pending-nac}
use Rattle.p25_calls.proofs.caller.Caller.take.Goals as goal

caller_of : ℕ → ℕ → Option Call → CallerParts
caller_of reached taken pending = record { reached = reached; taken = taken; pending = pending }

-- a caller by its parts
same-caller : (a b c d : ℕ) (p q : Option Call) → a ≡ b → c ≡ d → p ≡ q → caller_of a c p ≡ caller_of b d q
same-caller a b c d p q reached taken pending = ap (λ (x : ℕ). caller_of x c p) reached ∙ ap (λ (x : ℕ). caller_of b x p) taken ∙ ap (λ (x : Option Call). caller_of b d x) pending

pub take_unit-requires-clause-pending : goal.take_unit-requires-clause-pending
take_unit-requires-clause-pending c =
    let at = c.requires.place ∙ sym (ap (λ (p : CallerParts). p.reached) c.self.view_is) in
    let few = ap (λ (p : CallerParts). p.taken) c.self.view_is in
    pending-before c.self.inside.reached c.self.inside.taken _ _ c.self.inside.pending c.seen_unit.result c.self.invariant (omega (arith, at)) (omega (arith, few)) c.seen_unit.ensures.place

pub invariant_of-self : goal.invariant_of-self
invariant_of-self c =
    let at = c.requires.place ∙ sym (ap (λ (p : CallerParts). p.reached) c.self.view_is) in
    pending-kept c.self.inside.reached c.self.inside.taken c.item_end-self-inside.result c.self.inside.pending c.args.item.now c.seen_unit.result _ c.self.invariant
    at c.item_end-self-inside.ensures.value c.seen_unit.ensures.unit c.take_unit.ensures.pending

pub returns-clause-answer : goal.returns-clause-answer
unfolding answer_to
returns-clause-answer c =
    c.take_unit.ensures.answer ∙ ap (λ (p : CallerParts). unit_answer p.pending c.seen_unit.result) c.self.view_is ∙ ap (unit_answer c.args.self.now.pending) c.seen_unit.ensures.unit

pub returns-clause-behind : goal.returns-clause-behind
unfolding behind_item caller_of
returns-clause-behind c =
    same-caller _ _ _ _ _ _ c.item_end-self-inside.ensures.value (ap (λ (p : CallerParts). p.taken + 1) c.self.view_is)
    (c.take_unit.ensures.pending ∙ ap (λ (p : CallerParts). unit_pending p.pending c.seen_unit.result) c.self.view_is ∙ ap (unit_pending c.args.self.now.pending) c.seen_unit.ensures.unit)

pub returns-clause-sound : goal.returns-clause-sound
returns-clause-sound c =
    λ item held.
    subst (λ (o : Option Call). IfSome o (λ (call : Call). call.nac < 4096)) (sym c.take_unit.ensures.pending)
    (pending-nac c.self.inside.pending c.seen_unit.result
    (subst (λ (p : CallerParts). IfSome p.pending (λ (call : Call). call.nac < 4096)) (sym c.self.view_is) held) (c.seen_unit.ensures.sound item))

pub returns-clause-nac : goal.returns-clause-nac
returns-clause-nac c =
    λ item held.
    subst (λ (o : Option Call). IfSome o (λ (call : Call). call.nac < 4096)) (sym c.take_unit.ensures.answer)
    (ended-nac c.self.inside.pending c.seen_unit.result
    (subst (λ (p : CallerParts). IfSome p.pending (λ (call : Call). call.nac < 4096)) (sym c.self.view_is) held) (c.seen_unit.ensures.sound item))
