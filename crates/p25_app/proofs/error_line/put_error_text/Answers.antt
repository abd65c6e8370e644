use Rattle.std.proofs.{Common.{◌≡◌, ℕ, ◌<◌, List, length, ap, sym, subst, ◌∙◌}, lemmas.Bool.{eqb-true}}
use Rattle.p25_app.specs.Calls.{error_text, with_end}
use Rattle.p25_app.proofs.CallSteps.{with_end-some, with_end-none, filled}
use Rattle.p25_app.proofs.error_line.put_error_text.Goals as goal

pub returns-then-not-is_empty : goal.returns-then-not-is_empty
unfolding error_text
returns-then-not-is_empty c =
    let line = c.outcome_text.new.out in
    let some : 0 < length line = subst (λ (octets : List ℕ). 0 < length octets) c.octets.ensures (filled c.octets.result.now c.if-not-is_empty.ensures) in
    c.put.ensures.list ∙ sym (with_end-some line some) ∙ ap with_end c.outcome_text.ensures.text

pub returns-else-not-is_empty : goal.returns-else-not-is_empty
unfolding error_text
returns-else-not-is_empty c =
    let line = c.outcome_text.new.out in
    let none : length line ≡ 0 = sym (ap length c.octets.ensures) ∙ eqb-true (length c.octets.result.now) 0 (sym c.if-not-is_empty.ensures) in
    sym (with_end-none line none) ∙ ap with_end c.outcome_text.ensures.text
