use Rattle.std.proofs.{Common.{length, sym, ap, ◌∙◌, arith}, lemmas.Fmt.{decimal_nonempty}}
use Rattle.p25_script.specs.Values.{place_in}
use Rattle.p25_line.proofs.NumberLaws.{number_below-none}
use Rattle.p25_script.proofs.ValueLaws.{place_in-decimal}
use Rattle.p25_script.proofs.values.place_value.Goals as goal

pub returns-clause-place : goal.returns-clause-place
returns-clause-place c = sym (ap place_in (sym c.in_ok-place.ensures.1) ∙ place_in-decimal c.in_ok-place.place (omega (arith, c.in_ok-place.ensures.0)))

pub returns-clause-some : goal.returns-clause-some
returns-clause-some c = omega (arith, decimal_nonempty c.in_ok-place.place (omega (arith, c.in_ok-place.ensures.0)), ap length c.in_ok-place.ensures.1)

pub returns-in_err-place-clause-place : goal.returns-in_err-place-clause-place
returns-in_err-place-clause-place c = c.from_residual.ensures ∙ sym (number_below-none 25920 c.args.text.now (λ number below. c.in_err-place.ensures number (omega (arith, below))))
