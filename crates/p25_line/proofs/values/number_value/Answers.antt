use Rattle.std.proofs.Common.{◌≡◌, ◌^◌, ◌<◌, sym, ap, ◌∙◌, arith, decimal}
use Rattle.p25_line.proofs.{ValuesSteps.{decimal-utf8, parsed-number, equal-texts}, values.number_value.Goals.{else-number-most-via-then-number-most+else-eq, else-number-most-via-else-number-most}}
use Rattle.p25_line.proofs.values.number_value.Goals as goal

pub returns-in_default : goal.returns-in_default
returns-in_default c number below text =
    let fits : number < 2 ^ 64 = omega arith in
    c.in_default.ensures.cases.0 (decimal-utf8 c.args.word.now number fits text)

pub returns-in_default-parse : goal.returns-in_default-parse
returns-in_default-parse c number below text =
    let fits : number < 2 ^ 64 = omega arith in
    c.in_default-parse.not-Ok number (parsed-number c.args.word.now c.in-Ok.text.now number c.parse.result fits text c.in-Ok.ensures.cases.0 c.parse.ensures.value.0)

pub returns-else-number-most : goal.returns-else-number-most
returns-else-number-most c number below text =
    let fits : number < 2 ^ 64 = omega arith in
    let parsed = parsed-number c.args.word.now c.in-Ok.text.now number c.parse.result fits text c.in-Ok.ensures.cases.0 c.parse.ensures.value.0 in
    let found : c.in-Ok-parse.number ≡ number = cc in
    elim c.else-number-most.branch [
      | else-number-most-via-then-number-most+else-eq w ↦
          equal-texts w.decimal_text.result.now c.args.word.now (w.decimal_text.ensures ∙ ap decimal found ∙ text) (sym w.eq.ensures ∙ w.if-eq.false)
      | else-number-most-via-else-number-most w ↦ omega arith
    ]
