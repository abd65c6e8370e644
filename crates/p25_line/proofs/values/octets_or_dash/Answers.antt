use Rattle.std.proofs.{Common.{◌≡◌, ◌/◌, ◌++◌, length, take, drop, Some, inl, inr, sym, ap, ◌∙◌, arith, length-take}, lemmas.Bool.{cases_Bool}, lemmas.List.{take_all, take-append-le}}
use Rattle.p25_line.proofs.OctetsLaws.{octets_up_to-digits, octets_up_to-none}
use Rattle.p25_line.proofs.values.octets_or_dash.Goals as goal

pub returns-clause-value : goal.returns-clause-value
returns-clause-value c =
    let octets = c.hex_value.new.out in
    let count = length c.args.word.now / 2 in
    elim (cases_Bool c.hex_value.result) [
      | inl passed ↦
          let facts = rw passed at c.hex_value.ensures in
          let same : length octets ≡ count = omega (arith, c.hex_value.auto.out, length-take count c.args.out.now, c.if-count-out.false) in
          let first : take count (octets ++ drop count c.args.out.now) ≡ octets
          = take-append-le count octets (drop count c.args.out.now) (omega (arith, same)) ∙ take_all count octets (omega (arith, same)) in
          rw (c.then_some.ensures, passed) (ap Some first
          ∙ sym (octets_up_to-digits (length c.args.out.now) c.args.word.now octets
          (omega (arith, same, c.if-count-eq0.false)) (omega (arith, same, c.if-count-out.false)) facts.octets facts.value))
      | inr failed ↦
          let facts = rw failed at c.hex_value.ensures in
          rw (c.then_some.ensures, failed) (sym (octets_up_to-none (length c.args.out.now) c.args.word.now count (sym c.is_dash.ensures ∙ c.if-is_dash.false) (omega arith)
          (λ octets same fits text. facts.refused octets (omega (arith, same, length-take count c.args.out.now, c.if-count-out.false)) fits text)))
    ]
