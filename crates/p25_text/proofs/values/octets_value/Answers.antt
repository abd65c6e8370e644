use Rattle.std.proofs.{Common.{inl, inr, sym, arith}, lemmas.Bool.{cases_Bool}}
use Rattle.p25_text.proofs.ValueLaws.{octets_in-none, octets_in-read}
use Rattle.p25_text.proofs.values.octets_value.Goals as goal

pub returns-clause-value : goal.returns-clause-value
returns-clause-value g c =
    elim (cases_Bool c.hex_value.result) [
      | inl passed ↦
          let facts = rw passed at c.hex_value.ensures in
          rw (c.then_some.ensures, passed) (sym (octets_in-read g.row.N c.args.word.now c.hex_value.new.out facts.value facts.octets (omega arith)))
      | inr failed ↦
          let facts = rw failed at c.hex_value.ensures in
          rw (c.then_some.ensures, failed) (sym (octets_in-none g.row.N c.args.word.now (λ octets same. facts.refused octets (omega arith))))
    ]
