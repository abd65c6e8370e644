use Rattle.std.proofs.{Common.{Some, None, ap, inl, inr, arith}, lemmas.Bool.{both_ways, cases_lt}}
use Rattle.p25_bits.specs.{Bits.{bits_of}, Distance.{distance_of}}
use Rattle.p25_bits.proofs.DistanceLaws.{distance_of-same}
use Rattle.p25_code.specs.Readings.{IsReadAs}
use Rattle.p25_bch_nid.proofs.CorrectionSteps.{word_of_number, number_of_word, read_as, numbers_apart}
use Rattle.p25_bch_nid.proofs.correction.nearest.Goals as goal

pub returns-then-is_clean-clause-reading : goal.returns-then-is_clean-clause-reading
unfolding IsReadAs
returns-then-is_clean-clause-reading c =
    read_as c.args.received _ (record {
      word_of_set = word_of_number c.args.received c.requires (c.is_clean.ensures.0 c.if-is_clean.true);
      within = omega (arith, distance_of-same);
    })

pub returns-then-fixes-gt11-clause-reading : goal.returns-then-fixes-gt11-clause-reading
unfolding IsReadAs
returns-then-fixes-gt11-clause-reading c =
    read_as c.args.received None (record {
      farther = λ word of_code. elim (cases_lt 11 (distance_of _ word)) [
        | inl far ↦ far
        | inr near ↦ absurd (omega (
          arith,
          numbers_apart,
          ap (distance_of (bits_of 63 c.args.received)) (c.corrected-sent.ensures.sent word of_code near),
        ))
      ];
    })

pub returns-then-not-is_clean-clause-reading : goal.returns-then-not-is_clean-clause-reading
unfolding IsReadAs
returns-then-not-is_clean-clause-reading c =
    read_as c.args.received None (record {
      farther = λ word of_code. elim (cases_lt 11 (distance_of _ word)) [
        | inl far ↦ far
        | inr near ↦ absurd (both_ways c.is_clean-2.result c.if-not-is_clean.true
            (c.is_clean-2.ensures.1 (number_of_word c.corrected-sent.result word c.corrected-sent.ensures.fits (c.corrected-sent.ensures.sent word of_code near) of_code)))
      ];
    })

pub returns-clause-reading : goal.returns-clause-reading
unfolding IsReadAs
returns-clause-reading c =
    read_as c.args.received _ (record {
      word_of_set = word_of_number c.corrected-sent.result c.corrected-sent.ensures.fits (c.is_clean-2.ensures.0 c.if-not-is_clean.false);
      within = omega (arith, numbers_apart);
    })
