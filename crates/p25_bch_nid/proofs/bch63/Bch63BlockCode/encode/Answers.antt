use Rattle.std.proofs.Common.{◌≡◌, ℕ, ◌*◌, ◌%◌, ◌^◌, ◌<◌, ◌++◌, length, ap, ap₂, sym, ◌∙◌, subst, arith, mod-eq_of_lt}
use Rattle.p25_bits.specs.{Bits.{bits_of, field_of}, Divisible.{IsRemainder}}
use Rattle.p25_bits.proofs.BitsLaws.{field_of-lt}
use Rattle.p25_code.specs.Words.{IsEncoding}
use Rattle.p25_bch_nid.specs.{Nid.{generator}, Bch63.{IsBch63}, Bch63Laws.{encoded, encoded_by, IsEncoding-encoded, IsEncoding-encoded_by, one_word}}
use Rattle.p25_bch_nid.proofs.bch63.Bch63BlockCode.encode.Goals as goal

encoding_of : goal.returns-clause-encoding
unfolding encoded_by
encoding_of c =
    let info = c.args.info.now in
    let r = c.number_remainder-remainder.result in
    let small = rw c.requires.info at (field_of-lt info) in
    subst (IsEncoding IsBch63 16 info) (sym (ap₂ ◌++◌ c.copy_from_slice.ensures.after (c.put_number.ensures ∙ ap (λ n. bits_of n r) (omega (arith, c.requires.word)))))
    (IsEncoding-encoded_by info r c.requires.info (rw (ap (λ n. n * 2 ^ 47 % 18446744073709551616) c.number_of.ensures.value ∙ mod-eq_of_lt (omega arith)) at c.number_remainder-remainder.ensures.is))

pub returns-clause-encoding : goal.returns-clause-encoding
returns-clause-encoding c = encoding_of c

-- no other word begins with the information
pub returns-clause-value : goal.returns-clause-value
returns-clause-value c =
    let is = encoding_of c in
    let made = IsEncoding-encoded c.args.info.now c.requires.info in
    one_word _ (encoded c.args.info.now) is.word_of_set made.word_of_set (is.begins ∙ sym made.begins)
