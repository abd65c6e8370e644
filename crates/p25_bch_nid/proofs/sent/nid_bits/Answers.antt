use Rattle.std.proofs.Common.{◌≡◌, ℕ, ◌+◌, ◌*◌, ◌%◌, ◌^◌, ◌<◌, ap₂, subst, sym, ◌∙◌, arith, mod-eq_of_lt}
use Rattle.p25_bits.specs.Divisible.{IsRemainder}
use Rattle.p25_bch_nid.specs.{Nid.{generator, IsSent}, NidWord.{nid_word-sent}}
use Rattle.p25_bch_nid.proofs.{NidSteps.{IsSent-from_parts, IsSent-unique}, SentSteps.{IsEncoding-from_sent, reading_of_sent}}
use Rattle.p25_bch_nid.proofs.sent.nid_bits.Goals as goal

sent_of : goal.returns-clause-sent
sent_of c =
    let nid = c.args.nid.now in
    let is = rw (ap₂ (λ m n. 16 * m + n) c.from.ensures c.from-2.ensures) at c.check_bits.ensures in
    rw (ap₂ (λ m n. (16 * m + n) * 2 ^ 47 % 18446744073709551616) c.from.ensures c.from-2.ensures ∙ mod-eq_of_lt (omega arith))
    (IsSent-from_parts nid.nac nid.duid c.check_bits.result c.parity.result (omega (arith, nid.nac_fits, nid.duid_fits)) is.lower is.divisible c.parity.ensures)

pub returns-clause-sent : goal.returns-clause-sent
returns-clause-sent c = sent_of c

-- the number that was made is the only one
pub returns-clause-only : goal.returns-clause-only
returns-clause-only c = λ bits is. IsSent-unique c.args.nid.now.nac c.args.nid.now.duid bits _ is (sent_of c)

-- its first 63 bits are the word that begins with the identifier
pub returns-clause-word : goal.returns-clause-word
returns-clause-word c =
    let nid = c.args.nid.now in
    IsEncoding-from_sent nid.nac nid.duid _ (omega (arith, nid.duid_fits)) (sent_of c)

pub returns-clause-read : goal.returns-clause-read
returns-clause-read c =
    let nid = c.args.nid.now in
    reading_of_sent nid.nac nid.duid _ (omega (arith, nid.nac_fits)) (omega (arith, nid.duid_fits)) (sent_of c)

-- as a list they are the word and P
pub returns-clause-list : goal.returns-clause-list
returns-clause-list c =
    let nid = c.args.nid.now in
    nid_word-sent nid.nac nid.duid _ (sent_of c) (IsEncoding-from_sent nid.nac nid.duid _ (omega (arith, nid.duid_fits)) (sent_of c))
