-- The 64 transmitted bits of an identifier: a codeword and P. A codeword is the one that begins with its NAC and DUID, so the transmitted bits decode
-- to the identifier. The received bits lie within the correction radius of the transmitted bits of the decoded identifier.
use Rattle.std.proofs.Common.{◌≡◌, ℕ, ◌≤◌, ◌<◌, ◌^◌, ◌++◌, Bool, eqb, List, [], ◌∷◌, length, take, drop, Some, ap, ap₂, sym, subst, ◌∙◌, arith, length-append, length-drop, mod-eq_of_lt}
use Rattle.std.proofs.{Math.Seq.{take-add}, lemmas.List.{length-take-le, take_at, drop_at, take-take, drop-take}}
use Rattle.p25_bits.specs.{Bits.{bits_of, field_of, part}, Distance.{distance_of}}
use Rattle.p25_bits.proofs.{BitsLaws.{length-bits_of, field_of-bits_of, bits_of-field_of}, DistanceLaws.{distance_of-same}}
use Rattle.p25_code.specs.Words.{IsEncoding}
use Rattle.p25_bch_nid.specs.{Bch63.{IsBch63}, Bch63Laws.{encoded, IsEncoding-encoded, one_word}, Nid.{parity_of}, NidReading.{identifier_of_word, nid_reading_of, IsNidFound, IsNidReading}}
use Rattle.p25_bch_nid.specs.NidWord.{nid_word}
use Rattle.p25_bch_nid.proofs.NidReadingLaws.{IsNidReading-nid_reading_of, nid_reading_of-word}

-- the first 63 bits are the word that begins with the NAC and the DUID
pub encoded-nid : (nac duid : ℕ) → IsEncoding IsBch63 16 (bits_of 12 nac ++ bits_of 4 duid) (encoded (bits_of 12 nac ++ bits_of 4 duid))
encoded-nid nac duid =
    IsEncoding-encoded _ (omega (arith, length-append (bits_of 12 nac), length-bits_of, length-bits_of))

pub take-nid_word : (nac duid : ℕ) → take 63 (nid_word nac duid) ≡ encoded (bits_of 12 nac ++ bits_of 4 duid)
unfolding nid_word
take-nid_word nac duid = take_at _ _ 63 (encoded-nid nac duid).word_of_set.long

pub IsEncoding-nid_word : (nac duid : ℕ) → IsEncoding IsBch63 16 (bits_of 12 nac ++ bits_of 4 duid) (take 63 (nid_word nac duid))
IsEncoding-nid_word nac duid = simp take-nid_word (encoded-nid nac duid)

-- P follows
pub drop-nid_word : (nac duid : ℕ) → drop 63 (nid_word nac duid) ≡ eqb (parity_of duid) 1 ∷ []
unfolding nid_word
drop-nid_word nac duid = drop_at _ _ 63 (encoded-nid nac duid).word_of_set.long

-- there are 64
pub length-nid_word : (nac duid : ℕ) → length (nid_word nac duid) ≡ 64
unfolding nid_word
length-nid_word nac duid =
    simp length-append (omega (arith, (encoded-nid nac duid).word_of_set.long))

-- a word that begins with a NAC and a DUID has them as its identifier
pub identifier_of_word-encoding : (nac duid : ℕ) (word : List Bool)
    → nac < 2 ^ 12 → duid < 2 ^ 4 → IsEncoding IsBch63 16 (bits_of 12 nac ++ bits_of 4 duid) word → identifier_of_word word ≡ (nac, duid)
identifier_of_word-encoding nac duid word low small is =
    let first : take 12 word ≡ bits_of 12 nac = cc (take-take 12 16 word (omega arith), take_at _ (bits_of 4 duid) 12 (length-bits_of 12 nac)) in
    let next : part 12 4 word ≡ bits_of 4 duid = cc (drop-take 12 4 word, drop_at _ (bits_of 4 duid) 12 (length-bits_of 12 nac)) in
    simp (first, field_of-bits_of, mod-eq_of_lt, next)

-- so the transmitted bits of an identifier decode to it
pub nid_reading_of-nid_word : (nac duid : ℕ) → nac < 2 ^ 12 → duid < 2 ^ 4 → nid_reading_of (nid_word nac duid) ≡ Some (nac, duid)
nid_reading_of-nid_word nac duid low small =
    let word = take 63 _ in
    let encoding = IsEncoding-nid_word nac duid in
    cc (
      nid_reading_of-word (nid_word nac duid) word (omega (arith, length-nid_word)) encoding.word_of_set (omega (arith, distance_of-same)),
      identifier_of_word-encoding nac duid word low small encoding,
    )

-- and a codeword is the one that is transmitted for the identifier in it
pub identifier_of_word-sent : (word : List Bool) → IsBch63 word → take 63 (nid_word (field_of (take 12 word)) (field_of (part 12 4 word))) ≡ word
identifier_of_word-sent word is =
    let nac = field_of (take 12 word) in
    let duid = field_of (part 12 4 word) in
    let encoding = IsEncoding-nid_word nac duid in
    one_word _ word encoding.word_of_set is (encoding.begins ∙ ap₂ ◌++◌ (cc (long_first, bits_of-field_of (take 12 word))) (ap (λ n. bits_of n duid) (sym long_next) ∙ bits_of-field_of (part 12 4 word)) ∙ sym (take-add 12 4 word))
  where
    long_first : length (take 12 word) ≡ 12
    long_first = length-take-le 12 word (omega (arith, is.long))

    long_next : length (part 12 4 word) ≡ 4
    long_next = length-take-le 4 (drop 12 word) (omega (arith, is.long, length-drop 12 word))

-- so the first 63 received bits differ in at most 11 from the transmitted bits of the decoded identifier
pub nid_reading_of-near : (bits : List Bool) (nid : ℕ × ℕ) → nid_reading_of bits ≡ Some nid → distance_of (take 63 bits) (take 63 (nid_word nid.0 nid.1)) ≤ 11
unfolding IsNidReading
nid_reading_of-near bits nid read = near (simp read at (IsNidReading-nid_reading_of bits))
  where
    near : IsNidFound (take 63 bits) nid → distance_of (take 63 bits) (take 63 (nid_word nid.0 nid.1)) ≤ 11
    near found =
        let same : take 63 (nid_word nid.0 nid.1) ≡ found.word = cc (found.begins, identifier_of_word-sent found.word found.word_of_set) in
        rw same found.within
