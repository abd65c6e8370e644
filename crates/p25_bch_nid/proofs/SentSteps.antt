-- The result of the encoder of identifiers: its number is the transmitted one, and its bits are the codeword and P.
use Rattle.std.proofs.{Common.{◌≡◌, ℕ, ◌+◌, ◌*◌, ◌/◌, ◌^◌, ◌<◌, ◌++◌, Bool, List, take, bit_xor, Some, ap, ap₂, sym, ◌∙◌, arith, mod-eq_of_lt}, lemmas.List.{take_at}}
use Rattle.std.proofs.lemmas.Nat.{shr-shr, xor_shr, div-mul-add, mod-mul-add}
use Rattle.std.specs.Int.RustNames.{count_ones}
use Rattle.p25_bits.specs.{Bits.{bits_of}, Distance.{distance_of}}
use Rattle.p25_bits.proofs.{BitsLaws.{bits_of-add, length-bits_of, field_of-bits_of, same_from_field_of}, DistanceLaws.{distance_of-same, distance_of-bits_of}}
use Rattle.p25_code.specs.Words.{IsEncoding}
use Rattle.p25_bch_nid.specs.{Nid.{IsSent}, Bch63.{IsBch63}, Bch63FormLaws.{from_divisible}, NidReading.{nid_reading_of}}
use Rattle.p25_bch_nid.proofs.{NidReadingLaws.{nid_reading_of-word}, NidWordLaws.{identifier_of_word-encoding}, ReadingLaws.{first_bits}}

-- the bits of a NAC and a DUID in one number
nid_digits : (nac duid : ℕ) → duid < 16 → bits_of 16 (16 * nac + duid) ≡ bits_of 12 nac ++ bits_of 4 duid
nid_digits nac duid small =
    let swapped : 16 * nac + duid ≡ nac * 16 + duid = omega arith in
    bits_of-add 12 4 (16 * nac + duid)
    ∙ ap₂ (λ n bits. bits_of 12 n ++ bits) (simp (swapped, div-mul-add))
    (same_from_field_of _ _
    (simp length-bits_of) (simp (field_of-bits_of, swapped, mod-mul-add, mod-eq_of_lt)))

-- the transmitted bits begin with the codeword of the NAC and the DUID
pub IsEncoding-from_sent : (nac duid bits : ℕ) → duid < 16 → IsSent nac duid bits → IsEncoding IsBch63 16 (bits_of 12 nac ++ bits_of 4 duid) (take 63 (bits_of 64 bits))
IsEncoding-from_sent nac duid bits small is =
    let half = bits / 2 ^ 1 in
    simp first_bits (record {
      word_of_set = (from_divisible _ (length-bits_of 63 half) (simp (field_of-bits_of 63 half ∙ mod-eq_of_lt (omega arith)) is.word));
      begins =
          ap (take 16) (bits_of-add 16 47 half)
          ∙ take_at _ _ 16 (length-bits_of 16 _)
          ∙ ap (bits_of 16) (shr-shr bits 1 47 ∙ is.information)
          ∙ nid_digits nac duid small;
    })

-- the transmitted bits decode to the identifier
pub reading_of_sent : (nac duid bits : ℕ) → nac < 2 ^ 12 → duid < 2 ^ 4 → IsSent nac duid bits → nid_reading_of (bits_of 64 bits) ≡ Some (nac, duid)
reading_of_sent nac duid bits low small is =
    let received = take 63 _ in
    let encoding = IsEncoding-from_sent nac duid bits small is in
    nid_reading_of-word _ received (omega (arith, length-bits_of)) encoding.word_of_set (omega (arith, distance_of-same)) ∙ ap Some (identifier_of_word-encoding nac duid received low small encoding)

-- the weight of the exclusive or of two identifiers without their last bits is the distance of their first 63 bits
pub weight-distance : (a b : ℕ) (sent : List Bool) → a < 2 ^ 64 → b < 2 ^ 64 → bits_of 64 b ≡ sent → count_ones (bit_xor a b / 2 ^ 1) ≡ distance_of (take 63 (bits_of 64 a)) (take 63 sent)
weight-distance a b sent first second is =
    ap count_ones (xor_shr a b 1)
    ∙ sym (distance_of-bits_of 63 _ _ (omega arith) (omega arith))
    ∙ ap₂ distance_of (sym (first_bits a)) (rw (← first_bits, is))
