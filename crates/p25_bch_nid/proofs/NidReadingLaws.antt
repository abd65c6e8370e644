-- The laws of the decoding of identifiers. They follow from those of the code: at most one codeword lies within the correction radius, and one
-- codeword begins with a NAC and a DUID.
use Rattle.std.proofs.{Common.{◌≡◌, ℕ, ◌≤◌, Bool, List, length, take, Option, Some, None, option_map, refl, arith}, lemmas.List.{length-take-le}}
use Rattle.std.specs.Bool.{beq}
use Rattle.p25_bits.specs.Distance.{distance_of}
use Rattle.p25_code.specs.Readings.{IsReadAs}
use Rattle.p25_code.proofs.ReadingLaws.{read_as_sent}
use Rattle.p25_bch_nid.specs.{Bch63.{IsBch63}, Bch63Laws.{bch63_is_code}, Bch63Readings.{bch63_reads_as}, NidReading.{identifier_of_word, nid_reading_of, IsNidReading}}

-- the decoding of the bits of a codeword is the identifier in it
as_nid : (bits : List Bool) (answer : Option (List Bool)) → IsReadAs beq IsBch63 11 (take 63 bits) answer → IsNidReading bits (option_map identifier_of_word answer)
unfolding IsReadAs IsNidReading
as_nid bits None is = is
as_nid bits (Some word) is = record { word = word; word_of_set = is.word_of_set; within = is.within; begins = refl }

pub IsNidReading-nid_reading_of : (bits : List Bool) → IsNidReading bits (nid_reading_of bits)
unfolding nid_reading_of
IsNidReading-nid_reading_of bits = as_nid bits _ (bch63_reads_as _)

-- if a codeword lies within 11 bits of the first 63, the decoding is the identifier with which that codeword begins
pub nid_reading_of-word : (bits word : List Bool) → 63 ≤ length bits → IsBch63 word → distance_of (take 63 bits) word ≤ 11 → nid_reading_of bits ≡ Some (identifier_of_word word)
unfolding nid_reading_of
nid_reading_of-word bits word long isw near =
    cc (read_as_sent bch63_is_code _ word _ (length-take-le 63 bits long) (bch63_reads_as _) isw near)

-- the last bit is not looked at
pub nid_reading_of-first : (a b : List Bool) → take 63 a ≡ take 63 b → nid_reading_of a ≡ nid_reading_of b
unfolding nid_reading_of
nid_reading_of-first a b same = simp same

-- 63 received bits have one decoding
pub IsNidReading-unique : (bits : List Bool) (a : Option (ℕ × ℕ)) → 63 ≤ length bits → IsNidReading bits a → a ≡ nid_reading_of bits
unfolding IsNidReading
IsNidReading-unique bits None long is = from_answer (nid_reading_of bits) (IsNidReading-nid_reading_of bits)
  where
    from_answer : (b : Option (ℕ × ℕ)) → IsNidReading bits b → None ≡ b
    from_answer None other = refl
    from_answer (Some nid) other = absurd (omega (arith, is.farther, other.within))
IsNidReading-unique bits (Some nid) long is =
    cc (nid_reading_of-word bits is.word long is.word_of_set is.within)
