-- The result of each branch of the decoder of identifiers. The number of a codeword has its NAC and DUID in its highest bits, and the result is the
-- decoding of the code.
use Rattle.std.proofs.Common.{◌≡◌, ℕ, ◌/◌, ◌%◌, ◌^◌, ◌<◌, ◌≤◌, Bool, List, take, bit_xor, Option, Some, option_map, ap, sym, ◌∙◌, arith, mod-eq_of_lt}
use Rattle.std.proofs.lemmas.List.{take_at, drop_at, drop-take}
use Rattle.std.specs.{Int.RustNames.{count_ones}}
use Rattle.p25_bits.specs.{Bits.{bits_of, field_of, part}, Distance.{distance_of}}
use Rattle.p25_bits.proofs.{BitsLaws.{bits_of-add, length-bits_of, field_of-bits_of}, DistanceLaws.{distance_of-bits_of}}
use Rattle.p25_code.specs.Readings.{IsReadAs}
use Rattle.p25_bch_nid.specs.{Bch63.{IsBch63}, Bch63Readings.{bch63_reading_of, bch63_reads_as}, NidReading.{identifier_of_word, nid_reading_of, IsNidReading}, NidWord.{nid_word}}
use Rattle.p25_bch_nid.proofs.{NidReadingLaws.{IsNidReading-nid_reading_of, nid_reading_of-word}, NidWordLaws.{identifier_of_word-sent}}

-- without the last of 64 bits
pub first_bits : (bits : ℕ) → take 63 (bits_of 64 bits) ≡ bits_of 63 (bits / 2 ^ 1)
first_bits bits =
    cc (bits_of-add 63 1 bits, take_at _ (bits_of 1 bits) 63 (length-bits_of 63 (bits / 2 ^ 1)))

-- the number of the first 12 of 63 bits
nac_in : (word : ℕ) → word < 2 ^ 63 → field_of (take 12 (bits_of 63 word)) ≡ word / 2 ^ 51
nac_in word below =
    let high : word / 2 ^ 51 < 2 ^ 12 = omega arith in
    cc (bits_of-add 12 51 word, take_at _ (bits_of 51 word) 12 (length-bits_of 12 (word / 2 ^ 51)), field_of-bits_of 12 (word / 2 ^ 51), mod-eq_of_lt high)

-- and of the next 4
duid_in : (word : ℕ) → field_of (part 12 4 (bits_of 63 word)) ≡ word / 2 ^ 47 % 16
duid_in word =
    cc (
      drop-take 12 4 (bits_of 63 word),
      bits_of-add 16 47 word,
      take_at _ (bits_of 47 word) 16 (length-bits_of 16 (word / 2 ^ 47)),
      bits_of-add 12 4 (word / 2 ^ 47),
      drop_at _ (bits_of 4 (word / 2 ^ 47)) 12 (length-bits_of 12 (word / 2 ^ 47 / 2 ^ 4)),
      field_of-bits_of 4 (word / 2 ^ 47),
    )

-- so the identifier that a word's number begins with is that of its bits
pub identifier_made : (word : ℕ) → word < 2 ^ 63 → (word / 2 ^ 51, word / 2 ^ 47 % 16) ≡ identifier_of_word (bits_of 63 word)
identifier_made word below = simp (nac_in, duid_in)

-- a decoded word is the transmitted codeword of the identifier in it, at a distance of at most 11 bits
pub word_read : (bits sent : ℕ) (nid : ℕ × ℕ) → Some (bits_of 63 sent) ≡ bch63_reading_of (bits_of 63 (bits / 2 ^ 1)) → nid ≡ identifier_of_word (bits_of 63 sent)
    → (take 63 (nid_word nid.0 nid.1) ≡ bits_of 63 sent) × (distance_of (bits_of 63 (bits / 2 ^ 1)) (bits_of 63 sent) ≤ 11)
unfolding IsReadAs
word_read bits sent nid read begins =
    let found = rw (← read) at (bch63_reads_as (bits_of 63 (bits / 2 ^ 1))) in
    (cc (begins, identifier_of_word-sent _ found.word_of_set), found.within)

-- the exclusive or counts its bit errors
pub wrong_in : (bits sent : ℕ) (nid : ℕ × ℕ) → bits < 2 ^ 64 → sent < 2 ^ 63 → Some (bits_of 63 sent) ≡ bch63_reading_of (bits_of 63 (bits / 2 ^ 1)) → nid ≡ identifier_of_word (bits_of 63 sent)
    → count_ones (bit_xor (bits / 2 ^ 1) sent) ≡ distance_of (take 63 (bits_of 64 bits)) (take 63 (nid_word nid.0 nid.1))
wrong_in bits sent nid fits small read begins =
    cc (distance_of-bits_of 63 (bits / 2 ^ 1) sent (omega arith) small, first_bits bits, sym (word_read bits sent nid read begins).0)

pub wrong-le : (bits sent : ℕ) (nid : ℕ × ℕ) → bits < 2 ^ 64 → sent < 2 ^ 63 → Some (bits_of 63 sent) ≡ bch63_reading_of (bits_of 63 (bits / 2 ^ 1)) → nid ≡ identifier_of_word (bits_of 63 sent)
    → count_ones (bit_xor (bits / 2 ^ 1) sent) ≤ 11
wrong-le bits sent nid fits small read begins =
    omega (arith, distance_of-bits_of, (word_read bits sent nid read begins).1)

-- the decoding of an identifier is the identifier in the decoding of its codeword
pub code_reading : (bits : ℕ) (answer : Option (List Bool)) → answer ≡ bch63_reading_of (bits_of 63 (bits / 2 ^ 1)) → nid_reading_of (bits_of 64 bits) ≡ option_map identifier_of_word answer
unfolding nid_reading_of
code_reading bits answer is = simp (first_bits, is)

-- a result that is the decoding meets the two other clauses
pub is_reading : (bits : ℕ) (answer : Option (ℕ × ℕ)) → answer ≡ nid_reading_of (bits_of 64 bits) → IsNidReading (bits_of 64 bits) answer
is_reading bits answer value = simp value (IsNidReading-nid_reading_of _)

pub is_sent : (bits : ℕ) (answer : Option (ℕ × ℕ)) → answer ≡ nid_reading_of (bits_of 64 bits)
    → (word : List Bool) → IsBch63 word → distance_of (take 63 (bits_of 64 bits)) word ≤ 11 → answer ≡ Some (identifier_of_word word)
is_sent bits answer value word isw near =
    value ∙ nid_reading_of-word _ word (omega (arith, length-bits_of)) isw near
