-- The effect of the calls on codewords as numbers, and of those on network identifiers (NID).
use Rattle.std.specs.{Prelude.{◌≡◌, ◌⊎◌, ℕ, ◌^◌, ◌-◌, ◌<◌, ◌≤◌, Bool, List, Option, Some, None, ℤ, pos, negsuc, take, unwrap_or}, Bool.{beq}}
use Rattle.p25_bits.specs.{Bits.{bits_of, field_of}, Distance.{distance_of}}
use Rattle.p25_code.specs.Words.{IsEncoding}
use Rattle.p25_bch_nid.specs.{NidReading.{nid_reading_of}, NidWord.{nid_word}}
use Rattle.p25_c.specs.Answers.{fixes_answer}

-- a number of n bits becomes that of the decoded codeword, and the result is the number of bits in which the two differ; if no codeword is decoded
-- the result is -1, and if the number has more bits it is -2, and the number is unchanged
pub record IsNumberReading (n : ℕ) (reading : List Bool → Option (List Bool)) (old new : ℕ) (answer : ℤ) : Type 0 where
  pub answered : old < 2 ^ n → answer ≡ fixes_answer beq (bits_of n old) (reading (bits_of n old))
  pub read : old < 2 ^ n → new ≡ field_of (unwrap_or (reading (bits_of n old)) (bits_of n old))
  pub refused : 2 ^ n ≤ old → (answer ≡ negsuc 1) × (new ≡ old)

-- the number is the codeword of n bits with the information, of k bits; if that has more bits it is 2 ^ 32 - 1
pub record IsNumberWriting (IsWord : List Bool → Type 0) (k n info number : ℕ) : Type 0 where
  pub written : info < 2 ^ k → IsEncoding IsWord k (bits_of k info) (bits_of n number)
  pub fits : info < 2 ^ k → number < 2 ^ n
  pub refused : 2 ^ k ≤ info → number ≡ 2 ^ 32 - 1

-- the number of its first 63 bits in which a received network identifier (NID) differs from the transmitted bits of the decoded one, or -1 if none
-- was decoded
unfoldable pub identifier_answer : List Bool → Option (ℕ × ℕ) → ℤ
identifier_answer received None = negsuc 0
identifier_answer received (Some nid) = pos (distance_of (take 63 received) (take 63 (nid_word nid.0 nid.1)))

-- a NAC and a DUID become those of the decoded network identifier (NID), and the result is the number of its bit errors; if none is decoded the
-- result is -1, and the two are unchanged
pub record IsIdentifierReading (received : List Bool) (old new : ℕ × ℕ) (answer : ℤ) : Type 0 where
  pub answered : answer ≡ identifier_answer received (nid_reading_of received)
  pub read : new ≡ unwrap_or (nid_reading_of received) old

-- the number is the network identifier (NID) of a NAC and a DUID; if one of the two has more bits than allowed it is 2 ^ 64 - 1
pub record IsIdentifierWriting (nac duid number : ℕ) : Type 0 where
  pub written : nac < 2 ^ 12 → duid < 2 ^ 4 → bits_of 64 number ≡ nid_word nac duid
  pub refused : (2 ^ 12 ≤ nac) ⊎ (2 ^ 4 ≤ duid) → number ≡ 2 ^ 64 - 1
