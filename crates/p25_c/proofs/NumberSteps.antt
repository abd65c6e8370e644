-- Words that decode to numbers, and identifiers.
use Rattle.std.proofs.Common.{◌≡◌, ℕ, ◌^◌, ◌<◌, Bool, List, Option, Some, None, ℤ, pos, negsuc, take, bit_xor, ap, sym, ◌∙◌, arith, mod-eq_of_lt}
use Rattle.std.specs.{Bool.{beq}, Int.RustNames.{count_ones}, Option.{option_map}, Prelude.{unwrap_or}}
use Rattle.p25_bits.specs.{Bits.{bits_of, field_of}, Distance.{distance_of}}
use Rattle.p25_bits.proofs.{BitsLaws.{field_of-bits_of}, DistanceLaws.{distance_of-bits_of}}
use Rattle.p25_bch_nid.specs.{NidReading.{nid_reading_of}, NidWord.{nid_word}}
use Rattle.p25_c.specs.{Answers.{fixes_answer}, Numbers.{IsIdentifierReading, IsNumberReading, identifier_answer}}

-- the number that the bits of a number write
same_number : (n number : ℕ) → number < 2 ^ n → number ≡ field_of (bits_of n number)
same_number n number fits = sym (field_of-bits_of n number ∙ mod-eq_of_lt fits)

module _ (n : ℕ) (reading_is : List Bool → Option (List Bool)) (old : ℕ) (fits : old < 2 ^ n) where
  -- a word that was decoded
  pub number_read : (sent : ℕ) (answer : ℤ) → sent < 2 ^ n → option_map (bits_of n) (Some sent) ≡ reading_is (bits_of n old) → answer ≡ pos (count_ones (bit_xor old sent))
      → IsNumberReading n reading_is old sent answer
  unfolding fixes_answer
  number_read sent answer sent_fits value is = record {
    answered = λ below. is ∙ ap pos (sym (distance_of-bits_of n old sent fits sent_fits)) ∙ ap (fixes_answer beq (bits_of n old)) value;
    read = λ below. same_number n sent sent_fits ∙ ap (λ (o : Option (List Bool)). field_of (unwrap_or o (bits_of n old))) value;
    refused = λ large. absurd (omega arith);
  }

  -- none was
  pub number_beyond : option_map (bits_of n) None ≡ reading_is (bits_of n old) → IsNumberReading n reading_is old old (negsuc 0)
  unfolding fixes_answer
  number_beyond value = record {
    answered = λ below. ap (fixes_answer beq (bits_of n old)) value;
    read = λ below. same_number n old fits ∙ ap (λ (o : Option (List Bool)). field_of (unwrap_or o (bits_of n old))) value;
    refused = λ large. absurd (omega arith);
  }

module _ (received : List Bool) (old : ℕ × ℕ) where
  -- an identifier that was decoded
  pub identifier_read : (nid : ℕ × ℕ) (answer : ℤ) → Some nid ≡ nid_reading_of received → answer ≡ pos (distance_of (take 63 received) (take 63 (nid_word nid.0 nid.1)))
      → IsIdentifierReading received old nid answer
  unfolding identifier_answer
  identifier_read nid answer value is = record {
    answered = is ∙ ap (identifier_answer received) value;
    read = ap (λ (o : Option (ℕ × ℕ)). unwrap_or o old) value;
  }

  -- none was
  pub identifier_beyond : None ≡ nid_reading_of received → IsIdentifierReading received old old (negsuc 0)
  unfolding identifier_answer
  identifier_beyond value = record {
    answered = ap (identifier_answer received) value;
    read = ap (λ (o : Option (ℕ × ℕ)). unwrap_or o old) value;
  }
