-- Consequences of the laws of a block code: decoding leaves the codeword within the correction radius and no other.
use Rattle.std.proofs.{Common.{◌≡◌, ℕ, ◌+◌, ◌<◌, ◌≤◌, inl, inr, Bool, List, length, Option, Some, None, ap, sym, ◌∙◌, refl, arith}, lemmas.Bool.{cases_eq}}
use Rattle.p25_bits.specs.Distance.{distance_by}
use Rattle.p25_bits.proofs.DistanceLaws.{distance_by-same, distance_by-sym, distance_by-triangle, same_from_distance_by}
pub use Rattle.p25_code.specs.CodeLaws.{IsBlockCode}
use Rattle.p25_code.specs.{Words.{IsFound, IsReading}, Readings.{IsNear, IsReadAs, word_read}, declared.code.Reading.{Reading}, declared.code.Reading.TheVariants.{Found, Beyond}}

module _ {L : Type 0} {same : L → L → Bool} {IsWord : List L → Type 0} {n k radius apart : ℕ} (code : IsBlockCode same IsWord n k radius apart) where
  -- a distance does not depend on the direction
  pub turned : (xs ys : List L) → distance_by same xs ys ≡ distance_by same ys xs
  turned = distance_by-sym same code.compares.symm

  -- the way round by a third list is no shorter
  pub triangle : (xs ys zs : List L) → length xs ≡ length ys → distance_by same xs zs ≤ distance_by same xs ys + distance_by same ys zs
  triangle = distance_by-triangle same (λ x y z a b. rw (code.alike y z b) at a)

  -- two words less than the least distance apart are one
  pub near_words : (v w : List L) → IsWord v → IsWord w → distance_by same v w < apart → v ≡ w
  near_words v w isv isw near =
      elim (cases_eq (distance_by same v w) 0) [
        | inl none ↦ same_from_distance_by same code.alike v w (code.long v isv ∙ sym (code.long w isw)) none
        | inr some ↦
            absurd (omega (arith, code.far_apart v w isv isw (λ e. some (cc (e, distance_by-same same code.compares.refl v)))))
      ]

  -- the transmitted codeword and the decoded one are within the correction radius of the received word, so they are equal
  pub found_sent : (received word sent : List L) (fixes : ℕ) → length received ≡ n
      → IsFound same IsWord radius received word fixes → IsWord sent → distance_by same received sent ≤ radius → word ≡ sent
  found_sent received word sent fixes long found is near =
      near_words word sent found.word_of_set is (omega (
        arith,
        found.fixes_is,
        found.within,
        turned word received,
        triangle word,
        code.close,
      ))

  -- if a codeword of the set is within the correction radius, the decoding is that codeword
  pub reading_sent : (received word sent : List L) (reading : Reading)
      → length received ≡ n → IsReading same IsWord radius received word reading → IsWord sent → distance_by same received sent ≤ radius → word ≡ sent
  unfolding IsReading
  reading_sent received word sent (Found fixes) long is sent_is near = found_sent received word sent fixes long is sent_is near
  reading_sent received word sent Beyond long is sent_is near = absurd (omega (arith, is.none_within.farther sent sent_is))

  -- and its result is `Found` with the distance
  pub reading_fixes : (received word sent : List L) (reading : Reading)
      → length received ≡ n → IsReading same IsWord radius received word reading → IsWord sent → distance_by same received sent ≤ radius
      → reading ≡ Found (distance_by same received sent)
  unfolding IsReading
  reading_fixes received word sent (Found fixes) long is sent_is near =
      rw (is.fixes_is, found_sent received word sent fixes)
  reading_fixes received word sent Beyond long is sent_is near = absurd (omega (arith, is.none_within.farther sent sent_is))

  -- two codewords of the set within the correction radius of the received word are equal
  one_near : (received v w : List L) → length received ≡ n → IsNear same IsWord radius received v → IsNear same IsWord radius received w → v ≡ w
  one_near received v w long first second =
      found_sent received v w (distance_by same received v) long (record { word_of_set = first.word_of_set; fixes_is = refl; within = first.within }) second.word_of_set second.within

  -- so a received word has one decoding
  pub one_reading : (received : List L) (a b : Option (List L)) → length received ≡ n → IsReadAs same IsWord radius received a → IsReadAs same IsWord radius received b → a ≡ b
  unfolding IsReadAs
  one_reading received None None long first second = refl
  one_reading received None (Some w) long first second = absurd (omega (arith, first.farther, second.within))
  one_reading received (Some v) None long first second = absurd (omega (arith, second.farther, first.within))
  one_reading received (Some v) (Some w) long first second = ap Some (one_near received v w long first second)

  -- a codeword of the set within the correction radius is the decoding
  pub read_as_sent : (received sent : List L) (answer : Option (List L))
      → length received ≡ n → IsReadAs same IsWord radius received answer → IsWord sent → distance_by same received sent ≤ radius → answer ≡ Some sent
  unfolding IsReadAs
  read_as_sent received sent answer long is sent_is near = one_reading received answer (Some sent) long is (record { word_of_set = sent_is; within = near })

  -- the result of a reader, with the word that it leaves, is the decoding
  pub word_read_as : (received word : List L) (reading : Reading) → IsReading same IsWord radius received word reading → IsReadAs same IsWord radius received (word_read reading word)
  unfolding IsReading IsReadAs word_read
  word_read_as received word (Found fixes) is = record { word_of_set = is.word_of_set; within = omega (arith, is.fixes_is, is.within) }
  word_read_as received word Beyond is = is.none_within
