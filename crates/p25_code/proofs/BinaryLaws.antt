-- The words that pass a check matrix, if its last columns are check columns: they are the systematic words, and a computed test of all information
-- gives their least distance.
use Rattle.std.proofs.Common.{◌≡◌, ◌≢◌, ◌⊎◌, ℕ, ◌+◌, ◌-◌, ◌^◌, ◌<◌, ◌≤◌, inl, inr, Bool, true, false, cond, eqb, ltb, List, ◌∷◌, ◌++◌, length, take, drop, bit_xor, ap, ap₂, sym, ◌∙◌, subst, arith, length-append, take-append-drop, length-drop}
use Rattle.std.proofs.{Math.Nat.{mod-eq_of_lt}, Math.Seq.{take-append_seam, drop-append_seam}, lemmas.List.{length-take-le}, lemmas.Bool.{cases_eq, and_parts, or_cases, eqb-true, leb-true, ltb-true}}
use Rattle.std.proofs.lemmas.Nat.{xor_lt, pow_pos}
use Rattle.std.specs.{Bool.{beq}, Cmp.{bool_eq_equiv}, Int.Bits.{xor_self}}
use Rattle.p25_bits.specs.{Bits.{bits_of, field_of}, Distance.{distance_of}}
use Rattle.p25_bits.proofs.{BitsLaws.{length-bits_of, field_of-bits_of, bits_of-field_of}, DivisibleLaws.{same_from_xor}, DistanceLaws.{same_from_distance_of}}
use Rattle.p25_code.specs.{Words.{IsEncoding}, Readings.{Tested}, Letters.{same_bit}, Binary.{syndrome_of, IsChecked, check_columns, rows_fit, systematic, weight_of}}
use Rattle.p25_code.specs.CodeLaws.{IsBlockCode, IsSystematic, is_heavy, radius_of}
use Rattle.p25_code.proofs.WeightLaws.{all_bits-each, length-sum_of_words, weight_of-append, weight_of-bits_of, weight_of-sum_of_words, syndrome_of-zeros, syndrome_of-sum_of_words}
use Rattle.p25_code.proofs.SyndromeLaws.{syndrome_of-append, syndrome_of-check_columns, length-check_columns, change_of-is}

-- whether a word passes can be tested
pub IsChecked-tested : (columns : List ℕ) → Tested (IsChecked columns)
IsChecked-tested columns word =
    elim (cases_eq (length word) _) [
      | inl long ↦ elim (cases_eq (syndrome_of columns word) 0) [
        | inl passes ↦ inl (record { long = long; passes = passes })
        | inr other ↦ inr (λ is. other is.passes)
      ]
      | inr other ↦ inr (λ is. other is.long)
    ]

-- each sum of rows has a bit for each check and no other
pub syndrome_of-lt : (checks : ℕ) (rows : List ℕ) (info : List Bool) → rows_fit checks rows ≡ true → syndrome_of rows info < 2 ^ checks
unfolding syndrome_of
syndrome_of-lt checks (first ∷ rows) (bit ∷ info) fit =
    let parts = and_parts (ltb first _) (rows_fit checks rows) fit in
    xor_lt checks (cond bit first 0) (syndrome_of rows info) (chosen bit (ltb-true first _ parts.0)) (syndrome_of-lt checks rows info parts.1)
  where
    chosen : (b : Bool) → first < 2 ^ checks → cond b first 0 < 2 ^ checks
    chosen true h = h
    chosen false h = pow_pos checks
syndrome_of-lt checks rows info fit = pow_pos checks

module _ {rows : List ℕ} {n k d : ℕ} (code : IsSystematic rows n k d) where
  -- the number of check bits after the information
  abbrev checks : ℕ
  checks = n - k

  -- there is a letter for each row and each check
  letters : length rows + checks ≡ n
  letters = omega (arith, code.rows_long, code.begins)

  -- a word that passes has as many
  pub length_checked : (word : List Bool) → IsChecked (rows ++ check_columns checks) word → length word ≡ n
  length_checked word is = cc (is.long, length-append rows _, length-check_columns checks, letters)

  -- and its information one for each row
  length-information : (word : List Bool) → IsChecked (rows ++ check_columns checks) word → length (take (length rows) word) ≡ length rows
  length-information word is = length-take-le (length rows) word (omega (arith, letters, length_checked word is))

  -- a systematic word passes
  pub systematic_checked : (info : List Bool) → length info ≡ length rows → IsChecked (rows ++ check_columns checks) (systematic rows checks info)
  unfolding systematic
  systematic_checked info long =
      let sum = syndrome_of rows info in
      let bits = bits_of checks sum in
      let places = length-bits_of checks sum in
      record {
        long = length-append info bits ∙ ap₂ ◌+◌ long (places ∙ sym (length-check_columns checks)) ∙ sym (length-append rows _);
        passes =
            cc (syndrome_of-append rows _ info bits long, syndrome_of-check_columns checks bits places, field_of-bits_of checks sum, mod-eq_of_lt (syndrome_of-lt checks rows info code.fit), xor_self sum);
      }

  -- and each word that passes is systematic
  pub checked_systematic : (word : List Bool) → IsChecked (rows ++ check_columns checks) word → word ≡ systematic rows checks (take (length rows) word)
  unfolding systematic
  checked_systematic word is =
      let k = length rows in
      let info = take k word in
      let rest = drop k word in
      let back : length rest ≡ checks = omega (arith, letters, length_checked word is, length-drop k word) in
      cc (
        take-append-drop k word,
        bits_of-field_of rest,
        ap₂ bits_of back
            (sym (same_from_xor (syndrome_of rows info) (field_of rest)
            (cc (syndrome_of-append rows (check_columns checks) info rest (length-information word is), syndrome_of-check_columns checks rest back, take-append-drop k word, is.passes)))),
      )

  -- the systematic word of some information is its encoding in a set whose words are those that pass
  pub encodes : (IsWord : List Bool → Type 0) → ((w : List Bool) → IsChecked (rows ++ check_columns checks) w → IsWord w)
      → (info : List Bool) → length info ≡ k → IsEncoding IsWord k info (systematic rows checks info)
  unfolding systematic
  encodes IsWord from info long = record {
    word_of_set = from (systematic rows checks info) (systematic_checked info (long ∙ sym code.rows_long));
    begins = ap (λ n. take n (info ++ bits_of checks (syndrome_of rows info))) (sym long) ∙ take-append_seam info (bits_of checks (syndrome_of rows info));
  }

  -- a word whose last bits are the sum of the rows passes
  pub sum_checked : (word : List Bool) → length word ≡ n
      → drop (length rows) word ≡ bits_of checks (syndrome_of rows (take (length rows) word)) → IsChecked (rows ++ check_columns checks) word
  unfolding systematic
  sum_checked word long e =
      let k = length rows in
      subst (IsChecked (rows ++ check_columns checks)) (cc (e, take-append-drop k word)) (systematic_checked (take k word) (length-take-le k word (omega (arith, letters))))

  -- and in a word that passes they are
  pub checked_sum : (word : List Bool) → IsChecked (rows ++ check_columns checks) word → drop (length rows) word ≡ bits_of checks (syndrome_of rows (take (length rows) word))
  unfolding systematic
  checked_sum word is =
      let info = take (length rows) word in
      cc (checked_systematic word is, (length-information word is), drop-append_seam info (bits_of checks (syndrome_of rows info)))

  -- no other word has the same information
  pub one_checked : (v w : List Bool) → IsChecked (rows ++ check_columns checks) v → IsChecked (rows ++ check_columns checks) w → take (length rows) v ≡ take (length rows) w → v ≡ w
  one_checked v w isv isw same = cc (checked_systematic v isv, same, checked_systematic w isw)

  -- a word that passes is that of zeros, or it is heavy
  heavy_checked : (word : List Bool) → IsChecked (rows ++ check_columns checks) word → (weight_of word ≡ 0) ⊎ (d ≤ weight_of word)
  unfolding is_heavy systematic
  heavy_checked word is =
      let info = take (length rows) word in
      let e = checked_systematic word is in
      elim (or_cases (eqb (weight_of info) 0) _ (all_bits-each info (is_heavy rows checks d) (cc ((length-information word is), code.heavy)))) [
        | inl zeros ↦
            let light = eqb-true (weight_of info) 0 zeros in
            inl (ap weight_of e ∙ weight_of-append info _
            ∙ ap₂ ◌+◌ light (ap (λ n. weight_of (bits_of checks n)) (syndrome_of-zeros rows info light) ∙ weight_of-bits_of checks))
        | inr far ↦ inr (rw e (leb-true d _ far))
      ]

  -- two different words differ in at least as many bits as the test says
  pub far_checked : (v w : List Bool) → IsChecked (rows ++ check_columns checks) v → IsChecked (rows ++ check_columns checks) w → v ≢ w → d ≤ distance_of v w
  far_checked v w isv isw differ =
      let long = isv.long ∙ sym isw.long in
      let columns = rows ++ check_columns checks in
      let weight = weight_of-sum_of_words v w long in
      elim (heavy_checked _ (record {
        long = length-sum_of_words v w long ∙ isv.long;
        passes = syndrome_of-sum_of_words columns v w ∙ change_of-is columns v w isv.long isw.long ∙ ap₂ bit_xor isv.passes isw.passes ∙ xor_self 0;
      })) [
        | inl none ↦ absurd (differ (same_from_distance_of v w long (sym weight ∙ none)))
        | inr far ↦ omega arith
      ]

  -- the laws of the code, in a set whose words are those that pass
  pub is_code : (IsWord : List Bool → Type 0) → ((w : List Bool) → IsWord w → IsChecked (rows ++ check_columns checks) w)
      → IsBlockCode beq IsWord n k (radius_of d) d
  is_code IsWord to = record {
    compares = bool_eq_equiv;
    alike = same_bit;
    long = λ word is. length_checked word (to word is);
    one_word = λ v w isv isw same. one_checked v w (to v isv) (to w isw) (subst (λ m. take m v ≡ take m w) (sym code.rows_long) same);
    far_apart = λ v w isv isw differ. far_checked v w (to v isv) (to w isw) differ;
    close = omega (arith, code.some);
    begins = code.begins;
  }
