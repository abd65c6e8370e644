-- Decoding of words as numbers: by the bit errors of the received word, and the result as bits.
use Rattle.std.proofs.Common.{◌≡◌, ℕ, ◌^◌, ◌<◌, ◌≤◌, Bool, List, length, Option, Some, None, bit_xor, refl, ap₂, sym, ◌∙◌, arith, mod-eq_of_lt, ◌/◌, ◌%◌, bit_or, ◌+◌, ◌-◌, ◌*◌}
use Rattle.std.proofs.{Math.Nat.{mul_comm}, lemmas.Nat.{mod_below, shr_below, pow-add, mul-add-lt, or_shifted, shl_whole, xor_lt, pow_pos, ones_le_self, zero_from_ones}}
use Rattle.std.specs.{Bool.{beq}, Int.Bits.{xor_self, xor_zero_r}, Int.RustNames.{count_ones}, Option.{MatchOption, option_map}}
use Rattle.p25_bits.specs.{Bits.{bits_of, field_of}, Distance.{distance_by, distance_of}}
use Rattle.p25_bits.proofs.{BitsLaws.{length-bits_of, bits_of-joined, bits_of-field_of, field_of-bits_of, field_of-lt}, DistanceLaws.{distance_of-bits_of}, DivisibleLaws.{same_from_xor}}
use Rattle.p25_code.specs.{declared.code.Reading.{Reading}, declared.code.Reading.TheVariants.{Found, Beyond}, Words.{IsReading}, Readings.{IsReadAs}}
use Rattle.p25_code.specs.{Binary.{IsChecked, systematic}, WrongBits.{number_sum, AreWrong, NoneWrong}, CodeLaws.{SystematicCode, columns_of, radius_of}}
use Rattle.p25_code.proofs.{ReadingLaws.{one_reading}, ParityLaws.{number_sum-xor, number_sum-zero}, WrongLaws.{twice, length-columns, number_sum-lt, number_sum-parts}}

module _ (columns : List ℕ) (radius received sum : ℕ) (fits : received < 2 ^ length columns) (sums : number_sum columns received ≡ sum) where
  -- the received bits without their bit errors are a word that passes, within the correction radius
  without_wrong : (wrong : ℕ) → AreWrong columns radius sum wrong
      → IsReadAs beq (IsChecked columns) radius (bits_of (length columns) received) (Some (bits_of (length columns) (bit_xor received wrong)))
  unfolding IsReadAs number_sum
  without_wrong wrong are =
      let n = length columns in
      let sent = bit_xor received wrong in
      record {
        word_of_set = record {
          long = length-bits_of n sent;
          passes = number_sum-xor columns received wrong ∙ ap₂ bit_xor sums are.sums ∙ xor_self sum;
        };
        within = rw (distance_of-bits_of n received sent fits (xor_lt n received wrong fits are.fits), twice received wrong) are.within;
      }

  -- if no bit errors are few enough, no word that passes is within the correction radius
  none_within : NoneWrong columns radius sum → IsReadAs beq (IsChecked columns) radius (bits_of (length columns) received) None
  unfolding IsReadAs number_sum
  none_within none = record { farther = farther }
    where
      farther : (word : List Bool) → IsChecked columns word → radius < distance_by beq (bits_of (length columns) received) word
      farther word is =
          let n = length columns in
          let number = field_of word in
          let small : number < 2 ^ n = rw is.long at (field_of-lt word) in
          let bits : bits_of n number ≡ word = rw is.long at (bits_of-field_of word) in
          rw (← bits, distance_of-bits_of) (none.farther (bit_xor received number) (xor_lt n received number fits small) (number_sum-xor columns received number ∙ ap₂ bit_xor sums (cc (bits, is.passes)) ∙ xor_zero_r sum))

-- a decoding depends on the set alone, not on its definition
read_as_same_set : (A B : List Bool → Type 0) (radius : ℕ) (received : List Bool) (answer : Option (List Bool)) → ((w : List Bool) → A w → B w) → ((w : List Bool) → B w → A w)
    → IsReadAs beq A radius received answer → IsReadAs beq B radius received answer
unfolding IsReadAs
read_as_same_set A B radius received (Some word) to from is = record { word_of_set = to word is.word_of_set; within = is.within }
read_as_same_set A B radius received None to from is = record { farther = λ w b. is.farther w (from w b) }

-- a sum of 0 is that of no bit errors
none_are_wrong : (columns : List ℕ) (radius : ℕ) → AreWrong columns radius 0 0
none_are_wrong columns radius = record { fits = pow_pos _; sums = number_sum-zero columns; within = omega (arith, ones_le_self 0) }

-- a 1 before a number of check bits
pub one_place : (places checks : ℕ) → places ≡ checks → checks ≤ 16 → 1 * 2 ^ places % 2 ^ 32 ≡ 2 ^ checks
one_place places checks same few =
    rw (same, shl_whole 1 1 checks 32 (omega arith) (omega arith)) (omega arith)

-- a word is its information and its check bits
bits_are : {n k d : ℕ} → SystematicCode n k d → k + (n - k) ≡ n
bits_are code = omega (arith, code.is.table.begins)

-- the information is before the check bits
pub information_fits : {n k d : ℕ} → SystematicCode n k d → (received places : ℕ) → places ≡ n - k → received < 2 ^ n → received / 2 ^ places < 2 ^ k
information_fits {n} {k} {d} code received places shift fits =
    rw shift (shr_below received k _ (rw (bits_are code) fits))

-- the columns are as many as a word has bits
length-columns_of : {n k d : ℕ} (code : SystematicCode n k d) → length (columns_of code) ≡ n
length-columns_of {n} {k} {d} code = rw (length-columns, code.is.table.rows_long) (bits_are code)

-- the decoding for the words of the columns is that of the code
read_as : {n k d : ℕ} (code : SystematicCode n k d) (bits : List Bool) (answer : Option (List Bool)) → length bits ≡ n
    → IsReadAs beq (IsChecked (columns_of code)) (radius_of d) bits answer → answer ≡ code.is.reading bits
read_as {n} {k} {d} code bits answer long is_read =
    one_reading code.is.laws bits answer (code.is.reading bits) long
    (read_as_same_set _ code.IsWord _ bits answer code.is.passing code.is.passes is_read)
    (code.is.reads bits)

-- a received number, and the check bits of its information
module _ {n k d : ℕ} (code : SystematicCode n k d) (received check places : ℕ) (fits : received < 2 ^ n) (shift : places ≡ n - k)
    (is : check ≡ number_sum code.rows (received / 2 ^ places)) where
  -- the sum of those and of the received check bits
  abbrev whole_sum : ℕ
  whole_sum = bit_xor check (received % (1 * 2 ^ places % 2 ^ 32))

  whole_sum_is : whole_sum ≡ bit_xor (number_sum code.rows (received / 2 ^ (n - k))) (received % 2 ^ (n - k))
  whole_sum_is = rw (is, shift, one_place _ _ refl code.is.table.few_checks) refl

  -- it is the sum of all
  sum_is : number_sum (columns_of code) received ≡ whole_sum
  sum_is = number_sum-parts code.rows _ received ∙ sym whole_sum_is

  fits_columns : received < 2 ^ length (columns_of code)
  fits_columns = rw (length-columns_of code) fits

  pub sum_fits : whole_sum < 2 ^ (n - k)
  sum_fits =
      rw whole_sum_is
      (xor_lt _ _ _
      (number_sum-lt _ code.rows _ code.is.table.fit) (mod_below received _ (pow_pos (n - k))))

  -- the decoding of a number is the decoding of its bits
  read_number_as : (answer : Option (List Bool)) → IsReadAs beq (IsChecked (columns_of code)) (radius_of d) (bits_of (length (columns_of code)) received) answer
      → answer ≡ code.is.reading (bits_of n received)
  read_number_as answer is_read =
      read_as code _ answer (length-bits_of n received)
      (rw (length-columns_of code) at is_read)

  -- the word without the bit errors
  pub read_without : (wrong : ℕ) → AreWrong (columns_of code) (radius_of d) whole_sum wrong
      → Some (bits_of n (bit_xor received wrong)) ≡ code.is.reading (bits_of n received)
  read_without wrong are =
      rw (length-columns_of code) at (read_number_as (Some (bits_of _ (bit_xor received wrong))) (without_wrong (columns_of code) _ received whole_sum fits_columns sum_is wrong are))

  pub without_fits : (wrong : ℕ) → AreWrong (columns_of code) (radius_of d) whole_sum wrong → bit_xor received wrong < 2 ^ n
  without_fits wrong are = xor_lt n received wrong fits (rw (length-columns_of code) at are.fits)

  -- a word whose check bits are those of its information decodes to itself
  pub read_clean : whole_sum ≡ 0 → Some (bits_of n received) ≡ code.is.reading (bits_of n received)
  read_clean none =
      rw (xor_zero_r received) at (read_without 0 (rw none (none_are_wrong (columns_of code) _)))

  -- if no bit errors are few enough there is no decoding
  pub read_none : NoneWrong (columns_of code) (radius_of d) whole_sum
      → (answer : Option ℕ) → answer ≡ None → option_map (bits_of n) answer ≡ code.is.reading (bits_of n received)
  read_none none answer e =
      rw e (read_number_as None (none_within (columns_of code) _ received whole_sum fits_columns sum_is none))

-- within the correction radius one list of bit errors makes a syndrome
pub one_wrong : {n k d : ℕ} (code : SystematicCode n k d) (syndrome a b : ℕ)
    → AreWrong (columns_of code) (radius_of d) syndrome a → AreWrong (columns_of code) (radius_of d) syndrome b → a ≡ b
one_wrong {n} {k} {d} code syndrome a b first second =
    let m = length (columns_of code) in
    let read : (wrong : ℕ) → AreWrong (columns_of code) (radius_of d) syndrome wrong → Some (bits_of m (bit_xor a wrong)) ≡ code.is.reading (bits_of m a)
    = λ wrong are. read_as code (bits_of m a) _ (length-bits_of m a ∙ length-columns_of code) (without_wrong (columns_of code) (radius_of d) a syndrome first.fits first.sums wrong are) in
    let same = read a first ∙ sym (read b second) in
    let bits : bits_of m (bit_xor a a) ≡ bits_of m (bit_xor a b) = cc in
    cc (twice a a, mod-eq_of_lt (xor_lt m a a first.fits first.fits), field_of-bits_of m (bit_xor a a), bits, field_of-bits_of m (bit_xor a b), mod-eq_of_lt (xor_lt m a b first.fits second.fits), twice a b)

-- as many bits change as the two numbers differ in
pub changed_bits : (received number : ℕ) (old new : List Bool) → received ≡ field_of old → number < 2 ^ length old → new ≡ bits_of (length old) number
    → (new ≡ bits_of (length old) number) × (Found (count_ones (bit_xor received number)) ≡ Found (distance_of old new))
changed_bits received number old new e small is =
    let n = length old in
    let bits : old ≡ bits_of n received = rw (e, bits_of-field_of old) refl in
    let ones = distance_of-bits_of n received number (rw e (field_of-lt old)) small in
    (is, cc)

-- no bits change if the numbers are equal
pub unchanged_bits : (received number : ℕ) (old : List Bool) → received ≡ field_of old → number < 2 ^ length old → count_ones (bit_xor received number) ≡ 0
    → (old ≡ bits_of (length old) number) × (Found (count_ones (bit_xor received number)) ≡ Found (distance_of old old))
unchanged_bits received number old e small none =
    changed_bits received number old old e small (rw (← (same_from_xor received number (zero_from_ones (bit_xor received number) none)), e, bits_of-field_of old) refl)

-- the bits that are stored for a decoding, or left if there is none, are the decoding of the received bits
pub reading_put : (IsWord : List Bool → Type 0) (radius n : ℕ) (old new : List Bool) (sent : Option ℕ) (reading : Reading) → IsReadAs beq IsWord radius old (option_map (bits_of n) sent)
    → MatchOption sent ((reading ≡ Beyond) × (new ≡ old)) (λ number. (new ≡ bits_of n number) × (reading ≡ Found (distance_of old new))) → IsReading beq IsWord radius old new reading
unfolding IsReadAs IsReading
reading_put IsWord radius n old new (Some number) reading is put =
    rw put.1 (record { word_of_set = rw put.0 is.word_of_set; fixes_is = refl; within = rw put.0 is.within })
reading_put IsWord radius n old new None reading is put = rw put.0 (record { unchanged = put.1; none_within = is })

-- the information and then its check bits, as a number
module _ {n k d : ℕ} (code : SystematicCode n k d) (info check word places : ℕ) (small : info < 2 ^ k) (sums : check ≡ number_sum code.rows info)
    (shift : places ≡ n - k) (joined : word ≡ bit_or (info * 2 ^ places % 2 ^ 32) check) where
  check_fits : check < 2 ^ (n - k)
  check_fits = rw sums (number_sum-lt _ code.rows info code.is.table.fit)

  word_is : word ≡ info * 2 ^ (n - k) + check
  word_is =
      rw (joined, shift, shl_whole info k (n - k) 32 small (omega (arith, bits_are code, code.is.table.few))) (or_shifted info (n - k) check check_fits)

  pub word_fits : word < 2 ^ n
  word_fits =
      rw (word_is, ← (rw (bits_are code) at (mul_comm _ _ ∙ sym (pow-add 2 k (n - k))))) (mul-add-lt info _ check _ small check_fits)

  -- its bits are the systematic word
  pub encodes_number : bits_of n word ≡ systematic code.rows (n - k) (bits_of k info)
  unfolding systematic number_sum
  encodes_number =
      rw (word_is, rw (bits_are code) at (bits_of-joined k _ info check check_fits), sums, code.is.table.rows_long) refl

-- the result of a reader by numbers, with the bits that it leaves, is the decoding of the bits
pub read_by_number : (IsWord : List Bool → Type 0) (radius n : ℕ) (reading_of : List Bool → Option (List Bool))
    → ((bits : List Bool) → IsReadAs beq IsWord radius bits (reading_of bits)) → (old new : List Bool) (received : ℕ)
    (sent : Option ℕ) (reading : Reading) → length old ≡ n → received ≡ field_of old → option_map (bits_of n) sent ≡ reading_of (bits_of n received)
    → MatchOption sent ((reading ≡ Beyond) × (new ≡ old)) (λ number. (new ≡ bits_of (length old) number) × (reading ≡ Found (distance_of old new))) → IsReading beq IsWord radius old new reading
read_by_number IsWord radius n reading_of reads old new received sent reading long e read put =
    let bits : bits_of n received ≡ old = rw (e, ← long) (bits_of-field_of old) in
    reading_put IsWord radius n old new sent reading (rw (read, bits) (reads old)) (rw long at put)

-- the codeword that an encoder by numbers writes is the encoding of the bits
pub encode_by_number : (encoding : List Bool → List Bool) (k n : ℕ) (info word : List Bool) (number made : ℕ)
    → length info ≡ k → number ≡ field_of info → bits_of n made ≡ encoding (bits_of k number) → word ≡ bits_of n made → word ≡ encoding info
encode_by_number encoding k n info word number made long e is whole = rw (whole, is, e, ← long, bits_of-field_of info) refl
