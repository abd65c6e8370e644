-- The decodings of a layout whose outer code is a Reed-Solomon code are those of its codes. A codeword near to the received word is its decoding, by
-- the laws of block codes and of lists with erasures. The result of the decoder of a field is the field's decoding.
use Rattle.std.proofs.Common.{◌≡◌, ℕ, ◌+◌, ◌-◌, ◌*◌, ◌≤◌, Bool, true, nat_le, List, [], ◌∷◌, length, take, Option, Some, None, All, option_map, refl, ap, sym, ◌∙◌, arith}
use Rattle.std.proofs.{lemmas.Bool.{leb-true, and_parts}, lemmas.Cmp.{on_equiv, nat_eq_equiv}, lemmas.List.{length-take-le}, lemmas.List.Elements.{All-nil, All-cons}}
use Rattle.std.specs.{Bool.{beq}, List.{list_all}}
use Rattle.p25_code.specs.{declared.code.Reading.{Reading}, declared.code.Reading.TheVariants.{Found, Beyond}, Readings.{IsReadAs, word_read}}
use Rattle.p25_code.specs.ErasedReadings.{IsErasedReadAs, IsWithinCost}
use Rattle.p25_code.proofs.{ReadingLaws.{IsBlockCode, read_as_sent}, ErasedLaws.{erased_read_as_sent}}
use Rattle.p25_gf64.specs.{declared.symbol.Sym.{Sym}, Symbol.{number}}
use Rattle.p25_gf64.proofs.SymbolLaws.{same_from_eq}
use Rattle.p25_reed_solomon.specs.{Words.{IsCode, IsWord, radius_of, same_symbols}, WordLaws.{begins_of, length_of_word_of, one_word_of, within_of, words_apart}}
use Rattle.p25_reed_solomon.specs.RsReadings.{erasures_within_of, rs_erased_reading_of, rs_erased_reads_as}
use Rattle.p25_coded_fields.specs.{Layouts.{Layout, field_layout, received_in, sent_in, outer_word_of, field_reading_of}, Within.{HasCodes, HasField, IsFieldNear}}
use Rattle.p25_coded_fields.proofs.WithinLaws.{field_reading_of-none, field_reading_of-some}

-- a Reed-Solomon code is a block code
pub rs_is_code : (n k : ℕ) → IsCode n k → IsBlockCode same_symbols (IsWord n k) n k (radius_of n k) (n - k + 1)
rs_is_code n k code = record {
  compares = on_equiv number nat_eq_equiv;
  alike = same_from_eq;
  long = length_of_word_of n k;
  one_word = one_word_of n k code;
  far_apart = words_apart n k code;
  close = within_of n k code;
  begins = begins_of n k code;
}

-- a layout of a binary code and a Reed-Solomon code
pub layout_codes : {IsInnerWord : List Bool → Type 0} {size k radius apart : ℕ} (inner : IsBlockCode beq IsInnerWord size k radius apart) (inner_reading : List Bool → Option (List Bool))
    → ((received : List Bool) → IsReadAs beq IsInnerWord radius received (inner_reading received)) → (places : List ℕ) (each n information : ℕ) → IsCode n information → each * length places ≡ n
    → HasCodes IsInnerWord radius (IsWord n information) (n - information) (field_layout places size each inner_reading (rs_erased_reading_of n information) information)
layout_codes inner inner_reading reads_as places each n information code covers = record {
  inner = λ received sent long is near. read_as_sent inner received sent (inner_reading received) long (reads_as received) is near;
  outer = λ list sent long is near.
      erased_read_as_sent (rs_is_code n information code) (erasures_within_of n information) list sent
      (rs_erased_reading_of n information list) (long ∙ covers) (rs_erased_reads_as n information list) is near;
}

-- a field was decoded
pub field_found : (layout : Layout) (bare : List Bool) (answer : Reading) (word : List Sym) (fixes : ℕ) → answer ≡ Found fixes → word_read answer word ≡ outer_word_of layout bare
    → field_reading_of layout bare ≡ Some (take layout.information word)
unfolding word_read
field_found layout bare answer word fixes found is = field_reading_of-some layout bare word (sym (rw found at is))

-- or it fails
pub field_beyond : (layout : Layout) (bare : List Bool) (answer : Reading) (word : List Sym) → answer ≡ Beyond → word_read answer word ≡ outer_word_of layout bare → field_reading_of layout bare ≡ None
unfolding word_read
field_beyond layout bare answer word beyond is = field_reading_of-none layout bare (sym (rw beyond at is))

-- the words at these positions are within the bits if a test finds them before an end that is
pub all_end : (size end len : ℕ) (places : List ℕ) → list_all (λ at. nat_le (at + size) end) places ≡ true → end ≤ len → All (λ at. at + size ≤ len) places
all_end size end len [] test fits = All-nil (λ at. at + size ≤ len)
all_end size end len (at ∷ places) test fits =
    let parts = and_parts (nat_le (at + size) end) (list_all (λ a. nat_le (a + size) end) places) test in
    let here = leb-true (at + size) end parts.0 in
    All-cons (λ a. a + size ≤ len) at places (omega arith) (all_end size end len places parts.1 fits)

module _ (places : List ℕ) (size each n information : ℕ) (inner_reading : List Bool → Option (List Bool)) where
  abbrev coded : Layout
  coded = field_layout places size each inner_reading (rs_erased_reading_of n information) information

  -- the decoded outer word costs no more than is allowed
  read_within : (received : List Bool) (word : List Sym) → outer_word_of coded received ≡ Some word
      → IsWithinCost same_symbols (IsWord n information) (n - information) (received_in coded received) word
  unfolding IsErasedReadAs outer_word_of
  read_within received word is = rw is at (rs_erased_reads_as n information (received_in coded received))

  -- and is a word of the outer code
  pub outer_word_found : (received : List Bool) (answer : Reading) (word : List Sym) (fixes : ℕ) → answer ≡ Found fixes
      → word_read answer word ≡ outer_word_of coded received → IsWord n information word
  unfolding word_read
  outer_word_found received answer word fixes found is = (read_within received word (sym (rw found at is))).word_of_set

  -- a field that was decoded has an outer word near to the received one, which begins with its information
  word_of_reading : (received : List Bool) (info : List Sym) → field_reading_of coded received ≡ Some info
      → (word : List Sym) × IsWithinCost same_symbols (IsWord n information) (n - information) (received_in coded received) word × (take information word ≡ info)
  unfolding field_reading_of
  word_of_reading received info = found _ refl
    where
      found : (answer : Option (List Sym)) → outer_word_of coded received ≡ answer → option_map (take information) answer ≡ Some info
          → (word : List Sym) × IsWithinCost same_symbols (IsWord n information) (n - information) (received_in coded received) word × (take information word ≡ info)
      found None is e = absurd (cc)
      found (Some word) is e = (word, read_within received word is, cc)

  module _ (code : IsCode n information) where
    -- received bits are near to any bits that carry the information to which they decode: their outer codeword is the decoded one, since it is the only one
    -- with this information
    pub near_from_reading : {IsInnerWord : List Bool → Type 0} (info : List Sym) (sent received : List Bool)
        → HasField IsInnerWord (IsWord n information) coded info sent → field_reading_of coded received ≡ Some info
        → IsFieldNear (n - information) coded sent received
    near_from_reading info sent received has read =
        let found = word_of_reading received info read in
        record { near = rw (one_word_of n information code (sent_in coded sent) found.0 has.outer found.1.word_of_set (has.begins ∙ sym found.2)) found.1.within }

    -- the decoded information has its length
    pub field_information : (received : List Bool) (symbols : List Sym) → field_reading_of coded received ≡ Some symbols → length symbols ≡ information
    field_information received symbols read =
        let found = word_of_reading received symbols read in
        cc (found.2, length-take-le information found.0 (omega (arith, code.shorter, length_of_word_of)))
