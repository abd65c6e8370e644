-- A data unit's bits by its positions: bits have its layout and carry its coded field if and only if they are sync and NID and the parts of its rows.
-- One way goes from the words of the field to the parts and then to the whole, the other way back.
use Rattle.std.proofs.Common.{◌≡◌, ◌↔◌, ℕ, ◌+◌, ◌*◌, ◌<◌, ◌≤◌, Bool, true, List, ◌++◌, length, take, get_or, All, ap, ap₂, sym, subst, ◌∙◌, arith, length-append, take-append-drop, Option, Some}
use Rattle.std.proofs.{lemmas.Bool.{leb-true}, lemmas.List.Sums.{AllPass-from_list_all}, lemmas.List.{get_or_default, take_at}}
use Rattle.std.specs.{List.{list_all}, Prelude.{nat_le}}
use Rattle.p25_bits.specs.Bits.{part}
use Rattle.p25_bits.proofs.NumbersLaws.{joined_below-same}
use Rattle.p25_code.specs.Words.{IsEncoding}
use Rattle.p25_gf64.specs.declared.symbol.Sym.{Sym}
use Rattle.p25_link.specs.Symbols.{symbol_bits}
use Rattle.p25_reed_solomon.specs.{Encoding.{rs_word}, RsReadings.{rs_erased_reading_of}, Words.{IsCode, IsWord as IsOuterWord}}
use Rattle.p25_reed_solomon.proofs.EncodingLaws.{IsEncoding-rs_word, rs_word-only}
use Rattle.p25_unit_front.specs.Front.{unit_front, IsFront}
use Rattle.p25_unit_front.proofs.FrontLaws.{length-unit_front, IsFront-unit_front, unit_front-only}
use Rattle.p25_coded_fields.specs.{Fixes.{inner_bits}, Layouts.{Layout, field_bits, field_layout, sent_in}, Within.{HasField}}
use Rattle.p25_coded_fields.proofs.FieldLaws.{field_there, field_word, field_word_there, flat_map_places}
use Rattle.p25_voice_units.specs.{declared.layout.Piece.{Piece}, FieldLayouts.{word_places}, Pieces.{piece_length}, Images.{Contents, piece_bits, rows_bits}, Places.{IsLaidOut}}
use Rattle.p25_voice_units.specs.Lengths.{voice_length_of}
use Rattle.p25_voice_units.proofs.{LengthsLaws.{one_length}, RowsLaws.{IsCarried, rows_length, rows_stand, rows_supplied, length-rows_bits, rows_parts, rows_only}}
use Rattle.p25_voice_units.proofs.FieldRowsLaws.{rows_counted, group_word, words_from_rows, rows_from_words, rows_have}

-- rows that suit the contents: they follow sync and NID end to end, and number the inner words in order. These are as many as the symbols need, and are within the data unit
pub record AreRows (size count : ℕ) (carried : Contents) (rows : List (ℕ × Piece)) : Type 0 where
  pub stand : rows_stand size 112 rows ≡ true
  pub fit : rows_supplied carried.each (length carried.symbols) (length carried.low) (length carried.voice) rows ≡ true
  pub counted : rows_counted 0 rows ≡ true
  pub fill : count ≡ 112 + rows_length size rows
  pub cover : carried.each * length (word_places size rows) ≡ length carried.symbols
  pub inside : list_all (λ at. nat_le (at + size) count) (word_places size rows) ≡ true

module _ {IsWord : List Bool → Type 0} {size k : ℕ} {carried : Contents}
    (carries : IsCarried IsWord size k carried) {count : ℕ} {table : List (ℕ × Piece)} (are : AreRows size count carried table) where
  -- the bits of a data unit are as many as its layout has
  pub length-unit : (nac duid : ℕ) → length (unit_front nac duid ++ rows_bits carried table) ≡ count
  length-unit nac duid =
      length-append (unit_front nac duid) (rows_bits carried table) ∙ ap₂ ◌+◌ (length-unit_front nac duid) (length-rows_bits carries table are.fit) ∙ sym are.fill

  -- and have each part at its position
  pub unit_parts : (nac duid : ℕ) (bare : List Bool) → bare ≡ unit_front nac duid ++ rows_bits carried table → All (λ row. part row.0 (piece_length size row.1) bare ≡ piece_bits carried row.1) table
  unit_parts nac duid bare is =
      subst (λ (xs : List Bool). All (λ row. part row.0 (piece_length size row.1) xs ≡ piece_bits carried row.1) table) (sym is)
      (rows_parts carries table 112 (unit_front nac duid) (length-unit_front nac duid) are.stand are.fit)

  -- so they are laid out
  pub laid_out : (nac duid : ℕ) (bare : List Bool) → voice_length_of duid ≡ Some count → bare ≡ unit_front nac duid ++ rows_bits carried table → IsLaidOut nac duid table carried.low carried.voice bare
  laid_out nac duid bare known is = record {
    long = known ∙ ap Some (sym (ap length is ∙ length-unit nac duid));
    front = subst (λ (xs : List Bool). IsFront nac duid xs)
        (sym (ap (take 112) is ∙ take_at (unit_front nac duid) (rows_bits carried table) 112 (length-unit_front nac duid))) (IsFront-unit_front nac duid);
    pieces = rows_have carried size table bare (unit_parts nac duid bare is);
  }

  -- bits that are laid out and have their words are the data unit's
  pub laid_out-only : (nac duid : ℕ) (bare : List Bool) → voice_length_of duid ≡ Some count → IsLaidOut nac duid table carried.low carried.voice bare
      → ((i : ℕ) → i < length (word_places size table) → part (get_or (word_places size table) i 0) size bare ≡ group_word carries (0 + i)) → bare ≡ unit_front nac duid ++ rows_bits carried table
  laid_out-only nac duid bare known is words =
      sym (take-append-drop 112 bare)
      ∙ ap₂ (λ (xs ys : List Bool). xs ++ ys) (unit_front-only nac duid (take 112 bare) is.front)
      (rows_only size carried table 112 bare are.stand (one_length duid known is.long ∙ are.fill) (rows_from_words carries table 0 bare are.counted words is.pieces))

  -- its inner words are those of its symbols
  pub words_in_unit : (nac duid : ℕ) (bare : List Bool) → bare ≡ unit_front nac duid ++ rows_bits carried table
      → inner_bits size (word_places size table) bare ≡ field_bits carried.encoding carried.each (length (word_places size table)) carried.symbols
  unfolding inner_bits field_bits group_word
  words_in_unit nac duid bare is =
      let places = word_places size table in
      let run : ℕ → List Bool = λ at. part at size bare in
      let word : ℕ → List Bool = λ i. carried.encoding (symbol_bits (part (carried.each * i) carried.each carried.symbols)) in
      flat_map_places run places 0
      ∙ joined_below-same (length places) (λ i. run (get_or places i 0)) word
      (λ i inside. let none : 0 + i ≡ i = omega arith in rw none at (words_from_rows carries table 0 bare are.counted are.fit (unit_parts nac duid bare is) i inside))

  within : (bare : List Bool) → length bare ≡ count → All (λ at. at + size ≤ length bare) (word_places size table)
  within bare long i d inside =
      rw long (leb-true _ count (AllPass-from_list_all (λ at. nat_le (at + size) count) (word_places size table) are.inside i d inside))

  -- the inner word of a group carries it
  group_encoded : (i : ℕ) → i < length (word_places size table) → IsEncoding IsWord k (symbol_bits (part (carried.each * i) carried.each carried.symbols)) (group_word carries (0 + i))
  unfolding group_word
  group_encoded i inside =
      let none : 0 + i ≡ i = omega arith in
      rw none
      (field_word carries.long carried.encoding carries.encodes carried.each (length (word_places size table)) carried.symbols carries.sixes are.cover i inside)

  -- if the symbols are the outer word of some information
  module _ (n information : ℕ) (code : IsCode n information) (info : List Sym)
      (long : length info ≡ information) (made : carried.symbols ≡ rs_word n information info) (inner_reading : List Bool → Option (List Bool)) where
    abbrev coded : Layout
    coded = field_layout (word_places size table) size carried.each inner_reading (rs_erased_reading_of n information) information

    -- the data unit carries its field
    field_carried : (nac duid : ℕ) (bare : List Bool) → bare ≡ unit_front nac duid ++ rows_bits carried table → HasField IsWord (IsOuterWord n information) coded info bare
    field_carried nac duid bare is =
        let outer : IsEncoding (IsOuterWord n information) information info carried.symbols = rw made (IsEncoding-rs_word n information info code long) in
        let words = words_from_rows carries table 0 bare are.counted are.fit (unit_parts nac duid bare is) in
        rw outer.begins at
        (field_there {IsInnerWord = IsWord} {IsOuterWord = IsOuterWord n information} coded k carried.symbols bare carries.sixes carries.begins are.cover (within bare (ap length is ∙ length-unit nac duid)) outer.word_of_set
        (λ i d inside. rw (get_or_default (word_places size table) i d 0 inside, words i inside) (group_encoded i inside)))

    -- bits that carry the field have its words
    words_carried : (bare : List Bool) → length bare ≡ count → HasField IsWord (IsOuterWord n information) coded info bare
        → (i : ℕ) → i < length (word_places size table) → part (get_or (word_places size table) i 0) size bare ≡ group_word carries (0 + i)
    words_carried bare filled has i inside =
        let sent = rs_word-only n information info (sent_in coded bare) code long (record { word_of_set = has.outer; begins = has.begins }) ∙ sym made in
        let there = field_word_there coded k info bare carries.sixes carries.begins (within bare filled) has i inside in
        let encoded = group_encoded i inside in
        carries.one_word (part (get_or (word_places size table) i 0) size bare) (group_word carries (0 + i)) there.word_of_set encoded.word_of_set
        (rw (there.begins, sent) (sym encoded.begins))

    -- so bits are laid out and carry the field exactly if they are those of the data unit
    pub unit_form : (nac duid : ℕ) (bare : List Bool) → voice_length_of duid ≡ Some count
        → (IsLaidOut nac duid table carried.low carried.voice bare × HasField IsWord (IsOuterWord n information) coded info bare)
        ↔ (bare ≡ unit_front nac duid ++ rows_bits carried table)
    unit_form nac duid bare known = (
      λ (laid, has). laid_out-only nac duid bare known laid (words_carried bare (one_length duid known laid.long) has),
      λ is. (laid_out nac duid bare known is, field_carried nac duid bare is),
    )
