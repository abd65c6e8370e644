-- The inner words of a coded field, by recursion on the rows of its layout: if each row has its part, the words at all positions carry the groups of
-- symbols in order; and if they do, each row has its part.
use Rattle.std.proofs.Common.{◌≡◌, ℕ, suc, ◌+◌, ◌-◌, ◌*◌, ◌<◌, ◌≤◌, Bool, true, eqb, ◌&&◌, List, [], ◌∷◌, ◌++◌, length, get_or, All, refl, ap, sym, ◌∙◌, inl, inr, arith, length-append}
use Rattle.std.proofs.{Math.Nat.{mul-add}, lemmas.Bool.{and_parts, eqb-true, leb-true, cases_lt}, lemmas.List.{get_or_append_left}, Math.Seq.{get_or-append_right}, lemmas.List.Concat.{flat_map-cons}}
use Rattle.std.proofs.lemmas.List.Elements.{All-nil, All-cons}
use Rattle.p25_bits.specs.Bits.{bits_of, part}
use Rattle.p25_bits.proofs.{BitsLaws.{length-bits_of}, PartLaws.{length-part, part-part}, NumbersLaws.{joined_below-parts, joined_below-same}}
use Rattle.p25_hamming.specs.{Lsd16Laws.{lsd16_code}}
use Rattle.p25_gf64.specs.declared.symbol.Sym.{Sym}
use Rattle.p25_link.specs.Symbols.{symbol_bits}
use Rattle.p25_coded_fields.specs.Layouts.{field_bits}
use Rattle.p25_coded_fields.proofs.{SymbolsLaws.{room_at}, FieldLaws.{length-places_from, get_or-places_from, part-field_bits}}
use Rattle.p25_voice_units.specs.{declared.layout.Piece.{Piece}, declared.layout.Piece.TheVariants.{Words, Frame, LowSpeed, Nulls}, FieldLayouts.{words_at, word_places}}
use Rattle.p25_voice_units.specs.{Pieces.{piece_fits, piece_length}, Images.{Contents, piece_bits}, Places.{HasPiece}}
use Rattle.p25_voice_units.proofs.{CodesLaws.{lsd16_only}, RowsLaws.{IsCarried, rows_supplied}}

-- the number of inner words of a part
abbrev pub word_count : Piece → ℕ
word_count (Words first count) = count
word_count (Frame i) = 0
word_count (LowSpeed i) = 0
word_count (Nulls count) = 0

-- the inner words of a part begin with that of a number
abbrev pub begins_at : ℕ → Piece → Bool
begins_at n (Words first count) = eqb first n
begins_at n (Frame i) = true
begins_at n (LowSpeed i) = true
begins_at n (Nulls count) = true

-- the inner words of rows follow each other from a number on
abbrev pub rows_counted : ℕ → List (ℕ × Piece) → Bool
rows_counted n [] = true
rows_counted n (row ∷ rows) = begins_at n row.1 && rows_counted (n + word_count row.1) rows

word_places-cons : (size : ℕ) (row : ℕ × Piece) (rows : List (ℕ × Piece)) → word_places size (row ∷ rows) ≡ words_at size row.0 row.1 ++ word_places size rows
unfolding word_places
word_places-cons size row rows = flat_map-cons (λ row. words_at size row.0 row.1) row rows

word_places-nil : (size : ℕ) → word_places size [] ≡ []
unfolding word_places
word_places-nil size = refl

length-words_at : (size at : ℕ) (piece : Piece) → length (words_at size at piece) ≡ word_count piece
length-words_at size at (Words first count) = length-places_from at size count
length-words_at size at (Frame i) = refl
length-words_at size at (LowSpeed i) = refl
length-words_at size at (Nulls count) = refl

piece-words : (carried : Contents) (first count : ℕ) → piece_bits carried (Words first count)
    ≡ field_bits carried.encoding carried.each count (part (carried.each * first) (carried.each * count) carried.symbols)
unfolding piece_bits
piece-words carried first count = refl

-- a group of some symbols of all
group_of_part : (each first count n i : ℕ) (symbols : List Sym) → first ≡ n → i < count → part (each * i) each (part (each * first) (each * count) symbols) ≡ part (each * (n + i)) each symbols
group_of_part each first count n i symbols here inside =
    let place : each * first + each * i ≡ each * (n + i) = rw here (sym (mul-add each n i)) in
    rw place at (part-part (each * first) (each * count) (each * i) each symbols (room_at each i count (each * count) inside refl))

module _ {IsWord : List Bool → Type 0} {size k : ℕ} {carried : Contents} (carries : IsCarried IsWord size k carried) where
  -- the inner word that carries the group of a number
  unfoldable pub group_word : ℕ → List Bool
  group_word i = carried.encoding (symbol_bits (part (carried.each * i) carried.each carried.symbols))

  -- the words of a part that is there
  row_words : (at : ℕ) (piece : Piece) (n : ℕ) (bare : List Bool) → begins_at n piece ≡ true → piece_fits carried.each (length carried.symbols) (length carried.low) (length carried.voice) piece ≡ true
      → part at (piece_length size piece) bare ≡ piece_bits carried piece → (i : ℕ) → i < length (words_at size at piece) → part (get_or (words_at size at piece) i 0) size bare ≡ group_word (n + i)
  unfolding group_word
  row_words at (Words first count) n bare begins fits is i inside =
      let each = carried.each in
      let group = part (each * first) (each * count) carried.symbols in
      let low : i < count = rw (length-places_from at size count) at inside in
      let covers : each * count ≡ length group = sym (length-part (each * first) (each * count) carried.symbols (leb-true (each * first + each * count) (length carried.symbols) fits)) in
      rw (
        get_or-places_from at size count i 0 low,
        ← part-part at (size * count) (size * i) size bare (room_at size i count (size * count) low refl),
        is,
        piece-words carried first count,
        part-field_bits carries.long carried.encoding carries.encodes each count group carries.sixes covers i low,
        group_of_part each first count n i carried.symbols (eqb-true first n begins) low,
      ) refl
  row_words at (Frame j) n bare begins fits is i inside = absurd (omega (arith, inside))
  row_words at (LowSpeed j) n bare begins fits is i inside = absurd (omega (arith, inside))
  row_words at (Nulls count) n bare begins fits is i inside = absurd (omega (arith, inside))

  -- the words of rows that are there
  pub words_from_rows : (rows : List (ℕ × Piece)) (n : ℕ) (bare : List Bool)
      → rows_counted n rows ≡ true → rows_supplied carried.each (length carried.symbols) (length carried.low) (length carried.voice) rows ≡ true
      → All (λ row. part row.0 (piece_length size row.1) bare ≡ piece_bits carried row.1) rows
      → (i : ℕ) → i < length (word_places size rows) → part (get_or (word_places size rows) i 0) size bare ≡ group_word (n + i)
  words_from_rows [] n bare counted fit there i inside = absurd (omega (arith, inside, ap length (word_places-nil size)))
  words_from_rows (row ∷ rows) n bare counted fit there i inside =
      let here = words_at size row.0 row.1 in
      let others = word_places size rows in
      let counts = and_parts (begins_at n row.1) (rows_counted (n + word_count row.1) rows) counted in
      let fits = and_parts (piece_fits carried.each (length carried.symbols) (length carried.low) (length carried.voice) row.1) _ fit in
      let split = word_places-cons size row rows in
      let many = length-words_at size row.0 row.1 in
      elim (cases_lt i (length here)) [
        | inl below ↦
            rw (split, get_or_append_left here others 0 i below) (row_words row.0 row.1 n bare counts.0 fits.0 (there 0 row (omega arith)) i below)
        | inr above ↦
            let behind : i - length here < length others = omega (arith, inside, above, ap length split, length-append here others) in
            let number : n + word_count row.1 + (i - length here) ≡ n + i = omega (arith, above, many) in
            rw (split, get_or-append_right here others i 0 above, ← number)
            (words_from_rows rows (n + word_count row.1) bare counts.1 fits.1 (λ j d low. there (suc j) d (omega arith)) (i - length here) behind)
      ]

  -- a part is there if its words are, and its other contents
  piece_there : (at : ℕ) (piece : Piece) (n : ℕ) (bare : List Bool) → begins_at n piece ≡ true
      → ((i : ℕ) → i < length (words_at size at piece) → part (get_or (words_at size at piece) i 0) size bare ≡ group_word (n + i))
      → HasPiece carried.low carried.voice bare at piece → part at (piece_length size piece) bare ≡ piece_bits carried piece
  unfolding group_word field_bits piece_bits
  piece_there at (Words first count) n bare begins words has =
      let each = carried.each in
      sym (joined_below-parts at size count bare)
      ∙ joined_below-same count (λ i. part (at + size * i) size bare) (λ i. carried.encoding (symbol_bits (part (each * i) each (part (each * first) (each * count) carried.symbols))))
      (λ i low.
      rw (← get_or-places_from at size count i 0 low, group_of_part each first count n i carried.symbols (eqb-true first n begins) low)
      (words i (rw (length-places_from at size count) low)))
  piece_there at (Frame i) n bare begins words has = has
  piece_there at (LowSpeed i) n bare begins words has = lsd16_only (bits_of 8 (get_or carried.low i 0)) (part at 16 bare) (length-bits_of 8 (get_or carried.low i 0)) has
  piece_there at (Nulls count) n bare begins words has = has

  -- rows are there if their words are
  pub rows_from_words : (rows : List (ℕ × Piece)) (n : ℕ) (bare : List Bool) → rows_counted n rows ≡ true
      → ((i : ℕ) → i < length (word_places size rows) → part (get_or (word_places size rows) i 0) size bare ≡ group_word (n + i))
      → All (λ row. HasPiece carried.low carried.voice bare row.0 row.1) rows → All (λ row. part row.0 (piece_length size row.1) bare ≡ piece_bits carried row.1) rows
  rows_from_words [] n bare counted words has = All-nil (λ row. part row.0 (piece_length size row.1) bare ≡ piece_bits carried row.1)
  rows_from_words (row ∷ rows) n bare counted words has =
      let here = words_at size row.0 row.1 in
      let others = word_places size rows in
      let counts = and_parts (begins_at n row.1) (rows_counted (n + word_count row.1) rows) counted in
      let split = word_places-cons size row rows in
      let many = length-words_at size row.0 row.1 in
      let first
      = piece_there row.0 row.1 n bare counts.0
      (λ i below. rw (split, get_or_append_left here others 0 i below) at (words i (omega (arith, below, ap length split, length-append here others))))
      (has 0 row (omega arith)) in
      let next : (i : ℕ) → i < length others → part (get_or others i 0) size bare ≡ group_word (n + word_count row.1 + i)
      = λ i below.
      let above : length here ≤ length here + i = omega arith in
      let back : length here + i - length here ≡ i = omega arith in
      let number : n + (length here + i) ≡ n + word_count row.1 + i = omega (arith, many) in
      rw (split, get_or-append_right here others (length here + i) 0 above, back, number) at (words (length here + i) (omega (arith, below, ap length split, length-append here others))) in
      All-cons (λ other. part other.0 (piece_length size other.1) bare ≡ piece_bits carried other.1) row rows first
      (rows_from_words rows (n + word_count row.1) bare counts.1 next (λ j d low. has (suc j) d (omega arith)))

-- and then they have their other contents
piece_has : (carried : Contents) (size at : ℕ) (piece : Piece) (bare : List Bool) → part at (piece_length size piece) bare ≡ piece_bits carried piece → HasPiece carried.low carried.voice bare at piece
unfolding piece_bits
piece_has carried size at (Words first count) bare is = tt
piece_has carried size at (Frame i) bare is = is
piece_has carried size at (LowSpeed i) bare is =
    let octet = get_or carried.low i 0 in rw is (lsd16_code.is.encodes (bits_of 8 octet) (length-bits_of 8 octet))
piece_has carried size at (Nulls count) bare is = is

pub rows_have : (carried : Contents) (size : ℕ) (rows : List (ℕ × Piece)) (bare : List Bool) → All (λ row. part row.0 (piece_length size row.1) bare ≡ piece_bits carried row.1) rows
    → All (λ row. HasPiece carried.low carried.voice bare row.0 row.1) rows
rows_have carried size rows bare there i d inside = piece_has carried size (get_or rows i d).0 (get_or rows i d).1 bare (there i d inside)
