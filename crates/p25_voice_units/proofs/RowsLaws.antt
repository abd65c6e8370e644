-- Parts end to end, by recursion on the rows of a layout: joined they have each part at its position, and bits with each part at its position are the
-- parts joined.
use Rattle.std.proofs.Common.{◌≡◌, ℕ, suc, ◌+◌, ◌*◌, ◌≤◌, Bool, true, false, eqb, ◌&&◌, List, [], ◌∷◌, ◌++◌, length, take, drop, get_or, All, refl, ap, ap₂, sym, ◌∙◌, arith, append_assoc, length-append, take-append-drop}
use Rattle.std.proofs.{lemmas.Bool.{and_parts, eqb-true, leb-true, ltb-true}, lemmas.List.{drop_all, drop-drop, length-replicate}, lemmas.List.Concat.{flat_map-cons}}
use Rattle.std.proofs.lemmas.List.Elements.{All-nil, All-cons}
use Rattle.p25_bits.specs.Bits.{bits_of, octet_bits, part}
use Rattle.p25_bits.proofs.{BitsLaws.{length-bits_of}, NumbersLaws.{number_bits-octets, length-number_bits}, PartLaws.{length-part, part_joined}}
use Rattle.p25_hamming.specs.Lsd16Laws.{lsd16_code}
use Rattle.p25_code.specs.Words.{Encodes}
use Rattle.p25_coded_fields.proofs.FieldLaws.{length-field_bits}
use Rattle.p25_voice_units.specs.{declared.layout.Piece.{Piece}, declared.layout.Piece.TheVariants.{Words, Frame, LowSpeed, Nulls}, Pieces.{piece_fits, piece_length}, Sendable.{IsVoiceFrame}}
use Rattle.p25_hamming.specs.Lsd16.{lsd16_word}
use Rattle.p25_voice_units.specs.Images.{Contents, frame_at, piece_bits, rows_bits}

-- the number of bits of all rows together
abbrev pub rows_length : ℕ → List (ℕ × Piece) → ℕ
rows_length size [] = 0
rows_length size (row ∷ rows) = piece_length size row.1 + rows_length size rows

-- each row begins at the end of the one before, the first at a position
abbrev pub rows_stand : ℕ → ℕ → List (ℕ × Piece) → Bool
rows_stand size at [] = true
rows_stand size at (row ∷ rows) = eqb row.0 at && rows_stand size (at + piece_length size row.1) rows

-- the contents of the rows are there
abbrev pub rows_supplied : ℕ → ℕ → ℕ → ℕ → List (ℕ × Piece) → Bool
rows_supplied each symbols low frames [] = true
rows_supplied each symbols low frames (row ∷ rows) = piece_fits each symbols low frames row.1 && rows_supplied each symbols low frames rows

-- the contents suit the code of the inner words, and the frames are frames
pub record IsCarried (IsWord : List Bool → Type 0) (size k : ℕ) (carried : Contents) : Type 0 where
  pub encodes : Encodes IsWord k carried.encoding
  pub long : (word : List Bool) → IsWord word → length word ≡ size
  pub one_word : (v w : List Bool) → IsWord v → IsWord w → take k v ≡ take k w → v ≡ w
  pub sixes : 6 * carried.each ≡ k
  pub begins : k ≤ size
  pub frames : All IsVoiceFrame carried.voice

-- the bits of the first row, and those of the others
pub rows_bits-cons : (carried : Contents) (row : ℕ × Piece) (rows : List (ℕ × Piece)) → rows_bits carried (row ∷ rows) ≡ piece_bits carried row.1 ++ rows_bits carried rows
unfolding rows_bits
rows_bits-cons carried row rows = flat_map-cons (λ row. piece_bits carried row.1) row rows

pub rows_bits-nil : (carried : Contents) → rows_bits carried [] ≡ []
unfolding rows_bits
rows_bits-nil carried = refl

length-frame : (octets : List ℕ) → length octets ≡ 18 → length (octet_bits octets) ≡ 144
length-frame octets long = sym (ap length (number_bits-octets octets)) ∙ length-number_bits 8 octets ∙ ap (λ n. 8 * n) long

module _ {IsWord : List Bool → Type 0} {size k : ℕ} {carried : Contents} (carries : IsCarried IsWord size k carried) where
  -- a part has its bits
  pub length-piece_bits : (piece : Piece) → piece_fits carried.each (length carried.symbols) (length carried.low) (length carried.voice) piece ≡ true
      → length (piece_bits carried piece) ≡ piece_length size piece
  unfolding piece_bits
  length-piece_bits (Words first count) fits =
      let inside = leb-true (carried.each * first + carried.each * count) (length carried.symbols) fits in
      length-field_bits carries.long carried.encoding carries.encodes carried.each count (part (carried.each * first) (carried.each * count) carried.symbols) carries.sixes
      (sym (length-part (carried.each * first) (carried.each * count) carried.symbols inside))
  length-piece_bits (Frame i) fits = length-frame (frame_at carried.voice i).0 (carries.frames i _ (ltb-true i (length carried.voice) fits)).long
  length-piece_bits (LowSpeed i) fits =
      let octet = get_or carried.low i 0 in
      lsd16_code.is.laws.long (lsd16_word (bits_of 8 octet)) (lsd16_code.is.encodes (bits_of 8 octet) (length-bits_of 8 octet)).word_of_set
  length-piece_bits (Nulls count) fits = length-replicate count false

  pub length-rows_bits : (rows : List (ℕ × Piece)) → rows_supplied carried.each (length carried.symbols) (length carried.low) (length carried.voice) rows
      ≡ true → length (rows_bits carried rows) ≡ rows_length size rows
  length-rows_bits [] fit = ap length (rows_bits-nil carried)
  length-rows_bits (row ∷ rows) fit =
      let fits = and_parts (piece_fits carried.each (length carried.symbols) (length carried.low) (length carried.voice) row.1) _ fit in
      ap length (rows_bits-cons carried row rows)
      ∙ length-append (piece_bits carried row.1) (rows_bits carried rows)
      ∙ ap₂ ◌+◌ (length-piece_bits row.1 fits.0) (length-rows_bits rows fits.1)

  -- joined parts have each part at its position
  pub rows_parts : (rows : List (ℕ × Piece)) (at : ℕ) (before : List Bool) → length before ≡ at → rows_stand size at rows ≡ true
      → rows_supplied carried.each (length carried.symbols) (length carried.low) (length carried.voice) rows ≡ true
      → All (λ row. part row.0 (piece_length size row.1) (before ++ rows_bits carried rows) ≡ piece_bits carried row.1) rows
  rows_parts [] at before long stand fit = All-nil _
  rows_parts (row ∷ rows) at before long stand fit =
      let wide = piece_length size row.1 in
      let piece = piece_bits carried row.1 in
      let rest = rows_bits carried rows in
      let stands = and_parts (eqb row.0 at) (rows_stand size (at + wide) rows) stand in
      let fits = and_parts (piece_fits carried.each (length carried.symbols) (length carried.low) (length carried.voice) row.1) _ fit in
      let here = eqb-true row.0 at stands.0 in
      let cut = ap (λ xs. before ++ xs) (rows_bits-cons carried row rows) in
      let filled = length-piece_bits row.1 fits.0 in
      let first : part row.0 wide (before ++ rows_bits carried (row ∷ rows)) ≡ piece
      = ap₂ (λ n (xs : List Bool). part n wide xs) here cut ∙ part_joined at wide before piece rest long filled in
      let longer : length (before ++ piece) ≡ at + wide = length-append before piece ∙ ap₂ ◌+◌ long filled in
      let moved : before ++ rows_bits carried (row ∷ rows) ≡ (before ++ piece) ++ rest = cut ∙ sym (append_assoc before piece rest) in
      let others = rows_parts rows (at + wide) (before ++ piece) longer stands.1 fits.1 in
      All-cons (λ other. part other.0 (piece_length size other.1) (before ++ rows_bits carried (row ∷ rows)) ≡ piece_bits carried other.1) row rows first
      (λ i d inside. ap (λ (xs : List Bool). part (get_or rows i d).0 (piece_length size (get_or rows i d).1) xs) moved ∙ others i d inside)

-- bits with each part at its position are the parts joined
pub rows_only : (size : ℕ) (carried : Contents) (rows : List (ℕ × Piece)) (at : ℕ) (bare : List Bool) → rows_stand size at rows ≡ true → length bare ≡ at + rows_length size rows
    → All (λ row. part row.0 (piece_length size row.1) bare ≡ piece_bits carried row.1) rows → drop at bare ≡ rows_bits carried rows
rows_only size carried [] at bare stand long parts = drop_all at bare (omega (arith, long)) ∙ sym (rows_bits-nil carried)
rows_only size carried (row ∷ rows) at bare stand long parts =
    let wide = piece_length size row.1 in
    let stands = and_parts (eqb row.0 at) (rows_stand size (at + wide) rows) stand in
    let here = eqb-true row.0 at stands.0 in
    let first : part at wide bare ≡ piece_bits carried row.1 = ap (λ n. part n wide bare) (sym here) ∙ parts 0 row (omega arith) in
    let others : drop (at + wide) bare ≡ rows_bits carried rows
    = rows_only size carried rows (at + wide) bare stands.1 (omega (arith, long)) (λ i d inside. parts (suc i) d (omega arith)) in
    sym (take-append-drop wide (drop at bare))
    ∙ ap₂ (λ (xs ys : List Bool). xs ++ ys) first (drop-drop wide at bare ∙ others)
    ∙ sym (rows_bits-cons carried row rows)
