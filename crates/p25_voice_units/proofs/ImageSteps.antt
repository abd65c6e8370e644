-- The steps of the encoder of voice data units: a part by its case, the octets of a voice frame, and one more part after the others.
use Rattle.std.proofs.Common.{◌≡◌, ℕ, zero, suc, append-nil, append_assoc, ◌+◌, ◌*◌, ◌<◌, ◌≤◌, Bool, true, false, List, [], ◌++◌, length, take, drop, get_or, replicate, refl, sym, length-drop, take-append-drop, arith}
use Rattle.std.proofs.{lemmas.Bool.{leb-true}, lemmas.Nat.Bits.{bit_at-zero}, lemmas.List.{drop-drop, flat_map_more, take_all, take_more}}
use Rattle.p25_bits.specs.{Bits.{bits_of, octet_bits}, Numbers.{number_bits}}
use Rattle.p25_bits.proofs.{BitsLaws.{octet_bits-append}, NumbersLaws.{number_bits-octets}}
use Rattle.p25_voice_units.specs.{declared.layout.Piece.{Piece}, declared.layout.Piece.TheVariants.{Words}, Pieces.{piece_fits}, Images.{Contents, piece_bits, rows_bits}}

-- there are the symbols of some inner words
pub words_fit : (each symbols low frames : ℕ) (piece : Piece) (first count : ℕ) → piece ≡ Words first count → piece_fits each symbols low frames piece ≡ true → each * first + each * count ≤ symbols
words_fit each symbols low frames piece first count is fits = leb-true _ _ (rw is at fits)

-- nulls are the bits of 0
pub bits_of-nulls : (count : ℕ) → bits_of count 0 ≡ replicate count false
unfolding bits_of
bits_of-nulls zero = refl
bits_of-nulls (suc count) = rw (bit_at-zero count, bits_of-nulls count) refl

-- the eighteen octets of a voice frame: eight, eight more, and the last two
pub frame_in_three : (out : List Bool) (octets : List ℕ) → length octets ≡ 18
    → ((out ++ octet_bits (take 8 octets)) ++ octet_bits (take 8 (take 10 (drop 8 octets)))) ++ number_bits 8 (take 2 (drop 16 octets)) ≡ out ++ octet_bits octets
frame_in_three out octets long =
    let rest = drop 8 octets in
    let ten : length rest ≤ 10 = omega (arith, length-drop 8 octets) in
    let two : length (drop 16 octets) ≤ 2 = omega (arith, length-drop 16 octets) in
    rw (
      take_all 10 rest ten,
      take_all 2 (drop 16 octets) two,
      ← drop-drop 8 8 octets,
      number_bits-octets (drop 8 rest),
      append_assoc (out ++ octet_bits (take 8 octets)) (octet_bits (take 8 rest)) (octet_bits (drop 8 rest)),
      ← octet_bits-append (take 8 rest) (drop 8 rest),
      take-append-drop 8 rest,
      append_assoc out (octet_bits (take 8 octets)) (octet_bits rest),
      ← octet_bits-append (take 8 octets) rest,
      take-append-drop 8 octets,
    ) refl

-- no row is written yet
pub rows_none : (carried : Contents) (out : List Bool) → out ≡ out ++ rows_bits carried []
unfolding rows_bits
rows_none carried out = sym (append-nil out)

-- one more row
pub rows_more : (carried : Contents) (rows : List (ℕ × Piece)) (i : ℕ) (d : ℕ × Piece) (start out new : List Bool)
    → i < length rows → out ≡ start ++ rows_bits carried (take i rows) → new ≡ out ++ piece_bits carried (get_or rows i d).1
    → new ≡ start ++ rows_bits carried (take (i + 1) rows)
unfolding rows_bits
rows_more carried rows i d start out new inside so_far is =
    rw (is, so_far, take_more rows i d inside) (flat_map_more (λ row. piece_bits carried row.1) start (take i rows) (get_or rows i d))
