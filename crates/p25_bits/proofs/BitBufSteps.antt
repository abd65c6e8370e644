-- The steps that the calls of `BitBuf` need: the bits held are the first ones of its words. Each call on words states the first bits after it. So a list is cut
-- to its length at the end, and a bit at a position is a bit of its word.
use Rattle.std.proofs.Common.{◌≡◌, ℕ, zero, suc, ◌+◌, ◌-◌, ◌*◌, ◌/◌, ◌%◌, ◌^◌, ◌<◌, ◌≤◌, ◌≢◌, inl, inr, Bool, true, false, not, eqb, List, [], ◌∷◌, ◌++◌, length, take, drop, get_or, set, slice_get, Some, refl, ap, sym, ◌∙◌, arith, bit_and, bit_xor, mod-eq_of_lt, append_assoc, length-take, length-drop}
use Rattle.std.proofs.{Math.Seq.{take-add, take-append-add}, lemmas.Bool.{cases_lt}, lemmas.Nat.{shl_whole, shl-shr, shr_below, one_shl}}
use Rattle.std.proofs.lemmas.Nat.Bits.{bit_at_xor, bit_at-pow_same, bit_at-pow_other, bit_at-lt, shr_and_one}
use Rattle.std.proofs.lemmas.List.{take-take, drop-take, length-take-le, take-append-drop, take_all, take-set, drop-set, get_or-drop, get_or-take, get_or_append_left}
use Rattle.std.proofs.lemmas.Option.{slice_get-get_or}
use Rattle.std.specs.{Int.{bit_at}, Bool.{beq}, Int.RustNames.{count_ones}}
use Rattle.p25_bits.specs.{Bits.{digit_of, bits_of, field_of, part, flipped}, Distance.{distance_of}, Numbers.{number_bits}}
use Rattle.p25_bits.proofs.{PartLaws.{part-take, take-part}, DistanceLaws.{distance_by-append, ones-xor}, BitsLaws.{length-bits_of, bits_of-field_of, field_of-bits_of, take-bits_of, get_or-bits_of}}
use Rattle.p25_bits.proofs.NumbersLaws.{bits_of-field, number_bits-append, number_bits-cons, length-number_bits, drop-number_bits, number_bits-drop_more}

-- as many bits are held as the length says
pub length-held : (words : List ℕ) (len : ℕ) → len ≤ 64 * length words → length (take len (number_bits 64 words)) ≡ len
length-held words len fits = length-take-le len _ (omega (arith, length-number_bits))

-- if there is capacity for more bits after those held, the length stays within its bound
pub length-room : (words : List ℕ) (len more : ℕ) (held : List Bool) → len ≤ 64 * length words → take len (number_bits 64 words) ≡ held → length held + more ≤ 25928 → len + more ≤ 25928
length-room words len more held fits is room = omega (arith, length-held, ap length is)

-- as many more bits are held as were added
pub length-longer : (words changed : List ℕ) (len more : ℕ) (held : List Bool) → len ≤ 64 * length words → len + more ≤ 64 * length changed → take len (number_bits 64 words) ≡ held
    → length (take (len + more) (number_bits 64 changed)) ≡ length held + more
length-longer words changed len more held fits fit is = omega (arith, length-held, ap length is)

-- more bits after those held, of which only the first count
pub take_appended : (now : List Bool) (bits extra : List Bool) (len more most : ℕ)
    → length now ≡ len → take (len + most) bits ≡ now ++ extra → more ≤ most → take (len + more) bits ≡ now ++ take more extra
take_appended now bits extra len more most long appended fits =
    cc (take-take (len + more) (len + most) bits (omega arith), appended, long, take-append-add now extra more)

-- a bit moved to the top of a word is its first bit
top_bit : (bit : Bool) (digit : ℕ) → digit ≡ digit_of bit → take 1 (bits_of 64 (digit * 2 ^ 63 % 2 ^ 64)) ≡ bit ∷ []
unfolding bits_of
top_bit true digit is = simp is
top_bit false digit is = simp is

-- and it is the first of as many bits as the capacity allows
pub first_bit : (bit : Bool) (digit count : ℕ) → digit ≡ digit_of bit → 1 ≤ count → take 1 (take count (bits_of 64 (digit * 2 ^ 63 % 2 ^ 64))) ≡ bit ∷ []
first_bit bit digit count is some = take-take 1 count _ some ∙ top_bit bit digit is

-- a number moved to the top of a word is in its first bits
pub first_bits : (width value : ℕ) → width ≤ 64 → value < 2 ^ width → take width (bits_of 64 (value * 2 ^ (64 - width) % 2 ^ 64)) ≡ bits_of width value
first_bits width value few small =
    rw (shl_whole value width (64 - width) 64 small (omega arith)) (simp (take-bits_of, shl-shr))

-- the first bits of a word as a number
pub first-lt : (word width : ℕ) → width ≤ 64 → word < 2 ^ 64 → word / 2 ^ (64 - width) < 2 ^ width
first-lt word width few small =
    let whole : 64 ≡ width + (64 - width) = omega arith in
    shr_below word width _ (rw (← whole) small)

-- are the part that the word was read from
pub field_is : (now bits : List Bool) (at width len word : ℕ) → width ≤ 64
    → at + width ≤ len → word < 2 ^ 64 → bits_of 64 word ≡ part at 64 bits → take len bits ≡ now → word / 2 ^ (64 - width) ≡ field_of (part at width now)
field_is now bits at width len word few there small read held =
    cc (mod-eq_of_lt (first-lt word width few small), field_of-bits_of width _, take-bits_of width 64 word few, take-part at 64 width bits few, part-take at width len bits there)

-- a bit at an offset is one of the bits of its word
get_or-number_bits : (words : List ℕ) (i : ℕ) → i / 64 < length words → get_or (number_bits 64 words) i false ≡ eqb (bit_and (get_or words (i / 64) 0 / 2 ^ (63 - i % 64)) 1) 1
get_or-number_bits words i inside =
    let q = i / 64 in
    let r = i % 64 in
    let place : 64 * q + r ≡ i = omega arith in
    let there : q ≤ length words = omega arith in
    let low : r < length (bits_of 64 (get_or words q 0)) = omega (arith, length-bits_of) in
    let few : r < 64 = omega arith in
    ap (λ n. get_or (number_bits 64 words) n false) (sym place) ∙ rw (← get_or-drop, drop-number_bits, number_bits-drop_more, get_or_append_left, get_or-bits_of, ← shr_and_one)

-- so a bit that is held is
pub slice_get-held : (now : List Bool) (words : List ℕ) (len i : ℕ) → take len (number_bits 64 words) ≡ now → i < length now → i < len → i / 64 < length words
    → slice_get now i ≡ Some (eqb (bit_and (get_or words (i / 64) 0 / 2 ^ (63 - i % 64)) 1) 1)
slice_get-held now words len i held inside below there =
    slice_get-get_or now i false inside
    ∙ ap Some (rw (← held, get_or-take, get_or-number_bits))

-- Inverted bits.

-- the first bits, of which one is inverted
take-flipped : (n : ℕ) (bits : List Bool) (i : ℕ) → take n (flipped bits i) ≡ flipped (take n bits) i
take-flipped (suc n) (x ∷ bits) (suc i) = rw (take-flipped n bits i)
take-flipped n bits i = refl

-- a bit of the first of two lists
flipped_left : (xs ys : List Bool) (i : ℕ) → i < length xs → flipped xs i ++ ys ≡ flipped (xs ++ ys) i
flipped_left [] ys i h = absurd (omega arith)
flipped_left (x ∷ xs) ys zero h = refl
flipped_left (x ∷ xs) ys (suc i) h = rw (flipped_left xs ys i (omega arith))

-- a bit of the second
flipped_right : (xs ys : List Bool) (i : ℕ) → xs ++ flipped ys i ≡ flipped (xs ++ ys) (length xs + i)
flipped_right [] ys i = ap (flipped ys) (omega arith)
flipped_right (x ∷ xs) ys i = let e : suc (length xs + i) ≡ suc (length xs) + i = omega arith in cc (flipped_right xs ys i)

-- a bit of an exclusive or with a power of two that is not that power's
xor_other : (n k i : ℕ) → i ≢ k → bit_at (bit_xor n (2 ^ k)) i ≡ bit_at n i
xor_other n k i other =
    rw (bit_at_xor, bit_at-pow_other) (unchanged _ (bit_at-lt n i))
  where
    unchanged : (b : ℕ) → b < 2 → (b + 0) % 2 ≡ b
    unchanged b h = omega arith

-- and the one that is
xor_same : (n k : ℕ) → eqb (bit_at (bit_xor n (2 ^ k)) k) 1 ≡ not (eqb (bit_at n k) 1)
xor_same n k =
    rw (bit_at_xor, bit_at-pow_same, inverted _ (bit_at-lt n k))
  where
    inverted : (b : ℕ) → b < 2 → eqb ((b + 1) % 2) 1 ≡ not (eqb b 1)
    inverted (suc (suc b)) h = absurd (omega arith)
    inverted b h = refl

-- a bit above those that are looked at changes none of them
bits_of-xor_above : (width n k : ℕ) → width ≤ k → bits_of width (bit_xor n (2 ^ k)) ≡ bits_of width n
unfolding bits_of
bits_of-xor_above zero n k h = refl
bits_of-xor_above (suc width) n k h =
    rw (xor_other n k width (λ e. omega arith), bits_of-xor_above width n k (omega arith))

-- the exclusive or with a power of two inverts that bit
bits_of-xor : (width n k : ℕ) → k < width → bits_of width (bit_xor n (2 ^ k)) ≡ flipped (bits_of width n) (width - 1 - k)
unfolding bits_of
bits_of-xor zero n k h = absurd (omega arith)
bits_of-xor (suc width) n k h =
    elim (cases_lt k width) [
      | inl lower ↦
          let place : suc (width - 1 - k) ≡ suc width - 1 - k = omega arith in
          cc (xor_other n k width (λ e. omega arith), bits_of-xor width n k lower)
      | inr top ↦
          let here : k ≡ width = omega arith in
          let first : 0 ≡ suc width - 1 - k = omega arith in
          cc (xor_same n width, bits_of-xor_above width n k top)
    ]

-- inverting a bit of a word inverts that bit of the list
number_bits-flipped : (words : List ℕ) (i : ℕ) → i / 64 < length words → number_bits 64 (set words (i / 64) (bit_xor (get_or words (i / 64) 0) (2 ^ (63 - i % 64)))) ≡ flipped (number_bits 64 words) i
number_bits-flipped words i inside =
    let q = i / 64 in
    let r = i % 64 in
    let word = get_or words q 0 in
    let changed = bit_xor word (2 ^ (63 - r)) in
    let before = number_bits 64 (take q words) in
    let there : q ≤ length words = omega arith in
    let place : 64 * q + r ≡ i = omega arith in
    let long : length before ≡ 64 * q = simp (length-number_bits, length-take-le) in
    let low : r < length (bits_of 64 word) = omega (arith, length-bits_of 64 word) in
    let bit : 63 - r < 64 = omega arith in
    let from_front : 64 - 1 - (63 - r) ≡ r = omega arith in
    let whole : number_bits 64 words ≡ before ++ (bits_of 64 word ++ (number_bits 64 (drop (q + 1) words)))
    = ap (number_bits 64) (sym (take-append-drop q words)) ∙ simp (number_bits-append, number_bits-drop_more) in
    rw (← take-append-drop q (set words q changed), take-set words q changed, drop-set words q changed inside) (simp (
      number_bits-append,
      number_bits-cons,
      bits_of-xor,
      from_front,
      flipped_left,
      flipped_right,
      whole,
      long,
      place,
    ))

-- and of the bits that are held
pub held_flipped : (now : List Bool) (words : List ℕ) (len i : ℕ) → take len (number_bits 64 words) ≡ now → i / 64 < length words
    → take len (number_bits 64 (set words (i / 64) (bit_xor (get_or words (i / 64) 0) (1 * 2 ^ (63 - i % 64) % 2 ^ 64)))) ≡ flipped now i
held_flipped now words len i held inside =
    let within : 63 - i % 64 < 64 = omega arith in
    simp (one_shl, number_bits-flipped, take-flipped, held)

-- a bit that differs from a given bit is inverted
pub flipped-set : (bits : List Bool) (i : ℕ) (is wanted : Bool) → slice_get bits i ≡ Some is → not (beq is wanted) ≡ true → flipped bits i ≡ set bits i wanted
flipped-set [] i is wanted at differs = refl
flipped-set (x ∷ bits) zero is wanted at differs = let same : is ≡ x = cc in rw (other x wanted (rw same at differs))
  where
    other : (a b : Bool) → not (beq a b) ≡ true → not a ≡ b
    other true false h = refl
    other false true h = refl
    other a b h = cc
flipped-set (x ∷ bits) (suc i) is wanted at differs = rw (flipped-set bits i is wanted at differs)

-- a bit that equals a given bit stays
pub set-same : (bits : List Bool) (i : ℕ) (is wanted : Bool) → slice_get bits i ≡ Some is → not (beq is wanted) ≡ false → bits ≡ set bits i wanted
set-same [] i is wanted at same = refl
set-same (x ∷ bits) zero is wanted at same = let held : is ≡ x = cc in rw (alike x wanted (rw held at same))
  where
    alike : (a b : Bool) → not (beq a b) ≡ false → a ≡ b
    alike true false h = cc
    alike false true h = cc
    alike a b h = refl
set-same (x ∷ bits) (suc i) is wanted at same = cc (set-same bits i is wanted at same)

-- Longer runs of bits.

-- the next 64 bits of a slice are appended
pub extended_more : (start bits : List Bool) (k value count : ℕ) → 64 * k + 64 ≤ length bits → count ≡ 64 → value ≡ field_of (take count (drop (64 * k) bits))
    → (start ++ take (64 * k) bits) ++ bits_of 64 value ≡ start ++ take (64 * (k + 1)) bits
extended_more start bits k value count there all is =
    let more : 64 * k + 64 ≡ 64 * (k + 1) = omega arith in
    rw (append_assoc, is, all, bits_of-field, ← take-add, more)

-- and so are those that are left
pub extended_all : (start bits rest : List Bool) (k width value : ℕ)
    → rest ≡ drop (64 * k) bits → width ≡ length rest → value ≡ field_of rest → (start ++ take (64 * k) bits) ++ bits_of width value ≡ start ++ bits
extended_all start bits rest k width value left long is =
    simp (append_assoc, long, is, bits_of-field_of, left, take-append-drop)

-- bits that were moved to the beginning are those from `n` on
pub drop_moved : (now bits moved : List Bool) (n len count : ℕ) → n ≤ len → len - n ≤ count → take count moved ≡ part n count bits → take len bits ≡ now → take (len - n) moved ≡ drop n now
drop_moved now bits moved n len count inside enough front held =
    let split : n + (len - n) ≡ len = omega arith in
    sym (take-take _ count moved enough) ∙ rw (front, take-part, ← drop-take, split, held)

-- the bits of whole words and those of the last one, compared
pub distance_held : (a b bits_a bits_b : List Bool) (len m n : ℕ) → take len bits_a ≡ a → take len bits_b ≡ b → length a ≡ len → length b ≡ len → m ≡ field_of (part (64 * (len / 64)) (len % 64) a)
    → n ≡ field_of (part (64 * (len / 64)) (len % 64) b) → distance_of (take (64 * (len / 64)) bits_a) (take (64 * (len / 64)) bits_b) + count_ones (bit_xor m n) ≡ distance_of a b
distance_held a b bits_a bits_b len m n held_a held_b long_a long_b is_m is_n =
    let words = 64 * (len / 64) in
    let front : (xs bits : List Bool) → take len bits ≡ xs → take words bits ≡ take words xs = λ xs bits held. cc (take-take words len bits (omega arith), held) in
    let rest : (xs : List Bool) → length xs ≡ len → part words (len % 64) xs ≡ drop words xs = λ xs long. take_all (len % 64) (drop words xs) (omega (arith, length-drop words xs)) in
    cc (
      front a bits_a held_a,
      front b bits_b held_b,
      is_m,
      rest a long_a,
      is_n,
      rest b long_b,
      ones-xor (drop words a) (drop words b) (omega (arith, length-drop words a, length-drop words b)),
      distance_by-append beq (take words a) (drop words a) (take words b) (drop words b) (omega (arith, length-take words a, length-take words b)),
      take-append-drop words a,
      take-append-drop words b,
    )
