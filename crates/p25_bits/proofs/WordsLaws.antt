-- The laws that the calls on words need. The shifts of one word are parts of its bits, by the laws of `bits_of` at the sum that each shift is. A list of words
-- is the words before a position, the word at it, and those after it.
use Rattle.std.proofs.Common.{◌≡◌, ℕ, ◌+◌, ◌-◌, ◌*◌, ◌/◌, ◌%◌, ◌^◌, ◌<◌, ◌≤◌, Bool, List, ◌++◌, length, take, drop, get_or, set, ap, ap₂, sym, subst, ◌∙◌, arith, bit_and, bit_or, bit_xor, append_assoc, length-append, length-drop, pow-add}
use Rattle.std.proofs.{Math.Nat.{mul_assoc}, Math.Seq.{take-add, take-append-add}}
use Rattle.std.proofs.{lemmas.Nat.{or_shifted, shl_below, shr_below, shr-shr, shr_split, shl-shr, mod_low, mul-mod_first, mod_below, pow_pos}, lemmas.Nat.Bits.{ones_shl, and_high_mask}}
use Rattle.std.proofs.{lemmas.List.{drop-append-le, take-append-le, take_all, take-set, drop-set-lt, get_or-set_same, length-set, take-append-drop, length-take-le}, lemmas.Grind.{drop_more_same}}
use Rattle.std.specs.{Int.RustNames.{count_ones}}
use Rattle.p25_bits.specs.{Bits.{bits_of, part}, Distance.{distance_of}, Numbers.{number_bits}}
use Rattle.p25_bits.proofs.{DistanceLaws.{distance_by-append, distance_of-bits_of}, PartLaws.{part-drop, part_left, part_add}}
use Rattle.p25_bits.proofs.BitsLaws.{length-bits_of, bits_of-joined, bits_of-mod, take-bits_of, drop-bits_of}
use Rattle.p25_bits.proofs.NumbersLaws.{length-number_bits, take-number_bits, drop-number_bits, number_bits-drop_more}

-- One word.

-- a shift to the left drops the high bits
shl_mod : (word j k : ℕ) → (word * 2 ^ k) % 2 ^ (j + k) ≡ (word % 2 ^ j) * 2 ^ k
shl_mod word j k =
    ap (λ n. (n * 2 ^ k) % 2 ^ (j + k)) (sym (shr_split word j))
    ∙ ap (λ n. n % 2 ^ (j + k)) (omega (arith, ap (λ n. word / 2 ^ j * n) (sym (pow-add 2 j k))))
    ∙ mod_low (word / 2 ^ j) _ _ (shl_below (word % 2 ^ j) j k (mod_below word _ (pow_pos j)))

-- two shifts to the right are one
shr_two : (word at : ℕ) → at < 64 → word / 2 / 2 ^ (63 - at) ≡ word / 2 ^ (64 - at)
shr_two word at inside =
    shr-shr word 1 _ ∙ ap (λ n. word / 2 ^ n) (omega arith)

-- the 64 bits from an offset on in two words
pub across_is : (high low at : ℕ) → at < 64 → low < 2 ^ 64 → bits_of 64 (bit_or (high * 2 ^ at % 2 ^ 64) (low / 2 / 2 ^ (63 - at))) ≡ part at 64 (bits_of 64 high ++ bits_of 64 low)
across_is high low at inside small =
    let left : 64 - at + at ≡ 64 = omega arith in
    let right : at + (64 - at) ≡ 64 = omega arith in
    let within : at ≤ 64 = omega arith in
    let kept = drop at (bits_of 64 high) in
    let long : 64 ≡ length kept + at = omega (arith, length-drop at (bits_of 64 high), length-bits_of) in
    let below = shr_below low at (64 - at) (rw right small) in
    cc (
      shl_mod high _ at,
      shr_two low at inside,
      or_shifted _ at (low / 2 ^ (64 - at)) below,
      bits_of-joined (64 - at) at (high % 2 ^ (64 - at)) _ below,
      bits_of-mod _ high,
      drop-bits_of at 64 high within,
      take-bits_of at 64 low within,
      take-append-add kept (bits_of 64 low) at,
      drop-append-le at (bits_of 64 high) _ (omega (arith, length-bits_of)),
    )

-- the first bits of a word and then those of another
pub beginning_is : (word at next : ℕ) → at < 64 → word < 2 ^ 64 → next < 2 ^ 64
    → bits_of 64 (bit_or (bit_and word ((2 ^ 64 - 1) * 2 % 2 ^ 64 * 2 ^ (63 - at) % 2 ^ 64)) (next / 2 ^ at)) ≡ take at (bits_of 64 word) ++ take (64 - at) (bits_of 64 next)
beginning_is word at next inside small small_next =
    let left : 64 - at + at ≡ 64 = omega arith in
    let right : at + (64 - at) ≡ 64 = omega arith in
    let rest : 64 - at ≤ 64 = omega arith in
    let back : 64 - (64 - at) ≡ at = omega arith in
    let next_power : 1 + (63 - at) ≡ 64 - at = omega arith in
    let high = word / 2 ^ (64 - at) in
    let below = shr_below next _ at (subst (λ n. next < 2 ^ n) (sym left) small_next) in
    let mask : (2 ^ 64 - 1) * 2 % 2 ^ 64 * 2 ^ (63 - at) % 2 ^ 64 ≡ 2 ^ 64 - 2 ^ (64 - at)
    = cc (mul-mod_first _ _ _, mul_assoc _ 2 _, pow-add 2 1 _, ones_shl 64 _ rest) in
    cc (and_high_mask 64 _ rest word small, or_shifted high _ _ below, bits_of-joined at (64 - at) high _ below, take-bits_of at 64 word (omega arith), take-bits_of _ 64 next rest)

-- the last bits of a word, moved to its beginning
pub ending_is : (word count : ℕ) → count < 64 → take count (bits_of 64 (word * 2 % 2 ^ 64 * 2 ^ (63 - count) % 2 ^ 64)) ≡ drop (64 - count) (bits_of 64 word)
ending_is word count inside =
    let right : count + (64 - count) ≡ 64 = omega arith in
    let within : count ≤ 64 = omega arith in
    let rest : 64 - count ≤ 64 = omega arith in
    let back : 64 - (64 - count) ≡ count = omega arith in
    let next_power : 1 + (63 - count) ≡ 64 - count = omega arith in
    let shifted : word * 2 % 2 ^ 64 * 2 ^ (63 - count) % 2 ^ 64 ≡ word % 2 ^ count * 2 ^ (64 - count)
    = cc (mul-mod_first _ _ _, mul_assoc word 2 _, pow-add 2 1 _, shl_mod word count _) in
    simp (shifted, take-bits_of, shl-shr, bits_of-mod, back, drop-bits_of)

-- A list of words.

-- an offset by its word and the offset within the word
place_of : (at : ℕ) → 64 * (at / 64) + at % 64 ≡ at
place_of at = omega arith

-- the 64 bits from an offset on are in two words
pub part_window : (words : List ℕ) (at : ℕ) → at / 64 + 1 < length words
    → part at 64 (number_bits 64 words) ≡ part (at % 64) 64 (bits_of 64 (get_or words (at / 64) 0) ++ bits_of 64 (get_or words (at / 64 + 1) 0))
part_window words at inside =
    let q = at / 64 in
    let first = bits_of 64 (get_or words q 0) in
    let second = bits_of 64 (get_or words (q + 1) 0) in
    let here : q < length words = omega arith in
    let there : q ≤ length words = omega arith in
    let both : at % 64 + 64 ≤ length (first ++ second) = omega (arith, length-append first second, length-bits_of) in
    ap (λ n. part n 64 (number_bits 64 words)) (sym (place_of at)) ∙ rw (← part-drop, drop-number_bits, number_bits-drop_more, number_bits-drop_more, ← append_assoc, part_left)

-- the first bits up to an offset within a word
pub take_within : (words : List ℕ) (q m : ℕ) → q < length words → m ≤ 64 → take (64 * q + m) (number_bits 64 words) ≡ number_bits 64 (take q words) ++ take m (bits_of 64 (get_or words q 0))
take_within words q m here few =
    let there : q ≤ length words = omega arith in
    let within : m ≤ length (bits_of 64 (get_or words q 0)) = omega (arith, length-bits_of) in
    simp (take-add, take-number_bits, drop-number_bits, number_bits-drop_more, take-append-le)

-- a word that keeps the first bits, and has others after them, appends these
pub take_written : (words : List ℕ) (len more new : ℕ) (extra : List Bool) → len / 64 < length words → len % 64 + more ≤ 64
    → take (len % 64 + more) (bits_of 64 new) ≡ take (len % 64) (bits_of 64 (get_or words (len / 64) 0)) ++ extra
    → take (len + more) (number_bits 64 (set words (len / 64) new)) ≡ take len (number_bits 64 words) ++ extra
take_written words len more new extra here few written =
    let q = len / 64 in
    let r = len % 64 in
    let place : len + more ≡ 64 * q + (r + more) = omega arith in
    let low : r ≤ 64 = omega arith in
    let there : q < length (set words q new) = omega (arith, length-set words) in
    rw (place, take_within, take-set, get_or-set_same, written, ← append_assoc, ← take_within, place_of)

-- a word over two words appends its 64 bits
pub take_put : (words : List ℕ) (at first second : ℕ) (word : List Bool) → at / 64 + 1 < length words → length word ≡ 64
    → bits_of 64 first ≡ take (at % 64) (bits_of 64 (get_or words (at / 64) 0)) ++ take (64 - at % 64) word → take (at % 64) (bits_of 64 second) ≡ drop (64 - at % 64) word
    → take (at + 64) (number_bits 64 (set (set words (at / 64) first) (at / 64 + 1) second)) ≡ take at (number_bits 64 words) ++ word
take_put words at first second word inside long begun ended =
    let q = at / 64 in
    let r = at % 64 in
    let once = set words q first in
    let seam = at + (64 - r) in
    let none : seam % 64 ≡ 0 = omega arith in
    let low : 0 + r ≡ r = omega arith in
    let written : take (seam % 64 + r) (bits_of 64 second) ≡ take (seam % 64) (bits_of 64 (get_or once (seam / 64) 0)) ++ drop (64 - r) word
    = cc in
    ap₂ (λ n k. take n (number_bits 64 (set once k second))) (omega arith) (sym (omega arith)) ∙ take_written once seam r second _ (omega (arith, length-set words q first)) (omega arith) written
    ∙ simp (take_written words at (64 - r) first (take (64 - r) word) (omega arith) (omega arith) (take_all _ (bits_of 64 first) (omega (arith, length-bits_of 64 first)) ∙ begun), append_assoc, take-append-drop)

-- one more word of bits is appended
pub append_more : (now later other front window : List Bool) (at from k : ℕ) → take (at + 64 * k + 64) later ≡ take (at + 64 * k) now ++ window → window ≡ part (from + 64 * k) 64 other
    → take (at + 64 * k) now ≡ front ++ part from (64 * k) other → take (at + 64 * (k + 1)) later ≡ front ++ part from (64 * (k + 1)) other
append_more now later other front window at from k written read so_far =
    let more : at + 64 * (k + 1) ≡ at + 64 * k + 64 = omega arith in
    let count : 64 * k + 64 ≡ 64 * (k + 1) = omega arith in
    simp (more, written, so_far, read, append_assoc, part_add, count)

-- one more word of bits is moved to the beginning
pub moved_more : (words old : List ℕ) (by k word : ℕ) → k < length words → length words ≡ length old → bits_of 64 word ≡ part (by + 64 * k) 64 (number_bits 64 words)
    → take (64 * k) (number_bits 64 words) ≡ part by (64 * k) (number_bits 64 old) → drop k words ≡ drop k old
    → (take (64 * (k + 1)) (number_bits 64 (set words k word)) ≡ part by (64 * (k + 1)) (number_bits 64 old)) × (drop (k + 1) (set words k word) ≡ drop (k + 1) old)
moved_more words old by k word here same read front behind =
    let fits : k ≤ length words = omega arith in
    let fits_old : k ≤ length old = omega arith in
    let all : length (bits_of 64 word) ≤ 64 = omega (arith, length-bits_of) in
    let more : 64 * (k + 1) ≡ 64 * k + 64 = omega arith in
    let swapped : by + 64 * k ≡ 64 * k + by = omega arith in (
      ap (λ n. take n (number_bits 64 (set words k word))) more
          ∙ take_within _ k 64 (omega (arith, length-set words k word)) (omega arith)
          ∙ ap₂ ◌++◌
          (ap (number_bits 64) (take-set words k word) ∙ sym (take-number_bits 64 k words fits) ∙ front)
          (simp (take_all, get_or-set_same) (read ∙ (rw (swapped, ← part-drop, drop-number_bits, behind, ← drop-number_bits, part-drop, ← swapped))))
          ∙ part_add by _ 64 _
          ∙ ap (λ n. part by n (number_bits 64 old)) (sym more),
      drop-set-lt _ words k word (omega arith) ∙ drop_more_same words old k behind,
    )

-- one more word of each of two lists is compared
pub distance_more : (a b : List ℕ) (k : ℕ) → k < length a → k < length b → get_or a k 0 < 2 ^ 64 → get_or b k 0 < 2 ^ 64
    → distance_of (take (64 * (k + 1)) (number_bits 64 a)) (take (64 * (k + 1)) (number_bits 64 b))
    ≡ distance_of (take (64 * k) (number_bits 64 a)) (take (64 * k) (number_bits 64 b)) + count_ones (bit_xor (get_or a k 0) (get_or b k 0))
distance_more a b k here there small_a small_b =
    let few : 64 ≤ 64 = omega arith in
    let more : 64 * (k + 1) ≡ 64 * k + 64 = omega arith in
    let fits_a : k ≤ length a = omega arith in
    let fits_b : k ≤ length b = omega arith in
    let word : (n : ℕ) → take 64 (bits_of 64 n) ≡ bits_of 64 n = λ n. take_all 64 _ (omega (arith, length-bits_of)) in
    let long : length (number_bits 64 (take k a)) ≡ length (number_bits 64 (take k b))
    = simp (length-number_bits, length-take-le) in
    simp (more, take_within, word, distance_by-append, take-number_bits, distance_of-bits_of)
