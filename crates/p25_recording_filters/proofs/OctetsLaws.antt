-- Whole octets of joined bits: those of the first bits, and then those of the bits left of them and the others.
use Rattle.std.proofs.Common.{◌≡◌, ℕ, zero, suc, ◌+◌, ◌-◌, ◌*◌, ◌/◌, ◌%◌, ◌^◌, ◌<◌, ◌≤◌, Bool, List, [], ◌∷◌, ◌++◌, length, take, drop, refl, ap, arith, append_assoc, append-nil, length-append, length-take, length-drop}
use Rattle.std.proofs.{lemmas.List.{drop-append-le, drop-drop, drop_all, take-append-drop, take_all}, Math.Seq.{drop-append-add}}
use Rattle.std.specs.Int.{w64, byte_at, bytes_high_first, to_be_bytes}
use Rattle.p25_bits.specs.{Bits.{bits_of, field_of, part}, Numbers.{octets_from}}
use Rattle.p25_bits.proofs.BitsLaws.{field_of-bits_of, take-bits_of, drop-bits_of}
use Rattle.p25_bits.proofs.{NumbersLaws.{bits_of-field, numbers_from-zero, numbers_from-suc, numbers_from-add, numbers_from-append, numbers_from-take}, OctetNumbersLaws.{pow_256}}
use Rattle.p25_recording_filters.specs.Commands.{unfilled}
use Rattle.p25_units.specs.Units.{whole_octets}

-- of a text that is written octet by octet: no octet yet, and some more
pub octets-none : (text : List ℕ) (bits : List Bool) → text ≡ text ++ octets_from 0 bits
octets-none text bits = rw (numbers_from-zero, append-nil)

pub octets-on : (text before so_far more all now : List ℕ) → so_far ≡ text ++ before → before ++ more ≡ all → now ≡ so_far ++ more → now ≡ text ++ all
octets-on text before so_far more all now is joined on = rw (on, is, append_assoc, joined)

-- the whole octets of joined bits
pub whole_octets-append : (bits rest : List Bool) → whole_octets bits ++ whole_octets (drop (8 * (length bits / 8)) bits ++ rest) ≡ whole_octets (bits ++ rest)
whole_octets-append bits rest =
    let m = length bits / 8 in
    let left = drop (8 * m) bits ++ rest in
    let n = length left / 8 in
    let fits : 8 * m ≤ length bits = omega arith in
    let all : length (bits ++ rest) / 8 ≡ m + n = omega (arith, length-append bits rest, length-append (drop (8 * m) bits) rest, length-drop (8 * m) bits) in
    rw (all, numbers_from-add 8 m n (bits ++ rest), numbers_from-append 8 m bits rest fits, drop-append-le (8 * m) bits rest fits)

-- fewer than eight bits fill none
pub whole_octets-few : (bits : List Bool) → length bits < 8 → whole_octets bits ≡ []
whole_octets-few bits few =
    let none : length bits / 8 ≡ 0 = omega arith in
    rw (none, numbers_from-zero)

-- eight bits fill one
eight-octets : (bits : List Bool) → length bits ≡ 8 → whole_octets bits ≡ field_of (take 8 bits) ∷ []
eight-octets bits long =
    let one : length bits / 8 ≡ 1 = omega arith in
    rw (one, numbers_from-suc 8 0 bits, numbers_from-zero)

module _ (kept bits : List Bool) (missing : ℕ) (few : length kept < 8) (missing_is : missing ≡ 8 - length kept) (there : missing ≤ length bits) where
  -- kept bits and the first of those after them fill an octet, and the others follow
  pub octets-behind : (full : List Bool) → full ≡ kept ++ part 0 missing bits → (field_of (part 0 8 full) ∷ []) ++ whole_octets (drop missing bits) ≡ whole_octets (kept ++ bits)
  octets-behind full is =
      let long : length full ≡ 8 = omega (arith, ap length is, length-append kept (part 0 missing bits), length-take missing bits) in
      let none : drop (8 * (length full / 8)) full ≡ [] = drop_all (8 * (length full / 8)) full (omega arith) in
      let whole : full ++ drop missing bits ≡ kept ++ bits = rw (is, append_assoc, take-append-drop) in
      rw (eight-octets full long, none, whole) at (whole_octets-append full (drop missing bits))

  -- the last bits, which do not fill an octet, are kept
  pub kept-behind : (start now : List Bool) (at count : ℕ) → start ≡ []
      → now ≡ start ++ part at count bits → count ≡ (length bits - missing) % 8 → at + count ≡ length bits → now ≡ unfilled (kept ++ bits)
  kept-behind start now at count empty is count_is at_is =
      let all : length (kept ++ bits) ≡ length kept + length bits = length-append kept bits in
      let filled : 8 * (length (kept ++ bits) / 8) ≡ length kept + at = omega arith in
      let last : length (drop at bits) ≤ count = omega (arith, length-drop at bits) in
      rw (is, empty, take_all count (drop at bits) last, filled, drop-append-add)

-- byte k of a number is the last octet of its quotient by a power of 256
byte_at-is : (k n : ℕ) → byte_at k n ≡ n / 256 ^ k % 256
byte_at-is zero n = omega arith
byte_at-is (suc k) n = refl

-- the lowest bytes of a number are the octets that its bits write
bytes-octets : (k n : ℕ) → bytes_high_first k n ≡ octets_from k (bits_of (8 * k) n)
bytes-octets zero n = rw numbers_from-zero
bytes-octets (suc k) n =
    let inside : 8 ≤ 8 * suc k = omega arith in
    let left : 8 * suc k - 8 ≡ 8 * k = omega arith in
    rw (numbers_from-suc 8 k (bits_of (8 * suc k) n), drop-bits_of 8 (8 * suc k) n inside, take-bits_of 8 (8 * suc k) n inside, left, field_of-bits_of, ← pow_256, bytes-octets k n, byte_at-is)

-- the bytes of the number that 64 bits write are the octets that they write
word-octets : (bits : List Bool) → 64 ≤ length bits → to_be_bytes w64 (field_of (take 64 bits)) ≡ octets_from 8 bits
word-octets bits long =
    rw (bytes-octets 8 (field_of (take 64 bits)), bits_of-field 64 0 bits long, numbers_from-take 8 8 64 bits (omega arith) (omega arith))

-- the bits after words of octets
octets_behind : (bits : List Bool) (at k : ℕ) → drop (at + 64 * k) bits ≡ drop (8 * (8 * k)) (drop at bits)
octets_behind bits at k = let same : at + 64 * k ≡ at + 8 * (8 * k) = omega arith in rw (same, drop-drop)

-- eight octets more
pub octets-more : (bits : List Bool) (at k word : ℕ) → at + 64 * k + 64 ≤ length bits → word ≡ field_of (part (at + 64 * k) 64 bits)
    → octets_from (8 * k) (drop at bits) ++ to_be_bytes w64 word ≡ octets_from (8 * (k + 1)) (drop at bits)
octets-more bits at k word there is =
    let long : 64 ≤ length (drop (at + 64 * k) bits) = omega (arith, length-drop (at + 64 * k) bits) in
    let more : 8 * k + 8 ≡ 8 * (k + 1) = omega arith in
    rw (is, word-octets (drop (at + 64 * k) bits) long, octets_behind, ← more, numbers_from-add 8 (8 * k) 8 (drop at bits))

-- words of octets, and then those that are left, are all
pub octets-all : (bits : List Bool) (at words : ℕ) → words ≡ (length bits - at) / 64
    → octets_from (8 * words) (drop at bits) ++ whole_octets (drop (at + 64 * words) bits) ≡ whole_octets (drop at bits)
octets-all bits at words is =
    let count : length (drop at bits) / 8 ≡ 8 * words + length (drop (at + 64 * words) bits) / 8
    = omega (arith, length-drop at bits, length-drop (at + 64 * words) bits) in
    rw (count, octets_behind bits at words, numbers_from-add 8 (8 * words) (length (drop (8 * (8 * words)) (drop at bits)) / 8) (drop at bits))
