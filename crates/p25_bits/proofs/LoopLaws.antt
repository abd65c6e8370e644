-- The steps of the loops that write bits of numbers and read numbers from bits: one more element of the list so far.
use Rattle.std.proofs.Common.{◌≡◌, ℕ, ◌+◌, ◌-◌, ◌*◌, ◌/◌, ◌%◌, ◌^◌, ◌<◌, ◌≤◌, Bool, List, ◌++◌, length, take, drop, set, eqb, bit_and, ap, ◌∙◌, append_assoc, append-nil, arith}
use Rattle.std.proofs.lemmas.{List.{take_more_set, take_all}, Nat.{div-mul-add, mod-mul-add}}
use Rattle.p25_bits.specs.{Bits.{bits_of, field_of, part}, Numbers.{numbers_from}}
use Rattle.p25_bits.proofs.{BitsLaws.{bits_of-first, bits_of-zero, field_of-append, field_of-lt}, PartLaws.{part-drop, part_add, length-part}, NumbersLaws.{numbers_from-more}}

-- one more bit is there, and one less is left
pub put_more : (number width : ℕ) (bits : List Bool) (i : ℕ) → i < length bits → i < width → take i bits ++ bits_of (width - i) number ≡ bits_of width number
    → take (i + 1) (set bits i (eqb (bit_and (number / 2 ^ (width - 1 - i)) 1) 1)) ++ bits_of (width - (i + 1)) number ≡ bits_of width number
put_more number width bits i here inside so_far =
    rw (take_more_set, append_assoc, bits_of-first) so_far

-- all bits are there, and none is left
pub put_all : (number width : ℕ) (bits : List Bool) (i : ℕ) → length bits ≤ i → width - i ≡ 0 → take i bits ++ bits_of (width - i) number ≡ bits_of width number → bits ≡ bits_of width number
put_all number width bits i done none so_far =
    simp (append-nil, bits_of-zero, none, take_all) at so_far

-- one more number is read
pub take_more_read : (bits : List Bool) (at width : ℕ) (numbers : List ℕ) (i value : ℕ) → i < length numbers → value ≡ field_of (part (at + width * i) width bits)
    → take i numbers ≡ numbers_from width i (drop at bits) → take (i + 1) (set numbers i value) ≡ numbers_from width (i + 1) (drop at bits)
take_more_read bits at width numbers i value inside read so_far =
    simp (take_more_set, so_far, read, part-drop, numbers_from-more)

-- an octet of a number of eight
pub octet_of_eight : (bits : List Bool) (at k number : ℕ) → k < 8
    → at + 64 ≤ length bits → number ≡ field_of (part at 64 bits) → number / 2 ^ (56 - 8 * k) % 2 ^ 8 ≡ field_of (part (at + 8 * k) 8 bits)
octet_of_eight bits at k number low there is =
    let n : ℕ = 8 * k + 8 in
    let rest : ℕ = 56 - 8 * k in
    let whole : n + rest ≡ 64 = omega arith in
    let before = part at (8 * k) bits in
    let octet = part _ 8 bits in
    let behind = part (at + n) rest bits in
    let long = length-part (at + n) rest bits (omega arith) in
    let eight : length octet ≡ 8 = length-part (at + 8 * k) 8 bits (omega arith) in
    let front : field_of (part at n bits) ≡ field_of before * 2 ^ 8 + field_of octet
    = rw (← part_add, field_of-append, eight) in
    let split : number ≡ field_of (part at n bits) * 2 ^ rest + field_of behind
    = rw (is, ← whole, ← part_add, field_of-append, long) in
    let behind_low : field_of behind < 2 ^ rest = simp long at (field_of-lt behind) in
    let octet_low : field_of octet < 2 ^ 8 = simp eight at (field_of-lt octet) in
    simp (split, div-mul-add, front, mod-mul-add)

-- one more octet of eight is read
pub take_more_of_eight : (bits : List Bool) (at first k number : ℕ) (octets : List ℕ)
    → k < 8 → at + 8 * (first + 8) ≤ length bits → first + k < length octets → number ≡ field_of (part (at + 8 * first) 64 bits)
    → take (first + k) octets ≡ numbers_from 8 (first + k) (drop at bits)
    → take (first + (k + 1)) (set octets (first + k) (number / 2 ^ (56 - 8 * k) % 2 ^ 8)) ≡ numbers_from 8 (first + (k + 1)) (drop at bits)
take_more_of_eight bits at first k number octets low there inside is so_far =
    let next : first + k + 1 ≡ first + (k + 1) = omega arith in
    simp next at (take_more_read bits at 8 octets _ (number / 2 ^ (56 - 8 * k) % 2 ^ 8) inside (octet_of_eight bits _ k number low (omega arith) is ∙ ap (λ m. field_of (part m 8 bits)) (omega arith)) so_far)
