-- One more dibit of a stream.
use Rattle.std.proofs.Common.{◌≡◌, ℕ, ◌+◌, ◌-◌, ◌*◌, ◌%◌, ◌^◌, ◌<◌, ◌≤◌, Bool, List, [], ◌∷◌, ◌++◌, length, take, drop, get_or, slice_set, ap, sym, ◌∙◌, arith, append-nil, append_assoc, length-append}
use Rattle.std.proofs.{lemmas.List.{drop-append-le, length-take-le, take_more_set}, lemmas.Nat.{pow-add}}
use Rattle.p25_bits.specs.{Bits.{bits_of, octet_bits}, Numbers.{number_bits}}
use Rattle.p25_bits.proofs.{BitsLaws.{bits_of-joined, bits_of-mod, bits_of-zero, length-octet_bits, octet_bits-append, octet_bits-cons, octet_bits-nil}, NumbersLaws.{number_bits_more}}
use Rattle.p25_c.specs.{Streams.{HasTaken, bits_left}, declared.stream.Stream.{Stream}}

-- the bits of dibits, and of one more
pub dibit-joined : (n waiting dibit : ℕ) → bits_of (n + 2) (4 * waiting + dibit % 4) ≡ bits_of n waiting ++ bits_of 2 dibit
dibit-joined n waiting dibit =
    let turned : 4 * waiting + dibit % 4 ≡ waiting * 2 ^ 2 + dibit % 2 ^ 2 = omega arith in
    let low : dibit % 2 ^ 2 < 2 ^ 2 = omega arith in
    ap (bits_of (n + 2)) turned ∙ bits_of-joined n 2 waiting (dibit % 2 ^ 2) low ∙ ap (λ (xs : List Bool). bits_of n waiting ++ xs) (bits_of-mod 2 dibit)

-- the number of dibits that wait stays below four to the power of their number
pub dibit-fits : (dibits waiting dibit : ℕ) → waiting < 2 ^ (2 * dibits) → 4 * waiting + dibit % 4 < 2 ^ (2 * (dibits + 1))
dibit-fits dibits waiting dibit few =
    let more : 2 * (dibits + 1) ≡ 2 * dibits + 2 = omega arith in
    let power : 2 ^ (2 * (dibits + 1)) ≡ 2 ^ (2 * dibits) * 4 = ap (λ (k : ℕ). 2 ^ k) more ∙ pow-add 2 (2 * dibits) 2 in
    omega (arith, few, power)

-- a dibit waits too
pub waits-bits : (octets : List ℕ) (held back dibits waiting dibit : ℕ) → held ≤ length octets → back ≤ 8 * held
    → drop back (octet_bits (take held octets) ++ bits_of (2 * (dibits + 1)) (4 * waiting + dibit % 4))
    ≡ drop back (octet_bits (take held octets) ++ bits_of (2 * dibits) waiting) ++ bits_of 2 dibit
waits-bits octets held back dibits waiting dibit there within =
    let front = octet_bits (take held octets) in
    let more : 2 * (dibits + 1) ≡ 2 * dibits + 2 = omega arith in
    let long : length front ≡ 8 * held = length-octet_bits (take held octets) ∙ ap (λ (k : ℕ). 8 * k) (length-take-le held octets there) in
    let fits : back ≤ length (front ++ bits_of (2 * dibits) waiting) = omega (arith, long, length-append front (bits_of (2 * dibits) waiting)) in
    ap (λ (k : ℕ). drop back (front ++ bits_of k (4 * waiting + dibit % 4))) more
    ∙ ap (λ (xs : List Bool). drop back (front ++ xs)) (dibit-joined (2 * dibits) waiting dibit)
    ∙ ap (drop back) (sym (append_assoc front (bits_of (2 * dibits) waiting) (bits_of 2 dibit)))
    ∙ drop-append-le back (front ++ bits_of (2 * dibits) waiting) (bits_of 2 dibit) fits

-- a fourth dibit makes an octet
pub octet-bits : (octets : List ℕ) (held back waiting dibit : ℕ) → held < length octets → back ≤ 8 * held
    → drop back (octet_bits (take (held + 1) (slice_set octets held (4 * waiting + dibit % 4))) ++ bits_of 0 0)
    ≡ drop back (octet_bits (take held octets) ++ bits_of 6 waiting) ++ bits_of 2 dibit
octet-bits octets held back waiting dibit there within =
    let octet = 4 * waiting + dibit % 4 in
    let front = octet_bits (take held octets) in
    let few : held ≤ length octets = omega (arith, there) in
    let long : length front ≡ 8 * held = length-octet_bits (take held octets) ∙ ap (λ (k : ℕ). 8 * k) (length-take-le held octets few) in
    let fits : back ≤ length (front ++ bits_of 6 waiting) = omega (arith, long, length-append front (bits_of 6 waiting)) in
    let one : octet_bits (octet ∷ []) ≡ bits_of 6 waiting ++ bits_of 2 dibit
    = octet_bits-cons octet [] ∙ ap (λ (xs : List Bool). bits_of 8 octet ++ xs) octet_bits-nil ∙ append-nil (bits_of 8 octet) ∙ dibit-joined 6 waiting dibit in
    ap (λ (xs : List Bool). drop back (octet_bits (take (held + 1) (slice_set octets held octet)) ++ xs)) (bits_of-zero 0)
    ∙ ap (drop back) (append-nil (octet_bits (take (held + 1) (slice_set octets held octet))))
    ∙ ap (λ (zs : List ℕ). drop back (octet_bits zs)) (take_more_set octets held octet there)
    ∙ ap (drop back) (octet_bits-append (take held octets) (octet ∷ []) ∙ ap (λ (xs : List Bool). front ++ xs) one)
    ∙ ap (drop back) (sym (append_assoc front (bits_of 6 waiting) (bits_of 2 dibit)))
    ∙ drop-append-le back (front ++ bits_of 6 waiting) (bits_of 2 dibit) fits

-- nothing is taken yet
pub taken-none : (dibits : List ℕ) (stream : Stream) → HasTaken [] stream stream → HasTaken (number_bits 2 (take 0 dibits)) stream stream
unfolding number_bits
taken-none dibits stream none = none

-- one dibit after others
pub taken-more : (dibits : List ℕ) (i : ℕ) (first middle last : Stream) → i < length dibits → HasTaken (number_bits 2 (take i dibits)) first middle
    → HasTaken (bits_of 2 (get_or dibits i 0)) middle last → HasTaken (number_bits 2 (take (i + 1) dibits)) first last
taken-more dibits i first middle last inside before more = record {
  fits = more.fits;
  bits = more.bits ∙ ap (λ (xs : List Bool). xs ++ bits_of 2 (get_or dibits i 0)) before.bits ∙ number_bits_more (bits_left first) 2 dibits i inside;
  from = more.from ∙ before.from;
  ended = more.ended ∙ before.ended;
}
