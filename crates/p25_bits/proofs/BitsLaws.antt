-- Numbers and the bits that write them. By induction on the bits or on the width: the first bit is the highest.
use Rattle.std.proofs.Common.{◌≡◌, ℕ, zero, suc, ◌+◌, ◌-◌, ◌*◌, ◌/◌, ◌%◌, ◌^◌, ◌<◌, ◌≤◌, Bool, true, false, eqb, List, [], ◌∷◌, ◌++◌, length, take, drop, refl, ap, ap₂, ◌∙◌, arith, length-append, get_or, add-one, bit_and}
use Rattle.std.proofs.{Math.Nat.{pow-suc, add-mul, mul_comm, mul_assoc, mod-one}, lemmas.Nat.{mod-pow-add, shr_high, shr-shr, shr_split, div-mul-add}}
use Rattle.std.proofs.{lemmas.Nat.Bits.{bit_at-lt, bit_at_cat_low, shr_and_one}, lemmas.List.{drop_more, take_at, drop_at}, lemmas.List.Concat.{flat_map-append}}
use Rattle.std.specs.Int.{bit_at}
use Rattle.p25_bits.specs.Bits.{digit_of, bits_of, field_after, field_of, octet_bits, flipped}

-- as many bits as the width
pub length-bits_of : (width number : ℕ) → length (bits_of width number) ≡ width
unfolding bits_of
length-bits_of zero number = refl
length-bits_of (suc width) number = rw (length-bits_of width number)

-- bits after others count on from the number of those before
pub field_after-append : (high : ℕ) (xs ys : List Bool) → field_after high (xs ++ ys) ≡ field_after (field_after high xs) ys
unfolding field_after
field_after-append high [] ys = refl
field_after-append high (x ∷ xs) ys = field_after-append (2 * high + digit_of x) xs ys

-- a number with one more digit, times a power of two
carried : (high digit power next : ℕ) → next ≡ power * 2 → (2 * high + digit) * power ≡ high * next + digit * power
carried high digit power next e = rw (e, add-mul) (rw (mul_comm 2 high, mul_assoc, mul_comm 2 power))

-- a number before the bits is multiplied by the number of values of the bits
pub field_after-is : (high : ℕ) (bits : List Bool) → field_after high bits ≡ high * 2 ^ length bits + field_of bits
unfolding field_after field_of
field_after-is high [] = omega arith
field_after-is high (x ∷ xs) =
    field_after-is _ xs
    ∙ omega (arith, field_after-is (0 + digit_of x) xs, carried high (digit_of x) _ _ (pow-suc 2 (length xs)))

-- a first bit is the highest
pub field_of-cons : (bit : Bool) (bits : List Bool) → field_of (bit ∷ bits) ≡ digit_of bit * 2 ^ length bits + field_of bits
unfolding field_after field_of
field_of-cons bit bits = field_after-is _ bits ∙ ap (λ n. n * 2 ^ length bits + field_of bits) (omega arith)

-- two runs of bits, one after the other
pub field_of-append : (xs ys : List Bool) → field_of (xs ++ ys) ≡ field_of xs * 2 ^ length ys + field_of ys
unfolding field_of
field_of-append xs ys = rw (field_after-append, field_after-is)

-- no bits write 0
pub field_of-nil : field_of [] ≡ 0
unfolding field_of field_after
field_of-nil = refl

-- a digit is 0 or 1
pub digit_of-le : (bit : Bool) → digit_of bit ≤ 1
digit_of-le true = omega arith
digit_of-le false = omega arith

-- as many bits write a number below that power of two
pub field_of-lt : (bits : List Bool) → field_of bits < 2 ^ length bits
unfolding field_after field_of
field_of-lt [] = omega arith
field_of-lt (true ∷ bits) = omega (arith, field_of-cons, field_of-lt bits, pow-suc)
field_of-lt (false ∷ bits) = omega (arith, field_of-lt bits, pow-suc)

-- the digit of the test of a bit is the bit
pub digit_of-bit_at : (number k : ℕ) → digit_of (eqb (bit_at number k) 1) ≡ bit_at number k
digit_of-bit_at number k =
    by_cases _ (bit_at-lt number k)
  where
    by_cases : (b : ℕ) → b < 2 → digit_of (eqb b 1) ≡ b
    by_cases (suc (suc b)) h = absurd (omega arith)
    by_cases b h = refl

-- the number that `width` bits of a number write is its remainder by that power of two
pub field_of-bits_of : (width number : ℕ) → field_of (bits_of width number) ≡ number % 2 ^ width
unfolding bits_of
field_of-bits_of zero number = simp (field_of-nil, mod-one)
field_of-bits_of (suc width) number =
    rw (field_of-cons, digit_of-bit_at, length-bits_of width number, field_of-bits_of width number, ← mod-pow-add number 1 width) (ap (λ n. number % 2 ^ n) (omega arith))

-- the low bits of a number do not depend on the bits above them
pub bits_of-above : (width k high low : ℕ) → width ≤ k → bits_of width (high * 2 ^ k + low) ≡ bits_of width low
unfolding bits_of
bits_of-above zero k high low h = refl
bits_of-above (suc width) k high low h =
    ap₂ ◌∷◌ (simp bit_at_cat_low) (bits_of-above width k high low (omega arith))

-- the top bit of a number with one digit before k others
top_bit : (bit : Bool) (k low : ℕ) → low < 2 ^ k → eqb (bit_at (digit_of bit * 2 ^ k + low) k) 1 ≡ bit
top_bit true k low h = simp shr_high
top_bit false k low h = simp shr_high

-- the number that bits write has those bits
pub bits_of-field_of : (bits : List Bool) → bits_of (length bits) (field_of bits) ≡ bits
unfolding bits_of
bits_of-field_of [] = refl
bits_of-field_of (bit ∷ bits) =
    rw (field_of-cons, top_bit bit (length bits) (field_of bits) (field_of-lt bits), bits_of-above (length bits) (length bits) _ (field_of bits) (omega arith), bits_of-field_of bits)

-- two lists of one length that write one number are one list
pub same_from_field_of : (xs ys : List Bool) → length xs ≡ length ys → field_of xs ≡ field_of ys → xs ≡ ys
same_from_field_of xs ys long same = simp bits_of-field_of at (ap₂ bits_of long same)

-- bits of a number in two runs: the high ones, then the low ones
pub bits_of-add : (high low number : ℕ) → bits_of (high + low) number ≡ bits_of high (number / 2 ^ low) ++ bits_of low number
unfolding bits_of
bits_of-add zero low number = ap (λ n. bits_of n number) (omega arith)
bits_of-add (suc high) low number =
    let e : suc high + low ≡ suc (high + low) = omega arith in
    let swapped : low + high ≡ high + low = omega arith in
    simp (e, swapped, shr-shr, bits_of-add high low number)

-- the first bits of a number are those of its quotient by a power of two
pub take-bits_of : (k width number : ℕ) → k ≤ width → take k (bits_of width number) ≡ bits_of k (number / 2 ^ (width - k))
take-bits_of k width number h =
    let split : width ≡ k + (width - k) = omega arith in
    cc (split, bits_of-add k _ number, take_at _ (bits_of (width - k) number) k (length-bits_of k (number / 2 ^ (width - k))))

-- the bits after them are the low bits
pub drop-bits_of : (k width number : ℕ) → k ≤ width → drop k (bits_of width number) ≡ bits_of (width - k) number
drop-bits_of k width number h =
    let split : width ≡ k + (width - k) = omega arith in
    cc (split, bits_of-add k _ number, drop_at _ (bits_of _ number) k (length-bits_of k (number / 2 ^ (width - k))))

-- the bits of a number do not depend on the bits above them
pub bits_of-mod : (width number : ℕ) → bits_of width (number % 2 ^ width) ≡ bits_of width number
bits_of-mod width number =
    let all : width ≤ width = omega arith in
    rw bits_of-above at (ap (bits_of width) (shr_split number width))

-- the bits of a number that is written after another
pub bits_of-joined : (k width high low : ℕ) → low < 2 ^ width → bits_of (k + width) (high * 2 ^ width + low) ≡ bits_of k high ++ bits_of width low
bits_of-joined k width high low small =
    let all : width ≤ width = omega arith in
    simp (bits_of-add, div-mul-add, bits_of-above)

-- octets, one run after the other
pub octet_bits-append : (xs ys : List ℕ) → octet_bits (xs ++ ys) ≡ octet_bits xs ++ octet_bits ys
unfolding octet_bits
octet_bits-append xs ys = flat_map-append _ xs ys

-- the bits of the first octet are the first
pub octet_bits-cons : (x : ℕ) (xs : List ℕ) → octet_bits (x ∷ xs) ≡ bits_of 8 x ++ octet_bits xs
unfolding octet_bits
octet_bits-cons x xs = refl

pub octet_bits-nil : octet_bits [] ≡ []
unfolding octet_bits
octet_bits-nil = refl

-- an octet has eight bits
pub length-octet_bits : (xs : List ℕ) → length (octet_bits xs) ≡ 8 * length xs
unfolding octet_bits
length-octet_bits [] = refl
length-octet_bits (x ∷ xs) = simp length-append (omega (arith, length-bits_of, length-octet_bits xs))

-- one more bit of a list goes into the number
pub field_after-drop : (high : ℕ) (bits : List Bool) (i : ℕ) → i < length bits → field_after high (drop i bits) ≡ field_after (2 * high + digit_of (get_or bits i false)) (drop (i + 1) bits)
unfolding field_after
field_after-drop high bits i h = rw (drop_more bits i false h)

-- no more bits leave the number
pub field_after-nil : (high : ℕ) → field_after high [] ≡ high
unfolding field_after
field_after-nil high = refl

-- the number of bits is the number after 0
pub field_of-after : (bits : List Bool) → field_of bits ≡ field_after 0 bits
unfolding field_of
field_of-after bits = refl

-- one more bit doubles the bound of a number
pub more-lt : (number digit i : ℕ) → number < 2 ^ i → digit ≤ 1 → 2 * number + digit < 2 ^ (i + 1)
more-lt number digit i below small = rw add-one (omega arith)

-- the first of `width` bits is the highest
pub bits_of-suc : (width number : ℕ) → bits_of (suc width) number ≡ eqb (bit_at number width) 1 ∷ bits_of width number
unfolding bits_of
bits_of-suc width number = refl

pub bits_of-zero : (number : ℕ) → bits_of 0 number ≡ []
unfolding bits_of
bits_of-zero number = refl

-- the first of the bits that are left, as a loop tests it, and the others
pub bits_of-first : (width k number : ℕ) → k < width → eqb (bit_and (number / 2 ^ (width - 1 - k)) 1) 1 ∷ bits_of (width - (k + 1)) number ≡ bits_of (width - k) number
bits_of-first width k number h =
    let left : width - 1 - k ≡ width - (k + 1) = omega arith in
    let more : width - k ≡ suc (width - (k + 1)) = omega arith in
    simp (shr_and_one, left, bits_of-suc, more)

-- a bit converted to a number is its digit
pub digit_of-byte : (n : ℕ) (bit : Bool) → n ≡ mir.Val.bool_byte bit → n ≡ digit_of bit
digit_of-byte n true e = e
digit_of-byte n false e = e

-- a bit at an index of the bits of a number
pub get_or-bits_of : (width number place : ℕ) (d : Bool) → place < width → get_or (bits_of width number) place d ≡ eqb (bit_at number (width - 1 - place)) 1
unfolding bits_of
get_or-bits_of zero number place d h = absurd (omega arith)
get_or-bits_of (suc width) number zero d h = ap (λ k. eqb (bit_at number k) 1) (omega arith)
get_or-bits_of (suc width) number (suc place) d h =
    get_or-bits_of width number place d (omega arith) ∙ ap (λ k. eqb (bit_at number k) 1) (omega arith)

-- one bit writes its digit
pub field_of-one : (bit : Bool) → field_of (bit ∷ []) ≡ digit_of bit
unfolding field_of field_after
field_of-one bit = omega arith

-- an inverted bit leaves the number of bits
pub length-flipped : (bits : List Bool) (place : ℕ) → length (flipped bits place) ≡ length bits
length-flipped (bit ∷ bits) (suc place) = rw (length-flipped bits place)
length-flipped bits place = refl
