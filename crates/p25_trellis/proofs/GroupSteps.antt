-- Numbers of a few bits each, group by group: joined to one number, split, and written as numbers of another width.
use Rattle.std.proofs.Common.{◌≡◌, ℕ, ◌+◌, ◌-◌, ◌*◌, ◌/◌, ◌%◌, ◌^◌, ◌<◌, ◌≤◌, Bool, List, length, take, drop, get_or, ap, sym, ◌∙◌, arith, add-one, length-drop}
use Rattle.std.proofs.{Math.Nat.{mul-suc, mul-le-mul_left, mul-le-mul_right}, Math.Pow.{pow_mono}, lemmas.List.{ext_get_or, take_more}, lemmas.Nat.{pow-add, shl_whole}, lemmas.Slice.{take-put_mid}}
use borrow.Rule.Slice.PartMut.{put_mid}
use Rattle.p25_bits.specs.{Bits.{bits_of, part}, Numbers.{number_bits, numbers_from}}
use Rattle.p25_bits.proofs.BitsLaws.{take-bits_of, drop-bits_of, field_of-bits_of, bits_of-joined}
use Rattle.p25_bits.proofs.NumbersLaws.{number_bits-append, number_bits-one, length-number_bits, take-number_bits, drop-number_bits, length-numbers_from, get_or-numbers_from, numbers_from-add, numbers_from-take}

-- the number of bits with one more
pub count_more : (width i : ℕ) → width * (i + 1) ≡ width * i + width
count_more width i = rw add-one (omega (arith, mul-suc))

-- one number more is joined to those before it
pub joined_more : (width i whole number : ℕ) (numbers : List ℕ) → i < length numbers → number ≡ get_or numbers i 0 → number < 2 ^ width
    → bits_of (width * i) whole ≡ number_bits width (take i numbers)
    → bits_of (width * (i + 1)) (whole * 2 ^ width + number) ≡ number_bits width (take (i + 1) numbers)
joined_more width i whole number numbers inside is small so_far =
    rw (count_more, bits_of-joined, so_far, ← number_bits-one, ← number_bits-append, is, ← take_more)

-- the number to which they are joined has that number of bits
pub joined_more-lt : (width i whole number : ℕ) → number < 2 ^ width → whole < 2 ^ (width * i) → whole * 2 ^ width + number < 2 ^ (width * (i + 1))
joined_more-lt width i whole number small fits =
    omega (arith, ap (λ n. 2 ^ n) (count_more width i), pow-add 2, mul-le-mul_right (2 ^ width) fits)

-- few numbers have few bits
pub joined-lt : (width i count most whole : ℕ) → i ≤ count → width * count ≤ most → whole < 2 ^ (width * i) → whole < 2 ^ most
joined-lt width i count most whole inside few fits =
    let short : width * i ≤ most = omega (arith, few, mul-le-mul_left width inside) in
    omega (arith, fits, pow_mono short)

-- so the joined number can be shifted in its word
pub moved_up : (width i count whole : ℕ) → i < count → width * count ≤ 64 → whole < 2 ^ (width * i) → whole * 2 ^ width % 2 ^ 64 ≡ whole * 2 ^ width
moved_up width i count whole inside few fits =
    let more : i + 1 ≤ count = omega arith in
    shl_whole whole _ width 64 fits (omega (arith, few, count_more, mul-le-mul_left width more))

-- the bits before an index, at it and after it
split_at : (width k count : ℕ) → k < count → width * count ≡ width * k + width + width * (count - 1 - k)
split_at width k count early =
    let split : (rest : ℕ) → count ≡ k + 1 + rest → width * count ≡ width * k + width + width * rest = λ rest is. omega (arith, ap (λ n. width * n) is) in
    split (count - 1 - k) (omega arith)

-- a number at its index in the low bits of another
apart_at : (width count whole k : ℕ) → k < count → get_or (numbers_from width count (bits_of (width * count) whole)) k 0 ≡ whole / 2 ^ (width * (count - 1 - k)) % 2 ^ width
apart_at width count whole k early =
    let split = split_at width k count early in
    let fits : width * k ≤ width * count = omega (arith, split) in
    let enough : width ≤ width * count - width * k = omega (arith, split) in
    let place : width * count - width * k - width ≡ width * (count - 1 - k) = omega (arith, split) in
    simp (get_or-numbers_from, drop-bits_of, take-bits_of, field_of-bits_of, place)

-- numbers that are each the one at its index in the low bits are all numbers there
pub apart_all : (width whole : ℕ) (numbers : List ℕ) (i : ℕ) → length numbers ≤ i
    → ((k : ℕ) → k < i → get_or numbers k 0 ≡ whole / 2 ^ (width * (length numbers - 1 - k)) % 2 ^ width)
    → numbers ≡ numbers_from width (length numbers) (bits_of (width * length numbers) whole)
apart_all width whole numbers i all each =
    let count = length numbers in
    ext_get_or 0 numbers (numbers_from width count (bits_of (width * count) whole)) (sym (length-numbers_from width count (bits_of (width * count) whole)))
    (λ k inside.
    each k (omega arith) ∙ sym (apart_at width count whole k inside))

-- one group more of the numbers that bits write
pub groups_more : (width count g : ℕ) (bits : List Bool) (numbers group : List ℕ) → count * g ≤ length numbers → group ≡ numbers_from width count (drop (width * (count * g)) bits)
    → take (count * g) numbers ≡ numbers_from width (count * g) bits
    → take (count * (g + 1)) (put_mid (count * g) (count * g + count - count * g) numbers group) ≡ numbers_from width (count * (g + 1)) bits
groups_more width count g bits numbers group there read so_far =
    let long : length group ≡ count = simp (read, length-numbers_from) in
    let next : count * (g + 1) ≡ count * g + length group = omega (arith, count_more, long) in
    rw (take-put_mid, so_far, read, ← numbers_from-add, ← count_more)

-- a group that is written as numbers of another width
pub group_anew : (from to g whole : ℕ) (source group : List ℕ) → to * g + to ≤ length source → group ≡ numbers_from to from (bits_of (to * from) whole)
    → bits_of (from * to) whole ≡ number_bits from (part (to * g) to source) → group ≡ numbers_from to from (drop (to * (from * g)) (number_bits from source))
group_anew from to g whole source group there is written =
    let rest = drop (to * g) source in
    let left : to ≤ length rest = omega (arith, length-drop (to * g) source) in
    is
    ∙ ap (numbers_from to from) (ap (λ n. bits_of n whole) (omega arith) ∙ written ∙ sym (take-number_bits from to rest left))
    ∙ numbers_from-take to from (from * to) (number_bits from rest) (omega arith) (omega (arith, length-number_bits from rest, mul-le-mul_left from left))
    ∙ ap (numbers_from to from) (sym (drop-number_bits from (to * g) source (omega arith)) ∙ ap (λ n. drop n (number_bits from source)) (omega arith))
