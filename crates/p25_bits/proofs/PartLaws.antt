-- Parts of lists: of joined lists, parts of parts, and parts that touch. Each follows from the laws of `take` and `drop` in std.
use Rattle.std.proofs.Common.{◌≡◌, ℕ, zero, suc, ◌+◌, ◌-◌, ◌<◌, ◌≤◌, List, [], ◌∷◌, ◌++◌, length, take, drop, get_or, slice_get, refl, ap, sym, ◌∙◌, arith, length-drop}
use Rattle.std.proofs.{Math.Seq.{take-add, drop-append-add, get_or-take}, lemmas.List.{take-take, drop-take, drop-drop, take-append-le, drop-append-le, length-take-le, take_at, get_or-drop, take_all}}
use Rattle.p25_bits.specs.Bits.{part}

-- the second of two lists from an index on
pub drop_behind : {X : Type 0} (at more : ℕ) (xs ys : List X) → length xs ≡ at → drop (at + more) (xs ++ ys) ≡ drop more ys
drop_behind at more xs ys before = rw (← before, drop-append-add)

-- an element of the first of two lists
pub slice_get-front : {X : Type 0} (xs ys : List X) (i : ℕ) → i < length xs → slice_get (xs ++ ys) i ≡ slice_get xs i
slice_get-front [] ys i h = absurd (omega arith)
slice_get-front (x ∷ xs) ys zero h = refl
slice_get-front (x ∷ xs) ys (suc i) h = slice_get-front xs ys i (omega arith)

-- an element after some others
pub slice_get-drop : {X : Type 0} (n : ℕ) (xs : List X) (i : ℕ) → slice_get (drop n xs) i ≡ slice_get xs (n + i)
slice_get-drop zero xs i = ap (slice_get xs) (sym (omega arith))
slice_get-drop (suc n) [] i = refl
slice_get-drop (suc n) (x ∷ xs) i = slice_get-drop n xs i ∙ (let e : suc (n + i) ≡ suc n + i = omega arith in cc e)

-- a part that is there has its length
pub length-part : {X : Type 0} (at count : ℕ) (xs : List X) → at + count ≤ length xs → length (part at count xs) ≡ count
length-part at count xs there =
    length-take-le count _ (omega (arith, length-drop at xs))

-- two parts that touch are one part
pub part_add : {X : Type 0} (at m n : ℕ) (xs : List X) → part at m xs ++ part (at + m) n xs ≡ part at (m + n) xs
part_add at m n xs =
    simp (drop-drop, take-add)

-- a part of the first of two lists
pub part_left : {X : Type 0} (at count : ℕ) (xs ys : List X) → at + count ≤ length xs → part at count (xs ++ ys) ≡ part at count xs
part_left at count xs ys inside =
    let begins : at ≤ length xs = omega arith in
    let left : count ≤ length (drop at xs) = omega (arith, length-drop at xs) in
    simp (drop-append-le, take-append-le)

-- a part of the second of two lists, by its index in that list
pub part_behind : {X : Type 0} (at count : ℕ) (xs ys : List X) → part (length xs + at) count (xs ++ ys) ≡ part at count ys
part_behind at count xs ys = simp drop-append-add

-- a part of the second of two lists, by its index in both
pub part_right : {X : Type 0} (at count : ℕ) (xs ys : List X) → length xs ≤ at → part at count (xs ++ ys) ≡ part (at - length xs) count ys
part_right at count xs ys behind =
    ap (λ n. part n count (xs ++ ys)) (omega arith) ∙ part_behind _ count xs ys

-- the middle one of three lists
pub part_joined : {X : Type 0} (at count : ℕ) (xs ys zs : List X) → length xs ≡ at → length ys ≡ count → part at count (xs ++ (ys ++ zs)) ≡ ys
part_joined at count xs ys zs before long =
    let behind : length xs ≤ at = omega arith in
    let first : at - length xs ≡ 0 = omega arith in
    simp (part_right, first, take_at)

-- the last one of two lists
pub part_last : {X : Type 0} (at count : ℕ) (xs ys : List X) → length xs ≡ at → length ys ≡ count → part at count (xs ++ ys) ≡ ys
part_last at count xs ys before long =
    let behind : length xs ≤ at = omega arith in
    let first : at - length xs ≡ 0 = omega arith in
    let all : length ys ≤ count = omega arith in
    simp (part_right, first, take_all)

pub part-part : {X : Type 0} (at count from more : ℕ) (xs : List X) → from + more ≤ count → part from more (part at count xs) ≡ part (at + from) more xs
part-part at count from more xs inside =
    let split : count ≡ from + (count - from) = omega arith in
    let fits : more ≤ count - from = omega arith in
    rw (split, drop-take, take-take, drop-drop)

-- the beginning of a part
pub take-part : {X : Type 0} (at count more : ℕ) (xs : List X) → more ≤ count → take more (part at count xs) ≡ part at more xs
take-part at count more xs inside = take-take more count _ inside

-- a part without its beginning
pub drop-part : {X : Type 0} (at count from : ℕ) (xs : List X) → from ≤ count → drop from (part at count xs) ≡ part (at + from) (count - from) xs
drop-part at count from xs inside =
    let split : count ≡ from + (count - from) = omega arith in
    cc (drop-take from (count - from) (drop at xs), drop-drop from at xs)

-- a part of the elements of a list from an index on
pub part-drop : {X : Type 0} (at count from : ℕ) (xs : List X) → part at count (drop from xs) ≡ part (from + at) count xs
part-drop at count from xs = simp drop-drop

-- the elements of a list from an index on are a part
pub drop-is_part : {X : Type 0} (from : ℕ) (xs : List X) → drop from xs ≡ part from (length xs - from) xs
drop-is_part from xs =
    sym (take_all _ _ (omega (arith, length-drop from xs)))

-- a list is its own part
pub part_whole : {X : Type 0} (count : ℕ) (xs : List X) → length xs ≡ count → part 0 count xs ≡ xs
part_whole count xs long = take_all count xs (omega arith)

-- a part of the beginning of a list is that part of the list
pub part-take : {X : Type 0} (at count len : ℕ) (xs : List X) → at + count ≤ len → part at count (take len xs) ≡ part at count xs
part-take at count len xs inside =
    let split : len ≡ at + (len - at) = omega arith in
    let front : count ≤ len - at = omega arith in
    rw (split, drop-take, take-take)

-- an element of a part
pub get_or-part : {X : Type 0} (at count i : ℕ) (xs : List X) (d : X) → i < count → get_or (part at count xs) i d ≡ get_or xs (at + i) d
get_or-part at count i xs d inside = simp (get_or-take, get_or-drop)
