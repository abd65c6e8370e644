-- Numbers as bits and back, and lists made position by position. Each law is by induction on the list or on the count.
use Rattle.std.proofs.Common.{◌≡◌, ℕ, zero, suc, ◌+◌, ◌-◌, ◌*◌, ◌^◌, ◌<◌, ◌≤◌, inl, inr, Bool, List, [], ◌∷◌, ◌++◌, length, take, drop, get_or, refl, ap, ◌∙◌, arith, length-append, length-drop, append-nil, add-one, All}
use Rattle.std.proofs.{Math.Nat.{mod-eq_of_lt, mul-le-mul_left}, Math.Pow.{pow_mono}, Math.Seq.{take-add}, lemmas.Bool.{cases_lt}}
use Rattle.std.proofs.lemmas.List.{flat_map_more, take_more, drop-drop, drop-append-le, take-append-le, take_at, drop_at, get_or_append_left, get_or-append_right, length-take, length-take-le, drop_more, take_all, take-append-drop}
use Rattle.std.proofs.{lemmas.List.Elements.{All-nil, All-cons, All-head, All-tail, All-append}, lemmas.List.Concat.{flat_map-append}}
use Rattle.p25_bits.specs.{Bits.{bits_of, field_of, octet_bits, part}, Numbers.{number_bits, numbers_from, each_below, joined_below}}
use Rattle.p25_bits.proofs.{PartLaws.{length-part, part_add, part_left, part_last, part-drop}, BitsLaws.{length-bits_of, bits_of-field_of, field_of-bits_of, field_of-lt}}

-- The bits of numbers.

-- octets are numbers of eight bits
pub number_bits-octets : (octets : List ℕ) → number_bits 8 octets ≡ octet_bits octets
unfolding number_bits octet_bits
number_bits-octets octets = refl

pub number_bits-nil : (width : ℕ) → number_bits width [] ≡ []
unfolding number_bits
number_bits-nil width = refl

pub number_bits-cons : (width number : ℕ) (numbers : List ℕ) → number_bits width (number ∷ numbers) ≡ bits_of width number ++ number_bits width numbers
unfolding number_bits
number_bits-cons width number numbers = refl

pub number_bits-append : (width : ℕ) (xs ys : List ℕ) → number_bits width (xs ++ ys) ≡ number_bits width xs ++ number_bits width ys
unfolding number_bits
number_bits-append width xs ys = flat_map-append _ xs ys

pub number_bits-one : (width number : ℕ) → number_bits width (number ∷ []) ≡ bits_of width number
number_bits-one width number = simp (number_bits-cons, number_bits-nil, append-nil)

pub length-number_bits : (width : ℕ) (numbers : List ℕ) → length (number_bits width numbers) ≡ width * length numbers
unfolding number_bits
length-number_bits width [] = omega arith
length-number_bits width (number ∷ numbers) =
    simp length-append (omega (arith, length-bits_of, length-number_bits width numbers))

-- the bits of the first numbers
pub take-number_bits : (width i : ℕ) (numbers : List ℕ) → i ≤ length numbers → take (width * i) (number_bits width numbers) ≡ number_bits width (take i numbers)
take-number_bits width i numbers inside =
    let long : length (number_bits width (take i numbers)) ≡ width * i = simp (length-number_bits, length-take-le) in
    rw take_at at (ap (take (width * i)) (rw take-append-drop at (number_bits-append width (take i numbers) (drop i numbers))))

-- the bits of the numbers after them
pub drop-number_bits : (width i : ℕ) (numbers : List ℕ) → i ≤ length numbers → drop (width * i) (number_bits width numbers) ≡ number_bits width (drop i numbers)
drop-number_bits width i numbers inside =
    let long : length (number_bits width (take i numbers)) ≡ width * i = simp (length-number_bits, length-take-le) in
    rw drop_at at (ap (drop (width * i)) (rw take-append-drop at (number_bits-append width (take i numbers) (drop i numbers))))

-- the bits from a number on: its own, and those of the numbers after it
pub number_bits-drop_more : (width i : ℕ) (numbers : List ℕ) → i < length numbers → number_bits width (drop i numbers) ≡ bits_of width (get_or numbers i 0) ++ number_bits width (drop (i + 1) numbers)
number_bits-drop_more width i numbers inside = rw number_bits-cons at (ap (number_bits width) (drop_more numbers i 0 inside))

-- the number of bits that one more number adds
pub more_bits : (before width count : ℕ) → (before + width * count) + width ≡ before + width * (count + 1)
more_bits before width count = rw add-one (omega arith)

-- one more number after bits
pub number_bits_more : (bits : List Bool) (width : ℕ) (numbers : List ℕ) (i : ℕ) → i < length numbers
    → (bits ++ number_bits width (take i numbers)) ++ bits_of width (get_or numbers i 0) ≡ bits ++ number_bits width (take (i + 1) numbers)
unfolding number_bits
number_bits_more bits width numbers i inside =
    rw (flat_map_more (bits_of width), take_more numbers i 0 inside)

-- the bits of a field are the part that it was read from
pub bits_of-field : (width at : ℕ) (bits : List Bool) → at + width ≤ length bits → bits_of width (field_of (part at width bits)) ≡ part at width bits
bits_of-field width at bits there =
    rw length-part at (bits_of-field_of (part at width bits))

-- a number that is read from `width` bits is below that power of two
pub field-lt : (width at : ℕ) (bits : List Bool) → field_of (part at width bits) < 2 ^ width
field-lt width at bits =
    let few : length (part at width bits) ≤ width = omega (arith, length-take width (drop at bits)) in
    omega (arith, field_of-lt, pow_mono few)

-- small numbers that write the same bits are the same
pub same_from_number_bits : (width : ℕ) (xs ys : List ℕ) → All (λ n. n < 2 ^ width) xs → All (λ n. n < 2 ^ width) ys → length xs ≡ length ys → number_bits width xs ≡ number_bits width ys → xs ≡ ys
unfolding number_bits
same_from_number_bits width [] [] small_x small_y long same = refl
same_from_number_bits width (x ∷ xs) (y ∷ ys) small_x small_y long same =
    let P : ℕ → Type 0 = λ n. n < 2 ^ width in
    let front : bits_of width x ≡ bits_of width y
    = cc (take_at _ (number_bits width xs) width (length-bits_of width x), take_at _ (number_bits width ys) width (length-bits_of width y)) in
    cc (
      mod-eq_of_lt (All-head P x xs small_x),
      field_of-bits_of width x,
      field_of-bits_of width y,
      mod-eq_of_lt (All-head P y ys small_y),
      same_from_number_bits width xs ys (All-tail P x xs small_x) (All-tail P y ys small_y) (omega arith) (cc (
        drop_at _ (number_bits width xs) width (length-bits_of width x),
        drop_at (bits_of width y) (number_bits width ys) width (length-bits_of width y),
      )),
    )
same_from_number_bits width xs ys small_x small_y long same = absurd (omega arith)

-- The numbers that bits write.

pub numbers_from-zero : (width : ℕ) (bits : List Bool) → numbers_from width 0 bits ≡ []
unfolding numbers_from
numbers_from-zero width bits = refl

pub numbers_from-suc : (width n : ℕ) (bits : List Bool) → numbers_from width (suc n) bits ≡ field_of (take width bits) ∷ numbers_from width n (drop width bits)
unfolding numbers_from
numbers_from-suc width n bits = refl

pub length-numbers_from : (width n : ℕ) (bits : List Bool) → length (numbers_from width n bits) ≡ n
unfolding numbers_from
length-numbers_from width zero bits = refl
length-numbers_from width (suc n) bits = rw (length-numbers_from width n (drop width bits))

-- each of them is below that power of two
pub All-numbers_from : (width n : ℕ) (bits : List Bool) → All (λ number. number < 2 ^ width) (numbers_from width n bits)
unfolding numbers_from
All-numbers_from width zero bits = All-nil (λ number. number < 2 ^ width)
All-numbers_from width (suc n) bits = All-cons (λ number. number < 2 ^ width)
    _ _ (field-lt width 0 bits) (All-numbers_from width n (drop width bits))

-- the number at an index
pub get_or-numbers_from : (width n : ℕ) (bits : List Bool) (j d : ℕ) → j < n → get_or (numbers_from width n bits) j d ≡ field_of (part (width * j) width bits)
unfolding numbers_from
get_or-numbers_from width zero bits j d inside = absurd (omega arith)
get_or-numbers_from width (suc n) bits zero d inside = let first : 0 ≡ width * 0 = omega arith in cc first
get_or-numbers_from width (suc n) bits (suc j) d inside =
    let next : width + width * j ≡ width * suc j = omega arith in
    get_or-numbers_from width n (drop width bits) j d (omega arith) ∙ simp (part-drop, next)

-- numbers, and then others
pub numbers_from-add : (width m n : ℕ) (bits : List Bool) → numbers_from width (m + n) bits ≡ numbers_from width m bits ++ numbers_from width n (drop (width * m) bits)
unfolding numbers_from
numbers_from-add width zero n bits =
    let none : zero + n ≡ n = omega arith in
    let first : 0 ≡ width * 0 = omega arith in
    cc first
numbers_from-add width (suc m) n bits =
    let one_more : suc m + n ≡ suc (m + n) = omega arith in
    let next : width + width * m ≡ width * suc m = omega arith in
    rw (one_more, numbers_from-add width m n (drop width bits), drop-drop, next)

pub numbers_from-more : (width n : ℕ) (bits : List Bool) → numbers_from width (n + 1) bits ≡ numbers_from width n bits ++ field_of (part (width * n) width bits) ∷ []
numbers_from-more width n bits =
    rw (numbers_from-add, numbers_from-suc, numbers_from-zero)

-- bits after those that the numbers are read from change nothing
pub numbers_from-append : (width n : ℕ) (xs ys : List Bool) → width * n ≤ length xs → numbers_from width n (xs ++ ys) ≡ numbers_from width n xs
unfolding numbers_from
numbers_from-append width zero xs ys inside = refl
numbers_from-append width (suc n) xs ys inside =
    let here : width ≤ length xs = omega arith in
    rw (take-append-le, drop-append-le, numbers_from-append width n (drop width xs) ys (omega (arith, length-drop width xs)))

-- so the beginning of bits is enough
pub numbers_from-take : (width n count : ℕ) (bits : List Bool) → width * n ≤ count → width * n ≤ length bits → numbers_from width n (take count bits) ≡ numbers_from width n bits
numbers_from-take width n count bits enough there =
    cc (numbers_from-append width n (take count bits) (drop count bits) (omega (arith, length-take count bits)), take-append-drop count bits)

-- the numbers of the bits of small numbers are those numbers
pub numbers_from-number_bits : (width : ℕ) (numbers : List ℕ) → All (λ number. number < 2 ^ width) numbers → numbers_from width (length numbers) (number_bits width numbers) ≡ numbers
unfolding numbers_from
numbers_from-number_bits width [] small = refl
numbers_from-number_bits width (number ∷ numbers) small =
    let P : ℕ → Type 0 = λ n. n < 2 ^ width in
    let long = length-bits_of width number in
    simp (number_bits-cons, take_at, field_of-bits_of, mod-eq_of_lt (All-head P number numbers small), drop_at, numbers_from-number_bits width numbers (All-tail P number numbers small))

-- the bits of the numbers that bits write are those bits
pub number_bits-numbers_from : (width n : ℕ) (bits : List Bool) → width * n ≤ length bits → number_bits width (numbers_from width n bits) ≡ take (width * n) bits
unfolding numbers_from
number_bits-numbers_from width zero bits there = simp number_bits-nil (let none : 0 ≡ width * 0 = omega arith in cc none)
number_bits-numbers_from width (suc n) bits there =
    let next : width + width * n ≡ width * suc n = omega arith in
    cc (
      number_bits-cons width _ _,
      bits_of-field width 0 bits (omega arith),
      number_bits-numbers_from width n (drop width bits) (omega (arith, length-drop width bits)),
      take-add width (width * n) bits,
    )

-- Lists made element by element.

pub each_below-zero : {X : Type 0} (f : ℕ → X) → each_below 0 f ≡ []
unfolding each_below
each_below-zero f = refl

pub each_below-suc : {X : Type 0} (n : ℕ) (f : ℕ → X) → each_below (suc n) f ≡ each_below n f ++ f n ∷ []
unfolding each_below
each_below-suc n f = refl

-- one more element, as a loop counts
pub each_below-more : {X : Type 0} (n : ℕ) (f : ℕ → X) → each_below (n + 1) f ≡ each_below n f ++ f n ∷ []
each_below-more n f = rw add-one (each_below-suc n f)

pub length-each_below : {X : Type 0} (n : ℕ) (f : ℕ → X) → length (each_below n f) ≡ n
unfolding each_below
length-each_below zero f = refl
length-each_below (suc n) f = simp length-append (omega (arith, length-each_below n f))

-- the element at an index
pub get_or-each_below : {X : Type 0} (n : ℕ) (f : ℕ → X) (j : ℕ) (d : X) → j < n → get_or (each_below n f) j d ≡ f j
unfolding each_below
get_or-each_below zero f j d inside = absurd (omega arith)
get_or-each_below (suc n) f j d inside =
    let long = length-each_below n f in
    elim (cases_lt j n) [
      | inl before ↦
          get_or_append_left _ _ d j (omega arith) ∙ get_or-each_below n f j d before
      | inr last ↦
          let here : j ≡ n = omega arith in
          let first : j - n ≡ 0 = omega arith in
          rw (get_or-append_right _ _ n j d long last, first, here)
    ]

-- only the values below the count matter
pub each_below-same : {X : Type 0} (n : ℕ) (f g : ℕ → X) → ((j : ℕ) → j < n → f j ≡ g j) → each_below n f ≡ each_below n g
unfolding each_below
each_below-same zero f g same = refl
each_below-same (suc n) f g same = rw (each_below-same n f g (λ j inside. same j (omega arith)), same n (omega arith))

-- a property that each value has, each element has
pub All-each_below : {X : Type 0} (P : X → Type 0) (n : ℕ) (f : ℕ → X) → ((j : ℕ) → j < n → P (f j)) → All P (each_below n f)
unfolding each_below
All-each_below P zero f each = All-nil P
All-each_below P (suc n) f each = All-append P _ _ (All-each_below P n f (λ j inside. each j (omega arith))) (All-cons P _ [] (each n (omega arith)) (All-nil P))

-- the first m of the elements
pub take-each_below : {X : Type 0} (m n : ℕ) (f : ℕ → X) → m ≤ n → take m (each_below n f) ≡ each_below m f
unfolding each_below
take-each_below m zero f fits = let none : m ≡ 0 = omega arith in simp none
take-each_below m (suc n) f fits =
    let long = length-each_below n f in
    elim (cases_lt m (suc n)) [
      | inl fewer ↦
          take-append-le m _ _ (omega arith) ∙ take-each_below m n f (omega arith)
      | inr every ↦
          let here : m ≡ suc n = omega arith in
          let all : length (each_below (suc n) f) ≤ m = omega (arith, length-each_below) in
          rw (take_all, here)
    ]

-- a list has at each index its element there
pub each_below-list : {X : Type 0} (xs : List X) (d : X) (n : ℕ) → n ≤ length xs → each_below n (λ j. get_or xs j d) ≡ take n xs
unfolding each_below
each_below-list xs d zero inside = refl
each_below-list xs d (suc n) inside =
    let one : suc n ≡ n + 1 = omega arith in
    simp (each_below-list xs d n (omega arith), take_more xs n d (omega arith), one)

pub joined_below-zero : {X : Type 0} (f : ℕ → List X) → joined_below 0 f ≡ []
unfolding joined_below
joined_below-zero f = refl

pub joined_below-suc : {X : Type 0} (n : ℕ) (f : ℕ → List X) → joined_below (suc n) f ≡ joined_below n f ++ f n
unfolding joined_below
joined_below-suc n f = refl

-- one more list, as a loop counts
pub joined_below-more : {X : Type 0} (n : ℕ) (f : ℕ → List X) → joined_below (n + 1) f ≡ joined_below n f ++ f n
joined_below-more n f = rw add-one (joined_below-suc n f)

-- lists of one length
pub length-joined_below : {X : Type 0} (size n : ℕ) (f : ℕ → List X) → ((j : ℕ) → j < n → length (f j) ≡ size) → length (joined_below n f) ≡ size * n
unfolding joined_below
length-joined_below size zero f long = omega arith
length-joined_below size (suc n) f long =
    simp length-append (omega (arith, length-joined_below size n f (λ j inside. long j (omega arith))))

-- the list at an index
pub part-joined_below : {X : Type 0} (size n : ℕ) (f : ℕ → List X) (j : ℕ) → ((i : ℕ) → i < n → length (f i) ≡ size) → j < n → part (size * j) size (joined_below n f) ≡ f j
unfolding joined_below
part-joined_below size zero f j long inside = absurd (omega arith)
part-joined_below size (suc n) f j long inside =
    let before = length-joined_below size n f (λ i there. long i (omega arith)) in
    elim (cases_lt j n) [
      | inl earlier ↦
          let next : suc j ≤ n = omega arith in
          part_left (size * j) size _ _ (omega (arith, mul-le-mul_left size next)) ∙ part-joined_below size n f j (λ i there. long i (omega arith)) earlier
      | inr last ↦
          let here : j ≡ n = omega arith in
          rw (part_last (size * j) size (joined_below n f) _ (simp (before, here)) (long n (omega arith)), here)
    ]

-- only the lists below the count matter
pub joined_below-same : {X : Type 0} (n : ℕ) (f g : ℕ → List X) → ((j : ℕ) → j < n → f j ≡ g j) → joined_below n f ≡ joined_below n g
unfolding joined_below
joined_below-same zero f g same = refl
joined_below-same (suc n) f g same = rw (joined_below-same n f g (λ j inside. same j (omega arith)), same n (omega arith))

-- a property that all elements of each list have, all elements have
pub All-joined_below : {X : Type 0} (P : X → Type 0) (n : ℕ) (f : ℕ → List X) → ((j : ℕ) → j < n → All P (f j)) → All P (joined_below n f)
unfolding joined_below
All-joined_below P zero f each = All-nil P
All-joined_below P (suc n) f each = All-append P _ _ (All-joined_below P n f (λ j inside. each j (omega arith))) (each n (omega arith))

-- parts that touch, joined
pub joined_below-parts : {X : Type 0} (at size n : ℕ) (xs : List X) → joined_below n (λ j. part (at + size * j) size xs) ≡ part at (size * n) xs
unfolding joined_below
joined_below-parts at size zero xs = let none : 0 ≡ size * 0 = omega arith in cc none
joined_below-parts at size (suc n) xs =
    let next : size * n + size ≡ size * suc n = omega arith in
    rw (joined_below-parts at size n xs, part_add, next)
