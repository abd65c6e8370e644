-- Laws of the distance of two lists, for any test that calls letters equal if and only if they are the same. The distance of bits is the weight of an
-- exclusive or. By induction on both lists.
use Rattle.std.proofs.Common.{◌≡◌, ℕ, zero, suc, ◌+◌, ◌^◌, ◌<◌, ◌≤◌, inl, inr, Bool, true, false, cond, List, [], ◌∷◌, ◌++◌, length, take, drop, refl, ap₂, sym, ◌∙◌, arith, bit_xor, mod-eq_of_lt, nat_eq, length-drop}
use Rattle.std.proofs.{lemmas.Bool.{cases_Bool, cond-true, cond-false}, lemmas.Nat.{ones_cat, xor_block, xor_lt}}
use Rattle.std.specs.{Bool.{beq}, Cmp.{booleans_Decides, unsigned_Decides, both_ways}, Cmp.Lexicographic.{pointwise, pointwise_decides}, Int.RustNames.{count_ones}}
use Rattle.p25_bits.specs.{Bits.{digit_of, bits_of, field_of, part, flipped}, Distance.{distance_by, distance_of}}
use Rattle.p25_bits.proofs.BitsLaws.{length-bits_of, field_of-cons, field_of-lt, field_of-nil, field_of-bits_of}

-- a list is at no distance from itself
pub distance_by-same : {X : Type 0} (same : X → X → Bool) → ((x : X) → same x x ≡ true) → (xs : List X) → distance_by same xs xs ≡ 0
unfolding distance_by
distance_by-same same alike [] = refl
distance_by-same same alike (x ∷ xs) = rw alike (omega (arith, distance_by-same same alike xs))

-- if a test is symmetric, so is the distance
pub distance_by-sym : {X : Type 0} (same : X → X → Bool) → ((x y : X) → same x y ≡ same y x) → (xs ys : List X) → distance_by same xs ys ≡ distance_by same ys xs
unfolding distance_by
distance_by-sym same turned [] [] = refl
distance_by-sym same turned (x ∷ xs) (y ∷ ys) = rw (turned, distance_by-sym same turned xs ys)
distance_by-sym same turned xs ys = refl

pub cond-le : (b : Bool) → cond b 0 1 ≤ 1
cond-le true = omega arith
cond-le false = omega arith

-- the distance is at most the length
pub distance_by-le : {X : Type 0} (same : X → X → Bool) (xs ys : List X) → distance_by same xs ys ≤ length xs
unfolding distance_by
distance_by-le same (x ∷ xs) (y ∷ ys) = omega (arith, distance_by-le same xs ys, cond-le)
distance_by-le same xs ys = omega arith

-- lists of one length at no distance are one list
pub same_from_distance_by : {X : Type 0} (same : X → X → Bool) → ((x y : X) → same x y ≡ true → x ≡ y) → (xs ys : List X) → length xs ≡ length ys → distance_by same xs ys ≡ 0 → xs ≡ ys
unfolding distance_by
same_from_distance_by same alike [] [] long near = refl
same_from_distance_by same alike (x ∷ xs) (y ∷ ys) long near = elim (cases_Bool (same x y)) [
  | inl yes' ↦ ap₂ ◌∷◌ (alike x y yes') (same_from_distance_by same alike xs ys (omega arith) (omega (arith, cond-true {A = ℕ} (same x y) 0 1 yes')))
  | inr no' ↦ absurd (omega (arith, cond-false {A = ℕ} (same x y) 0 1 no'))
]
same_from_distance_by same alike xs ys long near = absurd (omega arith)

letters : (a b c : Bool) → (a ≡ true → b ≡ true → c ≡ true) → cond c 0 1 ≤ cond a 0 1 + cond b 0 1
letters true true c h = rw h (omega arith)
letters a b c h = omega (arith, cond-le)

-- the triangle: the way round by a third list is no shorter
pub distance_by-triangle : {X : Type 0} (same : X → X → Bool) → ((x y z : X) → same x y ≡ true → same y z ≡ true → same x z ≡ true) → (xs ys zs : List X) → length xs ≡ length ys
    → distance_by same xs zs ≤ distance_by same xs ys + distance_by same ys zs
unfolding distance_by
distance_by-triangle same through (x ∷ xs) [] zs long = absurd (omega arith)
distance_by-triangle same through (x ∷ xs) (y ∷ ys) (z ∷ zs) long = omega (
  arith,
  letters (same x y) (same y z) (same x z) (through x y z),
  distance_by-triangle same through xs ys zs (omega arith),
)
distance_by-triangle same through xs ys zs long = omega arith

-- two runs, one after the other: their distances add up
pub distance_by-append : {X : Type 0} (same : X → X → Bool) (xs ys us vs : List X) → length xs ≡ length us → distance_by same (xs ++ ys) (us ++ vs) ≡ distance_by same xs us + distance_by same ys vs
unfolding distance_by
distance_by-append same [] ys [] vs long = omega arith
distance_by-append same (x ∷ xs) ys (u ∷ us) vs long = omega (arith, distance_by-append same xs ys us)
distance_by-append same xs ys us vs long = absurd (omega arith)

-- the distance of an empty list is 0
pub distance_by-nil : {X : Type 0} (same : X → X → Bool) (ys : List X) → distance_by same [] ys ≡ 0
unfolding distance_by
distance_by-nil same ys = refl

-- for bits

beq-same : (x : Bool) → beq x x ≡ true
beq-same true = refl
beq-same false = refl

beq-sym : (x y : Bool) → beq x y ≡ beq y x
beq-sym true true = refl
beq-sym false true = refl
beq-sym x y = refl

beq-alike : (x y : Bool) → beq x y ≡ true → x ≡ y
beq-alike true false h = sym h
beq-alike false true h = h
beq-alike x y h = refl

pub distance_of-same : (xs : List Bool) → distance_of xs xs ≡ 0
distance_of-same = distance_by-same beq beq-same

pub distance_of-sym : (xs ys : List Bool) → distance_of xs ys ≡ distance_of ys xs
distance_of-sym = distance_by-sym beq beq-sym

pub same_from_distance_of : (xs ys : List Bool) → length xs ≡ length ys → distance_of xs ys ≡ 0 → xs ≡ ys
same_from_distance_of = same_from_distance_by beq beq-alike

pub distance_of-triangle : (xs ys zs : List Bool) → length xs ≡ length ys → distance_of xs zs ≤ distance_of xs ys + distance_of ys zs
distance_of-triangle = distance_by-triangle beq (λ x y z a b. rw (beq-alike y z b) at a)

-- the distance of two lists is the sum of the distances of their parts before an index and from it on
pub distance_of-split : (n : ℕ) (xs ys : List Bool) → length xs ≡ length ys → distance_of (take n xs) (take n ys) + distance_of (drop n xs) (drop n ys) ≡ distance_of xs ys
unfolding distance_by
distance_of-split (suc n) [] (y ∷ ys) long = absurd (omega arith)
distance_of-split (suc n) (x ∷ xs) [] long = absurd (omega arith)
distance_of-split (suc n) (x ∷ xs) (y ∷ ys) long = omega (arith, distance_of-split n)
distance_of-split n xs ys long = omega arith

-- so the beginnings of two lists differ in no more positions than the lists, and so do any two parts
pub distance_of-take : (n : ℕ) (xs ys : List Bool) → length xs ≡ length ys → distance_of (take n xs) (take n ys) ≤ distance_of xs ys
distance_of-take n xs ys long = omega (arith, distance_of-split)

pub distance_of-part : (at count : ℕ) (xs ys : List Bool) → length xs ≡ length ys → distance_of (part at count xs) (part at count ys) ≤ distance_of xs ys
distance_of-part at count xs ys long =
    omega (arith, distance_of-split at, distance_of-take count (drop at xs) (drop at ys) (omega (arith, length-drop at xs, length-drop at ys)))

-- one inverted bit makes a distance of at most 1
pub distance_of-flipped : (bits : List Bool) (place : ℕ) → distance_of (flipped bits place) bits ≤ 1
unfolding distance_by
distance_of-flipped [] place = omega arith
distance_of-flipped (bit ∷ bits) zero = omega (arith, cond-le, distance_of-same bits)
distance_of-flipped (bit ∷ bits) (suc place) = omega (arith, cond-true {A = ℕ} _ 0 1 (beq-same bit), distance_of-flipped bits place)

-- lists of one length are equal exactly if they differ in no position
pub pointwise-distance_of : (xs ys : List Bool) → length xs ≡ length ys → nat_eq (distance_of xs ys) 0 ≡ pointwise beq xs ys
pointwise-distance_of xs ys long =
    let tells = pointwise_decides booleans_Decides xs ys in
    both_ways _ _
    (λ e. tells.1 (same_from_distance_of xs ys long ((unsigned_Decides _ 0).0 e)))
    (λ e. (unsigned_Decides _ 0).1 (rw (← tells.0) (distance_of-same xs)))

-- the exclusive or of two digits has a 1 exactly if they differ
ones_digits : (x y : Bool) → count_ones (bit_xor (digit_of x) (digit_of y)) ≡ cond (beq x y) 0 1
unfolding count_ones
ones_digits true true = refl
ones_digits false true = refl
ones_digits x y = refl

-- the number of positions in which two lists of one length differ is the weight of the exclusive or of their numbers
pub ones-xor : (xs ys : List Bool) → length xs ≡ length ys → count_ones (bit_xor (field_of xs) (field_of ys)) ≡ distance_of xs ys
unfolding distance_by count_ones
ones-xor [] [] same = simp field_of-nil
ones-xor (x ∷ xs) (y ∷ ys) same =
    let k = length xs in
    let long : length ys ≡ k = omega arith in
    let below = field_of-lt xs in
    let below' = simp long at (field_of-lt ys) in
    rw (field_of-cons, rw long at (field_of-cons y ys), xor_block) (ones_cat k _ _ (xor_lt k _ _ below below') ∙ ap₂ ◌+◌ (ones_digits x y) (ones-xor xs ys (omega arith)))
ones-xor xs ys same = absurd (omega arith)

-- so the weight of the exclusive or of two numbers is the distance of their bits
pub distance_of-bits_of : (width m n : ℕ) → m < 2 ^ width → n < 2 ^ width → distance_of (bits_of width m) (bits_of width n) ≡ count_ones (bit_xor m n)
distance_of-bits_of width m n small_m small_n =
    simp (field_of-bits_of, mod-eq_of_lt) at (sym (ones-xor (bits_of width m) (bits_of width n) (simp length-bits_of)))

-- and the weight of the exclusive or of two short numbers is small
pub ones-xor-le : (width m n : ℕ) → m < 2 ^ width → n < 2 ^ width → count_ones (bit_xor m n) ≤ width
ones-xor-le width m n small_m small_n =
    omega (arith, distance_of-bits_of width m n small_m small_n, distance_by-le, length-bits_of)
