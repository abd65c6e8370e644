-- Laws of the interleaver: a sum over the positions of lists is a sum over their fourth elements, and its order is a table, which computed tests
-- compare.
use Rattle.std.proofs.Common.{◌≡◌, ◌≢◌, ℕ, zero, suc, ◌+◌, ◌<◌, ◌≤◌, ◌||◌, Bool, true, false, not, cond, eqb, ltb, List, [], ◌∷◌, ◌++◌, map, length, get_or, set, take, refl, sym, ◌∙◌, arith, length-append, below_more, get_or-set_same, get_or-set_other, All}
use Rattle.std.proofs.{lemmas.List.Elements.{All-cons, All-head, All-tail, All-append, All-same, All-take, All-drop}, lemmas.Bool.{eqb-true, ltb-true, eq-eqb}}
use Rattle.std.proofs.{lemmas.List.{take_all, take_at, drop_at, map-append, get_or-map}, lemmas.List.FromFn.{fill_by_all}}
use Rattle.std.specs.List.{range_with_len}
use Rattle.p25_bits.specs.Distance.{distance_by}
use Rattle.p25_bits.proofs.DistanceLaws.{distance_by-same, same_from_distance_by}
use Rattle.p25_trellis.specs.{declared.interleave.TheConstants.{SENT_ORDER}, Interleave.{each_fourth, interleaved}, TableLaws.{passed_below, passed_below-at}}

-- the number of fourth elements depends on the length alone
length-each_fourth : {X Y : Type 0} (wait : ℕ) (xs : List X) (ys : List Y) → length xs ≡ length ys → length (each_fourth wait xs) ≡ length (each_fourth wait ys)
unfolding each_fourth
length-each_fourth wait [] [] long = refl
length-each_fourth zero (x ∷ xs) (y ∷ ys) long = cc (length-each_fourth 3 xs ys (omega arith))
length-each_fourth (suc wait) (x ∷ xs) (y ∷ ys) long = length-each_fourth wait xs ys (omega arith)
length-each_fourth wait xs ys long = absurd (omega arith)

each_fourth-map : {X Y : Type 0} (f : X → Y) (wait : ℕ) (xs : List X) → each_fourth wait (map f xs) ≡ map f (each_fourth wait xs)
unfolding each_fourth
each_fourth-map f wait [] = refl
each_fourth-map f zero (x ∷ xs) = cc (each_fourth-map f 3 xs)
each_fourth-map f (suc wait) (x ∷ xs) = each_fourth-map f wait xs

-- to interleave and to change each element can be done in either order
pub interleaved-map : {X Y : Type 0} (f : X → Y) (xs : List X) → interleaved (map f xs) ≡ map f (interleaved xs)
unfolding interleaved
interleaved-map f xs = simp (each_fourth-map, map-append)

-- the fourth elements from the four first positions are all of a list
length-fourths : {X : Type 0} (xs : List X) → length (each_fourth 0 xs) + length (each_fourth 1 xs) + length (each_fourth 2 xs) + length (each_fourth 3 xs) ≡ length xs
unfolding each_fourth
length-fourths [] = refl
length-fourths (x ∷ xs) = omega (arith, length-fourths xs)

pub length-interleaved : {X : Type 0} (xs : List X) → length (interleaved xs) ≡ length xs
unfolding interleaved
length-interleaved xs = simp length-append (length-fourths xs)

-- the sum over the positions of two lists of the weights of their elements against each other
unfoldable pub weighed : {X Y : Type 0} → (X → Y → ℕ) → List X → List Y → ℕ
weighed weight [] ys = 0
weighed weight (x ∷ xs) [] = 0
weighed weight (x ∷ xs) (y ∷ ys) = weight x y + weighed weight xs ys

weighed-fourths : {X Y : Type 0} (weight : X → Y → ℕ) (xs : List X) (ys : List Y) → length xs ≡ length ys
    → weighed weight (each_fourth 0 xs) (each_fourth 0 ys)
    + weighed weight (each_fourth 1 xs) (each_fourth 1 ys)
    + weighed weight (each_fourth 2 xs) (each_fourth 2 ys)
    + weighed weight (each_fourth 3 xs) (each_fourth 3 ys)
    ≡ weighed weight xs ys
unfolding each_fourth weighed
weighed-fourths weight [] [] long = refl
weighed-fourths weight (x ∷ xs) (y ∷ ys) long = omega (arith, weighed-fourths weight xs ys)
weighed-fourths weight xs ys long = absurd (omega arith)

weighed-append : {X Y : Type 0} (weight : X → Y → ℕ) (xs ys : List X) (us vs : List Y) → length xs ≡ length us → weighed weight (xs ++ ys) (us ++ vs) ≡ weighed weight xs us + weighed weight ys vs
unfolding weighed
weighed-append weight [] ys [] vs long = omega arith
weighed-append weight (x ∷ xs) ys (u ∷ us) vs long = omega (arith, weighed-append weight xs ys us)
weighed-append weight xs ys us vs long = absurd (omega arith)

-- interleaved lists weigh as much against each other as the lists
pub weighed-interleaved : {X Y : Type 0} (weight : X → Y → ℕ) (xs : List X) (ys : List Y) → length xs ≡ length ys → weighed weight (interleaved xs) (interleaved ys) ≡ weighed weight xs ys
unfolding interleaved
weighed-interleaved weight xs ys long =
    let e0 = length-each_fourth 0 xs ys long in
    let e1 = length-each_fourth 1 xs ys long in
    let e2 = length-each_fourth 2 xs ys long in
    cc (
      weighed-append weight (each_fourth 0 xs ++ each_fourth 1 xs ++ each_fourth 2 xs)
          _ (each_fourth 0 ys ++ each_fourth 1 ys ++ each_fourth 2 ys) _ (simp length-append (cc)),
      weighed-append weight (each_fourth 0 xs ++ each_fourth 1 xs) _ (each_fourth 0 ys ++ each_fourth 1 ys) _ (simp length-append (cc)),
      weighed-append weight _ (each_fourth 1 xs) (each_fourth 0 ys) (each_fourth 1 ys) e0,
      weighed-fourths weight xs ys long,
    )

-- the distance of two lists is such a sum
distance_by-weighed : {X : Type 0} (same : X → X → Bool) (xs ys : List X) → distance_by same xs ys ≡ weighed (λ x y. cond (same x y) 0 1) xs ys
unfolding distance_by weighed
distance_by-weighed same (x ∷ xs) (y ∷ ys) = cc (distance_by-weighed same xs ys)
distance_by-weighed same xs ys = refl

-- two interleaved lists differ in as many positions as the lists
distance_by-interleaved : {X : Type 0} (same : X → X → Bool) (xs ys : List X) → length xs ≡ length ys → distance_by same (interleaved xs) (interleaved ys) ≡ distance_by same xs ys
distance_by-interleaved same xs ys long =
    simp (distance_by-weighed, weighed-interleaved)

eqb-same : (n : ℕ) → eqb n n ≡ true
eqb-same n = eq-eqb n n refl

-- no other list is transmitted in the same order
pub same_from_interleaved : (xs ys : List ℕ) → interleaved xs ≡ interleaved ys → xs ≡ ys
same_from_interleaved xs ys same =
    let long : length xs ≡ length ys = rw (← length-interleaved, same, length-interleaved) in
    same_from_distance_by eqb eqb-true xs ys long
    (cc (distance_by-interleaved eqb xs ys long, same, distance_by-same eqb eqb-same (interleaved ys)))

-- the table of the order is the order
order-interleaved : interleaved (range_with_len 0 49) ≡ SENT_ORDER
unfolding interleaved each_fourth
order-interleaved = refl

-- the nibble at each position of the transmission
pub get_or-interleaved : (xs : List ℕ) (place : ℕ) → length xs ≡ 49 → place < 49 → get_or (interleaved xs) place 0 ≡ get_or xs (get_or SENT_ORDER place 0) 0
get_or-interleaved xs place long inside =
    let f : ℕ → ℕ = λ i. get_or xs i 0 in
    cc (fill_by_all f xs 49 0 long (λ k h. refl), interleaved-map f (range_with_len 0 49), order-interleaved, get_or-map f SENT_ORDER place 0 0 (omega arith))

-- every entry of the order is a position
order_test : passed_below 49 (λ place. ltb (get_or SENT_ORDER place 0) 49) ≡ true
unfolding passed_below
order_test = refl

pub order-lt : (place : ℕ) → place < 49 → get_or SENT_ORDER place 0 < 49
order-lt place inside = ltb-true (get_or SENT_ORDER place 0) 49 (passed_below-at 49 _ order_test place inside)

-- no position is in the order twice
differs_test : passed_below 49 (λ place. passed_below 49 (λ other. eqb place other || not (eqb (get_or SENT_ORDER place 0) (get_or SENT_ORDER other 0)))) ≡ true
unfolding passed_below
differs_test = refl

pub order-differs : (place other : ℕ) → place < 49 → other < 49 → place ≢ other → get_or SENT_ORDER place 0 ≢ get_or SENT_ORDER other 0
order-differs place other inside there differ same =
    apart (eqb place other) _
    (passed_below-at 49 _ (passed_below-at 49 _ differs_test place inside) other there)
    (λ e. differ (eqb-true place other e))
    (eq-eqb _ _ same)
  where
    apart : (a b : Bool) → (a || not b) ≡ true → (a ≡ true → ⊥) → b ≡ true → ⊥
    apart true b h not_a is_b = not_a refl
    apart false true h not_a is_b = cc
    apart false false h not_a is_b = cc

-- lists that agree as far as both reach are one list
pub same_from_take : {X : Type 0} (n : ℕ) (xs ys : List X) → length xs ≤ n → length ys ≤ n → take n xs ≡ take n ys → xs ≡ ys
same_from_take n xs ys short brief same = sym (take_all n xs short) ∙ same ∙ take_all n ys brief

-- one more nibble is written to its position
pub written_more : (gathered nibbles : List ℕ) (place : ℕ) → length gathered ≡ 49 → place < 49
    → ((k : ℕ) → k < place → get_or gathered (get_or SENT_ORDER k 0) 0 ≡ get_or nibbles k 0) → (k : ℕ) → k < place + 1
    → get_or (set gathered (get_or SENT_ORDER place 0) (get_or nibbles place 0)) (get_or SENT_ORDER k 0) 0 ≡ get_or nibbles k 0
written_more gathered nibbles place long inside so_far =
    below_more (λ k. get_or _ (get_or SENT_ORDER k 0) 0 ≡ get_or nibbles k 0) place before here
  where
    before : (k : ℕ) → k < place → get_or (set gathered (get_or SENT_ORDER place 0) (get_or nibbles place 0)) (get_or SENT_ORDER k 0) 0 ≡ get_or nibbles k 0
    before k h =
        get_or-set_other gathered (get_or SENT_ORDER place 0) (get_or SENT_ORDER k 0) (get_or nibbles place 0) 0 (order-differs k place (omega arith) inside (omega arith))
        ∙ so_far k h

    here : get_or (set gathered (get_or SENT_ORDER place 0) (get_or nibbles place 0)) (get_or SENT_ORDER place 0) 0 ≡ get_or nibbles place 0
    here =
        get_or-set_same gathered (get_or SENT_ORDER place 0) (get_or nibbles place 0) 0 (omega (arith, order-lt place inside))

-- a property of each element of two lists, one after the other, holds for each of either
All-front : {X : Type 0} (P : X → Type 0) (xs ys : List X) → All P (xs ++ ys) → All P xs
All-front P xs ys all = All-same P xs _ (sym (take_at xs ys _ refl)) (All-take P _ _ all)

All-back : {X : Type 0} (P : X → Type 0) (xs ys : List X) → All P (xs ++ ys) → All P ys
All-back P xs ys all = All-same P ys _ (sym (drop_at xs ys _ refl)) (All-drop P _ _ all)

All-each_fourth : {X : Type 0} (P : X → Type 0) (wait : ℕ) (xs : List X) → All P xs → All P (each_fourth wait xs)
unfolding each_fourth
All-each_fourth P wait [] all = all
All-each_fourth P zero (x ∷ xs) all = All-cons P x _ (All-head P x xs all) (All-each_fourth P 3 xs (All-tail P x xs all))
All-each_fourth P (suc wait) (x ∷ xs) all = All-each_fourth P wait xs (All-tail P x xs all)

-- a property of each element holds for each in the order of transmission
pub All-interleaved : {X : Type 0} (P : X → Type 0) (xs : List X) → All P xs → All P (interleaved xs)
unfolding interleaved
All-interleaved P xs all =
    All-append P _ _
    (
    All-append P _ _
    (All-append P _ _ (All-each_fourth P 0 xs all) (All-each_fourth P 1 xs all))
    (All-each_fourth P 2 xs all)
    )
    (All-each_fourth P 3 xs all)

All-from_fourths : {X : Type 0} (P : X → Type 0) (xs : List X) → All P (each_fourth 0 xs) → All P (each_fourth 1 xs) → All P (each_fourth 2 xs) → All P (each_fourth 3 xs) → All P xs
unfolding each_fourth
All-from_fourths P [] all0 all1 all2 all3 = all0
All-from_fourths P (x ∷ xs) all0 all1 all2 all3 =
    All-cons P x xs (All-head P x _ all0) (All-from_fourths P xs all1 all2 all3 (All-tail P x _ all0))

-- a property of each element in the order of transmission holds for each
pub All-from_interleaved : {X : Type 0} (P : X → Type 0) (xs : List X) → All P (interleaved xs) → All P xs
unfolding interleaved
All-from_interleaved P xs all =
    let e0 = each_fourth 0 xs in
    let e1 = each_fourth 1 xs in
    let e2 = each_fourth 2 xs in
    let e3 = each_fourth 3 xs in
    let beginning = All-front P _ e3 all in
    let half = All-front P _ e2 beginning in
    All-from_fourths P xs (All-front P e0 e1 half) (All-back P e0 e1 half) (All-back P _ e2 beginning) (All-back P _ e3 all)
