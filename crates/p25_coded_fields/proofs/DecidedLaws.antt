-- Fields decoded from costs: the order of the inner words as a test of numbers, positions of words in lists, and the first decoding that finds a
-- codeword.
use Rattle.std.proofs.Common.{◌≡◌, ◌≢◌, ◌⊎◌, inl, inr, ℕ, zero, suc, ◌+◌, ◌-◌, ◌*◌, ◌<◌, ◌≤◌, Bool, true, false, ◌||◌, ◌&&◌, eqb, nat_lt, cond, List, [], ◌∷◌, ◌++◌, length, take, drop, replicate, Option, Some, None, refl, ap, ap₂, sym, ◌∙◌, subst, arith, add-one}
use Rattle.std.proofs.{lemmas.Bool.{lt-ltb, le-ltb, eq-eqb}, lemmas.Bool.Decides.{eqb_tells}, lemmas.List.{length-take-le, take_all, take-replicate, append-nil, length-replicate, replicate-append-replicate}, lemmas.Slice.{take-put_mid}}
use Rattle.std.specs.Option.{option_or, is_some}
use borrow.Rule.Slice.PartMut.{put_mid}
use Rattle.p25_bits.specs.{Bits.{bits_of}, Numbers.{joined_below}}
use Rattle.p25_code.specs.Erasures.{without_erased}
use Rattle.p25_link.specs.Symbols.{symbols_in}
use Rattle.p25_bits.proofs.NumbersLaws.{joined_below-zero, joined_below-suc, joined_below-more, joined_below-same}
use Rattle.p25_gf64.specs.declared.symbol.Sym.{Sym}
use Rattle.p25_coded_fields.specs.Decided.{InnerWords, information_at, rank_at, rank_of, stands_before, first_found, marks_by, read_erasing, read_marking, symbols_decided, symbols_or, symbols_read, word_decided}
use Rattle.p25_coded_fields.proofs.SymbolsLaws.{one_more}

-- the order by two tests: one sum is less than another, or it is the same and the first index is less
order_less : (a b i j : ℕ) → a < b → nat_lt a b ≡ nat_lt a b || eqb a b && nat_lt i j
order_less a b i j less = rw (lt-ltb a b less) refl

order_equal : (a b i j : ℕ) → a ≡ b → nat_lt i j ≡ nat_lt a b || eqb a b && nat_lt i j
order_equal a b i j same = let none : b ≤ a = omega arith in rw (le-ltb a b none, eq-eqb a b same) refl

order_more : (a b i j : ℕ) → b ≤ a → a ≢ b → eqb a b ≡ nat_lt a b || eqb a b && nat_lt i j
order_more a b i j more other = elim (eqb_tells a b) [
  | inl equal ↦ absurd (other equal.1)
  | inr apart ↦ rw (le-ltb a b more, apart.0) refl
]

pub before_less : (least second : ℕ → ℕ) (i j : ℕ) → second i + 2 * least j < second j + 2 * least i
    → nat_lt (second i + 2 * least j) (second j + 2 * least i) ≡ stands_before least second i j
unfolding stands_before
before_less least second i j less = order_less (second i + 2 * least j) (second j + 2 * least i) i j less

pub before_equal : (least second : ℕ → ℕ) (i j : ℕ) → second i + 2 * least j ≡ second j + 2 * least i → nat_lt i j ≡ stands_before least second i j
unfolding stands_before
before_equal least second i j same = order_equal (second i + 2 * least j) (second j + 2 * least i) i j same

pub before_more : (least second : ℕ → ℕ) (i j : ℕ) → second j + 2 * least i ≤ second i + 2 * least j → second i + 2 * least j ≢ second j + 2 * least i
    → eqb (second i + 2 * least j) (second j + 2 * least i) ≡ stands_before least second i j
unfolding stands_before
before_more least second i j more other = order_more (second i + 2 * least j) (second j + 2 * least i) i j more other

-- no word is before the first
pub rank_none : (before : ℕ → ℕ → Bool) (i : ℕ) → 0 ≡ rank_of 0 before i
unfolding rank_of
rank_none before i = refl

-- one word more
pub rank_more : (n : ℕ) (before : ℕ → ℕ → Bool) (i count : ℕ) → count ≡ cond (before n i) 1 0 → rank_of n before i + count ≡ rank_of (n + 1) before i
unfolding rank_of
rank_more n before i count is = rw (add-one, is) refl

-- the symbols stored in groups, with one more group
pub joined_next : {X : Type 0} (f : ℕ → List X) (each i k : ℕ) (word xs : List X) → each * i + each ≤ length word → length xs ≡ each
    → take (each * i) word ≡ joined_below i f → xs ≡ f i → take (each * (i + 1)) (put_mid (each * i) k word xs) ≡ joined_below (i + 1) f
joined_next f each i k word xs there long before is =
    let next : each * (i + 1) ≡ each * i + length xs = omega (arith, one_more each i) in
    let fits : each * i ≤ length word = omega arith in
    take-put_mid (each * i) k word xs (each * (i + 1)) next fits ∙ ap₂ ◌++◌ before is ∙ sym (joined_below-more i f)

-- all groups
pub joined_all : {X : Type 0} (f : ℕ → List X) (each i n : ℕ) (word : List X) → i ≡ n → each * n ≡ length word
    → take (each * i) word ≡ joined_below i f → word ≡ joined_below n f
joined_all f each i n word same whole before =
    let all : length word ≤ each * i = omega (arith, ap (λ m. each * m) same) in
    sym (take_all (each * i) word all) ∙ before ∙ ap (λ m. joined_below m f) same

-- before the first group
pub joined_first : {X : Type 0} (f : ℕ → List X) (each : ℕ) (word : List X) → take (each * 0) word ≡ joined_below 0 f
joined_first f each word =
    let none : each * 0 ≡ 0 = omega arith in
    ap (λ m. take m word) none ∙ sym (joined_below-zero f)

-- one more decoding, if those before found nothing
pub first_next : {X : Type 0} (n : ℕ) (reading : ℕ → Option X) → first_found n reading ≡ None → first_found (suc n) reading ≡ reading n
unfolding first_found
first_next n reading none = ap (λ (found : Option _). option_or found (reading n)) none

-- no decoding finds nothing
pub first_none : {X : Type 0} (reading : ℕ → Option X) → first_found 0 reading ≡ None
unfolding first_found
first_none reading = refl

-- the result of an earlier decoding stays
pub first_stays : {X : Type 0} (n more : ℕ) (reading : ℕ → Option X) (x : X) → first_found n reading ≡ Some x → first_found (more + n) reading ≡ Some x
unfolding first_found
first_stays n zero reading x found = let same : 0 + n ≡ n = omega arith in ap (λ m. first_found m reading) same ∙ found
first_stays n (suc more) reading x found =
    let next : suc more + n ≡ suc (more + n) = omega arith in
    ap (λ m. first_found m reading) next ∙ ap (λ (o : Option _). option_or o (reading (more + n))) (first_stays n more reading x found)

-- no symbols are marked
pub marks_none : (each count : ℕ) (rank : ℕ → ℕ) (n : ℕ) → each * count ≡ n → marks_by each count rank 0 ≡ replicate n false
unfolding marks_by
marks_none each count rank n whole = groups count rank ∙ ap (λ m. replicate m false) whole
  where
    none : (a : ℕ) → nat_lt a 0 ≡ false
    none a = le-ltb a 0 (omega arith)

    groups : (c : ℕ) (r : ℕ → ℕ) → joined_below c (λ i. replicate each (nat_lt (each * r i) 0)) ≡ replicate (each * c) false
    groups zero r = let empty : 0 ≡ each * 0 = omega arith in joined_below-zero (λ i. replicate each (nat_lt (each * r i) 0)) ∙ ap (λ m. replicate m false) empty
    groups (suc c) r =
        let next : each * c + each ≡ each * suc c = omega (arith, one_more each c) in
        joined_below-suc c (λ i. replicate each (nat_lt (each * r i) 0))
        ∙ ap₂ ◌++◌ (groups c r) (ap (replicate each) (none (each * r c)))
        ∙ replicate-append-replicate (each * c) each false ∙ ap (λ m. replicate m false) next

-- the order by costs that are the same for all words
stands_same : (n : ℕ) (least low second high : ℕ → ℕ) (i j : ℕ) → i < n → j < n → ((k : ℕ) → k < n → least k ≡ low k) → ((k : ℕ) → k < n → second k ≡ high k)
    → stands_before least second i j ≡ stands_before low high i j
unfolding stands_before
stands_same n least low second high i j inside_i inside_j same_least same_second =
    rw (same_second i inside_i, same_second j inside_j, same_least i inside_i, same_least j inside_j) refl

pub rank_same : (n : ℕ) (least low second high : ℕ → ℕ) (i : ℕ) → i < n → ((k : ℕ) → k < n → least k ≡ low k) → ((k : ℕ) → k < n → second k ≡ high k)
    → rank_of n (stands_before least second) i ≡ rank_of n (stands_before low high) i
unfolding rank_of
rank_same n least low second high i inside same_least same_second = below n (omega arith)
  where
    below : (m : ℕ) → m ≤ n → rank_of m (stands_before least second) i ≡ rank_of m (stands_before low high) i
    below zero few = refl
    below (suc m) few =
        ap₂ ◌+◌ (below m (omega arith))
        (ap (λ (b : Bool). cond {A = ℕ} b 1 0) (stands_same n least low second high m i (omega arith) inside same_least same_second))

-- marks by ranks that are the same for all words
pub marks_same : (each n : ℕ) (rank own : ℕ → ℕ) (symbols : ℕ) → ((k : ℕ) → k < n → rank k ≡ own k) → marks_by each n rank symbols ≡ marks_by each n own symbols
unfolding marks_by
marks_same each n rank own symbols same =
    joined_below-same n (λ i. replicate each (nat_lt (each * rank i) symbols)) (λ i. replicate each (nat_lt (each * own i) symbols))
    (λ i inside. ap (λ r. replicate each (nat_lt (each * r) symbols)) (same i inside))

-- an array of marks of which none is set
pub unmarked : (n : ℕ) (marks : List Bool) → marks ≡ replicate 36 false → n ≤ 36 → take n marks ≡ replicate n false
unmarked n marks are few = ap (take n) are ∙ take-replicate n 36 false few

-- the symbols of a decoding that found some
pub found_word : (word new : List Sym) (read : Option (List Sym)) → Some new ≡ read → new ≡ symbols_or word read
found_word word new read is = subst (λ (o : Option (List _)). new ≡ symbols_or word o) is refl

pub found_true : {X : Type 0} (x : X) (read : Option X) → Some x ≡ read → true ≡ is_some read
found_true x read is = subst (λ (o : Option _). true ≡ is_some o) is refl

pub none_word : (word new : List Sym) (read : Option (List Sym)) → None ≡ read → new ≡ word → new ≡ symbols_or word read
none_word word new read is same = subst (λ (o : Option (List _)). new ≡ symbols_or word o) is same

pub none_false : {X : Type 0} (read : Option X) → None ≡ read → false ≡ is_some read
none_false read is = subst (λ (o : Option _). false ≡ is_some o) is refl

-- there is no decoding if the result is so
pub none_from : {X : Type 0} (read : Option X) → false ≡ is_some read → read ≡ None
none_from None nothing = refl
none_from (Some x) nothing = absurd (cc)

-- the result of the first decoding of all is the result
pub first_some : {X : Type 0} (most : ℕ) (reading : ℕ → Option X) (read : Option X) → reading 0 ≡ read → true ≡ is_some read → first_found (suc most) reading ≡ read
first_some most reading None is found = absurd (cc)
first_some most reading (Some x) is found =
    let count : suc most ≡ most + 1 = omega arith in
    ap (λ m. first_found m reading) count ∙ first_stays 1 most reading x (first_next 0 reading (first_none reading) ∙ is)

-- a decoding that finds something, after those that found nothing, is the first
pub first_at : {X : Type 0} (n most : ℕ) (reading : ℕ → Option X) (x : X) → n ≤ most → first_found n reading ≡ None → Some x ≡ reading n → Some x ≡ first_found (suc most) reading
first_at n most reading x inside none is =
    let count : suc most ≡ (most - n) + suc n = omega arith in
    sym (ap (λ m. first_found m reading) count ∙ first_stays (suc n) (most - n) reading x (first_next n reading none ∙ sym is))

-- decodings that are the same one by one
pub first_same : {X : Type 0} (n : ℕ) (f h : ℕ → Option X) → ((k : ℕ) → k < n → f k ≡ h k) → first_found n f ≡ first_found n h
unfolding first_found
first_same zero f h same = refl
first_same (suc n) f h same = ap₂ option_or (first_same n f h (λ k inside. same k (omega arith))) (same n (omega arith))

-- with no pair erased, no symbol is
pub first_reading : (outer : List (Option Sym) → Option (List Sym)) (word : List Sym) (each n : ℕ) (rank : ℕ → ℕ) → each * n ≡ length word
    → read_marking outer word each n rank 0 ≡ outer (without_erased word (replicate (length word) false))
unfolding read_marking
first_reading outer word each n rank whole = ap (λ ms. outer (without_erased word ms)) (marks_none each n rank (length word) whole)

-- the result for ranks that are those of the order
pub decided_same : (outer : List (Option Sym) → Option (List Sym)) (words : InnerWords) (costs : List ℕ) (most each n : ℕ) (rank : ℕ → ℕ) (word : List Sym)
    → word ≡ symbols_read words costs → each ≡ words.each → n ≡ words.count → ((k : ℕ) → k < words.count → rank k ≡ rank_at words costs k)
    → first_found (suc most) (read_marking outer word each n rank) ≡ word_decided words outer most costs
unfolding word_decided read_erasing read_marking
decided_same outer words costs most each n rank word read group all same =
    first_same (suc most) (read_marking outer word each n rank) (read_erasing words outer costs)
    (λ k inside. ap₂ (λ (xs : List Sym) (ms : List Bool). outer (without_erased xs ms)) read
    (ap₂ (λ e m. marks_by e m rank (2 * k)) group all ∙ marks_same words.each words.count rank (rank_at words costs) (2 * k) same))

-- the symbols that are written
pub symbols_same : (outer : List (Option Sym) → Option (List Sym)) (words : InnerWords) (costs : List ℕ) (most : ℕ) (word : List Sym) (found : Option (List Sym))
    → word ≡ symbols_read words costs → found ≡ word_decided words outer most costs → symbols_or word found ≡ symbols_decided words outer most costs
unfolding symbols_decided
symbols_same outer words costs most word found read same = ap₂ symbols_or read same

-- a result with no symbol erased decides
pub decided_whole : (outer : List (Option Sym) → Option (List Sym)) (words : InnerWords) (costs : List ℕ) (most : ℕ) (word : List Sym) (read : Option (List Sym))
    → word ≡ symbols_read words costs → words.each * words.count ≡ length word → read ≡ outer (without_erased word (replicate (length word) false)) → true ≡ is_some read
    → read ≡ word_decided words outer most costs
unfolding word_decided read_erasing
decided_whole outer words costs most word read symbols whole is found =
    let first : read_marking outer (symbols_read words costs) words.each words.count (rank_at words costs) 0 ≡ read
    = ap (λ xs. read_marking outer xs words.each words.count (rank_at words costs) 0) (sym symbols)
    ∙ first_reading outer word words.each words.count (rank_at words costs) whole ∙ sym is in
    sym (first_some most (read_erasing words outer costs) read first found)

-- the symbols of decoded informations
pub words_read : (words : InnerWords) (costs : List ℕ) (info : ℕ → ℕ) → ((i : ℕ) → i < words.count → info i ≡ information_at words costs i)
    → joined_below words.count (λ i. symbols_in words.each (bits_of (6 * words.each) (info i))) ≡ symbols_read words costs
unfolding symbols_read
words_read words costs info same =
    joined_below-same words.count (λ i. symbols_in words.each (bits_of (6 * words.each) (info i)))
    (λ i. symbols_in words.each (bits_of (6 * words.each) (information_at words costs i)))
    (λ i inside. ap (λ v. symbols_in words.each (bits_of (6 * words.each) v)) (same i inside))

-- the same for the groups that were stored
pub words_put : (words : InnerWords) (costs : List ℕ) (each n : ℕ) (info : ℕ → ℕ) (word : List Sym)
    → word ≡ joined_below n (λ i. symbols_in each (bits_of (6 * each) (info i))) → each ≡ words.each → n ≡ words.count
    → ((i : ℕ) → i < words.count → info i ≡ information_at words costs i) → word ≡ symbols_read words costs
words_put words costs each n info word put group all same =
    put ∙ ap₂ (λ e m. joined_below m (λ i. symbols_in e (bits_of (6 * e) (info i)))) group all ∙ words_read words costs info same

-- if there is no decoding the symbols are unchanged
pub none_kept : (word new : List Sym) (read : Option (List Sym)) → new ≡ symbols_or word read → read ≡ None → new ≡ word
none_kept word new read is none = is ∙ ap (symbols_or word) none
