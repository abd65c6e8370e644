-- Lists with erasures. A codeword within the cost of a list is the only one: on the way from one codeword to the list to another each erasure counts
-- one. A list without an erasure is decoded like the received word.
use Rattle.std.proofs.Common.{◌≡◌, ℕ, zero, suc, ◌+◌, ◌*◌, ◌<◌, ◌≤◌, Bool, true, false, cond, List, [], ◌∷◌, ◌++◌, length, map, replicate, Option, Some, None, All, ap, ap₂, refl, arith}
use Rattle.p25_bits.specs.Distance.{distance_by}
use Rattle.p25_bits.proofs.DistanceLaws.{cond-le}
use Rattle.p25_code.specs.{declared.code.Reading.{Reading}, declared.code.Reading.TheVariants.{Found, Beyond}, Words.{IsReading}, Readings.{word_read}}
use Rattle.p25_code.specs.{Erasures.{without_erased, erasures_in, erasure_weight, letter_distance, kept_distance, erased_cost, IsErasedReading}, ErasedReadings.{IsErasedReadAs, IsWithinCost}}
use Rattle.p25_code.proofs.ReadingLaws.{IsBlockCode, near_words}

-- a list with erasures is as long as the received word
pub length-without_erased : {L : Type 0} (received : List L) (erased : List Bool) → length (without_erased received erased) ≡ length received
unfolding without_erased
length-without_erased [] erased = refl
length-without_erased (x ∷ received) [] = ap suc (length-without_erased received [])
length-without_erased (x ∷ received) (gone ∷ erased) = ap suc (length-without_erased received erased)

-- if nothing is erased no position has an erasure
pub without_erased-none : {L : Type 0} (received : List L) (erased : List Bool) → All (λ gone. gone ≡ false) erased → without_erased received erased ≡ map Some received
unfolding without_erased
without_erased-none [] erased none = refl
without_erased-none (x ∷ received) [] none = rw (without_erased-none received)
without_erased-none (x ∷ received) (gone ∷ erased) none =
    ap₂ (λ b list. cond b None (Some x) ∷ list) (none 0 gone (omega arith)) (without_erased-none received erased (λ k d h. none (suc k) d (omega arith)))

-- a list without an erasure has the distance of its letters, and no erasure
pub kept_distance-letters : {L : Type 0} (same : L → L → Bool) (received word : List L) → kept_distance same (map Some received) word ≡ distance_by same received word
unfolding kept_distance distance_by
kept_distance-letters same (y ∷ received) (x ∷ word) = rw (kept_distance-letters same received word)
kept_distance-letters same received word = refl

pub erasures_in-letters : {L : Type 0} (received : List L) → erasures_in (map Some received) ≡ 0
unfolding erasures_in
erasures_in-letters [] = refl
erasures_in-letters (y ∷ received) = omega (arith, erasures_in-letters received)

-- so its cost is twice the distance
pub erased_cost-letters : {L : Type 0} (same : L → L → Bool) (received word : List L) → erased_cost same (map Some received) word ≡ 2 * distance_by same received word
unfolding erased_cost
erased_cost-letters same received word = omega (arith, kept_distance-letters, erasures_in-letters received)

-- without letters there is nothing
pub without_erased-nil : {L : Type 0} (erased : List Bool) → without_erased {L = L} [] erased ≡ []
unfolding without_erased
without_erased-nil erased = refl

-- if all is erased each position has an erasure
pub without_erased-list : {L : Type 0} (xs : List L) (n : ℕ) → length xs ≡ n → without_erased xs (replicate n true) ≡ replicate n None
unfolding without_erased
without_erased-list [] zero long = refl
without_erased-list [] (suc n) long = absurd (omega arith)
without_erased-list (x ∷ xs) zero long = absurd (omega arith)
without_erased-list (x ∷ xs) (suc n) long = rw (without_erased-list xs n (omega arith)) refl

-- two runs, one after the other
pub without_erased-append : {L : Type 0} (xs ys : List L) (es fs : List Bool) → length xs ≡ length es → without_erased (xs ++ ys) (es ++ fs) ≡ without_erased xs es ++ without_erased ys fs
unfolding without_erased
without_erased-append [] ys [] fs long = refl
without_erased-append [] ys (e ∷ es) fs long = absurd (omega arith)
without_erased-append (x ∷ xs) ys [] fs long = absurd (omega arith)
without_erased-append (x ∷ xs) ys (e ∷ es) fs long = rw (without_erased-append xs ys es fs (omega arith)) refl

-- distances and erasures of two runs, one after the other, add up
kept_distance-append : {L : Type 0} (same : L → L → Bool) (list more : List (Option L)) (word others : List L) → length list ≡ length word
    → kept_distance same (list ++ more) (word ++ others) ≡ kept_distance same list word + kept_distance same more others
unfolding kept_distance
kept_distance-append same [] more [] others long = omega arith
kept_distance-append same [] more (x ∷ word) others long = absurd (omega arith)
kept_distance-append same (y ∷ list) more [] others long = absurd (omega arith)
kept_distance-append same (y ∷ list) more (x ∷ word) others long = omega (arith, kept_distance-append same list more word)

erasures_in-append : {L : Type 0} (list more : List (Option L)) → erasures_in (list ++ more) ≡ erasures_in list + erasures_in more
unfolding erasures_in
erasures_in-append [] more = omega arith
erasures_in-append (y ∷ list) more = omega (arith, erasures_in-append list more)

-- so do costs
pub erased_cost-append : {L : Type 0} (same : L → L → Bool) (list more : List (Option L)) (word others : List L) → length list ≡ length word
    → erased_cost same (list ++ more) (word ++ others) ≡ erased_cost same list word + erased_cost same more others
unfolding erased_cost
erased_cost-append same list more word others long = omega (arith, kept_distance-append same, erasures_in-append list more)

-- a position counts one at most
place-le : {L : Type 0} (same : L → L → Bool) (y : Option L) (x : L) → letter_distance same y x + erasure_weight y ≤ 1
place-le same None x = omega arith
place-le same (Some y) x = elim (same y x) as (λ b. cond b 0 1 + 0 ≤ 1) [ true ↦ omega arith | false ↦ omega arith ]

places-le : {L : Type 0} (same : L → L → Bool) (list : List (Option L)) (word : List L) → length list ≡ length word → kept_distance same list word + erasures_in list ≤ length list
unfolding kept_distance erasures_in
places-le same [] word long = omega arith
places-le same (y ∷ list) [] long = absurd (omega arith)
places-le same (y ∷ list) (x ∷ word) long = omega (arith, places-le same list, place-le)

-- no word costs more than two for each position
pub erased_cost-le : {L : Type 0} (same : L → L → Bool) (list : List (Option L)) (word : List L) → length list ≡ length word → erased_cost same list word ≤ 2 * length list
unfolding erased_cost
erased_cost-le same list word long = omega (arith, places-le)

module _ {L : Type 0} {same : L → L → Bool} {IsWord : List L → Type 0} {n k radius apart : ℕ} (code : IsBlockCode same IsWord n k radius apart) where
  -- two letters that differ: one of them differs from the letter between them, or there is an erasure
  letters_apart : (x z : L) (y : Option L) → cond (same x z) 0 1 ≤ letter_distance same y x + letter_distance same y z + erasures_in (y ∷ [])
  unfolding erasures_in
  letters_apart x z None = elim (same x z) as (λ b. cond b 0 1 ≤ 1) [ true ↦ omega arith | false ↦ omega arith ]
  letters_apart x z (Some y) = through (same y x) (same y z) refl refl
    where
      through : (a b : Bool) → same y x ≡ a → same y z ≡ b → cond (same x z) 0 1 ≤ cond (same y x) 0 1 + cond (same y z) 0 1 + 0
      through true true ea eb = omega (arith, ap {B = ℕ} (λ t. cond t 0 1) (rw (code.alike y x ea) at eb))
      through false b ea eb = omega (arith, ap {B = ℕ} (λ t. cond t 0 1) ea, cond-le (same x z))
      through true false ea eb = omega (arith, ap {B = ℕ} (λ t. cond t 0 1) eb, cond-le (same x z))

  -- the way from one word to another by a list with erasures
  pub wrong_triangle : (list : List (Option L)) (v w : List L)
      → length list ≡ length v → length v ≡ length w → distance_by same v w ≤ kept_distance same list v + kept_distance same list w + erasures_in list
  unfolding kept_distance distance_by erasures_in
  wrong_triangle [] [] w first second = omega arith
  wrong_triangle (y ∷ list) (x ∷ v) (z ∷ w) first second =
      omega (arith, letters_apart x, wrong_triangle list v)
  wrong_triangle list v w first second = absurd (omega arith)

  module _ {most : ℕ} (close : most < apart) where
    -- two words within the cost of a list are one
    pub one_within_cost : (list : List (Option L)) (v w : List L) → length list ≡ n → IsWithinCost same IsWord most list v → IsWithinCost same IsWord most list w → v ≡ w
    unfolding erased_cost
    one_within_cost list v w long first second =
        near_words code v w first.word_of_set second.word_of_set
        (omega (arith, wrong_triangle list, first.within, second.within, close))

    -- so a list has one decoding
    pub one_erased_reading : (list : List (Option L)) (a b : Option (List L)) → length list ≡ n → IsErasedReadAs same IsWord most list a → IsErasedReadAs same IsWord most list b → a ≡ b
    unfolding IsErasedReadAs
    one_erased_reading list None None long first second = refl
    one_erased_reading list None (Some w) long first second = absurd (omega (arith, first.dearer, second.within))
    one_erased_reading list (Some v) None long first second = absurd (omega (arith, second.dearer, first.within))
    one_erased_reading list (Some v) (Some w) long first second = ap Some (one_within_cost list v w long first second)

    -- a codeword of the set within the cost is the decoding
    pub erased_read_as_sent : (list : List (Option L)) (sent : List L) (answer : Option (List L))
        → length list ≡ n → IsErasedReadAs same IsWord most list answer → IsWord sent → erased_cost same list sent ≤ most → answer ≡ Some sent
    unfolding IsErasedReadAs
    erased_read_as_sent list sent answer long is sent_is near = one_erased_reading list answer (Some sent) long is (record { word_of_set = sent_is; within = near })

    -- a reader leaves the codeword within the cost, if there is one
    pub erased_reading_sent : (list : List (Option L)) (received word sent : List L) (reading : Reading)
        → length list ≡ n → IsErasedReading same IsWord most list received word reading → IsWord sent → erased_cost same list sent ≤ most
        → word ≡ sent
    unfolding IsErasedReading
    erased_reading_sent list received word sent (Found fixes) long is sent_is near =
        one_within_cost list word sent long (record { word_of_set = is.word_of_set; within = is.within }) (record { word_of_set = sent_is; within = near })
    erased_reading_sent list received word sent Beyond long is sent_is near = absurd (omega (arith, is.none_within.dearer sent sent_is))

-- if the cost is twice the correction radius, the result of a reader of a list without an erasure is the decoding of its letters
pub reading_without_erasures : {L : Type 0} (same : L → L → Bool) (IsWord : List L → Type 0) (most radius : ℕ)
    → most ≡ 2 * radius → (received word : List L) (erased : List Bool) (reading : Reading) → All (λ gone. gone ≡ false) erased
    → IsErasedReading same IsWord most (without_erased received erased) received word reading → IsReading same IsWord radius received word reading
unfolding IsReading IsErasedReading
reading_without_erasures {L} same IsWord most radius twice received word erased reading none is = as_read reading is
  where
    cost : (other : List L) → erased_cost same (without_erased received erased) other ≡ 2 * distance_by same received other
    cost other = cc (without_erased-none received erased none, erased_cost-letters same received other)

    as_read : (reading : Reading) → IsErasedReading same IsWord most (without_erased received erased) received word reading → IsReading same IsWord radius received word reading
    as_read (Found fixes) found = record {
      word_of_set = found.word_of_set;
      fixes_is = found.fixes_is;
      within = omega (arith, found.within, found.fixes_is, cost word);
    }
    as_read Beyond beyond = record {
      unchanged = beyond.unchanged;
      none_within = record { farther = λ other w. omega (arith, beyond.none_within.dearer other w, cost other) };
    }

-- the result of a reader, with the word that it leaves, is the decoding
pub erased_word_read_as : {L : Type 0} (same : L → L → Bool) (IsWord : List L → Type 0)
    (most : ℕ) (list : List (Option L)) (received word : List L) (reading : Reading) → IsErasedReading same IsWord most list received word reading
    → IsErasedReadAs same IsWord most list (word_read reading word)
unfolding IsErasedReading IsErasedReadAs word_read
erased_word_read_as same IsWord most list received word (Found fixes) is = record { word_of_set = is.word_of_set; within = is.within }
erased_word_read_as same IsWord most list received word Beyond is = is.none_within
