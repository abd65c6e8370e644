-- Two population counts show that eight or 16 positions have no sync. If a sync is at a position, the ones of a mask that lies within its ones are
-- missing in at most as many positions as it has bit errors. By induction on lists of bits.
use Rattle.std.proofs.Common.{◌≡◌, ℕ, zero, suc, ◌+◌, ◌*◌, ◌/◌, ◌^◌, ◌<◌, ◌≤◌, inl, inr, Bool, true, false, not, cond, ◌||◌, ◌&&◌, List, [], ◌∷◌, ◌++◌, length, take, drop, bit_and, refl, ap, ap₂, sym, ◌∙◌, subst, arith, mod-eq_of_lt, length-append, length-drop}
use Rattle.std.proofs.{lemmas.Bool.{cases_Bool, cases_lt, and_from, and_parts}, Math.Seq.{take-length}, lemmas.List.{length-take-le, take-append-drop}, lemmas.Nat.{and_block, and_le_l, ones_cat}}
use Rattle.std.specs.{Bool.{beq}, Int.RustNames.{count_ones}}
use Rattle.p25_bits.specs.{Bits.{digit_of, bits_of, field_of, part}, Distance.{distance_by, distance_of}}
use Rattle.p25_bits.proofs.{BitsLaws.{length-bits_of, field_of-cons, field_of-lt, field_of-nil, field_of-bits_of}, DistanceLaws.{distance_of-same, distance_by-append}, PartLaws.{length-part}}
use Rattle.p25_status.specs.Sync.{has_sync, sync_bits}
use Rattle.p25_status.proofs.SyncLaws.{has_sync-distance, length-sync_bits}

-- the number of positions at which two lists both have a 1
both : List Bool → List Bool → ℕ
both [] ms = 0
both (x ∷ xs) [] = 0
both (x ∷ xs) (m ∷ ms) = cond (x && m) 1 0 + both xs ms

-- it is the weight of the numbers' conjunction
ones_digits : (x m : Bool) → count_ones (bit_and (digit_of x) (digit_of m)) ≡ cond (x && m) 1 0
unfolding count_ones
ones_digits true true = refl
ones_digits false true = refl
ones_digits x m = refl

ones-and : (xs ms : List Bool) → length xs ≡ length ms → count_ones (bit_and (field_of xs) (field_of ms)) ≡ both xs ms
unfolding count_ones both
ones-and [] [] same = ap (λ n. count_ones (bit_and n n)) field_of-nil
ones-and (x ∷ xs) (m ∷ ms) same =
    let k = length xs in
    let long : length ms ≡ k = omega arith in
    let below = field_of-lt xs in
    let below' : field_of ms < 2 ^ k = subst (λ n. field_of ms < 2 ^ n) long (field_of-lt ms) in
    let second = field_of-cons m ms ∙ ap (λ n. digit_of m * 2 ^ n + field_of ms) long in
    ap count_ones (ap₂ bit_and (field_of-cons x xs) second ∙ and_block k (digit_of x) (digit_of m) (field_of xs) (field_of ms) below below')
    ∙ ones_cat k (bit_and (digit_of x) (digit_of m)) (bit_and (field_of xs) (field_of ms)) (omega (arith, and_le_l (field_of xs) (field_of ms)))
    ∙ ap₂ ◌+◌ (ones_digits x m) (ones-and xs ms (sym long))
ones-and xs ms same = absurd (omega arith)

-- every 1 of the first list is one of the second
within : List Bool → List Bool → Bool
within [] ys = true
within (m ∷ ms) [] = not m && within ms []
within (m ∷ ms) (y ∷ ys) = (not m || y) && within ms ys

within-append : (ms ys ns zs : List Bool) → length ms ≡ length ys → within ms ys ≡ true → within ns zs ≡ true → within (ms ++ ns) (ys ++ zs) ≡ true
unfolding within
within-append [] [] ns zs long a b = b
within-append (m ∷ ms) (y ∷ ys) ns zs long a b =
    let parts = and_parts (not m || y) (within ms ys) a in
    and_from (not m || y) (within (ms ++ ns) (ys ++ zs)) parts.0 (within-append ms ys ns zs (omega arith) parts.1 b)
within-append ms ys ns zs long a b = absurd (omega arith)

within-none : (ms ys : List Bool) → within ms [] ≡ true → within ms ys ≡ true
unfolding within
within-none [] ys none = refl
within-none (m ∷ ms) [] none = none
within-none (m ∷ ms) (y ∷ ys) none =
    let parts = and_parts (not m) (within ms []) none in
    and_from (not m || y) (within ms ys) (or_left (not m) y parts.0) (within-none ms ys parts.1)
  where
    or_left : (a b : Bool) → a ≡ true → (a || b) ≡ true
    or_left true b is = refl
    or_left false b is = absurd (cc)

-- a 1 of the mask is missed only at a bit error
missed_at : (x y m : Bool) → (not m || y) ≡ true → cond (m && m) 1 0 ≤ cond (x && m) 1 0 + cond (beq x y) 0 1
missed_at true true true is = omega arith
missed_at true false true is = absurd (cc)
missed_at false true true is = omega arith
missed_at false false true is = absurd (cc)
missed_at x y m is = omega arith

missed : (xs ys ms : List Bool) → length xs ≡ length ys → length xs ≡ length ms → within ms ys ≡ true → both ms ms ≤ both xs ms + distance_of xs ys
unfolding both within distance_by
missed [] [] [] a b is = omega arith
missed [] ys (m ∷ ms) a b is = absurd (omega arith)
missed (x ∷ xs) (y ∷ ys) (m ∷ ms) a b is =
    let parts = and_parts (not m || y) (within ms ys) is in
    omega (arith, missed_at x y m parts.0, missed xs ys ms (omega arith) (omega arith) parts.1)
missed xs ys ms a b is = absurd (omega arith)

-- a mask has its ones within those of the sync, if the sync is at a position
fits_at : List Bool → ℕ → Bool
fits_at ms place = within (take place ms) [] && (within (part place 48 ms) sync_bits && within (drop 48 (drop place ms)) [])

cut_at : (place : ℕ) (bits : List Bool) → bits ≡ take place bits ++ (part place 48 bits ++ drop 48 (drop place bits))
cut_at place bits = sym (take-append-drop place bits) ∙ ap (λ (xs : List Bool). take place bits ++ xs) (sym (take-append-drop 48 (drop place bits)))

module _ (bits ms : List Bool) (place : ℕ) (masks : length ms ≡ length bits) (inside : place + 48 ≤ length bits) where
  synced_bits : List Bool
  synced_bits = take place bits ++ (sync_bits ++ drop 48 (drop place bits))

  length-inner : length (part place 48 bits) ≡ 48
  length-inner = length-part place 48 bits inside

  synced-within : fits_at ms place ≡ true → within ms synced_bits ≡ true
  unfolding fits_at synced_bits
  synced-within fits =
      let parts = and_parts (within (take place ms) []) _ fits in
      let ends = and_parts (within (part place 48 ms) sync_bits) (within (drop 48 (drop place ms)) []) parts.1 in
      subst (λ (xs : List Bool). within xs synced_bits ≡ true) (sym (cut_at place ms))
      (within-append (take place ms) (take place bits) (part place 48 ms ++ drop 48 (drop place ms)) (sync_bits ++ drop 48 (drop place bits))
      (length-take-le place ms (omega (arith, masks, inside)) ∙ sym (length-take-le place bits (omega (arith, inside))))
      (within-none (take place ms) (take place bits) parts.0)
      (within-append (part place 48 ms) sync_bits (drop 48 (drop place ms)) (drop 48 (drop place bits))
      (length-part place 48 ms (omega (arith, masks, inside)) ∙ sym length-sync_bits)
      ends.0
      (within-none (drop 48 (drop place ms)) (drop 48 (drop place bits)) ends.1)))

  synced-distance : distance_of bits synced_bits ≡ distance_of (part place 48 bits) sync_bits
  unfolding synced_bits
  synced-distance =
      ap (λ (xs : List Bool). distance_of xs synced_bits) (cut_at place bits)
      ∙ distance_by-append beq (take place bits) (part place 48 bits ++ drop 48 (drop place bits)) (take place bits) (sync_bits ++ drop 48 (drop place bits)) refl
      ∙ ap₂ ◌+◌ (distance_of-same (take place bits)) (distance_by-append beq
      (part place 48 bits) (drop 48 (drop place bits)) sync_bits (drop 48 (drop place bits)) (length-inner ∙ sym length-sync_bits))
      ∙ omega (arith, distance_of-same (drop 48 (drop place bits)))

  length-synced : length synced_bits ≡ length bits
  unfolding synced_bits
  length-synced =
      length-append (take place bits) (sync_bits ++ drop 48 (drop place bits))
      ∙ omega (
        arith,
        length-take-le place bits (omega (arith, inside)),
        length-append sync_bits (drop 48 (drop place bits)),
        length-sync_bits,
        length-drop 48 (drop place bits),
        length-drop place bits,
        inside,
      )

  -- a position with a sync has all ones of the mask, except at most four
  most_ones : fits_at ms place ≡ true → has_sync (part place 48 bits) ≡ true → both ms ms ≤ both bits ms + 4
  most_ones fits yes' =
      let near = has_sync-distance (part place 48 bits) yes' in
      let whole : take 48 (part place 48 bits) ≡ part place 48 bits = ap (λ n. take n (part place 48 bits)) (sym length-inner) ∙ take-length (part place 48 bits) in
      omega (arith, missed bits synced_bits ms (sym length-synced) (sym masks) (synced-within fits), synced-distance, near, ap (λ (xs : List Bool). distance_of xs sync_bits) whole)

  few_ones : (least : ℕ) → fits_at ms place ≡ true → both ms ms ≡ least + 4 → both bits ms < least → has_sync (part place 48 bits) ≡ false
  few_ones least fits all few =
      elim (cases_Bool (has_sync (part place 48 bits))) [ inr no' ↦ no' | inl yes' ↦ absurd (omega (arith, most_ones fits yes')) ]

-- a mask does so at every second position from one on, a given number of times
fits_from : List Bool → ℕ → ℕ → Bool
fits_from ms place zero = true
fits_from ms place (suc n) = fits_at ms place && fits_from ms (suc (suc place)) n

fits_from-at : (ms : List Bool) (place n k : ℕ) → fits_from ms place n ≡ true → k < n → fits_at ms (place + 2 * k) ≡ true
unfolding fits_from
fits_from-at ms place zero k fits inside = absurd (omega arith)
fits_from-at ms place (suc n) zero fits inside =
    let same : place ≡ place + 2 * 0 = omega arith in
    subst (λ (i : ℕ). fits_at ms i ≡ true) same (and_parts (fits_at ms place) _ fits).0
fits_from-at ms place (suc n) (suc k) fits inside =
    let same : suc (suc place) + 2 * k ≡ place + 2 * suc k = omega arith in
    subst (λ (i : ℕ). fits_at ms i ≡ true) same (fits_from-at ms (suc (suc place)) n k (and_parts (fits_at ms place) _ fits).1 (omega arith))

-- two masks of `least` ones and four more: one fits at the even positions and one at the odd ones
record AreMasks (count least : ℕ) (even odd : List Bool) : Type 0 where
  even_long : length even ≡ 47 + 2 * count
  odd_long : length odd ≡ 47 + 2 * count
  even_ones : both even even ≡ least + 4
  odd_ones : both odd odd ≡ least + 4
  even_fits : fits_from even 0 count ≡ true
  odd_fits : fits_from odd 1 count ≡ true

-- if both have too few ones in common with some bits, no position has a sync
none_at : (count least : ℕ) (even odd bits : List Bool) → AreMasks count least even odd → length bits ≡ 47 + 2 * count → both bits even < least → both bits odd < least
    → (place : ℕ) → place < 2 * count → has_sync (part place 48 bits) ≡ false
none_at count least even odd bits masks long a b place inside =
    let k = place / 2 in
    elim (cases_lt (2 * k) place) [
      | inl uneven ↦
          let is : 1 + 2 * k ≡ place = omega (arith, uneven) in
          let fits = subst (λ (i : ℕ). fits_at odd i ≡ true) is (fits_from-at odd 1 count k masks.odd_fits (omega arith)) in
          few_ones bits odd place (masks.odd_long ∙ sym long) (omega (arith, long)) least fits masks.odd_ones b
      | inr not_uneven ↦
          let is : 0 + 2 * k ≡ place = omega (arith, not_uneven) in
          let fits = subst (λ (i : ℕ). fits_at even i ≡ true) is (fits_from-at even 0 count k masks.even_fits (omega arith)) in
          few_ones bits even place (masks.even_long ∙ sym long) (omega (arith, long)) least fits masks.even_ones a
    ]

-- the weight of a number's bits under a mask
weight : (width number mask : ℕ) → number < 2 ^ width → mask < 2 ^ width → count_ones (bit_and number mask) ≡ both (bits_of width number) (bits_of width mask)
weight width number mask small fits =
    ap₂ (λ a b. count_ones (bit_and a b)) (sym (field_of-bits_of width number ∙ mod-eq_of_lt small)) (sym (field_of-bits_of width mask ∙ mod-eq_of_lt fits))
    ∙ ones-and (bits_of width number) (bits_of width mask) (length-bits_of width number ∙ sym (length-bits_of width mask))

-- the masks of eight positions
eight_masks : AreMasks 4 17 (bits_of 55 0xAAAA_AAAA_AA80) (bits_of 55 0x5555_5555_5540)
unfolding both fits_from fits_at within bits_of sync_bits
eight_masks = record { even_long = refl; odd_long = refl; even_ones = refl; odd_ones = refl; even_fits = refl; odd_fits = refl }

pub none-of_eight : (number : ℕ) → number < 2 ^ 55 → count_ones (bit_and number 0xAAAA_AAAA_AA80) < 17
    → count_ones (bit_and number 0x5555_5555_5540) < 17 → (place : ℕ) → place < 8 → has_sync (part place 48 (bits_of 55 number)) ≡ false
none-of_eight number small a b =
    none_at 4 17 (bits_of 55 0xAAAA_AAAA_AA80) (bits_of 55 0x5555_5555_5540) (bits_of 55 number) eight_masks (length-bits_of 55 number)
    (omega (arith, weight 55 number 0xAAAA_AAAA_AA80 small (omega arith))) (omega (arith, weight 55 number 0x5555_5555_5540 small (omega arith)))

-- the masks of 16 positions
sixteen_masks : AreMasks 8 13 (bits_of 63 0xAAAA_AAAA_8000) (bits_of 63 0x5555_5555_4000)
unfolding both fits_from fits_at within bits_of sync_bits
sixteen_masks = record { even_long = refl; odd_long = refl; even_ones = refl; odd_ones = refl; even_fits = refl; odd_fits = refl }

pub none-of_sixteen : (number : ℕ) → number < 2 ^ 63 → count_ones (bit_and number 0xAAAA_AAAA_8000) < 13
    → count_ones (bit_and number 0x5555_5555_4000) < 13 → (place : ℕ) → place < 16 → has_sync (part place 48 (bits_of 63 number)) ≡ false
none-of_sixteen number small a b =
    none_at 8 13 (bits_of 63 0xAAAA_AAAA_8000) (bits_of 63 0x5555_5555_4000) (bits_of 63 number) sixteen_masks (length-bits_of 63 number)
    (omega (arith, weight 63 number 0xAAAA_AAAA_8000 small (omega arith))) (omega (arith, weight 63 number 0x5555_5555_4000 small (omega arith)))
