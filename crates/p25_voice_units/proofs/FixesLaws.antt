-- Fixes position by position: the bits at positions joined differ in as many bits as those at each position together. The distance of two runs is the
-- weight of the exclusive or of the numbers that they write.
use Rattle.std.proofs.Common.{◌≡◌, ℕ, suc, ◌+◌, ◌*◌, ◌≤◌, Bool, List, [], ◌∷◌, ◌++◌, length, map, get_or, sum_by, All, bit_xor, ap, ap₂, sym, ◌∙◌, arith, length-append}
use Rattle.std.proofs.{Math.Nat.{mul_comm, mul-le-mul_left}, lemmas.List.Concat.{flat_map-append}, lemmas.List.Sums.{sum_by-cons, sum_by-le}}
use Rattle.std.specs.{List.{flat_map}, Int.RustNames.{count_ones}, Bool.{beq}}
use Rattle.p25_bits.specs.{Bits.{field_of, part}, Distance.{distance_of}}
use Rattle.p25_bits.proofs.{DistanceLaws.{distance_by-append, distance_by-le, distance_of-same, ones-xor}, PartLaws.{length-part}}
use Rattle.p25_coded_fields.proofs.SymbolsLaws.{one_more}
use Rattle.p25_voice_units.specs.Fixes.{wide, bits_at}

-- the bits at two lists of positions, one after the other
pub bits_at-append : (xs ys : List (ℕ × ℕ)) (bits : List Bool) → bits_at (xs ++ ys) bits ≡ bits_at xs bits ++ bits_at ys bits
unfolding bits_at
bits_at-append xs ys bits = flat_map-append (λ place. part place.0 place.1 bits) xs ys

-- the bits at positions of one width are as many as the width times the number of positions
pub length-bits_at : (width : ℕ) (places : List ℕ) (bits : List Bool) → All (λ at. at + width ≤ length bits) places → length (bits_at (wide width places) bits) ≡ width * length places
unfolding bits_at wide
length-bits_at width [] bits there = omega arith
length-bits_at width (at ∷ places) bits there =
    let here : at + width ≤ length bits = there 0 at (omega arith) in
    let run : ℕ × ℕ → List Bool = λ place. part place.0 place.1 bits in
    length-append (part at width bits) (flat_map run (map (λ a. (a, width)) places))
    ∙ omega (arith, length-part at width bits here, length-bits_at width places bits (λ k d h. there (suc k) d (omega arith)), one_more width (length places))

-- the number of bits in which two lists differ at a position
abbrev pub differ_at : ℕ → List Bool → List Bool → ℕ → ℕ
differ_at width received image at = distance_of (part at width received) (part at width image)

-- by the numbers at it
pub differ_at-ones : (width at : ℕ) (received image : List Bool) (m n : ℕ)
    → at + width ≤ length received → at + width ≤ length image → m ≡ field_of (part at width received) → n ≡ field_of (part at width image)
    → count_ones (bit_xor m n) ≡ differ_at width received image at
differ_at-ones width at received image m n there there_image first second =
    ap₂ (λ a b. count_ones (bit_xor a b)) first second ∙ ones-xor (part at width received) (part at width image) (length-part at width received there ∙ sym (length-part at width image there_image))

module _ (width : ℕ) (received image : List Bool) where
  -- the sum over the positions is the number at all of them
  pub differ_at-all : (places : List ℕ) → All (λ at. at + width ≤ length received) places → All (λ at. at + width ≤ length image) places
      → sum_by (differ_at width received image) places ≡ distance_of (bits_at (wide width places) received) (bits_at (wide width places) image)
  unfolding bits_at wide
  differ_at-all [] there there_image = sym (distance_of-same [])
  differ_at-all (at ∷ places) there there_image =
      let here : at + width ≤ length received = there 0 at (omega arith) in
      let here_image : at + width ≤ length image = there_image 0 at (omega arith) in
      sum_by-cons (differ_at width received image) at places
      ∙ ap (λ n. differ_at width received image at + n) (differ_at-all places (λ k d h. there (suc k) d (omega arith)) (λ k d h. there_image (suc k) d (omega arith)))
      ∙ sym (distance_by-append beq (part at width received) (bits_at (wide width places) received)
      (part at width image) (bits_at (wide width places) image) (length-part at width received here ∙ sym (length-part at width image here_image)))

  -- they are few
  pub differ_at-le : (places : List ℕ) → All (λ at. at + width ≤ length received) places → sum_by (differ_at width received image) places ≤ width * length places
  differ_at-le places there =
      omega (arith, mul_comm width (length places), sum_by-le (differ_at width received image) width places (λ i d inside. at_most (get_or places i d) (there i d inside)))
    where
      at_most : (at : ℕ) → at + width ≤ length received → differ_at width received image at ≤ width
      at_most at here = omega (arith, distance_by-le beq (part at width received) (part at width image), length-part at width received here)

  pub differ_at-small : (places : List ℕ) → width ≤ 24 → length places ≤ 36 → All (λ at. at + width ≤ length received) places → sum_by (differ_at width received image) places ≤ 864
  differ_at-small places narrow few there = omega (arith, differ_at-le places there, mul-le-mul_left width few)

-- the fixes of two lists of positions, one after the other
pub fixes-append : (width more : ℕ) (places others : List ℕ) (received image : List Bool) → All (λ at. at + width ≤ length received) places → All (λ at. at + width ≤ length image) places
    → distance_of (bits_at (wide width places ++ wide more others) received) (bits_at (wide width places ++ wide more others) image)
    ≡ distance_of (bits_at (wide width places) received) (bits_at (wide width places) image) + distance_of (bits_at (wide more others) received) (bits_at (wide more others) image)
fixes-append width more places others received image there there_image =
    ap₂ (λ (xs ys : List Bool). distance_of xs ys) (bits_at-append (wide width places) (wide more others) received) (bits_at-append (wide width places) (wide more others) image)
    ∙ distance_by-append beq (bits_at (wide width places) received) (bits_at (wide more others) received) (bits_at (wide width places) image) (bits_at (wide more others) image)
    (length-bits_at width places received there ∙ sym (length-bits_at width places image there_image))
