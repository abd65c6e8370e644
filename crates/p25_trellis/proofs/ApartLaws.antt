-- The distance of paths, and when no path is as near as a given one. By induction on the symbols: the bound of two states is at most the distance of
-- a step plus the bound of the states after it.
use Rattle.std.proofs.Common.{◌≡◌, ◌≢◌, ℕ, zero, suc, ◌+◌, ◌*◌, ◌<◌, ◌≤◌, inl, inr, Bool, false, eqb, List, [], ◌∷◌, length, refl, ap, ap₂, sym, ◌∙◌, arith}
use Rattle.std.proofs.lemmas.Bool.{cases_Bool, eqb-true, eq-eqb}
use Rattle.p25_bits.specs.Distance.{distance_of}
use Rattle.p25_bits.proofs.{DistanceLaws.{distance_of-sym, distance_of-triangle}, NumbersLaws.{length-number_bits}}
use Rattle.p25_trellis.specs.{Interleave.{interleaved}, Tables.{nibble_distance}, Trellis.{IsPath, IsBlock, IsFirstLeastReading, IsNearReading, nibbles_from, sent_bits, distance_from}}
use Rattle.p25_trellis.specs.Least.{IsEnd}
use Rattle.p25_trellis.proofs.{InterleaveLaws.{weighed, length-interleaved}, PathLaws.{length-nibbles_from, same_octets}, FirstPathLaws.{IsEnd-from_path}, DistanceLaws.{distance_of-interleaved}}

-- the weight of the nibbles of symbols against those of others, step by step
weighed-nibbles : (point : ℕ → ℕ → ℕ) (a b x y : ℕ) (xs ys : List ℕ)
    → weighed nibble_distance (nibbles_from point a (x ∷ xs)) (nibbles_from point b (y ∷ ys))
    ≡ nibble_distance (point a x) (point b y) + weighed nibble_distance (nibbles_from point x xs) (nibbles_from point y ys)
unfolding weighed nibbles_from
weighed-nibbles point a b x y xs ys = refl

weighed-last : (point : ℕ → ℕ → ℕ) (a b : ℕ) → weighed nibble_distance (nibbles_from point a (0 ∷ [])) (nibbles_from point b (0 ∷ [])) ≡ nibble_distance (point a 0) (point b 0)
unfolding weighed nibbles_from
weighed-last point a b = omega arith

-- ends from two states differ in at least as many bits as the bound of the two states
parted-le : (states : ℕ) (point parted : ℕ → ℕ → ℕ) → 0 < states → parted 0 0 ≡ 0
    → ((a b x y : ℕ) → a < states → b < states → x < states → y < states → parted a b ≤ nibble_distance (point a x) (point b y) + parted x y)
    → (before a b : ℕ) (xs ys : List ℕ) → a < states → b < states → IsEnd states before xs → IsEnd states before ys
    → parted a b ≤ weighed nibble_distance (nibbles_from point a xs) (nibbles_from point b ys)
parted-le states point parted some together stays zero a b xs ys ha hb ends_x ends_y =
    omega (arith, ap₂ (λ (us vs : List ℕ). weighed nibble_distance (nibbles_from point a us) (nibbles_from point b vs)) ends_x ends_y, weighed-last point a b, stays a b 0 0 ha hb some some, together)
parted-le states point parted some together stays (suc before) a b [] ys ha hb ends_x ends_y = absurd ends_x
parted-le states point parted some together stays (suc before) a b (x ∷ xs) [] ha hb ends_x ends_y = absurd ends_y
parted-le states point parted some together stays (suc before) a b (x ∷ xs) (y ∷ ys) ha hb ends_x ends_y =
    omega (
      arith,
      weighed-nibbles point a b x y xs ys,
      stays a b x y ha hb ends_x.0 ends_y.0,
      parted-le states point parted some together stays before,
    )

-- ends from one state that differ in few bits are one
same_from_near : (states apart : ℕ) (point parted : ℕ → ℕ → ℕ) → 0 < states → parted 0 0 ≡ 0
    → ((a b x y : ℕ) → a < states → b < states → x < states → y < states → parted a b ≤ nibble_distance (point a x) (point b y) + parted x y)
    → ((state x y : ℕ) → state < states → x < states → y < states → x ≢ y → apart ≤ nibble_distance (point state x) (point state y) + parted x y)
    → (before state : ℕ) (xs ys : List ℕ) → state < states → IsEnd states before xs → IsEnd states before ys
    → weighed nibble_distance (nibbles_from point state xs) (nibbles_from point state ys) < apart → xs ≡ ys
same_from_near states apart point parted some together stays parts zero state xs ys row ends_x ends_y near = ends_x ∙ sym ends_y
same_from_near states apart point parted some together stays parts (suc before) state [] ys row ends_x ends_y near = absurd ends_x
same_from_near states apart point parted some together stays parts (suc before) state (x ∷ xs) [] row ends_x ends_y near = absurd ends_y
same_from_near states apart point parted some together stays parts (suc before) state (x ∷ xs) (y ∷ ys) row ends_x ends_y near =
    elim (cases_Bool (eqb x y)) [
      | inl one ↦
          let same : x ≡ y = eqb-true x y one in
          ap₂ ◌∷◌ same (same_from_near states apart point parted some together stays parts before x xs ys ends_x.0 ends_x.1 ends_y.1 (omega (
            arith,
            near,
            weighed-nibbles point state state x y xs ys,
            ap (λ s. weighed nibble_distance (nibbles_from point x xs) (nibbles_from point s ys)) same,
          )))
      | inr two ↦
          absurd (
          omega (
            arith,
            near,
            weighed-nibbles point state state x y xs ys,
            parts state x y row ends_x.0 ends_y.0 (λ same. differs same two),
            parted-le states point parted some together stays before,
          )
          )
    ]
  where
    differs : x ≡ y → eqb x y ≡ false → ⊥
    differs same two = let one = eq-eqb x y same in cc

-- a path has 196 transmitted bits
pub length-sent_bits : (states : ℕ) (point : ℕ → ℕ → ℕ) (path : List ℕ) → IsPath states path → length (sent_bits point path) ≡ 196
unfolding sent_bits
length-sent_bits states point path is =
    let nibbles = nibbles_from point 0 path in
    cc (length-number_bits 4 (interleaved nibbles), length-interleaved nibbles, length-nibbles_from point 0 path, is.long)

-- paths whose transmitted bits differ in few positions are equal
pub same_from_sent_bits : (states apart : ℕ) (point parted : ℕ → ℕ → ℕ) → 0 < states → parted 0 0 ≡ 0
    → ((a b x y : ℕ) → a < states → b < states → x < states → y < states → parted a b ≤ nibble_distance (point a x) (point b y) + parted x y)
    → ((state x y : ℕ) → state < states → x < states → y < states → x ≢ y → apart ≤ nibble_distance (point state x) (point state y) + parted x y)
    → (path other : List ℕ) → IsPath states path → IsPath states other → distance_of (sent_bits point path) (sent_bits point other) < apart → path ≡ other
unfolding sent_bits
same_from_sent_bits states apart point parted some together stays parts path other is other_is near =
    same_from_near states apart point parted some together stays parts 48 0 path other some (IsEnd-from_path states path is) (IsEnd-from_path states other other_is)
    (omega (
      arith,
      near,
      distance_of-interleaved (nibbles_from point 0 path) (nibbles_from point 0 other) (length-nibbles_from point 0 path ∙ is.long ∙ sym other_is.long
          ∙ sym (length-nibbles_from point 0 other)),
    ))

-- a block so near to received bits is that of the first nearest path
pub IsNearReading-from : (states width apart : ℕ) (point : ℕ → ℕ → ℕ) (received : List Bool) (octets : List ℕ) (distance : ℕ)
    → ((path other : List ℕ) → IsPath states path → IsPath states other → distance_of (sent_bits point path) (sent_bits point other) < apart → path ≡ other)
    → length received ≡ 196 → IsFirstLeastReading states width (distance_from point received) octets distance
    → IsNearReading states width point apart received octets distance
IsNearReading-from states width apart point received octets distance far long reading =
    record { near_octets = octets_of_near; near_distance = distance_of_near }
  where
    one_path : (sent : List ℕ) (block : List Bool) (is : IsBlock states width point sent block) → 2 * distance_of block received < apart → is.path ≡ reading.path
    one_path sent block is near =
        let first = reading.first_least in
        far is.path reading.path is.is_path first.is_path
        (
        omega (
          arith,
          near,
          (ap (λ (bits : List Bool). distance_of bits received) (sym is.sent)),
          first.least is.path is.is_path,
          distance_of-triangle (sent_bits point is.path) received (sent_bits point reading.path) (length-sent_bits states point is.path is.is_path ∙ sym long),
          distance_of-sym received (sent_bits point reading.path),
        )
        )

    octets_of_near : (sent : List ℕ) (block : List Bool) → IsBlock states width point sent block → 2 * distance_of block received < apart → octets ≡ sent
    octets_of_near sent block is near =
        same_octets width reading.path octets sent reading.carries (rw (one_path sent block is near) at is.carries)

    distance_of_near : (sent : List ℕ) (block : List Bool) → IsBlock states width point sent block → 2 * distance_of block received < apart → distance ≡ distance_of block received
    distance_of_near sent block is near =
        cc (reading.total_is, one_path sent block is near, is.sent)

-- a block has 196 bits
pub length-block : (states width : ℕ) (point : ℕ → ℕ → ℕ) (octets : List ℕ) (block : List Bool) → IsBlock states width point octets block → length block ≡ 196
length-block states width point octets block is = ap length is.sent ∙ length-sent_bits states point is.path is.is_path
