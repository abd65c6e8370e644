-- The effect of hits on a list of bits: if they are disjoint, each differs in at most as many bits as are inverted, and the bits outside them are
-- unchanged. By recursion on the hits: a later one begins after an earlier one.
use Rattle.std.proofs.Common.{◌≡◌, ℕ, zero, suc, ◌+◌, ◌<◌, ◌≤◌, ◌⊎◌, inl, inr, Bool, true, ◌&&◌, nat_le, List, [], ◌∷◌, length, map, take, drop, refl, ap, ap₂, sym, ◌∙◌, arith}
use Rattle.std.specs.List.{AllByRecursion as Each}
use Rattle.std.proofs.lemmas.Bool.{and_parts, leb-true}
use Rattle.p25_bits.specs.{Bits.{part, flipped}, Distance.{distance_of}}
use Rattle.p25_bits.proofs.{BitsLaws.{length-flipped}, PartLaws.{part-take}, DistanceLaws.{distance_of-same, distance_of-triangle, distance_of-part, distance_of-flipped}}
use Rattle.p25_vectors.specs.Damage.{Hit, inverted, damaged}

-- One bit inverted.

drop-flipped : (from : ℕ) (bits : List Bool) (place : ℕ) → place < from → drop from (flipped bits place) ≡ drop from bits
drop-flipped zero (bit ∷ bits) place h = absurd (omega arith)
drop-flipped (suc from) (bit ∷ bits) (suc place) h = drop-flipped from bits place (omega arith)
drop-flipped from bits place h = refl

take-flipped : (until : ℕ) (bits : List Bool) (place : ℕ) → until ≤ place → take until (flipped bits place) ≡ take until bits
take-flipped (suc until) (bit ∷ bits) zero h = absurd (omega arith)
take-flipped (suc until) (bit ∷ bits) (suc place) h = ap (λ xs. bit ∷ xs) (take-flipped until bits place (omega arith))
take-flipped until bits place h = refl

-- Some bits inverted.

pub inverted-none : (at : ℕ) (bits : List Bool) → inverted at 0 bits ≡ bits
unfolding inverted
inverted-none at bits = refl

pub inverted-more : (at count : ℕ) (bits : List Bool) → inverted at (count + 1) bits ≡ flipped (inverted at count bits) (at + count)
unfolding inverted
inverted-more at count bits = let e : count + 1 ≡ suc count = omega arith in ap (λ n. inverted at n bits) e

pub length-inverted : (at count : ℕ) (bits : List Bool) → length (inverted at count bits) ≡ length bits
unfolding inverted
length-inverted at zero bits = refl
length-inverted at (suc count) bits = length-flipped (inverted at count bits) (at + count) ∙ length-inverted at count bits

drop-inverted : (at count from : ℕ) (bits : List Bool) → at + count ≤ from → drop from (inverted at count bits) ≡ drop from bits
unfolding inverted
drop-inverted at zero from bits h = refl
drop-inverted at (suc count) from bits h = drop-flipped from (inverted at count bits) (at + count) (omega arith) ∙ drop-inverted at count from bits (omega arith)

take-inverted : (at count until : ℕ) (bits : List Bool) → until ≤ at → take until (inverted at count bits) ≡ take until bits
unfolding inverted
take-inverted at zero until bits h = refl
take-inverted at (suc count) until bits h = take-flipped until (inverted at count bits) (at + count) (omega arith) ∙ take-inverted at count until bits h

distance-inverted : (at count : ℕ) (bits : List Bool) → distance_of (inverted at count bits) bits ≤ count
unfolding inverted
distance-inverted at zero bits = omega (arith, distance_of-same bits)
distance-inverted at (suc count) bits =
    let now = inverted at count bits in
    omega (
      arith,
      distance_of-triangle (flipped now (at + count)) now bits (length-flipped now (at + count)),
      distance_of-flipped now (at + count),
      distance-inverted at count bits,
    )

-- a part before them, or after them, is unchanged
part-inverted : (at count from size : ℕ) (bits : List Bool) → (at + count ≤ from) ⊎ (from + size ≤ at) → part from size (inverted at count bits) ≡ part from size bits
part-inverted at count from size bits (inl behind) = ap (take size) (drop-inverted at count from bits behind)
part-inverted at count from size bits (inr before) =
    sym (part-take from size (from + size) (inverted at count bits) (omega arith))
    ∙ ap (λ (xs : List Bool). part from size xs) (take-inverted at count (from + size) bits before)
    ∙ part-take from size (from + size) bits (omega arith)

-- Hits.

-- the position of a hit and its number of bits
abbrev pub word_of : Hit → ℕ × ℕ
word_of hit = (hit.0, hit.1)

-- no more bits are inverted than it has
abbrev pub IsFit : Hit → Type 0
IsFit hit = hit.2 ≤ hit.1

-- the inverted bits lie outside of a part
abbrev pub IsOutside : ℕ → ℕ → Hit → Type 0
IsOutside at size hit = (hit.0 + hit.2 ≤ at) ⊎ (at + size ≤ hit.0)

-- received bits differ there in no more bits than are inverted
abbrev pub IsNearAt : List Bool → List Bool → Hit → Type 0
IsNearAt sent received hit = distance_of (part hit.0 hit.1 received) (part hit.0 hit.1 sent) ≤ hit.2

-- a test of words that are written out: they are disjoint, in order, from a position on
unfoldable pub rising : ℕ → List (ℕ × ℕ) → Bool
rising from [] = true
rising from (word ∷ words) = nat_le from word.0 && rising (word.0 + word.1) words

pub length-damaged : (hits : List Hit) (bits : List Bool) → length (damaged hits bits) ≡ length bits
unfolding damaged
length-damaged [] bits = refl
length-damaged (hit ∷ hits) bits = length-damaged hits (inverted hit.0 hit.2 bits) ∙ length-inverted hit.0 hit.2 bits

pub part-damaged : (at size : ℕ) (hits : List Hit) (bits : List Bool) → Each (IsOutside at size) hits → part at size (damaged hits bits) ≡ part at size bits
unfolding damaged
part-damaged at size [] bits outside = refl
part-damaged at size (hit ∷ hits) bits outside =
    part-damaged at size hits (inverted hit.0 hit.2 bits) outside.1 ∙ part-inverted hit.0 hit.2 at size bits outside.0

later-outside : (at size from : ℕ) (hits : List Hit) → at + size ≤ from → rising from (map word_of hits) ≡ true → Each (IsOutside at size) hits
unfolding rising
later-outside at size from [] before test = tt
later-outside at size from (hit ∷ hits) before test =
    let parts = and_parts (nat_le from hit.0) (rising (hit.0 + hit.1) (map word_of hits)) test in
    let begins : at + size ≤ hit.0 = omega (arith, before, leb-true from hit.0 parts.0) in
    (inr begins, later-outside at size (hit.0 + hit.1) hits (omega (arith, begins)) parts.1)

-- bits that were damaged before a position, and hits from there on
pub near-damaged : (from : ℕ) (hits : List Hit) (bits sent : List Bool) → length bits ≡ length sent → ((k : ℕ) → from ≤ k → drop k bits ≡ drop k sent)
    → rising from (map word_of hits) ≡ true → Each IsFit hits → Each (IsNearAt sent (damaged hits bits)) hits
unfolding damaged rising
near-damaged from [] bits sent long same test fits = tt
near-damaged from (hit ∷ hits) bits sent long same test fits =
    let first = inverted hit.0 hit.2 bits in
    let parts = and_parts (nat_le from hit.0) (rising (hit.0 + hit.1) (map word_of hits)) test in
    let begins = leb-true from hit.0 parts.0 in
    let later = part-damaged hit.0 hit.1 hits first (later-outside hit.0 hit.1 (hit.0 + hit.1) hits (omega arith) parts.1) in (
      omega (
        arith,
        ap₂ distance_of later (sym (ap (take hit.1) (same hit.0 begins))),
        distance_of-part hit.0 hit.1 first bits (length-inverted hit.0 hit.2 bits),
        distance-inverted hit.0 hit.2 bits,
      ),
      near-damaged (hit.0 + hit.1) hits first sent (length-inverted hit.0 hit.2 bits ∙ long)
          (λ k h. drop-inverted hit.0 hit.2 k bits (omega (arith, h, fits.0)) ∙ same k (omega (arith, begins, h))) parts.1 fits.1,
    )
