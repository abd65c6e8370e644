-- A path whose transmitted bits are exactly the received ones is the first nearest. No distance is less than 0, and any other path at distance 0 has
-- the same transmitted bits, so it is this one.
use Rattle.std.proofs.Common.{◌≡◌, ℕ, ◌+◌, ◌<◌, inr, Bool, List, [], ◌∷◌, ◌++◌, length, take, drop, set, get_or, refl, ap, subst, ◌∙◌, arith, append_assoc}
use Rattle.std.proofs.lemmas.List.{take_all, take_more, take_more_set, take-append-drop}
use Rattle.p25_bits.specs.Distance.{distance_of}
use Rattle.p25_bits.proofs.DistanceLaws.{distance_of-same, distance_of-sym}
use Rattle.p25_trellis.specs.Trellis.{ArePathsApart, IsFirstLeast, IsNotAfter, IsPath, distance_from, nibbles_from, sent_bits}
use Rattle.p25_trellis.proofs.PathLaws.{nibbles_from-cons, nibbles_from-nil}

not_after-same : (path : List ℕ) → IsNotAfter path path
not_after-same [] = tt
not_after-same (symbol ∷ path) = inr (refl, not_after-same path)

pub at_no_distance : (point : ℕ → ℕ → ℕ) (received : List Bool) (path : List ℕ) → sent_bits point path ≡ received → distance_from point received path ≡ 0
at_no_distance point received path sends = simp (sends, distance_of-same)

pub IsFirstLeast-exact : (states apart : ℕ) (point : ℕ → ℕ → ℕ) (received : List Bool) (path : List ℕ) → 0 < apart → ArePathsApart states point apart
    → IsPath states path → sent_bits point path ≡ received → IsFirstLeast states (distance_from point received) path
IsFirstLeast-exact states apart point received path some far is sends =
    let zero = at_no_distance point received path sends in record {
      is_path = is;
      least = λ other other_is. omega (arith, zero);
      first = λ other other_is equal.
          subst (IsNotAfter path) (far path other is other_is (omega (
            arith,
            ap (λ bits. distance_of bits (sent_bits point other)) sends ∙ distance_of-sym received (sent_bits point other),
            equal,
            zero,
            some,
          ))) (not_after-same path);
    }

-- a path that transmits nibbles as far as it goes, whatever follows, transmits one more by the symbol whose point is the next nibble
pub sends_more : (point : ℕ → ℕ → ℕ) (nibbles path : List ℕ) (step state symbol : ℕ) → step < length path → step < length nibbles → point state symbol ≡ get_or nibbles step 0
    → ((rest : List ℕ) → nibbles_from point 0 (take step path ++ rest) ≡ take step nibbles ++ nibbles_from point state rest)
    → (rest : List ℕ) → nibbles_from point 0 (take (step + 1) (set path step symbol) ++ rest) ≡ take (step + 1) nibbles ++ nibbles_from point symbol rest
sends_more point nibbles path step state symbol inside there sends so_far rest =
    cc (
      take_more_set path step symbol inside,
      append_assoc (take step path) (symbol ∷ []) rest,
      so_far (symbol ∷ rest),
      nibbles_from-cons point state symbol rest,
      sends,
      append_assoc (take step nibbles) (get_or nibbles step 0 ∷ []) (nibbles_from point symbol rest),
      take_more nibbles step 0 there,
    )

-- with the point of the last state it transmits them all
pub sends_all : (point : ℕ → ℕ → ℕ) (nibbles path : List ℕ) (step state : ℕ) → step ≡ 48 → length nibbles ≡ 49 → drop 48 path ≡ 0 ∷ [] → point state 0 ≡ get_or nibbles 48 0
    → ((rest : List ℕ) → nibbles_from point 0 (take step path ++ rest) ≡ take step nibbles ++ nibbles_from point state rest) → nibbles_from point 0 path ≡ nibbles
sends_all point nibbles path step state done long last sends so_far =
    cc (take-append-drop 48 path, last, (simp done at so_far) (0 ∷ []), nibbles_from-cons point state 0 [], sends, nibbles_from-nil point 0, take_more nibbles 48 0 (omega (arith, long)), take_all (48 + 1) nibbles (omega (arith, long)))
