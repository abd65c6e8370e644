-- Paths of a trellis code, their transmitted bits, and the path that is nearest to received bits.
use Rattle.std.specs.Prelude.{◌≡◌, ◌≢◌, ℕ, ◌*◌, ◌<◌, ◌≤◌, ◌⊎◌, Bool, List, [], ◌∷◌, length, take, drop, All}
use Rattle.p25_bits.specs.{Bits.{octet_bits}, Distance.{distance_of}, Numbers.{number_bits}}
use Rattle.p25_trellis.specs.Interleave.{interleaved}

-- a path: 49 symbols below the number of states, the last of which is 0
pub record IsPath (states : ℕ) (path : List ℕ) : Type 0 where
  pub long : length path ≡ 49
  pub below : All (λ symbol. symbol < states) path
  pub last : drop 48 path ≡ 0 ∷ []

-- the nibbles of symbols from a state on: a step transmits the point in the state's row and the symbol's column, and the state after a symbol is that
-- symbol
unfoldable pub nibbles_from : (ℕ → ℕ → ℕ) → ℕ → List ℕ → List ℕ
nibbles_from point state [] = []
nibbles_from point state (symbol ∷ symbols) = point state symbol ∷ nibbles_from point symbol symbols

-- the transmitted bits of a path: its nibbles from state 0, interleaved
unfoldable pub sent_bits : (ℕ → ℕ → ℕ) → List ℕ → List Bool
sent_bits point path = number_bits 4 (interleaved (nibbles_from point 0 path))

-- a path carries octets: its first 48 symbols, as bits, are the octets' bits
pub record Carries (width : ℕ) (path octets : List ℕ) : Type 0 where
  pub are_octets : All (λ octet. octet < 256) octets
  pub information : number_bits width (take 48 path) ≡ octet_bits octets

-- bits are the block of octets: the transmitted bits of a path that carries them
pub record IsBlock (states width : ℕ) (point : ℕ → ℕ → ℕ) (octets : List ℕ) (bits : List Bool) : Type 0 where
  pub path : List ℕ
  pub is_path : IsPath states path
  pub carries : Carries width path octets
  pub sent : bits ≡ sent_bits point path

-- dictionary order: the first list is not after the second
abbrev pub IsNotAfter : List ℕ → List ℕ → Type 0
IsNotAfter [] ys = Unit {0}
IsNotAfter (x ∷ xs) [] = ⊥
IsNotAfter (x ∷ xs) (y ∷ ys) = (x < y) ⊎ ((x ≡ y) × IsNotAfter xs ys)

-- the first least path by a cost of paths: no path costs less, and none of the same cost is before it in dictionary order
pub record IsFirstLeast (states : ℕ) (cost : List ℕ → ℕ) (path : List ℕ) : Type 0 where
  pub is_path : IsPath states path
  pub least : (other : List ℕ) → IsPath states other → cost path ≤ cost other
  pub first : (other : List ℕ) → IsPath states other → cost other ≡ cost path → IsNotAfter path other

-- octets and a cost are those of the first least path
pub record IsFirstLeastReading (states width : ℕ) (cost : List ℕ → ℕ) (octets : List ℕ) (total : ℕ) : Type 0 where
  pub path : List ℕ
  pub first_least : IsFirstLeast states cost path
  pub carries : Carries width path octets
  pub total_is : total ≡ cost path

-- octets and a distance are those of each block that is near enough to received bits: twice its distance is below `apart`
pub record IsNearReading (states width : ℕ) (point : ℕ → ℕ → ℕ) (apart : ℕ) (received : List Bool) (octets : List ℕ) (distance : ℕ) : Type 0 where
  pub near_octets : (sent : List ℕ) (block : List Bool) → IsBlock states width point sent block → 2 * distance_of block received < apart → octets ≡ sent
  pub near_distance : (sent : List ℕ) (block : List Bool) → IsBlock states width point sent block → 2 * distance_of block received < apart
      → distance ≡ distance_of block received

-- the distance of a path's transmitted bits from received bits
abbrev pub distance_from : (ℕ → ℕ → ℕ) → List Bool → List ℕ → ℕ
distance_from point received path = distance_of (sent_bits point path) received

-- the transmitted bits of any two different paths differ in at least this many positions
abbrev pub ArePathsApart : ℕ → (ℕ → ℕ → ℕ) → ℕ → Type 0
ArePathsApart states point places =
    (path other : List ℕ) → IsPath states path → IsPath states other → distance_of (sent_bits point path) (sent_bits point other) < places → path ≡ other

-- two different paths whose transmitted bits differ in exactly this many positions
pub record SomeApart (states : ℕ) (point : ℕ → ℕ → ℕ) (places : ℕ) : Type 0 where
  pub path : List ℕ
  pub other : List ℕ
  pub is_path : IsPath states path
  pub other_is_path : IsPath states other
  pub differ : path ≢ other
  pub places_is : distance_of (sent_bits point path) (sent_bits point other) ≡ places
