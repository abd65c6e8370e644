-- Paths, their nibbles and the octets that they carry.
use Rattle.std.proofs.Common.{◌≡◌, ℕ, ◌+◌, ◌^◌, ◌<◌, Bool, List, [], ◌∷◌, ◌++◌, length, take, drop, get_or, replicate, set, refl, ap, sym, ◌∙◌, arith, append_assoc, length-set}
use Rattle.std.proofs.{lemmas.List.{drop-set-lt, take-append-drop, take_more_set, drop_more, length-take-le}, lemmas.List.Elements.{All-replicate, All-set, All-take}, lemmas.Nat.{pow_pos}}
use Rattle.p25_bits.specs.Numbers.{number_bits}
use Rattle.p25_trellis.specs.Trellis.{IsPath, IsBlock, Carries, nibbles_from}
use Rattle.p25_bits.proofs.NumbersLaws.{length-number_bits, number_bits-octets, same_from_number_bits}

-- a power of two is not 0
pub power-pos : (width states : ℕ) → states ≡ 2 ^ width → 0 < states
power-pos width states is = rw is (pow_pos width)

-- a path in the making, with the symbols so far set and zeros after them, and the state after them
pub record IsPathTo (states : ℕ) (path : List ℕ) (state : ℕ) : Type 0 where
  pub is_path : IsPath states path
  pub row : state < states

-- it begins as zeros, in state 0
pub IsPathTo-begins : (states : ℕ) → 0 < states → IsPathTo states (replicate 49 0) 0
IsPathTo-begins states some = record {
  is_path = record { long = refl; below = All-replicate (λ (symbol : ℕ). symbol < states) 49 0 some; last = refl };
  row = some;
}

-- and goes on by one more symbol
pub IsPathTo-more : (states : ℕ) (path : List ℕ) (state step symbol : ℕ) → IsPathTo states path state → step < 48 → symbol < states → IsPathTo states (set path step symbol) symbol
IsPathTo-more states path state step symbol so_far early below = record {
  is_path = record {
    long = length-set path step symbol ∙ so_far.is_path.long;
    below = All-set (λ (s : ℕ). s < states) path step symbol below so_far.is_path.below;
    last = drop-set-lt 48 path step symbol early ∙ so_far.is_path.last;
  };
  row = below;
}

-- nibbles of one more symbol
pub nibbles_from-cons : (point : ℕ → ℕ → ℕ) (state symbol : ℕ) (symbols : List ℕ) → nibbles_from point state (symbol ∷ symbols) ≡ point state symbol ∷ nibbles_from point symbol symbols
unfolding nibbles_from
nibbles_from-cons point state symbol symbols = refl

pub nibbles_from-nil : (point : ℕ → ℕ → ℕ) (state : ℕ) → nibbles_from point state [] ≡ []
unfolding nibbles_from
nibbles_from-nil point state = refl

-- a nibble for each symbol
pub length-nibbles_from : (point : ℕ → ℕ → ℕ) (state : ℕ) (symbols : List ℕ) → length (nibbles_from point state symbols) ≡ length symbols
unfolding nibbles_from
length-nibbles_from point state [] = refl
length-nibbles_from point state (symbol ∷ symbols) = cc (length-nibbles_from point symbol symbols)

-- one more nibble is written, and one fewer is left
pub nibbles_more : (point : ℕ → ℕ → ℕ) (state : ℕ) (nibbles path : List ℕ) (step nibble : ℕ) → step < length nibbles → step < length path
    → nibble ≡ point state (get_or path step 0)
    → take (step + 1) (set nibbles step nibble) ++ nibbles_from point (get_or path step 0) (drop (step + 1) path) ≡ take step nibbles ++ nibbles_from point state (drop step path)
nibbles_more point state nibbles path step nibble here there is =
    let symbol = get_or path step 0 in
    cc (take_more_set nibbles step nibble here, append_assoc (take step nibbles) (nibble ∷ []) (nibbles_from point symbol (drop (step + 1) path)), is, nibbles_from-cons point state symbol (drop (step + 1) path), drop_more path step 0 there)

-- a path carries no other octets
pub same_octets : (width : ℕ) (path octets others : List ℕ) → Carries width path octets → Carries width path others → octets ≡ others
same_octets width path octets others one two =
    let same : number_bits 8 octets ≡ number_bits 8 others
    = rw (number_bits-octets, ← one.information, two.information, ← number_bits-octets) in
    same_from_number_bits 8 octets others one.are_octets two.are_octets (omega (arith, length-number_bits, length-number_bits, ap length same)) same

-- octets are carried by no other path
pub same_path : (states width : ℕ) (path other octets : List ℕ) → states ≡ 2 ^ width → IsPath states path → IsPath states other → Carries width path octets → Carries width other octets → path ≡ other
same_path states width path other octets states_is is other_is one two =
    let small = λ (p : List ℕ) (is_p : IsPath states p). rw states_is at (All-take (λ s. s < states) 48 p is_p.below) in
    cc (
      take-append-drop 48 path,
      same_from_number_bits width (take 48 path) (take 48 other) (small path is)
          (small other other_is) (length-take-le 48 path (omega (arith, is.long)) ∙ sym (length-take-le 48 other (omega (arith, other_is.long)))) (one.information ∙ sym two.information),
      is.last,
      other_is.last,
      take-append-drop 48 other,
    )

-- octets have no other block
pub same_block : (states width : ℕ) (point : ℕ → ℕ → ℕ) (octets : List ℕ) (block other : List Bool)
    → states ≡ 2 ^ width → IsBlock states width point octets block → IsBlock states width point octets other → block ≡ other
same_block states width point octets block other states_is one two =
    cc (one.sent, same_path states width one.path two.path octets states_is one.is_path two.is_path one.carries two.carries, two.sent)
