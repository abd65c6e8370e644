-- The first nearest path, as a function, is the first least path; the decoded octets and the block of octets follow from it. By induction on the
-- symbols that are left: the lowest symbol with the cheapest best end comes before that end.
use Rattle.std.proofs.Common.{◌≡◌, ℕ, zero, suc, ◌*◌, ◌^◌, ◌<◌, ◌≤◌, inl, inr, Bool, List, [], ◌∷◌, length, take, refl, ap, sym, ◌∙◌, arith, All, length-append}
use Rattle.std.proofs.{lemmas.Bool.{cases_lt}, lemmas.List.{length-take-le, take_all, take_at, drop_at}, lemmas.List.Elements.{All-append, All-cons, All-nil}}
use Rattle.p25_bits.specs.Least.{IsLowestLeast}
use Rattle.p25_bits.proofs.LeastLaws.{IsLowestLeast-lowest_least}
use Rattle.p25_bits.specs.{Bits.{octet_bits}, Numbers.{number_bits, numbers_from, octets_from}}
use Rattle.p25_bits.proofs.{BitsLaws.{length-octet_bits}, NumbersLaws.{number_bits-octets, length-number_bits, length-numbers_from, All-numbers_from, number_bits-numbers_from}}
use Rattle.p25_trellis.specs.{Trellis.{IsPath, Carries, IsBlock, IsNotAfter, IsFirstLeast, IsFirstLeastReading, distance_from}, Least.{IsEnd}}
use Rattle.p25_trellis.specs.Nearest.{first_least_end, nearest_path, nearest_octets, nearest_distance, path_from, block_from}
use Rattle.p25_trellis.proofs.{FirstPathLaws.{IsFirstLeastEnd, IsFirstLeastEnd-last, IsFirstLeast-from_end, same_reading}}
use Rattle.p25_trellis.proofs.PathLaws.{power-pos, same_block}

-- the lowest symbol with the cheapest best end goes before that end
IsFirstLeastEnd-lowest : (states before : ℕ) (cost : List ℕ → ℕ) (best : ℕ → List ℕ) (symbol : ℕ)
    → ((s : ℕ) → s < states → IsFirstLeastEnd states before (λ end. cost (s ∷ end)) (best s))
    → IsLowestLeast states (λ s. cost (s ∷ best s)) symbol (cost (symbol ∷ best symbol)) → IsFirstLeastEnd states (suc before) cost (symbol ∷ best symbol)
IsFirstLeastEnd-lowest states before cost best symbol ends choice =
    record { is_end = (choice.below, (ends symbol choice.below).is_end); least = no_less; first = first_of_all }
  where
    no_less : (other : List ℕ) → IsEnd states (suc before) other → cost (symbol ∷ best symbol) ≤ cost other
    no_less [] is = absurd is
    no_less (y ∷ ys) is = omega (arith, choice.none_less, (ends y is.0).least ys is.1)

    same_first : (y : ℕ) (ys : List ℕ) → y ≡ symbol → IsEnd states before ys → cost (y ∷ ys) ≡ cost (symbol ∷ best symbol) → IsNotAfter (best symbol) ys
    same_first y ys one is same = (ends symbol choice.below).first ys is (cc (one, same))

    first_of_all : (other : List ℕ) → IsEnd states (suc before) other → cost other ≡ cost (symbol ∷ best symbol) → IsNotAfter (symbol ∷ best symbol) other
    first_of_all [] is same = absurd is
    first_of_all (y ∷ ys) is same = elim (cases_lt symbol y) [
      | inl lower ↦ inl lower
      | inr not_lower ↦ elim (cases_lt y symbol) [
        | inl higher ↦ absurd (omega (arith, same, choice.lowest y higher, (ends y is.0).least ys is.1))
        | inr not_higher ↦ let one : y ≡ symbol = omega arith in inr (sym one, same_first y ys one is.1 same)
      ]
    ]

-- the function gives the first of the ends that cost least
IsFirstLeastEnd-first_least_end : (states before : ℕ) (cost : List ℕ → ℕ) → 0 < states → IsFirstLeastEnd states before cost (first_least_end states before cost)
unfolding first_least_end
IsFirstLeastEnd-first_least_end states zero cost some = IsFirstLeastEnd-last states cost
IsFirstLeastEnd-first_least_end states (suc before) cost some =
    IsFirstLeastEnd-lowest states before cost (λ symbol. first_least_end states before (λ end. cost (symbol ∷ end))) _
    (λ symbol below. IsFirstLeastEnd-first_least_end states before (λ end. cost (symbol ∷ end)) some)
    (IsLowestLeast-lowest_least states (λ symbol. cost _) some)

-- it gives the first least path by any cost
pub IsFirstLeast-first_least_end : (states : ℕ) (cost : List ℕ → ℕ) → 0 < states → IsFirstLeast states cost (first_least_end states 48 cost)
IsFirstLeast-first_least_end states cost some = IsFirstLeast-from_end states cost (first_least_end states 48 cost) some (IsFirstLeastEnd-first_least_end states 48 cost some)

-- and so the first nearest path
pub IsFirstLeast-nearest_path : (states : ℕ) (point : ℕ → ℕ → ℕ) (received : List Bool) → 0 < states → IsFirstLeast states (distance_from point received) (nearest_path states point received)
unfolding nearest_path
IsFirstLeast-nearest_path states point received some = IsFirstLeast-first_least_end states (distance_from point received) some

-- the octets that a path's symbols write are those that it carries
pub Carries-octets_from : (states width : ℕ) (path : List ℕ) → IsPath states path → Carries width path (octets_from (6 * width) (number_bits width (take 48 path)))
Carries-octets_from states width path is =
    let bits = number_bits width (take 48 path) in
    let long : length bits ≡ 48 * width = omega (arith, length-number_bits width, ap (λ n. width * n) (length-take-le 48 path (omega (arith, is.long)))) in
    record {
      are_octets = All-numbers_from 8 _ bits;
      information = sym (take_all _ bits (omega arith)) ∙ sym (number_bits-numbers_from 8 (6 * width) bits (omega arith)) ∙ number_bits-octets (octets_from (6 * width) bits);
    }

-- the octets that the first least path carries, and its cost, are its decoding
pub least_reading : (states width : ℕ) (cost : List ℕ → ℕ) (path : List ℕ) → IsFirstLeast states cost path
    → IsFirstLeastReading states width cost (octets_from (6 * width) (number_bits width (take 48 path))) (cost path)
least_reading states width cost path first = record { path = path; first_least = first; carries = Carries-octets_from states width path first.is_path; total_is = refl }

-- the octets and the distance that the functions give are those of the first nearest path
pub nearest_reading : (states width : ℕ) (point : ℕ → ℕ → ℕ) (received : List Bool) → 0 < states
    → IsFirstLeastReading states width (distance_from point received) (nearest_octets states width point received) (nearest_distance states point received)
unfolding nearest_octets nearest_distance
nearest_reading states width point received some =
    least_reading states width (distance_from point received) (nearest_path states point received) (IsFirstLeast-nearest_path states point received some)

-- and no others are
pub same_nearest : (states width : ℕ) (point : ℕ → ℕ → ℕ) (received : List Bool) (octets : List ℕ) (distance : ℕ) → 0 < states
    → IsFirstLeastReading states width (distance_from point received) octets distance
    → (octets ≡ nearest_octets states width point received) × (distance ≡ nearest_distance states point received)
same_nearest states width point received octets distance some reading =
    same_reading states width (distance_from point received) octets (nearest_octets states width point received) distance
    (nearest_distance states point received) reading (nearest_reading states width point received some)

-- the symbols that octets write, and then 0, are a path
pub IsPath-path_from : (states width : ℕ) (octets : List ℕ) → states ≡ 2 ^ width → IsPath states (path_from width octets)
unfolding path_from
IsPath-path_from states width octets states_is =
    let P : ℕ → Type 0 = λ symbol. symbol < states in
    let symbols = numbers_from width 48 (octet_bits octets) in
    let long = length-numbers_from width 48 (octet_bits octets) in
    record {
      long = omega (arith, length-append symbols, long);
      below = All-append P symbols _ (rw (← states_is) at (All-numbers_from width 48 (octet_bits octets))) (All-cons P 0 [] (power-pos width states states_is) (All-nil P));
      last = drop_at symbols _ 48 long;
    }

-- and it carries them
pub Carries-path_from : (width : ℕ) (octets : List ℕ) → length octets ≡ 6 * width → All (λ octet. octet < 256) octets → Carries width (path_from width octets) octets
unfolding path_from
Carries-path_from width octets long small =
    let bits = octet_bits octets in
    record {
      are_octets = small;
      information = cc (
        take_at (numbers_from width 48 bits) _ 48 (length-numbers_from width 48 bits),
        number_bits-numbers_from width 48 bits (omega (arith, length-octet_bits octets)),
        take_all (width * 48) bits (omega (arith, length-octet_bits octets)),
      );
    }

-- the block that the function gives is the block of octets
pub IsBlock-block_from : (states width : ℕ) (point : ℕ → ℕ → ℕ) (octets : List ℕ)
    → states ≡ 2 ^ width → length octets ≡ 6 * width → All (λ octet. octet < 256) octets → IsBlock states width point octets (block_from width point octets)
unfolding block_from
IsBlock-block_from states width point octets states_is long small = record {
  path = path_from width octets;
  is_path = IsPath-path_from states width octets states_is;
  carries = Carries-path_from width octets long small;
  sent = refl;
}

-- and no other is
pub same_block_from : (states width : ℕ) (point : ℕ → ℕ → ℕ) (octets : List ℕ) (block : List Bool)
    → states ≡ 2 ^ width → length octets ≡ 6 * width → IsBlock states width point octets block → block ≡ block_from width point octets
same_block_from states width point octets block states_is long is =
    same_block states width point octets block (block_from width point octets) states_is is (IsBlock-block_from states width point octets states_is long is.carries.are_octets)
