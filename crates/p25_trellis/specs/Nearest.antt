-- The first nearest path to received bits as a function, the octets and the distance decoded by it, and the block of octets as a function.
use Rattle.std.specs.Prelude.{ℕ, zero, suc, ◌*◌, Bool, List, [], ◌∷◌, ◌++◌, take}
use Rattle.p25_bits.specs.{Bits.{octet_bits}, Least.{lowest_least}, Numbers.{number_bits, numbers_from, octets_from}}
use Rattle.p25_trellis.specs.{Trellis.{sent_bits, distance_from}, Tables.{half_point, three_quarter_point}}

-- the first of the ends that cost least, with `before` symbols before their 0: its first symbol is the lowest with which the cheapest ends begin
unfoldable pub first_least_end : ℕ → ℕ → (List ℕ → ℕ) → List ℕ
first_least_end states zero cost = 0 ∷ []
first_least_end states (suc before) cost =
    let best : ℕ → List ℕ = λ symbol. symbol ∷ first_least_end states before (λ end. cost (symbol ∷ end)) in
    best (lowest_least states (λ symbol. cost (best symbol)))

-- the first nearest path to received bits
unfoldable pub nearest_path : ℕ → (ℕ → ℕ → ℕ) → List Bool → List ℕ
nearest_path states point received = first_least_end states 48 (distance_from point received)

-- the octets of the first nearest path
unfoldable pub nearest_octets : ℕ → ℕ → (ℕ → ℕ → ℕ) → List Bool → List ℕ
nearest_octets states width point received = octets_from (6 * width) (number_bits width (take 48 (nearest_path states point received)))

-- the distance of the first nearest path
unfoldable pub nearest_distance : ℕ → (ℕ → ℕ → ℕ) → List Bool → ℕ
nearest_distance states point received = distance_from point received (nearest_path states point received)

-- the 12 octets that a half-rate block decodes to
abbrev pub half_octets : List Bool → List ℕ
half_octets received = nearest_octets 4 2 half_point received

-- the 18 octets that a three-quarter-rate block decodes to
abbrev pub three_quarter_octets : List Bool → List ℕ
three_quarter_octets received = nearest_octets 8 3 three_quarter_point received

-- the path that carries octets: the symbols that their bits write, and then 0
unfoldable pub path_from : ℕ → List ℕ → List ℕ
path_from width octets = numbers_from width 48 (octet_bits octets) ++ 0 ∷ []

-- the block of octets: the transmitted bits of the path that carries them
unfoldable pub block_from : ℕ → (ℕ → ℕ → ℕ) → List ℕ → List Bool
block_from width point octets = sent_bits point (path_from width octets)

-- the block of 12 octets at half rate
abbrev pub half_block : List ℕ → List Bool
half_block octets = block_from 2 half_point octets

-- the block of 18 octets at three-quarter rate
abbrev pub three_quarter_block : List ℕ → List Bool
three_quarter_block octets = block_from 3 three_quarter_point octets
