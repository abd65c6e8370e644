-- The damage of a sample data unit: some of the first bits of its sync, of its network identifier (NID) and of each of its codewords and blocks are
-- inverted, as many as draws give.
use Rattle.std.specs.Prelude.{◌≡◌, ℕ, zero, suc, ◌+◌, ◌%◌, Bool, List, [], ◌∷◌, ◌++◌, fold, sum_by}
use Rattle.p25_bits.specs.Bits.{flipped}
use Rattle.p25_coded_fields.specs.Layouts.{places_from}
use Rattle.p25_voice_units.specs.{declared.unit.VoiceUnit.TheVariants.{Header, Link1, Link2, End, EndLink}, FieldLayouts.{word_places}}
use Rattle.p25_voice_units.specs.{Layouts.{hdu_rows, ldu_rows, tdulc_rows}, Readings.{low_places}}
use Rattle.p25_packet_blocks.specs.{Heads.{head_blocks}, Whole.{packet_head}, Within.{block_radius}}
use Rattle.p25_units.specs.{declared.unit.Body.{Body}, declared.unit.Body.TheVariants.{Voice, Packet}}
use Rattle.p25_vectors.specs.Draws.{Drawing, and_then, drawn, number_next}

-- a damaged codeword or block: its position, its number of bits, and how many of the first of them are inverted
abbrev pub Hit : Type 0
Hit = ℕ × ℕ × ℕ

-- bits with a number of them inverted, from a position on
unfoldable pub inverted : ℕ → ℕ → List Bool → List Bool
inverted at zero bits = bits
inverted at (suc count) bits = flipped (inverted at count bits) (at + count)

-- bits with the first bits of each hit inverted
unfoldable pub damaged : List Hit → List Bool → List Bool
damaged hits bits = fold (λ now hit. inverted hit.0 hit.2 now) bits hits

-- the number of bits that are inverted
unfoldable pub inversions : List Hit → ℕ
inversions hits = sum_by (λ hit. hit.2) hits

-- codewords of a size at positions: the first ones are inverted whole, and each later one in a drawn number of bits, modulo one more than the
-- correction radius
unfoldable pub word_hits : ℕ → ℕ → ℕ → List ℕ → Drawing (List Hit)
word_hits size radius whole [] = drawn []
word_hits size radius (suc whole) (at ∷ places) = and_then (word_hits size radius whole places) (λ hits. drawn ((at, size, size) ∷ hits))
word_hits size radius zero (at ∷ places) =
    and_then number_next (λ number. and_then (word_hits size radius zero places) (λ hits. drawn ((at, size, number % (radius + 1)) ∷ hits)))

-- the hits of a drawing, and then those of another
abbrev pub both : Drawing (List Hit) → Drawing (List Hit) → Drawing (List Hit)
both first second = and_then first (λ hits. and_then second (λ more. drawn (hits ++ more)))

-- the inner codewords of a coded field: first a draw determines how many are inverted whole, from 0 to the most that its outer code corrects
abbrev pub field_hits : ℕ → ℕ → ℕ → List ℕ → Drawing (List Hit)
field_hits size radius most places = and_then number_next (λ number. word_hits size radius (number % (most + 1)) places)

-- the 24 Hamming codewords of an LDU1 or an LDU2, and the two codewords of its low speed data (LSD)
abbrev pub link_hits : ℕ → Drawing (List Hit)
link_hits most = both (field_hits 10 1 most (word_places 10 ldu_rows)) (word_hits 16 2 0 (low_places ldu_rows))

-- the codewords and blocks after sync and NID: up to three bits of a Golay codeword, one of a Hamming codeword, two of a low speed data codeword, two
-- of a half-rate block, and one of a three-quarter-rate block
unfoldable pub body_hits : Body → Drawing (List Hit)
body_hits (Voice (Header word)) = field_hits 18 3 8 (word_places 18 hdu_rows)
body_hits (Voice (Link1 link low voice)) = link_hits 6
body_hits (Voice (Link2 sync low voice)) = link_hits 4
body_hits (Voice End) = drawn []
body_hits (Voice (EndLink link)) = field_hits 24 3 3 (word_places 24 tdulc_rows)
body_hits (Packet packet) =
    both (word_hits 196 2 0 (112 ∷ [])) (word_hits 196 (block_radius packet) 0 (places_from 308 196 (head_blocks (packet_head packet))))

-- a data unit without status symbols: up to four bits of its sync, up to eleven of the first 63 bits of its NID, and then its codewords and blocks
unfoldable pub unit_hits : Body → Drawing (List Hit)
unit_hits body = both (both (word_hits 48 4 0 (0 ∷ [])) (word_hits 63 11 0 (48 ∷ []))) (body_hits body)

-- bits, a number of inverted bits and a state are those after the hits of a drawing
pub record IsDamage (next : Drawing (List Hit)) (before : ℕ) (sent now : List Bool) (count behind : ℕ) : Type 0 where
  pub list : now ≡ damaged (next before).0 sent
  pub flips : count ≡ inversions (next before).0
  pub state : behind ≡ (next before).1
