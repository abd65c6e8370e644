-- Fields of data units: each is an outer codeword of symbols, carried by inner codewords of bits at positions of the data unit.
use Rattle.std.specs.{Prelude.{ℕ, zero, suc, ◌+◌, ◌*◌, Bool, List, [], ◌∷◌, take, map, replicate, Option, Some, None, option_map}, List.{flat_map}}
use Rattle.p25_bits.specs.{Bits.{part}, Numbers.{joined_below}}
use Rattle.p25_gf64.specs.declared.symbol.Sym.{Sym}
use Rattle.p25_link.specs.Symbols.{symbols_in, symbol_bits}

-- the positions of the inner words of a field, the bits of each and the symbols of its information, the decodings of inner and outer words, and the
-- number of symbols of the outer word that are the information
pub record Layout : Type 0 where
  pub places : List ℕ
  pub size : ℕ
  pub each : ℕ
  pub inner_reading : List Bool → Option (List Bool)
  pub outer_reading : List (Option Sym) → Option (List Sym)
  pub information : ℕ

abbrev pub field_layout : List ℕ → ℕ → ℕ → (List Bool → Option (List Bool)) → (List (Option Sym) → Option (List Sym)) → ℕ → Layout
field_layout places size each inner_reading outer_reading information = record {
  places = places;
  size = size;
  each = each;
  inner_reading = inner_reading;
  outer_reading = outer_reading;
  information = information;
}

-- a number of positions, each a step after the one before
unfoldable pub places_from : ℕ → ℕ → ℕ → List ℕ
places_from at step zero = []
places_from at step (suc count) = at ∷ places_from (at + step) step count

-- the symbols that an inner word gives the outer one: those that its information writes, or an erasure for each if the inner word is uncorrectable
unfoldable pub symbols_or_erasures : ℕ → Option (List Bool) → List (Option Sym)
symbols_or_erasures each (Some word) = map Some (symbols_in each word)
symbols_or_erasures each None = replicate each None

-- the received outer word of a field, with erasures
unfoldable pub received_in : Layout → List Bool → List (Option Sym)
received_in layout bits = flat_map (λ at. symbols_or_erasures layout.each (layout.inner_reading (part at layout.size bits))) layout.places

-- the outer word that a field decodes to, or none
unfoldable pub outer_word_of : Layout → List Bool → Option (List Sym)
outer_word_of layout bits = layout.outer_reading (received_in layout bits)

-- the information of a field, or none if the field fails
unfoldable pub field_reading_of : Layout → List Bool → Option (List Sym)
field_reading_of layout bits = option_map (take layout.information) (outer_word_of layout bits)

-- the transmitted outer codeword of a field
unfoldable pub sent_in : Layout → List Bool → List Sym
sent_in layout bits = flat_map (λ at. symbols_in layout.each (part at layout.size bits)) layout.places

-- the bits of symbols, each group of a given size encoded as one inner codeword
unfoldable pub field_bits : (List Bool → List Bool) → ℕ → ℕ → List Sym → List Bool
field_bits encoding each count symbols = joined_below count (λ i. encoding (symbol_bits (part (each * i) each symbols)))
