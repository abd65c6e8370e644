-- The damage of a field that its codes correct: twice the symbol errors plus the erasures are at most the check symbols of the outer code.
use Rattle.std.specs.Prelude.{◌≡◌, ℕ, ◌*◌, ◌≤◌, if◌then◌else◌, nat_le, Bool, List, length, take, Option, Some, All, sum_by}
use Rattle.p25_bits.specs.{Bits.{part}, Distance.{distance_of}}
use Rattle.p25_code.specs.Erasures.{erased_cost}
use Rattle.p25_gf64.specs.declared.symbol.Sym.{Sym}
use Rattle.p25_reed_solomon.specs.Words.{same_symbols}
use Rattle.p25_coded_fields.specs.Layouts.{Layout, received_in, sent_in}

-- bits have a field with a given information: inner codewords at its positions, whose symbols are an outer codeword that begins with it
pub record HasField (IsInnerWord : List Bool → Type 0) (IsOuterWord : List Sym → Type 0) (layout : Layout) (info : List Sym) (sent : List Bool) : Type 0 where
  pub inner : All (λ at. IsInnerWord (part at layout.size sent)) layout.places
  pub outer : IsOuterWord (sent_in layout sent)
  pub begins : take layout.information (sent_in layout sent) ≡ info

-- a received field costs no more than the outer code corrects: two for each symbol of a wrongly decoded inner word, one for each symbol of an
-- uncorrectable one
pub record IsFieldNear (checks : ℕ) (layout : Layout) (sent received : List Bool) : Type 0 where
  pub near : erased_cost same_symbols (received_in layout received) (sent_in layout sent) ≤ checks

-- the number of symbols in inner words with more bit errors than the correction radius
unfoldable pub lost_symbols : ℕ → Layout → List Bool → List Bool → ℕ
lost_symbols radius layout sent received =
    sum_by (λ at. if nat_le (distance_of (part at layout.size received) (part at layout.size sent)) radius then 0 else layout.each) layout.places

-- a layout's decodings for sets of codewords: a codeword of the set near to the received word is its decoding
pub record HasCodes (IsInnerWord : List Bool → Type 0) (inner_radius : ℕ) (IsOuterWord : List Sym → Type 0) (checks : ℕ) (layout : Layout) : Type 0 where
  pub inner : (received sent : List Bool) → length received ≡ layout.size → IsInnerWord sent → distance_of received sent ≤ inner_radius
      → layout.inner_reading received ≡ Some sent
  pub outer : (list : List (Option Sym)) (sent : List Sym) → length list ≡ layout.each * length layout.places → IsOuterWord sent
      → erased_cost same_symbols list sent ≤ checks → layout.outer_reading list ≡ Some sent
