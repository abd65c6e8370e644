-- Errors of a received word: the value added at each position. Positions may be erased: their symbols are unknown.
use Rattle.std.specs.Prelude.{◌≡◌, ℕ, zero, suc, ◌+◌, ◌-◌, ◌*◌, ◌<◌, ◌≤◌, Bool, false, List, length, slice_index, slice_index_or, ◌==◌, if◌then◌else◌}
use Rattle.p25_gf64.specs.{declared.symbol.Sym.{Sym}, Field.{power}, Symbol.{alpha}, Gf64.{gf64}}
use Rattle.p25_algebra.specs.{Sums.{sum_below, power_sum, nonzeros}, Series.{coefficient, value_at}}

-- the element of a position among n: α to the exponent of its coefficient
abbrev pub element_of : ℕ → ℕ → Sym
element_of n j = power gf64 alpha (n - 1 - j)

-- the point of a position: the inverse of its element
abbrev pub point_of : ℕ → ℕ → Sym
point_of n j = gf64.inverse (element_of n j)

-- whether a position is erased
abbrev pub is_erased : List Bool → ℕ → Bool
is_erased erased j = slice_index_or erased j false

-- the number of erased positions among 0 to n - 1
unfoldable pub erased_below : List Bool → ℕ → ℕ
erased_below erased zero = 0
erased_below erased (suc n) = erased_below erased n + (if is_erased erased n then 1 else 0)

-- the errors at positions that are not erased
abbrev pub kept_errors : List Bool → (ℕ → Sym) → ℕ → Sym
kept_errors erased errors j = if is_erased erased j then gf64.zero else errors j

-- these errors explain a number of syndromes: twice the positions with an error that are not erased, plus the erased positions, are at most that
-- number, and the power sums of the errors are the syndromes
pub record Explains (n checks : ℕ) (syndromes : List Sym) (erased : List Bool) (errors : ℕ → Sym) : Type 0 where
  pub few : 2 * nonzeros gf64 n (kept_errors erased errors) + erased_below erased n ≤ checks
  pub sums : (r : ℕ) → r < checks → power_sum gf64 n (element_of n) errors (r + 1) ≡ coefficient gf64 syndromes r

-- these errors, without an erasure, explain a number of syndromes: they are at most half as many
pub record AreErrors (n checks : ℕ) (syndromes : List Sym) (errors : ℕ → Sym) : Type 0 where
  pub few : 2 * nonzeros gf64 n errors ≤ checks
  pub sums : (r : ℕ) → r < checks → power_sum gf64 n (element_of n) errors (r + 1) ≡ coefficient gf64 syndromes r

-- a position among n is listed
pub record IsListed (places : List ℕ) (j : ℕ) : Type 0 where
  pub index : ℕ
  pub inside : index < length places
  pub there : slice_index places index ≡ j

-- the positions are those below `upto` at whose points a polynomial vanishes, in rising order
pub record AreZeros (n : ℕ) (polynomial : List Sym) (upto : ℕ) (places : List ℕ) : Type 0 where
  pub below : (c : ℕ) → c < length places → slice_index places c < upto
  pub rising : (c d : ℕ) → c < d → d < length places → slice_index places c < slice_index places d
  pub zeros : (c : ℕ) → c < length places → value_at gf64 (length polynomial) (coefficient gf64 polynomial) (point_of n (slice_index places c)) ≡ gf64.zero
  pub all : (j : ℕ) → j < upto → value_at gf64 (length polynomial) (coefficient gf64 polynomial) (point_of n j) ≡ gf64.zero → IsListed places j

-- the sum at position j, if each value is added at its position
abbrev pub placed : List ℕ → (ℕ → Sym) → ℕ → Sym
placed places values j = sum_below gf64 (length places) (λ c. if slice_index places c == j then values c else gf64.zero)
