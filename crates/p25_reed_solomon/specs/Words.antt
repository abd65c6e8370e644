-- The Reed-Solomon codes over GF(64): the words that vanish at successive powers of α.
use Rattle.std.specs.Prelude.{◌≡◌, ℕ, Bool, ◌==◌, ◌-◌, ◌*◌, ◌/◌, ◌<◌, ◌≤◌, List, length}
use Rattle.p25_gf64.specs.{declared.symbol.Sym.{Sym}, Field.{power}, Symbol.{alpha, number}, Gf64.{gf64}}
use Rattle.p25_algebra.specs.{Sums.{sum_below}, Series.{coefficient}}

-- n and k are parameters of a code: there are enough positions for n symbols, some information, and an even number of check symbols, at most 22
pub record IsCode (n k : ℕ) : Type 0 where
  pub places : n ≤ 63
  pub some : 1 ≤ k
  pub shorter : k < n
  pub even : 2 * ((n - k) / 2) ≡ n - k
  pub few : n - k ≤ 22

-- the value of a word at α^i: the sum over j of symbol j times α^(i · (n - 1 - j)), because the first symbol is the highest coefficient
abbrev pub value_of : ℕ → List Sym → ℕ → Sym
value_of n word i = sum_below gf64 n (λ j. gf64.mul (coefficient gf64 word j) (power gf64 alpha (i * (n - 1 - j))))

-- the codewords of the Reed-Solomon code: n symbols whose polynomial vanishes at α^1 to α^(n - k)
pub record IsWord (n k : ℕ) (word : List Sym) : Type 0 where
  pub long : length word ≡ n
  pub vanishes : (i : ℕ) → 1 ≤ i → i ≤ n - k → value_of n word i ≡ gf64.zero

-- the correction radius: half the number of check symbols
abbrev pub radius_of : ℕ → ℕ → ℕ
radius_of n k = (n - k) / 2

-- whether two symbols are equal
abbrev pub same_symbols : Sym → Sym → Bool
same_symbols x y = number x == number y
