-- The bit errors of a word, as a number of as many bits as the word has: its first bit is the highest.
use Rattle.std.specs.{Prelude.{◌≡◌, ℕ, ◌/◌, ◌^◌, ◌<◌, ◌≤◌, List, length}, Int.RustNames.{count_ones}}
use Rattle.p25_bits.specs.Bits.{bits_of}
use Rattle.p25_code.specs.Binary.{syndrome_of}

-- the sum over GF(2) of the columns at whose positions the bits of a number are 1
unfoldable pub number_sum : List ℕ → ℕ → ℕ
number_sum columns number = syndrome_of columns (bits_of (length columns) number)

-- at most a given number of bit errors, whose columns have the sum
pub record AreWrong (columns : List ℕ) (radius sum wrong : ℕ) : Type 0 where
  pub fits : wrong < 2 ^ length columns
  pub sums : number_sum columns wrong ≡ sum
  pub within : count_ones wrong ≤ radius

-- all bit errors with the sum are more than that number
pub record NoneWrong (columns : List ℕ) (radius sum : ℕ) : Type 0 where
  pub farther : (wrong : ℕ) → wrong < 2 ^ length columns → number_sum columns wrong ≡ sum → radius < count_ones wrong

-- all bit errors with the sum, at most one of them before the last `checks` bits, are more than that number
pub record NoneByRows (columns : List ℕ) (checks radius sum : ℕ) : Type 0 where
  pub farther : (wrong : ℕ) → wrong < 2 ^ length columns → count_ones (wrong / 2 ^ checks) ≤ 1 → number_sum columns wrong ≡ sum → radius < count_ones wrong

-- the sums of each list of rows by the other are single bits: each inverts the other
pub record AreInverse (rows turned : List ℕ) : Type 0 where
  pub long : length turned ≡ length rows
  pub first : (number : ℕ) → number < 2 ^ length rows → number_sum turned (number_sum rows number) ≡ number
  pub second : (number : ℕ) → number < 2 ^ length rows → number_sum rows (number_sum turned number) ≡ number
