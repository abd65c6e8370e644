-- Tables of the sums of all choices of rows: if a table holds them in the order of numbers, the entry of a number is its sum.
use Rattle.std.proofs.Common.{◌≡◌, ℕ, ◌^◌, ◌<◌, List, length, get_or}
use Rattle.p25_bits.specs.Numbers.{each_below}
use Rattle.p25_bits.proofs.NumbersLaws.{get_or-each_below}
use Rattle.p25_code.specs.WrongBits.{number_sum}

-- the sums of all choices of rows
abbrev pub sums_of : List ℕ → List ℕ
sums_of rows = each_below (2 ^ length rows) (number_sum rows)

pub entry-is : (rows table : List ℕ) → table ≡ sums_of rows → (number : ℕ) → number < 2 ^ length rows → get_or table number 0 ≡ number_sum rows number
entry-is rows table same number small =
    rw same (get_or-each_below (2 ^ length rows) (number_sum rows) number 0 small)
