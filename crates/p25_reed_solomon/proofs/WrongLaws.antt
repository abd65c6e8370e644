-- The errors between a received word and a codeword.
use Rattle.std.proofs.Common.{◌≡◌, ℕ, ◌+◌, ◌-◌, ◌*◌, ◌<◌, ◌≤◌, List, length, ap, arith}
use Rattle.p25_bits.specs.Distance.{distance_by}
use Rattle.p25_gf64.specs.{declared.symbol.Sym.{Sym}, Gf64.{gf64}}
use Rattle.p25_gf64.proofs.FieldLaws.{add_zero}
use Rattle.p25_algebra.specs.{Sums.{nonzeros}, Series.{coefficient}}
use Rattle.p25_reed_solomon.specs.{Words.{IsCode, IsWord, value_of, same_symbols}, DistanceLaws.{distance-nonzeros}, ValueLaws.{value-power_sum, front_value-add}, Errors.{AreErrors}}

-- the errors between a received word and a codeword within the correction radius
pub difference_errors : (n k : ℕ) (received word syndromes : List Sym)
    → IsCode n k → length received ≡ n → IsWord n k word → ((r : ℕ) → r < n - k → coefficient gf64 syndromes r ≡ value_of n received (r + 1))
    → 2 * distance_by same_symbols received word ≤ n - k
    → AreErrors n (n - k) syndromes (λ j. gf64.add (coefficient gf64 received j) (coefficient gf64 word j))
difference_errors n k received word syndromes code long of_code are near =
    let errors : ℕ → Sym = λ j. gf64.add (coefficient gf64 received j) (coefficient gf64 word j) in
    record {
      few = omega (arith, near, distance-nonzeros, ap (λ m. nonzeros gf64 m errors) long);
      sums = λ r below.
          cc (value-power_sum n errors _, front_value-add n (coefficient gf64 received) (coefficient gf64 word) _, of_code.vanishes (r + 1) (omega arith) (omega arith), add_zero gf64 (value_of n received (r + 1)), are r below);
    }
