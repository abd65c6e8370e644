-- The codeword of an information: the information, and then the remainder of its polynomial by the generator. The symbol at j is the coefficient of
-- the j-th power of 1/x.
use Rattle.std.specs.Prelude.{ℕ, zero, suc, ◌-◌, ◌==◌, List, if◌then◌else◌}
use Rattle.p25_bits.specs.Numbers.{each_below}
use Rattle.p25_gf64.specs.{declared.symbol.Sym.{Sym}, Field.{power}, Symbol.{alpha}, Gf64.{gf64}}
use Rattle.p25_algebra.specs.Series.{coefficient, shifted, times_linear}

-- the coefficients of the generator: the product of 1 + α^i / x for each i from 1 to the number of check symbols
unfoldable pub generator_of : ℕ → ℕ → Sym
generator_of zero j = if j == 0 then gf64.one else gf64.zero
generator_of (suc checks) j = times_linear gf64 (power gf64 alpha (suc checks)) (generator_of checks) j

-- the coefficients after the first `count` became zero, one after the other, by multiples of the generator
unfoldable pub reduced : (ℕ → Sym) → ℕ → (ℕ → Sym) → ℕ → Sym
reduced generator zero f j = f j
reduced generator (suc count) f j =
    gf64.add (reduced generator count f j) (gf64.mul (reduced generator count f count) (shifted gf64 count generator j))

-- the codeword of n symbols of an information of k symbols
unfoldable pub rs_word : ℕ → ℕ → List Sym → List Sym
rs_word n k info = each_below n (λ j. gf64.add (coefficient gf64 info j) (reduced (generator_of (n - k)) k (coefficient gf64 info) j))
