-- Symbols of six bits, the first bit the highest of the symbol's number.
use Rattle.std.specs.{Prelude.{ℕ, zero, suc, ◌<◌, Bool, List, [], ◌∷◌, take, drop}, List.{flat_map}}
use Rattle.p25_bits.specs.Bits.{bits_of, field_of}
use Rattle.p25_bits.proofs.NumbersLaws.{field-lt}
use Rattle.p25_gf64.specs.{declared.symbol.Sym.{Sym}, Symbol.{number, symbol_of}}

-- six bits write a number below 64
pub six-lt : (bits : List Bool) → field_of (take 6 bits) < 64
six-lt bits = field-lt 6 0 bits

-- the symbol that the first six bits write
unfoldable pub symbol_in : List Bool → Sym
symbol_in bits = symbol_of (field_of (take 6 bits)) (six-lt bits)

-- the symbols that bits write, a given number of them
unfoldable pub symbols_in : ℕ → List Bool → List Sym
symbols_in zero bits = []
symbols_in (suc n) bits = symbol_in bits ∷ symbols_in n (drop 6 bits)

-- the bits of symbols, six each
unfoldable pub symbol_bits : List Sym → List Bool
symbol_bits symbols = flat_map (λ symbol. bits_of 6 (number symbol)) symbols
