-- The number of bits in which a received field differs from the transmitted one.
use Rattle.std.specs.{Prelude.{ℕ, Bool, List, length}, List.{flat_map}}
use Rattle.p25_bits.specs.{Bits.{part}, Distance.{distance_of}}
use Rattle.p25_gf64.specs.declared.symbol.Sym.{Sym}
use Rattle.p25_coded_fields.specs.Layouts.{field_bits}

-- the received inner words of a field, one after the other
unfoldable pub inner_bits : ℕ → List ℕ → List Bool → List Bool
inner_bits size places bits = flat_map (λ at. part at size bits) places

-- the number of bits in which the received inner words of a field differ from those transmitted for the symbols of an outer codeword
unfoldable pub field_fixes_of : (List Bool → List Bool) → ℕ → ℕ → List ℕ → List Sym → List Bool → ℕ
field_fixes_of encoding size each places symbols bits = distance_of (inner_bits size places bits) (field_bits encoding each (length places) symbols)
