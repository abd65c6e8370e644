-- Systems of linear equations by their rows.
use Rattle.std.specs.Prelude.{◌≡◌, ◌≢◌, ℕ, ◌<◌, List, length, replicate, slice_index_or, refl}
use Rattle.p25_gf64.specs.{declared.symbol.Sym.{Sym}, Gf64.{gf64}}
use Rattle.p25_algebra.specs.{Sums.{dot}, Series.{coefficient}}
use Rattle.p25_poly.specs.declared.row.Row.{Row}

-- the equation of a row of n cells holds of the unknowns
abbrev pub IsMet : ℕ → Row → (ℕ → Sym) → Type 0
IsMet n row x = dot gf64 n (coefficient gf64 row.cells) x ≡ row.right

-- a row of zeros
abbrev pub blank_row : Row
blank_row = record { cells = replicate 24 gf64.zero; right = gf64.zero; full = refl }

-- a row of a list; zeros past the end
abbrev pub row_of : List Row → ℕ → Row
row_of rows r = slice_index_or rows r blank_row

-- the equation of each row holds of the unknowns
pub record AreMet (n : ℕ) (rows : List Row) (x : ℕ → Sym) : Type 0 where
  pub each : (r : ℕ) → r < length rows → IsMet n (row_of rows r) x

-- the new row has no cell in the column, and together with the pivot row it has the same solutions as the old row
pub record IsCleared (column : ℕ) (front old new : Row) : Type 0 where
  pub gone : coefficient gf64 new.cells column ≡ gf64.zero
  pub forth : (n : ℕ) (x : ℕ → Sym) → IsMet n front x → IsMet n old x → IsMet n new x
  pub back : (n : ℕ) (x : ℕ → Sym) → IsMet n front x → IsMet n new x → IsMet n old x

-- each row of a list is cleared so
pub record AreCleared (column : ℕ) (front : Row) (old new : List Row) : Type 0 where
  pub as_many : length new ≡ length old
  pub each : (r : ℕ) → r < length old → IsCleared column front (row_of old r) (row_of new r)

-- the unknowns are the same but for one
pub record AgreeBut (column : ℕ) (old new : ℕ → Sym) : Type 0 where
  pub same : (k : ℕ) → k ≢ column → new k ≡ old k
