-- Matrices by their entries, and the solutions of linear systems.
use Rattle.std.specs.Prelude.{◌≡◌, ℕ, ◌<◌, List}
use Rattle.p25_gf64.specs.{declared.symbol.Sym.{Sym}, Gf64.{gf64}}
use Rattle.p25_algebra.specs.{Sums.{dot}, Series.{coefficient}}
use Rattle.p25_poly.specs.{declared.matrix.Matrix.{Matrix}, declared.row.Row.{Row}, LinearSystem.{row_of}}

-- the number of rows
abbrev pub row_count : Matrix → ℕ
row_count m = m.rows

-- the number of columns
abbrev pub column_count : Matrix → ℕ
column_count m = m.columns

-- the entry of a row and a column
abbrev pub entry : Matrix → ℕ → ℕ → Sym
entry m r = coefficient gf64 (row_of m.lines r).cells

-- for each row, the sum over the columns of entry times unknown is the right side
pub record IsSolution (m : Matrix) (right x : ℕ → Sym) : Type 0 where
  pub each : (r : ℕ) → r < row_count m → dot gf64 (column_count m) (entry m r) x ≡ right r

-- the rows have the matrix's entries and these right sides
pub record IsSystem (m : Matrix) (right : ℕ → Sym) (rows : List Row) : Type 0 where
  pub cells : (r : ℕ) → (row_of rows r).cells ≡ (row_of m.lines r).cells
  pub rights : (r : ℕ) → r < row_count m → (row_of rows r).right ≡ right r
