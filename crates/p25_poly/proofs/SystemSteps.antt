-- Solutions of a matrix's system and of its rows.
use Rattle.std.proofs.{Common.{◌≡◌, ℕ, ◌<◌, List, length, take, sym, ap, ◌∙◌, arith}, lemmas.List.{get_or-take, length-take}}
use Rattle.p25_gf64.specs.{declared.symbol.Sym.{Sym}, Gf64.{gf64}}
use Rattle.p25_algebra.specs.{Sums.{dot}, Series.{coefficient}}
use Rattle.p25_poly.specs.{declared.matrix.Matrix.{Matrix}, declared.row.Row.{Row}, LinearSystem.{IsMet, AreMet, row_of}, Matrix.{row_count, column_count, IsSolution, IsSystem}}

-- a solution of the system meets its rows
pub solution_met : (m : Matrix) (right : ℕ → Sym) (rows : List Row) (n : ℕ) (x : ℕ → Sym) → IsSystem m right rows → n ≡ column_count m → IsSolution m right x → AreMet n (take (row_count m) rows) x
solution_met m right rows n x system as_many solution = record { each = each }
  where
    met : (r : ℕ) → r < row_count m → IsMet n (row_of rows r) x
    met r low =
        ap (λ k. dot gf64 k (coefficient gf64 (row_of rows r).cells) x) as_many
        ∙ ap (λ cells. dot gf64 (column_count m) (coefficient gf64 cells) x) (system.cells r)
        ∙ solution.each r low
        ∙ sym (system.rights r low)

    each : (r : ℕ) → r < length (take (row_count m) rows) → IsMet n (row_of (take (row_count m) rows) r) x
    each r h =
        let low : r < row_count m = omega (arith, length-take (row_count m) rows) in
        rw get_or-take (met r low)
