-- Rows of a linear system: clearing a column, correcting an unknown, and the steps of elimination. With the pivot row, cleared rows have the
-- solutions of the rows; the unknown of the cleared column is free in them, and the pivot row corrects it.
use Rattle.std.proofs.{Common.{◌≡◌, ◌≢◌, ℕ, zero, suc, ◌+◌, ◌<◌, List, length, drop, Bool, false, ◌==◌, sym, ap, ap₂, ◌∙◌, arith}, lemmas.Bool.{eqb-false}, lemmas.List.{get_or-drop, length-drop}}
use Rattle.p25_gf64.specs.{declared.symbol.Sym.{Sym}, Gf64.{gf64}}
use Rattle.p25_gf64.proofs.FieldLaws.{add_self, add_comm, add_twice, mul_comm, mul_assoc, mul_inverse, mul_one}
use Rattle.p25_algebra.specs.{Sums.{dot}, Series.{coefficient}}
use Rattle.p25_poly.specs.{declared.row.Row.{Row}, LinearSystem.{IsMet, blank_row, row_of, AreMet, IsCleared, AreCleared, AgreeBut}}
use Rattle.p25_poly.proofs.DotLaws.{dot_of_zeros, dot_same, dot_multiple, dot_elsewhere, dot_gained, short_made_up}

-- a row that has gained the multiple of the pivot row which takes its cell in the column
pub cleared_row : (column : ℕ) (front old new : Row) (factor : Sym) → coefficient gf64 front.cells column ≢ gf64.zero
    → factor ≡ gf64.mul (coefficient gf64 old.cells column) (gf64.inverse (coefficient gf64 front.cells column))
    → ((k : ℕ) → coefficient gf64 new.cells k ≡ gf64.add (coefficient gf64 old.cells k) (gf64.mul factor (coefficient gf64 front.cells k)))
    → new.right ≡ gf64.add old.right (gf64.mul factor front.right) → IsCleared column front old new
cleared_row column front old new factor live is_factor cells right = record {
  gone =
      cells column
      ∙ ap (gf64.add (coefficient gf64 old.cells column)) taken
      ∙ add_self gf64 (coefficient gf64 old.cells column);
  forth = λ n x first met. sum n x ∙ ap₂ (λ a b. gf64.add a (gf64.mul factor b)) met first ∙ sym right;
  back = λ n x first met.
      sym (back_again (dot gf64 n (coefficient gf64 old.cells) x) (gf64.mul factor (dot gf64 n (coefficient gf64 front.cells) x)))
      ∙ ap₂ gf64.add (sym (sum n x) ∙ met ∙ right) (ap (gf64.mul factor) first)
      ∙ back_again old.right (gf64.mul factor front.right);
}
  where
    taken : gf64.mul factor (coefficient gf64 front.cells column) ≡ coefficient gf64 old.cells column
    taken =
        ap (λ w. gf64.mul w (coefficient gf64 front.cells column)) is_factor
        ∙ mul_assoc gf64 (coefficient gf64 old.cells column) (gf64.inverse (coefficient gf64 front.cells column)) (coefficient gf64 front.cells column)
        ∙ ap (gf64.mul (coefficient gf64 old.cells column)) (mul_comm gf64 (gf64.inverse (coefficient gf64 front.cells column))
        (coefficient gf64 front.cells column) ∙ mul_inverse gf64 (coefficient gf64 front.cells column) live)
        ∙ mul_one gf64 (coefficient gf64 old.cells column)

    sum : (n : ℕ) (x : ℕ → Sym) → dot gf64 n (coefficient gf64 new.cells) x ≡ gf64.add (dot gf64 n (coefficient gf64 old.cells) x) (gf64.mul factor (dot gf64 n (coefficient gf64 front.cells) x))
    sum n x =
        dot_same gf64 n (coefficient gf64 new.cells) (λ k. gf64.add (coefficient gf64 old.cells k) (gf64.mul factor (coefficient gf64 front.cells k))) x (λ k h. cells k)
        ∙ dot_multiple gf64 n (coefficient gf64 old.cells) (coefficient gf64 front.cells) x factor

    back_again : (a b : Sym) → gf64.add (gf64.add a b) b ≡ a
    back_again a b = add_comm gf64 (gf64.add a b) b ∙ ap (gf64.add b) (add_comm gf64 a b) ∙ add_twice gf64 b a

-- the unknown that is corrected makes the row's sum right
pub corrected_row : (n column : ℕ) (row : Row) (x y : ℕ → Sym) → column < n → coefficient gf64 row.cells column ≢ gf64.zero
    → y column ≡ gf64.add (x column) (gf64.mul (gf64.add row.right (dot gf64 n (coefficient gf64 row.cells) x))
    (gf64.inverse (coefficient gf64 row.cells column))) → AgreeBut column x y → IsMet n row y
corrected_row n column row x y inside live gain others =
    rw short_made_up at (dot_gained gf64 n (coefficient gf64 row.cells) x y column _ inside gain others.same)

-- ---- systems

-- a system's equations are the first row's and the others'
pub met_with_front : (n : ℕ) (system : List Row) (x : ℕ → Sym) → IsMet n (row_of system 0) x → AreMet n (drop 1 system) x → AreMet n system x
met_with_front n system x first rest = record { each = each }
  where
    each : (r : ℕ) → r < length system → IsMet n (row_of system r) x
    each zero h = first
    each (suc r) h = rw (← later system r) (rest.each r (omega (arith, length-drop 1 system)))
      where
        later : (system : List Row) (r : ℕ) → row_of (drop 1 system) r ≡ row_of system (suc r)
        later system r = get_or-drop 1 system r blank_row ∙ ap (row_of system) after
          where
            after : 1 + r ≡ suc r
            after = omega arith

pub met_rest : (n : ℕ) (system : List Row) (x : ℕ → Sym) → AreMet n system x → AreMet n (drop 1 system) x
met_rest n system x met = record { each = λ r h. rw get_or-drop (met.each _ (omega (arith, length-drop 1 system))) }

-- a row of zeros holds exactly if its right side is zero
pub blank_met : (n : ℕ) (row : Row) (x : ℕ → Sym) → ((k : ℕ) → k < n → coefficient gf64 row.cells k ≡ gf64.zero) → row.right ≡ gf64.zero → IsMet n row x
blank_met n row x none right = simp (dot_of_zeros, right)

pub blank_right : (n : ℕ) (row : Row) (x : ℕ → Sym) → ((k : ℕ) → k < n → coefficient gf64 row.cells k ≡ gf64.zero) → IsMet n row x → row.right ≡ gf64.zero
blank_right n row x none met = rw (← met, dot_of_zeros)

-- cleared rows have, with the pivot row, the solutions of the rows
pub cleared_forth : (n column : ℕ) (front : Row) (old new : List Row) (x : ℕ → Sym) → AreCleared column front old new → IsMet n front x → AreMet n old x → AreMet n new x
cleared_forth n column front old new x cleared first met =
    record { each = λ r h. (cleared.each r (omega arith)).forth n x first (met.each r (omega arith)) }

pub cleared_back : (n column : ℕ) (front : Row) (old new : List Row) (x : ℕ → Sym) → AreCleared column front old new → IsMet n front x → AreMet n new x → AreMet n old x
cleared_back n column front old new x cleared first met =
    record { each = λ r h. (cleared.each r h).back n x first (met.each r (omega arith)) }

-- the unknown of the cleared column is free in the cleared rows
pub cleared_elsewhere : (n column : ℕ) (front : Row) (old new : List Row) (x y : ℕ → Sym) → AreCleared column front old new → AgreeBut column x y → AreMet n new x → AreMet n new y
cleared_elsewhere n column front old new x y cleared agree met = record {
  each = λ r h.
      dot_elsewhere gf64 n (coefficient gf64 (row_of new r).cells) x y column (cleared.each r (omega (arith, cleared.as_many))).gone agree.same
      ∙ met.each r h;
}

-- ---- the steps of elimination, for rows and the rows that are left

module _ (n column : ℕ) (system cleared : List Row) (front : Row)
    (inside : column < n) (some : 0 < length system) (is_front : front ≡ row_of system 0) (clears : AreCleared column front (drop 1 system) cleared) where
  -- a solution of the cleared rows, corrected by the pivot row, solves all
  pub corrected_solution : (x y : ℕ → Sym) → AgreeBut column x y → IsMet n front y → AreMet n cleared x → AreMet n system y
  corrected_solution x y agree first met =
      met_with_front n system y (rw (← is_front) first)
      (cleared_back n column front _ cleared y clears first (cleared_elsewhere n column front _ cleared x y clears agree met))

  -- a solution of all rows solves the cleared rows
  pub solution_cleared : (x : ℕ → Sym) → AreMet n system x → AreMet n cleared x
  solution_cleared x met =
      cleared_forth n column front _ cleared x clears (rw is_front (met.each 0 some)) (met_rest n system x met)

-- rows that are not found empty
pub not_empty : (rows : List Row) (empty : Bool) → empty ≡ (length rows == 0) → empty ≡ false → 0 < length rows
not_empty rows empty test none = let apart = eqb-false (length rows) 0 (sym test ∙ none) in omega arith
