use Rattle.std.proofs.{Common.{◌≡◌, ℕ, ◌≤◌, [], ◌∷◌, ◌∙◌, sym, arith}, lemmas.Bool.{eqb-true}}
use Rattle.p25_gf64.specs.{declared.symbol.Sym.{Sym}, Gf64.{gf64}}
use Rattle.p25_gf64.proofs.SymbolLaws.{one_made}
use Rattle.p25_algebra.specs.Series.{coefficient}
use Rattle.p25_poly.proofs.CoefficientLaws.{coefficient_past}
use Rattle.p25_reed_solomon.proofs.LocatorLaws.{key_of_none}
use Rattle.p25_reed_solomon.proofs.locator.key_of.Goals as goal

-- a list of one symbol has no second coefficient
past_one : (x one : Sym) (k : ℕ) → 1 ≤ k → x ≡ coefficient gf64 (one ∷ []) k → x ≡ gf64.zero
past_one x one k high e = e ∙ coefficient_past gf64 (one ∷ []) k (omega arith)

pub returns-then-is_empty : goal.returns-then-is_empty
returns-then-is_empty c =
    key_of_none c.args.symbols.now c.from_symbols.result c.zero.result (eqb-true _ 0 (sym c.is_empty.ensures ∙ c.if-is_empty.true)) (c.from_symbols.ensures 0 ∙ one_made _)
    (λ k high. past_one _ _ k high (c.from_symbols.ensures k)) c.zero.ensures
