use Rattle.std.proofs.{Common.{◌≡◌, ℕ, List, length, take, drop, ap, ◌∙◌, arith, length-drop}, lemmas.List.{get_or-drop, take_all}}
use Rattle.p25_gf64.specs.{declared.symbol.Sym.{Sym}, Gf64.{gf64}}
use Rattle.p25_algebra.specs.Series.{coefficient}
use Rattle.p25_poly.specs.Euclid.{behind}
use Rattle.p25_poly.proofs.key.key_of.Goals as goal

-- the last 32 symbols are those after the first 32
last_symbols : (symbols : List Sym) (k : ℕ) → length symbols ≡ 64 → coefficient gf64 (take 32 (drop 32 symbols)) k ≡ behind symbols k
last_symbols symbols k full =
    ap (λ (s : List Sym). coefficient gf64 s k) (take_all 32 (drop 32 symbols) (omega (arith, length-drop 32 symbols, full)))
    ∙ get_or-drop 32 symbols k gf64.zero

pub returns-clause-locator : goal.returns-clause-locator
returns-clause-locator c = λ k. c.from_symbols.ensures k ∙ last_symbols c.args.side.now.factor k c.args.side.now.full_factor

pub returns-clause-evaluator : goal.returns-clause-evaluator
returns-clause-evaluator c = λ k. c.from_symbols-2.ensures k ∙ last_symbols c.args.side.now.rest k c.args.side.now.full_rest
