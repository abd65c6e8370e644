use Rattle.std.proofs.{Common.{◌≡◌, List, length, replicate, ap, sym, ◌∙◌, inl, inr}, lemmas.Bool.{cases_lt}}
use Rattle.p25_gf64.specs.{declared.symbol.Sym.{Sym}, Gf64.{gf64}}
use Rattle.p25_algebra.specs.Series.{coefficient}
use Rattle.p25_poly.proofs.CoefficientLaws.{coefficient_blank, coefficient_past, front_replaced, rest_kept}
use Rattle.p25_poly.proofs.polynomial.Poly.from_symbols.Goals as goal

pub returns : goal.returns
returns c =
    let self = c.copy_from_slice.new.self in
    λ i.
    let z = c.default-coefficients.result in
    let n = length c.args.low_first.now in
    let long : length self ≡ n = ap length c.copy_from_slice.ensures.after in
    elim (cases_lt i n) [
      | inl below ↦ front_replaced gf64 self (replicate 64 z) n i long below ∙ ap (λ (s : List Sym). coefficient gf64 s i) c.copy_from_slice.ensures.after
      | inr from ↦
          rest_kept gf64 self (replicate 64 z) n i long from
          ∙ coefficient_blank gf64 z 64 i c.default-coefficients.ensures
          ∙ sym (coefficient_past gf64 c.args.low_first.now i from)
    ]
