use Rattle.std.proofs.Common.{◌≡◌, ℕ, ◌+◌, ◌*◌, ◌<◌, ◌≤◌}
use Rattle.p25_gf64.specs.declared.symbol.Sym.{Sym}
use Rattle.p25_poly.specs.Euclid.{IsPair}
use Rattle.p25_poly.proofs.key.lower.Given as goal

abbrev pub invariant-loop-back : goal.invariant-loop-back
invariant-loop-back l = record {
  pair : (series : ℕ → Sym) → IsPair l.count series l.fn.front l.fn.back → IsPair l.count series l.front l.back;
  first : l.front.degree + l.back.degree ≡ l.fn.front.degree + l.fn.back.degree → (l.back.degree ≤ l.front.degree) × (l.back.degree ≡ l.fn.back.degree);
  less : l.front.degree + l.back.degree ≤ l.fn.front.degree + l.fn.back.degree;
  front_most : l.front.degree ≤ l.fn.front.degree;
  back_most : l.back.degree ≤ l.fn.back.degree;
  half : 2 * l.back.degree < l.count → l.count ≤ 2 * l.front.degree;
}

abbrev pub decreases-loop-back : goal.decreases-loop-back
decreases-loop-back l = l.front.degree + l.back.degree
