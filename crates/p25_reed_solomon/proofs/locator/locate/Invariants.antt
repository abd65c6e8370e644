use Rattle.std.proofs.Common.{◌≡◌, ℕ, ◌+◌, ◌<◌, length}
use Rattle.p25_gf64.specs.Gf64.{gf64}
use Rattle.p25_algebra.specs.Series.{coefficient, product_at}
use Rattle.p25_reed_solomon.specs.Locator.{times_erasures}
use Rattle.p25_reed_solomon.proofs.locator.locate.Given as goal

abbrev pub invariant-loop-i : goal.invariant-loop-i
invariant-loop-i l =
    (k : ℕ) → k + l.i < l.half + l.erasures → coefficient gf64 l.evaluator k ≡ product_at gf64
    (coefficient gf64 l.locator) (λ r. times_erasures (length l.erased) l.erased (length l.erased) (coefficient gf64 l.syndromes) (l.i + r)) k
