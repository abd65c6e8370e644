use Rattle.std.proofs.Common.{◌≡◌, length}
use Rattle.p25_vectors.specs.Draws.{octets_drawn, state_after}
use Rattle.p25_vectors.proofs.bodies.draw_octets.Given as goal

abbrev pub invariant-loop-drawn : goal.invariant-loop-drawn
invariant-loop-drawn l = record {
  octets : l.octets ≡ octets_drawn l._drawn l.initial.draws;
  len : length l.octets ≡ l._drawn;
  state : l.draws ≡ state_after l._drawn l.initial.draws;
}
