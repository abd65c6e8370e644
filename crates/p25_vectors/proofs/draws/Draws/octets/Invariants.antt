use Rattle.std.proofs.Common.{◌≡◌, length, take}
use Rattle.p25_vectors.specs.Draws.{octets_drawn, state_after}
use Rattle.p25_vectors.proofs.draws.Draws.octets.Given as goal

abbrev pub invariant-loop-i : goal.invariant-loop-i
invariant-loop-i g l = record {
  octets : take l.i l.octets ≡ octets_drawn l.i l.initial.self;
  len : length l.octets ≡ length l.initial.octets;
  state : l.self ≡ state_after l.i l.initial.self;
}
