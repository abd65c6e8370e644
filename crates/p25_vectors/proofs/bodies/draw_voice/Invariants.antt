use Rattle.std.proofs.Common.{◌≡◌, ◌*◌, length, take}
use Rattle.p25_vectors.specs.{Bodies.{voice_drawn}, Draws.{state_after}}
use Rattle.p25_vectors.proofs.bodies.draw_voice.Given as goal

abbrev pub invariant-loop-i : goal.invariant-loop-i
invariant-loop-i l = record {
  frames : take l.i l.frames ≡ voice_drawn l.i l.initial.draws;
  len : length l.frames ≡ 9;
  state : l.draws ≡ state_after (18 * l.i) l.initial.draws;
}
