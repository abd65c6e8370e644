use Rattle.std.proofs.Common.{◌≡◌, ◌*◌, length}
use Rattle.p25_vectors.specs.{Bodies.{slots_drawn}, Draws.{state_after}}
use Rattle.p25_vectors.proofs.bodies.draw_slots.Given as goal

abbrev pub invariant-loop-serial : goal.invariant-loop-serial
invariant-loop-serial l = record {
  slots : l.slots ≡ slots_drawn l.serial l.initial.draws;
  len : length l.slots ≡ l.serial;
  state : l.draws ≡ state_after (16 * l.serial) l.initial.draws;
}
