use Rattle.std.proofs.Common.{◌≡◌, List, true}
use Rattle.p25_stations.specs.{declared.step.Event.{Event}, WorldState.{first_world}, Steps.{world_step}, Runs.{AreEvents, world_run, IsWithin}}
use Rattle.p25_stations.proofs.{SoundLaws.{first-sound, run-sound}, FalsePassLaws.{step-within, step-twice}}
use Rattle.p25_stations.proofs.laws.damage_within_radius.Goals as goal

pub returns : goal.returns
returns c = record {
  within = λ (events : List Event) (event : Event) (are : AreEvents events) (within : IsWithin (world_run first_world events) event).
      step-within c.packet_radius.ensures.sent (world_run first_world events) event (run-sound events first_world are first-sound) within;
  twice = λ (events : List Event) (event : Event) (are : AreEvents events) (e : (world_step (world_run first_world events) event).1.false_pass ≡ true).
      step-twice c.packet_radius.ensures.sent (world_run first_world events) event (run-sound events first_world are first-sound) e;
}
