use Rattle.std.proofs.Common.{◌≡◌, ◌*◌, length, take}
use Rattle.p25_soft.specs.Levels.{hard_bits}
use Rattle.p25_soft.proofs.level.hard_bits_of.Given as goal

abbrev pub invariant-loop-level : goal.invariant-loop-level
invariant-loop-level l = record { so_far : l.bits ≡ hard_bits (take l.level-index l.levels); len : length l.bits ≡ 2 * l.level-index }
