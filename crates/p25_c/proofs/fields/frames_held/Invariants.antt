use Rattle.std.proofs.Common.{◌≡◌, length, take}
use Rattle.p25_c.specs.Fields.{frames_held}
use Rattle.p25_c.proofs.fields.frames_held.Given as goal

-- so many are the frames of the octets
abbrev pub invariant-loop-i : goal.invariant-loop-i
invariant-loop-i l = record { so_far : take l.i l.frames ≡ frames_held (take l.i l.octets); len : length l.frames ≡ 9 }
