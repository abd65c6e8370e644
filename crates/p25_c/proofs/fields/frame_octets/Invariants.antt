use Rattle.std.proofs.Common.{◌≡◌, length, take}
use Rattle.p25_c.specs.Fields.{frame_octets}
use Rattle.p25_c.proofs.fields.frame_octets.Given as goal

-- so many are the octets of the frames
abbrev pub invariant-loop-i : goal.invariant-loop-i
invariant-loop-i l = record { so_far : take l.i l.octets ≡ frame_octets (take l.i l.frames); len : length l.octets ≡ 9 }
