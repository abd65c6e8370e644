use Rattle.std.proofs.Common.{◌≡◌, ◌+◌, ◌*◌, ◌++◌, length, take}
use Rattle.hex.specs.Hex.{encode_lower}
use Rattle.p25_text.specs.Voices.{frame_octets}
use Rattle.p25_text.proofs.voices.put_frames.Given as goal

abbrev pub invariant-loop-frame : goal.invariant-loop-frame
invariant-loop-frame l = record {
  text : l.out ≡ l.initial.out ++ encode_lower (frame_octets (take l.frame-index l.frames));
  len : length l.out ≡ length l.initial.out + 36 * l.frame-index;
}
