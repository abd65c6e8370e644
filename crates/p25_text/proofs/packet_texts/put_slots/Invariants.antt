use Rattle.std.proofs.Common.{◌≡◌, ◌+◌, ◌*◌, ◌≤◌, ◌++◌, length, take}
use Rattle.p25_line.specs.CommaLists.{comma_text}
use Rattle.p25_text.specs.Packets.{slot_text}
use Rattle.p25_text.proofs.packet_texts.put_slots.Given as goal

abbrev pub invariant-loop-i : goal.invariant-loop-i
invariant-loop-i l = record { text : l.out ≡ l.initial.out ++ comma_text slot_text (take l.i l.slots); short : length l.out ≤ length l.initial.out + 36 * l.i }
