use Rattle.std.proofs.Common.{◌≡◌, length}
use Rattle.p25_text.specs.Packets.{slot_in}
use Rattle.p25_line.proofs.CommaReadLaws.{EntriesSoFar}
use Rattle.p25_text.proofs.packets.slots_value.Given as goal

abbrev pub invariant-loop-part : goal.invariant-loop-part
invariant-loop-part l = record { so_far : EntriesSoFar slot_in l.word l.start l.slots; len : length l.slots ≡ l._part }
