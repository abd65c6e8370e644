use Rattle.std.proofs.Common.{◌≡◌, ◌++◌, ◌+◌, ◌*◌, length}
use Rattle.p25_bits.specs.Numbers.{joined_below}
use Rattle.p25_packet_blocks.specs.{declared.packet.Packet.TheVariants.{Confirmed}, Image.{body_block}, Sendable.{AreDataBlocks}}
use Rattle.p25_packet_blocks.proofs.image.put_confirmed.Given as goal

abbrev pub invariant-loop-j : goal.invariant-loop-j
invariant-loop-j l =
    record {
      list : l.out ≡ l.initial.out ++ joined_below l.j
          (body_block (Confirmed l.fn.packet));
      len : length l.out ≡ length l.initial.out + 196 * l.j;
      blocks : AreDataBlocks l.fn.packet.slots l.j;
    }
