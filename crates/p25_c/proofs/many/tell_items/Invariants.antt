use Rattle.std.proofs.Common.{◌≡◌, ◌+◌, ◌-◌, ◌*◌, ◌^◌, ◌≤◌, length, take, drop, map}
use Rattle.p25_bits.specs.Bits.{octet_bits}
use Rattle.p25_stream.specs.Items.{items_by}
use Rattle.p25_c.specs.Many.{numbers_of, put_first}
use Rattle.p25_c.proofs.many.tell_items.Given as goal

-- so many items are set, and the others are those of the bits from the position on
abbrev pub invariant-loop-i : goal.invariant-loop-i
invariant-loop-i l =
    let items = items_by l.ended l.from (drop (l.from - l.begin) (octet_bits l.octets)) in
    record {
      after : l.begin ≤ l.place;
      most : l.place ≤ 2 ^ 59 + 2 ^ 32 * l.i;
      some : l.i ≤ length items;
      left : drop l.i items ≡ items_by l.ended l.place (drop (l.place - l.begin) (octet_bits l.octets));
      told : l.items ≡ put_first (map numbers_of (take l.i items)) l.initial.items;
    }
