use Rattle.std.proofs.Common.{◌≡◌, ◌*◌, ◌≤◌, map, take}
use Rattle.std.specs.{Prelude.{count_by}, List.{flat_map}}
use Rattle.p25_c.specs.Packets.{is_bad, slot_good, slot_octets, slot_serial}
use Rattle.p25_c.proofs.packets.put_slots.Given as goal

-- the clauses hold of the slots before the index
abbrev pub invariant-loop-i : goal.invariant-loop-i
invariant-loop-i l =
    let some = take l.i l.slots in
    record {
      bad : l.bad ≡ count_by is_bad some;
      few : l.bad ≤ l.i;
      good : take l.i l.good ≡ map slot_good some;
      serials : take l.i l.serials ≡ map slot_serial some;
      octets : take (16 * l.i) l.octets ≡ flat_map slot_octets some;
    }
