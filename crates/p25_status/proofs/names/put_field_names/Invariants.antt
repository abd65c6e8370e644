use Rattle.std.proofs.Common.{◌≡◌, ◌+◌, ◌*◌, ◌≤◌, ◌++◌, length, take}
use Rattle.p25_status.specs.FieldNames.{field_names}
use Rattle.p25_status.proofs.names.put_field_names.Given as goal

abbrev pub invariant-loop-i : goal.invariant-loop-i
invariant-loop-i l = record { text : l.out ≡ l.initial.out ++ field_names (take l.i l.fields); short : length l.out ≤ length l.initial.out + 16 * l.i }
