use Rattle.std.proofs.Common.{◌≡◌, ◌+◌, ◌*◌, ◌/◌, ◌++◌, length}
use Rattle.p25_coded_fields.specs.Layouts.{field_bits}
use Rattle.p25_coded_fields.proofs.put.put_coded.Given as goal

abbrev pub invariant-loop-i : goal.invariant-loop-i
invariant-loop-i g l =
    let b = g.I.BlockCode in
    record { list : l.out ≡ l.fn.out ++ field_bits b.encoding_is (b.K / 6) l.i l.symbols; len : length l.out ≡ length l.fn.out + b.N * l.i }
