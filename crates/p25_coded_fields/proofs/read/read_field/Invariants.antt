use Rattle.std.proofs.Common.{◌≡◌, ◌*◌, ◌/◌, take}
use Rattle.std.specs.List.{flat_map}
use Rattle.p25_bits.specs.Bits.{part}
use Rattle.p25_code.specs.Erasures.{without_erased}
use Rattle.p25_coded_fields.specs.Layouts.{symbols_or_erasures}
use Rattle.p25_coded_fields.proofs.read.read_field.Given as goal

abbrev pub invariant-loop-i : goal.invariant-loop-i
invariant-loop-i g l =
    let b = g.I.BlockCode in
    without_erased (take (l.each * l.i) l.word) (take (l.each * l.i) l.erased) ≡ flat_map (λ at. symbols_or_erasures (b.K / 6) (b.reading_is (part at b.N l.bare))) (take l.i l.places)
