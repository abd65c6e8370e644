use Rattle.std.proofs.Common.{◌≡◌, ◌*◌, take}
use Rattle.p25_coded_fields.specs.Fixes.{field_fixes_of}
use Rattle.p25_coded_fields.proofs.fixes.field_fixes.Given as goal

abbrev pub invariant-loop-i : goal.invariant-loop-i
invariant-loop-i g l =
    let b = g.I.BlockCode in
    l.wrong ≡ field_fixes_of b.encoding_is b.N l.each (take l.i l.places) (take (l.each * l.i) l.word) l.bare
