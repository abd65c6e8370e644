use Rattle.std.proofs.Common.{◌≡◌, map, take}
use Rattle.p25_c.specs.Marks.{is_marked}
use Rattle.p25_c.proofs.marks.set_erased.Given as goal

-- so many marks are looked at
abbrev pub invariant-loop-i : goal.invariant-loop-i
invariant-loop-i l = take l.i l.erased ≡ map is_marked (take l.i l.marks)
