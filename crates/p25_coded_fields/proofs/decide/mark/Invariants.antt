use Rattle.std.proofs.Common.{◌≡◌, ℕ, ◌*◌, nat_lt, get_or, replicate, take}
use Rattle.p25_bits.specs.Numbers.{joined_below}
use Rattle.p25_coded_fields.proofs.decide.mark.Given as goal

abbrev pub invariant-loop-i : goal.invariant-loop-i
invariant-loop-i l = take (l.each * l.i) l.erased ≡ joined_below l.i (λ j. replicate l.each (nat_lt (l.each * get_or l.ranks j 0) l.symbols))
