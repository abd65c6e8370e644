use Rattle.std.proofs.Common.{◌≡◌, map, take}
use Rattle.p25_gf64.specs.Symbol.{number}
use Rattle.p25_c.proofs.word_calls.symbols.put_numbers.Given as goal

-- the first `i` octets are those of the symbols
abbrev pub invariant-loop-i : goal.invariant-loop-i
invariant-loop-i l = take l.i l.octets ≡ map number (take l.i l.symbols)
