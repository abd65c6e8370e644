use Rattle.std.proofs.Common.{◌≡◌, map, take}
use Rattle.p25_gf64.specs.Symbol.{number}
use Rattle.p25_c.proofs.word_calls.symbols.name_symbols.Given as goal

-- the first `i` octets name the symbols
abbrev pub invariant-loop-i : goal.invariant-loop-i
invariant-loop-i l = map number (take l.i l.symbols) ≡ take l.i l.octets
