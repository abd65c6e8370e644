use Rattle.std.proofs.Common.{◌≡◌, ◌+◌, ◌++◌, length, take, drop}
use Rattle.p25_bits.specs.Bits.{part}
use Rattle.p25_decide.proofs.words.put_word.Given as goal

abbrev pub invariant-loop-i : goal.invariant-loop-i
invariant-loop-i l = record {
  front : take (l.at + l.i) l.bare ≡ take l.at l.initial.bare ++ part l.from l.i l.words;
  rest : drop (l.at + l.size) l.bare ≡ drop (l.at + l.size) l.initial.bare;
  len : length l.bare ≡ length l.initial.bare;
}
