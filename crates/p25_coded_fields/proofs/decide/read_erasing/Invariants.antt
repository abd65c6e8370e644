use Rattle.std.proofs.Common.{◌≡◌, None, length, slice_index}
use Rattle.p25_coded_fields.specs.Decided.{first_found, read_marking}
use Rattle.p25_coded_fields.proofs.decide.read_erasing.Given as goal

abbrev pub invariant-loop-pairs : goal.invariant-loop-pairs
invariant-loop-pairs g l = record {
  same : l.word ≡ l.fn.word;
  long : length l.erased ≡ g.O.BlockCode.N;
  none : first_found l.pairs (read_marking g.O.ErasedCode.erased_reading_is l.fn.word l.each (length l.ranks) (slice_index l.ranks)) ≡ None;
}
