use Rattle.std.proofs.Common.{◌≡◌, ℕ, ◌/◌, ◌^◌, ◌<◌, get_or, length}
use Rattle.p25_coded_fields.specs.Decided.{information_at, inner_words}
use Rattle.p25_coded_fields.proofs.decide.read_words.Given as goal

abbrev pub invariant-loop-i : goal.invariant-loop-i
invariant-loop-i g l =
    let b = g.I.BlockCode in
    record {
      each : (j : ℕ) → j < l.i → get_or l.infos j 0 ≡ information_at (inner_words (length l.fn.infos) b.N (b.K / 6) b.encoding_is) l.costs j;
      low : (j : ℕ) → j < l.i → get_or l.infos j 0 < 2 ^ b.K;
    }
