use Rattle.std.proofs.Common.{◌≡◌, ℕ, ◌/◌, ◌^◌, ◌<◌, ◌≤◌, All, get_or, length}
use Rattle.p25_coded_fields.specs.Decided.{inner_words, least_at, second_at}
use Rattle.p25_coded_fields.proofs.decide.weigh.Given as goal

abbrev pub invariant-loop-i : goal.invariant-loop-i
invariant-loop-i g l =
    let b = g.I.BlockCode in
    let words = inner_words (length l.infos) b.N (b.K / 6) b.encoding_is in
    record {
      leasts : (j : ℕ) → j < l.i → get_or l.leasts j 0 ≡ least_at words l.costs j;
      seconds : (j : ℕ) → j < l.i → get_or l.seconds j 0 ≡ second_at words l.costs j;
      low_leasts : (j : ℕ) → j < l.i → get_or l.leasts j 0 ≤ 2 ^ 20;
      low_seconds : (j : ℕ) → j < l.i → get_or l.seconds j 0 ≤ 2 ^ 20;
    }
