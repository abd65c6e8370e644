use Rattle.std.proofs.Common.{◌≡◌, ℕ, ◌-◌, ◌*◌, ◌/◌, ◌%◌, ◌^◌, ◌<◌, length, get_or}
use Rattle.p25_trellis.proofs.groups.put_apart.Given as goal

abbrev pub invariant-loop-i : goal.invariant-loop-i
invariant-loop-i l = (k : ℕ) → k < l.i → get_or l.numbers k 0 ≡ l.whole / 2 ^ (l.width * (length l.numbers - 1 - k)) % 2 ^ l.width
