use Rattle.std.proofs.{Common.{◌≡◌, ◌+◌, ◌%◌, set, arith, length-set}, lemmas.List.{set_comm, drop-set}}
use Rattle.p25_line.proofs.PairLaws.{pairs_at}
use Rattle.p25_line.proofs.decimal.write_pair.Goals as goal

pub returns : goal.returns
returns c =
    let p = pairs_at c.args.pair c.requires.below in
    let at = c.args.at in
    let room = c.args.room.now in
    let e : at + 1 + 1 ≡ at + 2 = omega arith in
    rw (
      p.0,
      p.1,
      set_comm room at (at + 1) _ _ (λ x. omega arith),
      drop-set (set room (at + 1) (48 + c.args.pair % 10)) at _
          (omega (arith, length-set room (at + 1) (48 + c.args.pair % 10))),
      drop-set room (at + 1) _ (omega arith),
      e,
    )
