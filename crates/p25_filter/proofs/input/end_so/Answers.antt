use Rattle.std.proofs.Common.{[]}
use Rattle.p25_filter.proofs.GoingsLaws.{Comes-after, Comes-so}
use Rattle.p25_filter.proofs.input.end_so.Goals as goal

pub returns-in-Ok : goal.returns-in-Ok
returns-in-Ok g c = λ now may. Comes-after g.met.P.Port.chain [] [] (c.in-Ok.ensures.ok now) (Comes-so g.met.P.Port.chain c.flush.new.port now c.args.end may)
