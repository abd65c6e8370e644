use Rattle.std.proofs.Common.{arith}
use Rattle.p25_stream.proofs.JudgementsLaws.{judged-searching}
use Rattle.p25_stream.proofs.judging.judged_anew.Goals as goal

pub returns-then-len-le-BEHIND : goal.returns-then-len-le-BEHIND
returns-then-len-le-BEHIND c = judged-searching c.args.held.now 0 (omega arith) (omega arith) (omega arith)
