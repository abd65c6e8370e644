use Rattle.p25_bits.proofs.WordsLaws.{append_more}
use Rattle.p25_bits.proofs.words.append_windows.Goals as goal

pub loop-k-preserved : goal.loop-k-preserved
loop-k-preserved c =
    append_more _ _
    _ _ _ c.args.at c.args.from c.loop-k.k
    c.put_window.ensures c.window.ensures c.loop-k.invariant
