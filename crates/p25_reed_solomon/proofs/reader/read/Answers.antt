use Rattle.std.proofs.Common.{length, sym}
use Rattle.p25_code.proofs.ErasedLaws.{reading_without_erasures}
use Rattle.p25_reed_solomon.specs.Words.{IsWord, same_symbols}
use Rattle.p25_reed_solomon.proofs.ReaderLaws.{no_erasures}
use Rattle.p25_reed_solomon.proofs.reader.read.Goals as goal

pub returns : goal.returns
returns c =
    let n = length c.args.word.now in
    reading_without_erasures same_symbols (IsWord n c.args.k) _
    _ (sym c.requires.even) c.args.word.now c.read_erased.new.word _ c.read_erased.result (no_erasures n) c.read_erased.ensures
