use Rattle.p25_show.proofs.UnhiddenLaws.{alone-found, found-line, unhidden-found}
use Rattle.p25_show.proofs.laws.unhidden_laws.Goals as goal

pub returns : goal.returns
returns c = record { unhidden = unhidden-found; alone = alone-found; line = found-line }
