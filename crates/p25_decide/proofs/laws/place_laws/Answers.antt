use Rattle.p25_decide.proofs.PlacesLaws.{length-with_words, with_words-outside}
use Rattle.p25_decide.proofs.laws.place_laws.Goals as goal

pub returns-clause-length : goal.returns-clause-length
returns-clause-length c = length-with_words

pub returns-clause-outside : goal.returns-clause-outside
returns-clause-outside c = with_words-outside
