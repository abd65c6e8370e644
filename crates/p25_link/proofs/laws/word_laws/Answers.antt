use Rattle.p25_link.proofs.WordsLaws.{link_words as link, sync_words as sync, header_words as header}
use Rattle.p25_link.proofs.laws.word_laws.Goals as goal

pub returns : goal.returns
returns c = record { link = link.back; link_back = link.symbols_back; sync = sync.back; sync_back = sync.symbols_back; header = header.back; header_back = header.symbols_back }
