use Rattle.p25_stream.proofs.SyncPlaceLaws.{sync_place-le, has_sync-before, has_sync-at_place}
use Rattle.p25_stream.proofs.ItemsLaws.{items_by-nil, items_by-more, items_by-none, items_by-stay, first_item-append, enough-decide}
use Rattle.p25_stream.proofs.{ItemLaws.{covered-items_of, gaps_short, gaps_full, item-covers, item-sound, near-whole, whole-within, image-whole}, ScanLaws.{gave-items}}
use Rattle.p25_stream.proofs.TerminatorLaws.{terminator-read, terminator-there, terminator-sent}
use Rattle.p25_stream.proofs.laws.item_laws.Goals as goal

pub returns : goal.returns
returns c = record {
  sync = λ bits. (sync_place-le bits, has_sync-before bits, has_sync-at_place bits);
  recursion = (items_by-nil, items_by-more, items_by-none);
  cover_all = covered-items_of;
  end_to_end = item-covers;
  gaps = (gaps_short, gaps_full);
  sound = item-sound;
  first_stays = first_item-append;
  decided_stay = items_by-stay;
  enough = enough-decide;
  near = near-whole;
  whole = whole-within;
  undamaged = image-whole;
  terminator = terminator-read;
  terminator_is_there = terminator-there;
  sent_terminator = terminator-sent;
  gave = gave-items;
}
