use Rattle.p25_units.proofs.{BegunLaws.{IsBegun-append}, ItemsLaws.{covered-unit_item_of, place_of-unit_item_of, IsSoundItem-unit_item_of, unit_item_of-no_gap}}
use Rattle.p25_units.proofs.NeedsLaws.{need_of-few, need_of-there, need_of-seen, need_of-stays, need_of-waits}
use Rattle.p25_units.proofs.laws.need_laws.Goals as goal

pub returns : goal.returns
returns c = record {
  seen = need_of-seen;
  stays = need_of-stays;
  waits = need_of-waits;
  few = need_of-few;
  there = need_of-there;
  covers = covered-unit_item_of;
  place = place_of-unit_item_of;
  sound = IsSoundItem-unit_item_of;
  no_gap = unit_item_of-no_gap;
  begun = IsBegun-append;
}
