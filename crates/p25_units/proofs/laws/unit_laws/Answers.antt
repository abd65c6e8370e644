use Rattle.p25_units.proofs.{ImagePlacesLaws.{IsImage-iff}, FailuresLaws.{unit_fails}, FixesLaws.{fixes_of-image_of}, WholeLaws.{whole-near}}
use Rattle.p25_units.proofs.WithinRadiusLaws.{need_of-near, unit_reading_of-near, unit_item_of-near, IsWithinRadius-image_of, unit_reading_of-image_of}
use Rattle.p25_units.proofs.laws.unit_laws.Goals as goal

pub returns : goal.returns
returns c = record {
  form = IsImage-iff;
  length = need_of-near;
  near = unit_reading_of-near;
  item = unit_item_of-near;
  undamaged = IsWithinRadius-image_of;
  again = unit_reading_of-image_of;
  none = fixes_of-image_of;
  fails = unit_fails;
  whole_is_read = whole-near;
}
