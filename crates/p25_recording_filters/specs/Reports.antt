-- Reports of the items of a recording, item by item.
use Rattle.std.specs.Prelude.{◌≡◌, ℕ, Bool, if◌then◌else◌, List, [], ◌∷◌, ◌++◌, take, drop}
use Rattle.p25_units.specs.{declared.item.Item.{Item}, Items.{covered}}
use Rattle.p25_filter.specs.declared.ending.Ending.{Ending}

-- the output of a report for an item and the bits that it covers, its state after that item, its output at the end of the input, and the end of the
-- call then
pub record Reporting (R : Type 0) : Type 0 where
  pub piece : R → Item → List Bool → List ℕ
  pub behind : R → Item → List Bool → R
  pub closing : R → List ℕ
  pub ending : R → Ending

-- the output of a report for an item, and its state after it, are the same whatever bits the item covers
pub record IgnoresBits {R : Type 0} (reporting : Reporting R) : Type 0 where
  pub piece : (report : R) (item : Item) (bits others : List Bool) → reporting.piece report item bits ≡ reporting.piece report item others
  pub behind : (report : R) (item : Item) (bits others : List Bool) → reporting.behind report item bits ≡ reporting.behind report item others

-- the output for items that lie end to end over some bits, and for the end of the input if it has ended
unfoldable pub reported : {R : Type 0} → Reporting R → Bool → R → List Item → List Bool → List ℕ
reported reporting ended report [] bits = if ended then reporting.closing report else []
reported reporting ended report (item ∷ items) bits =
    let raw = take (covered item) bits in
    reporting.piece report item raw ++ reported reporting ended (reporting.behind report item raw) items (drop (covered item) bits)

-- the state of a report after items that lie end to end over some bits
unfoldable pub report_behind : {R : Type 0} → Reporting R → R → List Item → List Bool → R
report_behind reporting report [] bits = report
report_behind reporting report (item ∷ items) bits =
    report_behind reporting (reporting.behind report item (take (covered item) bits)) items (drop (covered item) bits)
