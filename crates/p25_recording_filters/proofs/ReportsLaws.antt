-- The output of the reports of the commands for items, by induction on the items: the outputs that define the commands.
use Rattle.std.proofs.Common.{◌≡◌, ℕ, ◌+◌, ◌*◌, ◌/◌, ◌<◌, Bool, true, false, cond, List, [], ◌∷◌, ◌++◌, length, take, drop, refl, ap, ◌∙◌, arith, append_assoc, append-nil, length-drop, None}
use Rattle.std.specs.List.{flat_map}
use Rattle.p25_units.specs.{declared.item.Item.{Item}, Items.{covered}, Units.{whole_octets}}
use Rattle.p25_stream.specs.Repeats.{is_whole_item}
use Rattle.p25_stream.proofs.WrittenLaws.{written-cons, written-nil}
use Rattle.p25_recording_filters.specs.{declared.reports.show.Show.{Show}, declared.reports.check.Check.{Check}, ItemOutputs.{changed_bits, check_line, faults_in, faulty, shown, units_in}}
use Rattle.p25_recording_filters.specs.Commands.{ChangedParts, FollowedParts, change_of, changed_reporting, check_reporting, followed_item, followed_reporting, show_reporting, unfilled}
use Rattle.p25_recording_filters.specs.Reports.{Reporting, report_behind, reported}
use Rattle.p25_follow.specs.{Followed.{followed_by}, Following.{Follow, IsFollow, behind_item, fresh_follow, written_by, written_end}}
use Rattle.p25_follow.proofs.FollowingLaws.{written-follows}
use Rattle.p25_recording_filters.proofs.OctetsLaws.{whole_octets-append, whole_octets-few}

-- a first item that is given, whatever the bits after it
pub reported-cons : {R : Type 0} (reporting : Reporting R) (ended : Bool) (report : R) (item : Item) (items : List Item) (bits : List Bool)
    → reported reporting ended report (item ∷ items) bits
    ≡ reporting.piece report item (take (covered item) bits) ++ reported reporting ended (reporting.behind report item (take (covered item) bits)) items (drop (covered item) bits)
unfolding reported
reported-cons reporting ended report item items bits = refl

pub reported-nil : {R : Type 0} (reporting : Reporting R) (ended : Bool) (report : R) (bits : List Bool) → reported reporting ended report [] bits ≡ cond ended (reporting.closing report) []
unfolding reported
reported-nil reporting ended report bits = refl

pub behind-cons : {R : Type 0} (reporting : Reporting R) (report : R) (item : Item) (items : List Item) (bits : List Bool)
    → report_behind reporting report (item ∷ items) bits ≡ report_behind reporting (reporting.behind report item (take (covered item) bits)) items (drop (covered item) bits)
unfolding report_behind
behind-cons reporting report item items bits = refl

pub behind-nil : {R : Type 0} (reporting : Reporting R) (report : R) (bits : List Bool) → report_behind reporting report [] bits ≡ report
unfolding report_behind
behind-nil reporting report bits = refl

-- nothing is written at the end
no_closing : (ended : Bool) (none : List ℕ) → cond ended none none ≡ none
no_closing true none = refl
no_closing false none = refl

-- the texts of all items
pub reported-show : (ended : Bool) (report : Show) (items : List Item) (bits : List Bool) → reported show_reporting ended report items bits ≡ flat_map shown items
reported-show ended report [] bits = reported-nil show_reporting ended report bits ∙ no_closing ended []
reported-show ended report (item ∷ items) bits =
    reported-cons show_reporting ended report item items bits
    ∙ rw (reported-show ended report items (drop (covered item) bits))

-- the texts of items that are not whole, and the counts
pub reported-check : (ended : Bool) (report : Check) (items : List Item) (bits : List Bool)
    → reported check_reporting ended report items bits ≡ flat_map faulty items ++ cond ended (check_line (report.units + units_in items) (report.faults + faults_in items)) []
unfolding units_in faults_in
reported-check ended report [] bits =
    let units : report.units ≡ report.units + 0 = omega arith in
    let faults : report.faults ≡ report.faults + 0 = omega arith in
    rw (reported-nil check_reporting ended report bits, ← units, ← faults)
reported-check ended report (item ∷ items) bits =
    let next : Check = record { units = report.units + cond (is_whole_item item) 1 0; faults = report.faults + cond (is_whole_item item) 0 1 } in
    let units : next.units + units_in items ≡ report.units + (cond (is_whole_item item) 1 0 + units_in items) = omega arith in
    let faults : next.faults + faults_in items ≡ report.faults + (cond (is_whole_item item) 0 1 + faults_in items) = omega arith in
    rw (reported-cons check_reporting ended report item items bits, reported-check ended next items (drop (covered item) bits), units, faults, append_assoc)

pub behind-check : (report : Check) (items : List Item) (bits : List Bool) → (report_behind check_reporting report items bits).faults ≡ report.faults + faults_in items
unfolding faults_in
behind-check report [] bits =
    let faults : report.faults ≡ report.faults + 0 = omega arith in
    rw behind-nil faults
behind-check report (item ∷ items) bits =
    let next : Check = record { units = report.units + cond (is_whole_item item) 1 0; faults = report.faults + cond (is_whole_item item) 0 1 } in
    let faults : next.faults + faults_in items ≡ report.faults + (cond (is_whole_item item) 0 1 + faults_in items) = omega arith in
    rw behind-cons (behind-check next items (drop (covered item) bits) ∙ faults)

-- the octets that the changed bits fill
pub reported-changed : (ended : Bool) (report : ChangedParts) (items : List Item) (bits : List Bool) → length report.kept < 8
    → reported changed_reporting ended report items bits ≡ whole_octets (report.kept ++ changed_bits (change_of report.change) items bits)
reported-changed ended report [] bits few = rw (reported-nil, no_closing, written-nil, append-nil, whole_octets-few report.kept few)
reported-changed ended report (item ∷ items) bits few =
    let raw = take (covered item) bits in
    let rest = drop (covered item) bits in
    let all = report.kept ++ change_of report.change item raw in
    let next : ChangedParts = record { change = report.change; kept = unfilled all } in
    let few_left : length next.kept < 8 = omega (arith, length-drop (8 * (length all / 8)) all) in
    rw (reported-cons, reported-changed ended next items rest few_left, whole_octets-append all (changed_bits (change_of report.change) items rest), written-cons, append_assoc)

-- the output of a follower for items, one after the other
follows-nil : (ended : Bool) (kept : Follow) (bits : List Bool) → written_by ended kept [] bits ≡ cond ended (written_end kept) []
unfolding written_by
follows-nil ended kept bits = refl

follows-cons : (ended : Bool) (kept : Follow) (item : Item) (items : List Item) (bits : List Bool)
    → written_by ended kept (item ∷ items) bits
    ≡ followed_item kept item (take (covered item) bits) ++ written_by ended (behind_item kept item (take (covered item) bits)) items (drop (covered item) bits)
unfolding written_by
follows-cons ended kept item items bits = rw append_assoc

-- the octets that the bits left at the end fill
closing-followed : (ended : Bool) (kept left : List Bool) → length kept < 8 → cond ended (whole_octets (kept ++ left)) [] ≡ whole_octets (kept ++ cond ended left [])
closing-followed true kept left few = refl
closing-followed false kept left few = rw (append-nil, whole_octets-few kept few)

-- the octets that the bits with sync and NID written fill
reported-written : (ended : Bool) (report : FollowedParts) (items : List Item) (bits : List Bool) → length report.kept < 8
    → reported followed_reporting ended report items bits ≡ whole_octets (report.kept ++ written_by ended report.follower items bits)
reported-written ended report [] bits few =
    rw (reported-nil, closing-followed ended report.kept (written_end report.follower) few, follows-nil)
reported-written ended report (item ∷ items) bits few =
    let raw = take (covered item) bits in
    let rest = drop (covered item) bits in
    let all = report.kept ++ followed_item report.follower item raw in
    let next : FollowedParts = record { follower = behind_item report.follower item raw; kept = unfilled all } in
    let few_left : length next.kept < 8 = omega (arith, length-drop (8 * (length all / 8)) all) in
    rw (reported-cons, reported-written ended next items rest few_left, whole_octets-append all (written_by ended next.follower items rest), follows-cons, append_assoc)

fresh-follows : IsFollow fresh_follow
fresh-follows = record { few = omega arith; none = λ is. refl }

pub reported-followed : (ended : Bool) (items : List Item) (bits : List Bool)
    → reported followed_reporting ended (record { follower = fresh_follow; kept = [] }) items bits ≡ whole_octets (followed_by ended None [] items bits)
reported-followed ended items bits =
    reported-written ended (record { follower = fresh_follow; kept = [] }) items bits (omega arith)
    ∙ ap whole_octets (written-follows ended fresh_follow items bits fresh-follows)
