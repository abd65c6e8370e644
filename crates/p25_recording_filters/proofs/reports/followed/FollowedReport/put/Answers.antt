use Rattle.std.proofs.Common.{◌≡◌, Bool, List, ◌++◌, ap, ap₂, subst, ◌∙◌}
use Rattle.p25_units.specs.Units.{whole_octets}
use Rattle.p25_follow.specs.Following.{Follow, behind_item, written_item}
use Rattle.p25_recording_filters.specs.Commands.{FollowedParts, followed_item, unfilled}
use Rattle.p25_recording_filters.proofs.reports.followed.FollowedReport.put.Goals as goal

abbrev parts : Follow → List Bool → FollowedParts
parts follower kept = record { follower = follower; kept = kept }

pub returns-clause-piece : goal.returns-clause-piece
returns-clause-piece c =
    let s = c.self.inside in
    let item = c.args.item.now in
    let raw = c.args.raw.now in
    subst (λ (r : FollowedParts). c.put_item.new.out ≡ whole_octets (r.kept ++ followed_item r.follower item raw)) c.self.view_is
    (c.put_item.ensures.octets ∙ ap (λ (xs : List Bool). whole_octets (s.kept ++ (xs ++ written_item item raw))) c.take.ensures.out)

pub returns-clause-behind : goal.returns-clause-behind
returns-clause-behind c =
    let s = c.self.inside in
    let item = c.args.item.now in
    let raw = c.args.raw.now in
    subst (λ (r : FollowedParts). parts c.take.new.self c.put_item.new.kept ≡ parts (behind_item r.follower item raw) (unfilled (r.kept ++ followed_item r.follower item raw))) c.self.view_is
    (ap₂ parts c.take.ensures.behind
    (c.put_item.ensures.kept ∙ ap (λ (xs : List Bool). unfilled (s.kept ++ (xs ++ written_item item raw))) c.take.ensures.out))
