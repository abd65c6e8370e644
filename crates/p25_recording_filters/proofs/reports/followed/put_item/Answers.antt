use Rattle.std.proofs.Common.{List, Bool, ap, sym, ◌∙◌}
use Rattle.p25_units.specs.Units.{whole_octets}
use Rattle.p25_recording_filters.specs.Commands.{unfilled}
use Rattle.p25_recording_filters.proofs.FollowedLaws.{joined-rest, kept-unit, piece-unit}
use Rattle.p25_recording_filters.proofs.reports.followed.put_item.Goals as goal

pub returns-then-not-is_rest-clause-octets : goal.returns-then-not-is_rest-clause-octets
returns-then-not-is_rest-clause-octets c =
    piece-unit c.args.kept.now c.args.bits.now c.args.raw.now c.args.item.now c.put_behind.new.kept c.put_behind.new.out c.put_after.new.out
    (sym c.is_rest.ensures ∙ c.if-not-is_rest.true) c.put_behind.ensures.octets c.put_behind.ensures.kept c.put_after.ensures.octets

pub returns-then-not-is_rest-clause-kept : goal.returns-then-not-is_rest-clause-kept
returns-then-not-is_rest-clause-kept c =
    kept-unit c.args.kept.now c.args.bits.now c.args.raw.now c.args.item.now c.put_behind.new.kept c.put_after.new.kept
    (sym c.is_rest.ensures ∙ c.if-not-is_rest.true) c.put_behind.ensures.kept c.put_after.ensures.kept

pub returns-else-not-is_rest-clause-octets : goal.returns-else-not-is_rest-clause-octets
returns-else-not-is_rest-clause-octets c =
    c.put_behind.ensures.octets
    ∙ ap (λ (xs : List Bool). whole_octets xs) (joined-rest c.args.kept.now c.args.bits.now c.args.raw.now c.args.item.now (sym c.is_rest.ensures ∙ c.if-not-is_rest.false))

pub returns-else-not-is_rest-clause-kept : goal.returns-else-not-is_rest-clause-kept
returns-else-not-is_rest-clause-kept c =
    c.put_behind.ensures.kept
    ∙ ap (λ (xs : List Bool). unfilled xs) (joined-rest c.args.kept.now c.args.bits.now c.args.raw.now c.args.item.now (sym c.is_rest.ensures ∙ c.if-not-is_rest.false))
