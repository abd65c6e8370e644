use Rattle.std.proofs.Common.{◌≡◌, ◌+◌, ◌-◌, ◌*◌, ◌^◌, ◌<◌, ◌≤◌, ◌∙◌, ap, sym, arith, rules, length, Fits, w64}
use Rattle.p25_bits.specs.Bits.{octet_bits}
use Rattle.p25_bits.proofs.{BitsLaws.{length-octet_bits}, PartLaws.{length-part}}
use Rattle.p25_c.proofs.FollowersSteps.{can-follow}
use Rattle.p25_c.proofs.followers.p25_follower_take.Goals as goal

pub overflow_sub-item : goal.overflow_sub-item
overflow_sub-item c =
    (can-follow c.args.follower.now c.args.item.now c.args.begin (length c.args.octets.now) (sym c.may_follow.ensures ∙ c.if-not-may_follow.false)).order

pub cut-requires : goal.cut-requires
cut-requires c =
    let can = can-follow c.args.follower.now c.args.item.now c.args.begin (length c.args.octets.now) (sym c.may_follow.ensures ∙ c.if-not-may_follow.false) in
    record { there = omega (arith, can.there, can.order); few = can.few; near = omega (arith, can.near) }

pub item_held-requires : goal.item_held-requires
item_held-requires c =
    let can = can-follow c.args.follower.now c.args.item.now c.args.begin (length c.args.octets.now) (sym c.may_follow.ensures ∙ c.if-not-may_follow.false) in
    record { told = can.told; few = can.few }

pub put-requires-clause-raw : goal.put-requires-clause-raw
put-requires-clause-raw c = λ _.
    let can = can-follow c.args.follower.now c.args.item.now c.args.begin (length c.args.octets.now) (sym c.may_follow.ensures ∙ c.if-not-may_follow.false) in
    let bits = octet_bits c.args.octets.now in
    let there : c.args.item.now.place - c.args.begin + c.args.item.now.bits ≤ length bits = omega (arith, can.there, can.order, length-octet_bits c.args.octets.now) in
    ap length c.cut.ensures ∙ length-part (c.args.item.now.place - c.args.begin) c.args.item.now.bits bits there ∙ sym c.item_held.ensures.covers

pub overflow_add-item : goal.overflow_add-item
overflow_add-item c =
    let can = can-follow c.args.follower.now c.args.item.now c.args.begin (length c.args.octets.now) (sym c.may_follow.ensures ∙ c.if-not-may_follow.false) in
    omega (arith, can.near, can.few, c.from.ensures)
