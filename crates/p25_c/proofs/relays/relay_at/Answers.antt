use Rattle.std.proofs.{Common.{◌≡◌, ◌+◌, ◌-◌, ◌*◌, ◌≤◌, ◌∙◌, arith, length, [], ℤ, List, Bool, true, Option, Ok, drop, rules, subst, sym, ap, to_z, of_z, w32}, lemmas.Int.{to_z-of_z}}
use Rattle.p25_bits.specs.Bits.{octet_bits, part}
use Rattle.p25_bits.proofs.{BitsLaws.{length-octet_bits}, PartLaws.{length-part}}
use Rattle.p25_units.specs.{Items.{covered}, Units.{whole_octets}, declared.item.Item.{Item}}
use Rattle.p25_follow.specs.Relayed.{relayed}
use Rattle.p25_c.specs.{Places.{filled}, Relays.{asked_relayed}, Rooms.{IsWriting}}
use Rattle.p25_c.proofs.{ItemsLaws.{items_asked-inside, items_asked-outside}, RelaysSteps.{found-at, relay-none, relay-outside}}
use Rattle.p25_c.proofs.relays.relay_at.Goals as goal
use mir.Val.{SFits}

pub returns-then-not-is_inside : goal.returns-then-not-is_inside
returns-then-not-is_inside c =
    relay-outside c.args.nac c.args.status _ (drop (c.args.from - c.args.begin) (octet_bits c.args.octets.now)) c.args.into.now
    (items_asked-outside true c.args.begin c.args.from c.args.octets.now (sym c.is_inside.ensures ∙ c.if-not-is_inside.true))

pub returns-then-not-find_item : goal.returns-then-not-find_item
returns-then-not-find_item c =
    relay-none c.args.nac c.args.status _ (drop (c.args.from - c.args.begin) (octet_bits c.args.octets.now)) c.args.into.now
    (items_asked-inside true c.args.begin c.args.from c.args.octets.now [] (sym c.is_inside.ensures ∙ c.if-not-is_inside.false) (c.find_item.ensures.none c.if-not-find_item.true).0)

pub cut-requires : goal.cut-requires
cut-requires c =
    let inside = sym c.is_inside.ensures ∙ c.if-not-is_inside.false in
    let found = found-at c.args.begin c.args.from c.args.octets.now c.find_item.new.item inside (c.find_item.ensures.first c.if-not-find_item.false) in
    record { there = omega (arith, found.there, c.covered.ensures.value); few = omega (arith, found.few, c.covered.ensures.value); near = found.near }

pub relay_item-requires : goal.relay_item-requires
relay_item-requires c =
    let inside = sym c.is_inside.ensures ∙ c.if-not-is_inside.false in
    let found = found-at c.args.begin c.args.from c.args.octets.now c.find_item.new.item inside (c.find_item.ensures.first c.if-not-find_item.false) in
    let at = c.args.from - c.args.begin in
    let bits = octet_bits c.args.octets.now in
    let there : at + c.covered.result ≤ length bits = omega (arith, found.there, c.covered.ensures.value, length-octet_bits c.args.octets.now) in
    record { sound = search rules; fits = found.fits; nac = c.requires; raw = ap length c.cut.ensures ∙ length-part at c.covered.result bits there ∙ c.covered.ensures.value }

pub returns : goal.returns
returns c =
    let bits = drop (c.args.from - c.args.begin) (octet_bits c.args.octets.now) in
    let item = c.find_item.new.item in
    let first = c.find_item.ensures.first c.if-not-find_item.false in
    let inside = sym c.is_inside.ensures ∙ c.if-not-is_inside.false in
    let fits : SFits w32 c.write_bits.result = search rules in
    let left = c.write_bits.new.room in
    let asked = items_asked-inside true c.args.begin c.args.from c.args.octets.now _ inside first.items in
    let sent : c.fill.new.bits ≡ filled (relayed c.args.nac c.args.status item (part (c.args.from - c.args.begin) (covered item) (octet_bits c.args.octets.now)))
    = c.fill.ensures ∙ ap filled (c.relay_item.ensures ∙ ap (relayed c.args.nac c.args.status item)
    (c.cut.ensures ∙ ap (λ n. part (c.args.from - c.args.begin) n (octet_bits c.args.octets.now)) c.covered.ensures.value)) in
    subst (λ (some : Option (List Item)). IsWriting (asked_relayed c.args.nac c.args.status some bits) c.args.into.now left (to_z w32 (of_z w32 c.write_bits.result))) (sym asked)
    (subst (λ (z : ℤ). IsWriting (Ok (whole_octets (filled
    (relayed c.args.nac c.args.status item (part (c.args.from - c.args.begin) (covered item) (octet_bits c.args.octets.now)))))) c.args.into.now left z)
    (sym (to_z-of_z w32 c.write_bits.result fits))
    (subst (λ (zs : List Bool). IsWriting (Ok (whole_octets zs)) c.args.into.now left c.write_bits.result) sent c.write_bits.ensures))
