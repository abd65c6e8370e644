-- The call that the octets of link control (LC) describe.
use Rattle.std.specs.Prelude.{◌/◌, ◌==◌, if◌then◌else◌, slice_index}
use Rattle.p25_bits.specs.Numbers.{pair_at, triple_at}
use Rattle.p25_link.specs.{declared.link_control.LinkControl.{LinkControl}, declared.link_control.LinkKind.{LinkKind}}
use Rattle.p25_link.specs.declared.link_control.LinkKind.TheVariants.{Group, Individual, Other}

-- a call to a group: octet 1 MFID, the first bit of octet 2 emergency, octets 4 and 5 the group, 6 to 8 the source
unfoldable pub group_call : LinkControl → LinkKind
group_call link = Group (slice_index link.0 1) (slice_index link.0 2 / 128 == 1) (pair_at link.0 4) (triple_at link.0 6)

-- a call from unit to unit: octet 1 MFID, 3 to 5 the destination, 6 to 8 the source
unfoldable pub individual_call : LinkControl → LinkKind
individual_call link = Individual (slice_index link.0 1) (triple_at link.0 3) (triple_at link.0 6)

-- the type of call, by octet 0 of link control (LC): 00 hex a group's, 03 hex from unit to unit
unfoldable pub link_kind_of : LinkControl → LinkKind
link_kind_of link =
    if slice_index link.0 0 == 0 then group_call link else (if slice_index link.0 0 == 3 then individual_call link else Other)
