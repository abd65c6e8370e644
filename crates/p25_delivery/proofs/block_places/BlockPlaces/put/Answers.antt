use Rattle.std.proofs.Common.{◌≡◌, ◌∙◌, length, take, refl, ap, sym, arith, Some}
use Rattle.std.specs.Prelude.{slice_get}
use Rattle.p25_packet_blocks.specs.declared.block.Slot.TheVariants.{Good}
use Rattle.p25_delivery.specs.{Places.{put_block}, declared.block_places.BlockPlaces.TheInside.{Inside}}
use Rattle.p25_delivery.proofs.{PlacesLaws.{put_slots-nil, length-put_slots, put_slots-good, put_slots-bad}, block_places.BlockPlaces.put.Goals.{in-Good, in_default}}
use Rattle.p25_delivery.proofs.block_places.BlockPlaces.put.Goals as goal

pub loop-j-init : goal.loop-j-init
loop-j-init c = record { list = sym (put_slots-nil c.self.inside.places.items); pad = refl }

pub invariant_of-self : goal.invariant_of-self
invariant_of-self c = omega (arith, ap length c.loop-j.invariant.list, length-put_slots c.self.inside.places.items (take c.loop-j.j c.args.slots.now), c.self.invariant)

pub loop-j-preserved : goal.loop-j-preserved
loop-j-preserved c =
    elim c.match-get.branch [
      | in-Good w ↦
          (let here : slice_get c.args.slots.now c.loop-j.j ≡ Some (Good w.in-Good.block) = cc in
          record {
            list =
                cc (put_slots-good c.self.inside.places.items c.args.slots.now c.loop-j.j w.in-Good.block here);
            pad = cc;
          })
      | in_default w ↦
          record {
            list = cc (put_slots-bad c.self.inside.places.items c.args.slots.now c.loop-j.j (cc));
            pad = cc;
          }
    ]
