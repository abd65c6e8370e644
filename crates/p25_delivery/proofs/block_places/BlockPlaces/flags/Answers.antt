use Rattle.std.proofs.{Common.{◌≡◌, ◌<◌, length, ap, ◌∙◌, arith, refl}, lemmas.Option.{slice_get_read}}
use Rattle.std.specs.Prelude.{is_some}
use Rattle.p25_delivery.proofs.{ListLaws.{flags_set, flags_length}, block_places.BlockPlaces.flags.Goals.{then-len-le64, else-len-le64}}
use Rattle.p25_delivery.proofs.block_places.BlockPlaces.flags.Goals as goal

pub loop-i-preserved : goal.loop-i-preserved
loop-i-preserved c =
    let places = c.as_slice-place-items.result.now in
    let count : length places ≡ length c.self.inside.places.items = ap length c.as_slice-place-items.ensures.value in
    let room : c.loop-i.i < c.if-len-le64.count = elim c.if-len-le64.branch [ then-len-le64 w ↦ omega (arith, count) | else-len-le64 w ↦ omega (arith, count) ] in
    let set = rw c.is_some.ensures at c.set.ensures in
    record {
      list =
          flags_set is_some places c.if-len-le64.count c.loop-i.i c.place-item.result c.loop-i.flags c.set.new.self
          (slice_get_read places (length places) c.loop-i.i c.place-item.result refl c.loop-i-test.true c.place-item.is) room c.loop-i.invariant.list set;
      len = flags_length c.loop-i.flags c.set.new.self c.loop-i.i c.is_some.result c.set.ensures ∙ c.loop-i.invariant.len;
    }
