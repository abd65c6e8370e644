use Rattle.std.proofs.{Common.{◌≡◌, ◌++◌, ◌∙◌, ap, length, refl, Some, None, sym, arith, length-append}, lemmas.Option.{slice_get_read}}
use Rattle.std.specs.Prelude.{slice_get}
use Rattle.p25_delivery.proofs.PlacesLaws.{all_octets-nil, all_octets-more, all_octets-empty}
use Rattle.p25_delivery.proofs.message_octets.MessageOctets.joined.Goals as goal

pub loop-place-init : goal.loop-place-init
loop-place-init c = record { octets = rw c.new-items.ensures all_octets-nil; len = ap length c.new-items.ensures }

pub returns-in_err-block-clause-octets : goal.returns-in_err-block-clause-octets
returns-in_err-block-clause-octets c =
    let places = c.args.places.now in
    let here : slice_get places c.loop-place.place-index ≡ Some None
    = slice_get_read places (length places) c.loop-place.place-index c.place-item.result refl c.loop-place-test.true c.place-item.is ∙ ap Some c.in_err-block.was in
    cc (all_octets-empty places c.loop-place.place-index here)

pub loop-place-preserved : goal.loop-place-preserved
loop-place-preserved c =
    let places = c.args.places.now in
    let block = c.in_ok-block.block in
    let here : slice_get places c.loop-place.place-index ≡ Some (Some block)
    = slice_get_read places (length places) c.loop-place.place-index c.place-item.result refl c.loop-place-test.true c.place-item.is ∙ ap Some c.in_ok-block.was in
    let more = rw c.unwrap.ensures at c.try_extend_from_slice.ensures.ok in
    let long : length c.octets.result.now ≡ 16 = cc in
    record {
      octets =
          cc (all_octets-more places c.loop-place.place-index block c.loop-place.items.items here c.loop-place.invariant.octets);
      len = omega (arith, ap length more, length-append c.loop-place.items.items c.octets.result.now);
    }
