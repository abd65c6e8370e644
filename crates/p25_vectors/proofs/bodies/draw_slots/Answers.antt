use Rattle.std.proofs.Common.{◌≡◌, ◌+◌, ◌*◌, ℕ, List, [], ◌∷◌, ◌++◌, length, ap, ap₂, sym, ◌∙◌}
use Rattle.p25_vectors.specs.{Draws.{octets_drawn, state_after}, Bodies.{block_of}}
use Rattle.p25_vectors.proofs.{DrawsLaws.{state_after-none}, BodiesLaws.{slots_drawn-none, slots_drawn-more, state_after-more}}
use Rattle.p25_packet_blocks.specs.{declared.block.Slot.{Slot}, declared.block.Slot.TheVariants.{Good}, Parts.{BlockParts}}
use Rattle.p25_vectors.proofs.bodies.draw_slots.Goals as goal

pub loop-serial-init : goal.loop-serial-init
loop-serial-init c = record {
  slots = c.new-slots.ensures ∙ sym (slots_drawn-none c.args.draws.now);
  len = ap length c.new-slots.ensures;
  state = sym (state_after-none c.args.draws.now);
}

pub loop-serial-preserved : goal.loop-serial-preserved
loop-serial-preserved c =
    let j = c.loop-serial.serial in
    let now = c.loop-serial.invariant.state in
    let octets : c.octets.result ≡ octets_drawn 16 (state_after (16 * j) c.args.draws.now) = c.octets.ensures.octets ∙ ap (octets_drawn 16) now in
    let made : List ℕ → BlockParts = λ octets. record { serial = j; octets = octets } in
    let block : Good c.new.result ≡ block_of j (octets_drawn 16 (state_after (16 * j) c.args.draws.now)) = ap Good (c.new.ensures ∙ ap made octets) in
    let state : c.octets.new.self ≡ state_after 16 c.loop-serial.draws = c.octets.ensures.state in
    record {
      slots =
          c.push.ensures.list
          ∙ ap₂ (λ (xs : List Slot) (x : Slot). xs ++ x ∷ []) c.loop-serial.invariant.slots block
          ∙ sym (slots_drawn-more j c.args.draws.now);
      len = c.push.ensures.len ∙ ap (λ n. n + 1) c.loop-serial.invariant.len;
      state = state_after-more 16 j c.args.draws.now c.loop-serial.draws c.octets.new.self now state;
    }
