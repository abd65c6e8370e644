use Rattle.std.proofs.Common.{◌≡◌, ℕ, ◌<◌, ◌++◌, [], ◌∷◌, List, Option, Some, refl, sym, ap, subst, ◌∙◌, arith}
use Rattle.p25_packet_blocks.specs.{ConfirmedParts.{ConfirmedParts}, Heads.{head_blocks}, Whole.{AreGood, IsWholePacket}, declared.block.Slot.{Slot}}
use Rattle.p25_c.specs.Packets.{confirmed_of}
use Rattle.p25_c.proofs.PacketsLaws.{good-more, good-none, slots-more, slots-refused, slots-zero}
use Rattle.p25_c.proofs.packet_building.confirmed_held.Goals as goal

pub loop-j-init : goal.loop-j-init
loop-j-init c = record {
  held = slots-zero c.args.packet.now ∙ ap (λ (xs : List Slot). Some xs) (sym c.new-slots.ensures);
  len = rw c.new-slots.ensures refl;
  good = subst AreGood (sym c.new-slots.ensures) good-none;
}

pub returns-then-not-is_sendable_at-clause-value : goal.returns-then-not-is_sendable_at-clause-value
returns-then-not-is_sendable_at-clause-value c =
    sym (ap (confirmed_of c.args.head) (slots-refused (head_blocks c.args.head) c.loop-j.j c.args.packet.now (omega arith) (sym c.is_sendable_at.ensures.value ∙ c.if-not-is_sendable_at.true)))

pub loop-j-preserved : goal.loop-j-preserved
loop-j-preserved c =
    let slots = c.loop-j.slots in
    let pushed = c.push.ensures.list ∙ ap (λ (x : Slot). slots ++ x ∷ []) c.slot_held.ensures in
    record {
      held
          = slots-more c.loop-j.j c.args.packet.now slots (sym c.is_sendable_at.ensures.value ∙ c.if-not-is_sendable_at.false) c.loop-j.invariant.held
          ∙ ap (λ (xs : List Slot). Some xs) (sym pushed);
      len = omega arith;
      good = subst AreGood (sym pushed) (good-more slots _ c.loop-j.invariant.good);
    }

pub returns-clause-whole : goal.returns-clause-whole
unfolding IsWholePacket
returns-clause-whole c = subst (λ (p : ConfirmedParts). AreGood p.slots) (sym c.new.ensures) c.loop-j.invariant.good
