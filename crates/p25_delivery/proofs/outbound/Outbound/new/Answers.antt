use Rattle.std.proofs.Common.{List, [], ℕ, ap, ap₂, sym, subst, ◌∙◌}
use Rattle.p25_delivery.specs.{Halves.{Sending, first_sending, Outgoing}, declared.outbound.Mark.{Mark}, SoundHalves.{IsOutgoing}}
use Rattle.p25_delivery.proofs.HalfLaws.{first-outgoing}
use Rattle.p25_delivery.proofs.outbound.Outbound.new.Goals as goal

-- a half of nothing but its sender and two lists
made : Sending → List (List ℕ) → List Mark → Outgoing
made s sent marks = record { sender = s; sent = sent; acknowledged = 0; marks = marks }

pub invariant_of-result : goal.invariant_of-result
unfolding made
invariant_of-result c =
    let lists = ap₂ (λ (s : Sending) (sent : List (List ℕ)). made s sent c.new-3.result.items) c.new.ensures c.new-2.ensures in
    let marks = ap (λ (m : List Mark). made first_sending [] m) c.new-3.ensures.items in
    rw (lists, marks) first-outgoing
