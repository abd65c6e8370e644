-- The facts of a delivery, from its phase. By arithmetic on the counts.
use Rattle.std.proofs.{Common.{◌≡◌, ℕ, ◌+◌, ◌-◌, ◌%◌, inl, inr, List, [], ◌∷◌, ◌++◌, length, take, Option, None, refl, ap, sym, ◌∙◌, subst, arith, length-append}, lemmas.List.{take_all, take_at}}
use Rattle.std.proofs.lemmas.Option.{IfSome_then}
use Rattle.std.specs.Prelude.{IfSome}
use Rattle.p25_packet_blocks.specs.declared.packet.Packet.{Packet}
use Rattle.p25_delivery.specs.{Places.{held_flags}, SentPackets.{opening_packet, ack_packet, retry_packet}, Halves.{Keeping}, declared.sender.Outstanding.{Outstanding}}
use Rattle.p25_delivery.specs.{declared.sender.Outstanding.TheVariants.{Nothing, Message}, Delivery.{Delivery, Session}, Facts.{IsDataOf, KeepsOf, SentBy, IsNewestData, SessionFacts, FactsBy}}
use Rattle.p25_delivery.proofs.PhaseLaws.{IsQuietData, IsQuiet, IsWaitingAnswer, IsWaiting, IsArrived, IsBusy, IsDelivering, quiet, busy, opening}

-- the first elements of a list: all of it, or all but the last
take-same : (xs ys : List (List ℕ)) → xs ≡ ys → xs ≡ take (length xs) ys
take-same xs ys e = cc (take_all (length xs) ys (omega (arith, ap length e)))

take-front : (xs ys : List (List ℕ)) (last : List ℕ) → ys ≡ xs ++ last ∷ [] → xs ≡ take (length xs) ys
take-front xs ys last e = sym (cc (take_at xs (last ∷ []) (length xs) refl))

sent-by : (out : Outstanding) (s : Session) (w : Delivery) → w.outbound.sender.outstanding ≡ out → SentBy out s → SentBy w.outbound.sender.outstanding s
sent-by out s w o h = rw o h

-- nothing is kept of any message
nothing-kept : (kept : Option Keeping) (P : Keeping → Type 0) → kept ≡ None → IfSome kept P
nothing-kept kept P e = rw e tt

facts-quiet : (last b : ℕ) (s : Session) (w : Delivery) → IsQuiet last b s w → SessionFacts b s w
unfolding SentBy IsNewestData
facts-quiet last b s w q =
    let same : length s.delivered ≡ s.acknowledged = cc in
    record {
      sent = sent-by Nothing s w q.outstanding (sym q.acknowledged);
      number = q.next ∙ q.counted;
      count = inl same;
      last = omega (arith, q.last_is, q.small, q.counted, same);
      delivered = take-same s.delivered s.sent q.delivered;
      newest_data =
          IfSome_then w.packet_sent q.packet_sent (λ (p : Packet) (d : IsQuietData last s.sent p).
          elim d [
            | inl (none, e) ↦
                (let base : last ≡ (b + 7) % 8 = omega (arith, q.small, q.counted, q.acknowledged, ap length none) in
                inl (none, cc))
            | inr (earlier, message, e, short, of) ↦
                (let number : last ≡ (b + length s.sent - 1) % 8 = omega (arith, q.small, q.counted, q.acknowledged, ap length e, length-append earlier (message ∷ [])) in
                inr (earlier, message, e, subst (λ (n : ℕ). IsDataOf n message p) number of))
          ]);
      kept = nothing-kept w.inbound.receiver.kept _ q.kept;
      newest_answer = IfSome_then w.answer q.answer (λ (p : Packet) (e : p ≡ ack_packet last). inl (cc));
    }

facts-waiting : (number : ℕ) (message : List ℕ) (b : ℕ) (s : Session) (w : Delivery) → IsBusy number message b s w → IsWaiting number message s w.inbound.receiver w.answer → SessionFacts b s w
unfolding SentBy IsNewestData
facts-waiting number message b s w h p =
    let count : length s.sent ≡ s.acknowledged + 1 = omega (arith, ap length p.sent, length-append s.delivered (message ∷ []), p.acknowledged) in
    let newest : number ≡ (b + length s.sent - 1) % 8 = omega (arith, count, h.counted) in
    record {
      sent = sent-by (Message message) s w h.outstanding (count, (s.delivered, p.sent));
      number = h.next ∙ h.counted;
      count = inl (sym p.acknowledged);
      last = omega (arith, p.last_small, p.sync, h.counted, p.acknowledged);
      delivered = take-front s.delivered s.sent message p.sent;
      newest_data = IfSome_then w.packet_sent h.packet_sent (λ (packet : Packet) (d : IsDataOf number message packet).
          inr (s.delivered, message, p.sent, rw newest at d));
      kept = IfSome_then w.inbound.receiver.kept p.kept (λ (k : Keeping) (of : KeepsOf message k). (sym p.acknowledged, message, h.outstanding, of));
      newest_answer =
          IfSome_then w.answer p.answer (λ (packet : Packet) (a : IsWaitingAnswer w.inbound.receiver number packet).
          elim a [
            | inl e ↦ inl e
            | inr (kept, k, e) ↦ inr (kept, k, cc)
          ]);
    }

facts-arrived : (number : ℕ) (message : List ℕ) (b : ℕ) (s : Session) (w : Delivery) → IsBusy number message b s w → IsArrived number message s w.inbound.receiver w.answer → SessionFacts b s w
unfolding SentBy IsNewestData
facts-arrived number message b s w h p =
    let count : length s.sent ≡ s.acknowledged + 1 = omega (arith, ap length p.sent, length-append p.earlier (message ∷ []), p.acknowledged) in
    let all : length s.delivered ≡ s.acknowledged + 1 = cc in
    let newest : number ≡ (b + length s.sent - 1) % 8 = omega (arith, count, h.counted) in
    record {
      sent = sent-by (Message message) s w h.outstanding (count, (p.earlier, p.sent));
      number = h.next ∙ h.counted;
      count = inr (all, message, h.outstanding);
      last = omega (arith, p.last_is, h.small, h.counted, all);
      delivered = take-same s.delivered s.sent p.delivered;
      newest_data = IfSome_then w.packet_sent h.packet_sent
          (λ (packet : Packet) (d : IsDataOf number message packet). inr (p.earlier, message, p.sent, rw newest at d));
      kept = nothing-kept w.inbound.receiver.kept _ p.kept;
      newest_answer = IfSome_then w.answer p.answer (λ (packet : Packet) (e : packet ≡ ack_packet number). inl (cc));
    }

facts-busy : (number : ℕ) (message : List ℕ) (b : ℕ) (s : Session) (w : Delivery) → IsBusy number message b s w → SessionFacts b s w
facts-busy number message b s w h = elim h.place [ inl p ↦ facts-waiting number message b s w h p | inr p ↦ facts-arrived number message b s w h p ]

pub facts-delivering : (b : ℕ) (s : Session) (w : Delivery) → IsDelivering b s w → FactsBy w.outbound.sender.outstanding b s w
unfolding FactsBy
facts-delivering b s w (quiet last q) = subst (λ (x : Outstanding). FactsBy x b s w) (sym q.outstanding) (facts-quiet last b s w q)
facts-delivering b s w (busy number message h) = subst (λ (x : Outstanding). FactsBy x b s w) (sym h.outstanding) (facts-busy number message b s w h)
facts-delivering b s w (opening number h) =
    rw h.outstanding (record { nothing_yet = h.session_is; newest_data = h.packet_sent; place = h.place; newest_answer = h.answer })
