-- The meaning of a step in a clean run, if the delivery keeps its facts before it and after it. By the counts of the facts.
use Rattle.std.proofs.{Common.{◌≡◌, ℕ, ◌+◌, ◌%◌, inl, inr, true, false, List, [], ◌∷◌, ◌++◌, length, take, get_or, refl, ap, sym, subst, ◌∙◌, arith, length-append}, Math.Seq.{get_or-append_seam}}
use Rattle.std.proofs.lemmas.List.{take_all}
use Rattle.p25_packet_blocks.specs.{declared.packet.Packet.TheVariants.{Confirmed}, ConfirmedParts.{ConfirmedParts}, Heads.{head_syn}}
use Rattle.p25_delivery.specs.{SenderRules.{opening_number, is_opening}, declared.sender.Outstanding.{Outstanding}, declared.sender.Outstanding.TheVariants.{Nothing, Message, Opening}}
use Rattle.p25_delivery.specs.{Delivery.{Session, Delivery, present_session, first_number}, Orderly.{IsHeardOf}, Facts.{IsDataOf, OpeningFacts, SentBy, SessionFacts, FactsBy}}
use Rattle.p25_delivery.proofs.{SentLaws.{data-heard}, CallLaws.{newest}, SessionLaws.{with_delivered, with_acknowledged, one_delivered, one_acknowledged, present-delivered, present-acknowledged}}
use Rattle.p25_delivery.proofs.{PhaseLaws.{IsDelivering, quiet, busy, opening, IsKept}, FactsLaws.{facts-delivering}}
use Rattle.p25_fragments.proofs.MoveLaws.{lists_of, outstanding_in, IsSameIn, HasSameLast}

-- the facts of a delivery, by the outstanding packet
facts-at : (v : Delivery) (out : Outstanding) → IsKept v → outstanding_in v ≡ out → FactsBy out (first_number v) (present_session v) v
facts-at v out k o = subst (λ (x : Outstanding). FactsBy x (first_number v) (present_session v) v) o (facts-delivering (first_number v) (present_session v) v k.delivering)

sent-at : (v : Delivery) (out : Outstanding) (s : Session) → outstanding_in v ≡ out → SentBy (outstanding_in v) s → SentBy out s
sent-at v out s o h = rw o at h

-- if nothing is outstanding, as many messages were delivered as acknowledged
count-none : (b : ℕ) (s : Session) (v : Delivery) → SessionFacts b s v → outstanding_in v ≡ Nothing → length s.delivered ≡ s.acknowledged
count-none b s v f o = elim f.count [ inl e ↦ e | inr (e, message, is) ↦ absurd (cc (o, is)) ]

pub quiet-counts : (v : Delivery) → IsKept v → outstanding_in v ≡ Nothing → length (present_session v).delivered ≡ (present_session v).acknowledged
unfolding FactsBy
quiet-counts v k o = count-none (first_number v) (present_session v) v (facts-at v Nothing k o) o

-- A message is delivered: the one that is outstanding, which had not arrived.

last-same : (xs ys : List (List ℕ)) (x y : List ℕ) → xs ++ x ∷ [] ≡ ys ++ y ∷ [] → x ≡ y
last-same xs ys x y e =
    let count : length xs ≡ length ys = omega (arith, ap length e, length-append xs (x ∷ []), length-append ys (y ∷ [])) in
    cc (get_or-append_seam xs x [] x, get_or-append_seam ys y [] x)

pub record IsDelivered (v w : Delivery) (message : List ℕ) : Type 0 where
  pub outstanding : outstanding_in v ≡ Message message
  pub before : length (present_session v).delivered ≡ (present_session v).acknowledged
  pub after : length (present_session w).delivered ≡ (present_session w).acknowledged + 1

delivered-message : (part message : List ℕ) (s t : Session) (b c : ℕ) (v w : Delivery) → SessionFacts b s v → SessionFacts c t w → outstanding_in v ≡ Message part → t ≡ with_delivered s message →
    (message ≡ part) × (length s.delivered ≡ s.acknowledged)
unfolding SentBy
delivered-message part message s t b c v w f g o e =
    let more : length t.delivered ≡ length s.delivered + 1 = cc (length-append s.delivered (message ∷ [])) in
    let same : t.acknowledged ≡ s.acknowledged = cc in
    let sent = sent-at v (Message part) s o f.sent in
    let count : length s.delivered ≡ s.acknowledged
    = elim f.count [
      | inl n ↦ n
      | inr (n, other, is) ↦ elim g.count [ inl m ↦ absurd (omega (arith, n, m, more, same)) | inr (m, another, has) ↦ absurd (omega (arith, n, m, more, same)) ]
    ] in
    let all : take (length t.delivered) t.sent ≡ s.sent
    = cc (take_all (length t.delivered) s.sent (omega (arith, more, count, sent.0))) in
    (last-same s.delivered sent.1.0 message part (cc), count)

delivered-by : (out : Outstanding) (message : List ℕ) (v w : Delivery)
    → IsKept v → IsKept w → outstanding_in v ≡ out → outstanding_in w ≡ out → present_session w ≡ with_delivered (present_session v) message →
    (outstanding_in v ≡ Message message) × (length (present_session v).delivered ≡ (present_session v).acknowledged)
unfolding FactsBy
delivered-by Nothing message v w k l o p e =
    let more : length (present_session w).delivered ≡ length (present_session v).delivered + 1
    = ap (λ (x : Session). length x.delivered) e ∙ length-append (present_session v).delivered (message ∷ []) in
    absurd (omega (arith, more, quiet-counts v k o, quiet-counts w l p, ap (λ (x : Session). x.acknowledged) e))
delivered-by (Message part) message v w k l o p e =
    let d = delivered-message part message (present_session v) (present_session w) (first_number v) (first_number w) v w (facts-at v (Message part) k o) (facts-at w (Message part) l p) o e in
    (o ∙ ap Message (sym d.0), d.1)
delivered-by (Opening number) message v w k l o p e =
    let f : OpeningFacts number (present_session w) w = facts-at w (Opening number) l p in
    absurd (omega (arith, ap (λ (x : Session). length x.delivered) (sym e ∙ f.nothing_yet), length-append (present_session v).delivered (message ∷ [])))

pub delivered-is : (v w : Delivery) (message : List ℕ) → IsKept v → IsKept w → IsSameIn v w → lists_of w ≡ one_delivered (lists_of v) message → IsDelivered v w message
delivered-is v w message k l o e =
    let p : present_session w ≡ with_delivered (present_session v) message = ap present_session e ∙ present-delivered (lists_of v) message k.divided.0 in
    let d = delivered-by (outstanding_in v) message v w k l refl o p in
    record {
      outstanding = d.0;
      before = d.1;
      after = omega (arith, ap (λ (x : Session). length x.delivered) p, length-append (present_session v).delivered (message ∷ []), ap (λ (x : Session). x.acknowledged) p, d.1);
    }

-- A message is acknowledged: it had arrived.
pub acknowledged-is : (v w : Delivery) → IsKept v → IsKept w
    → outstanding_in w ≡ Nothing → lists_of w ≡ one_acknowledged (lists_of v) → length (present_session v).delivered ≡ (present_session v).acknowledged + 1
acknowledged-is v w k l o e =
    let p : present_session w ≡ with_acknowledged (present_session v) = ap present_session e ∙ present-acknowledged (lists_of v) k.divided.0 in
    sym (ap (λ (x : Session). length x.delivered) p) ∙ quiet-counts w l o ∙ ap (λ (x : Session). x.acknowledged) p

-- The session is open: the opening packet had arrived.
pub opened-is : (number : ℕ) (v w : Delivery) → IsKept v → IsKept w → outstanding_in v ≡ Opening number → outstanding_in w ≡ Nothing → w.outbound.sender.next ≡ (number + 1) % 8 → HasSameLast v w →
    lists_of w ≡ lists_of v → v.inbound.receiver.last ≡ number
unfolding FactsBy
opened-is number v w k l o p n s e =
    let f : OpeningFacts number (present_session v) v = facts-at v (Opening number) k o in
    let g : SessionFacts (first_number w) (present_session w) w = facts-at w Nothing l p in
    let none = ap present_session e ∙ f.nothing_yet in
    let delivered = ap (λ (x : Session). length x.delivered) none in
    let acknowledged = ap (λ (x : Session). x.acknowledged) none in
    elim f.place [
      | inl (is, kept) ↦ is
      | inr (inl is) ↦ absurd (omega (arith, is, s, g.last, g.number, n, delivered, acknowledged))
      | inr (inr is) ↦ absurd (omega (arith, is, s, g.last, g.number, n, delivered, acknowledged))
    ]

-- A session ends: V(R) is not yet that of its opening packet.

opening-is : (out : Outstanding) (next number : ℕ) (message : List ℕ) → out ≡ Message message → opening_number out next ≡ number → number ≡ (next + 4) % 8
unfolding opening_number
opening-is out next number message o n = cc

pub away : (b : ℕ) (s : Session) (v : Delivery) (number : ℕ) → IsDelivering b s v → v.outbound.sender.down ≡ true → is_opening (outstanding_in v) ≡ false →
    opening_number (outstanding_in v) v.outbound.sender.next ≡ number → v.inbound.receiver.last ≡ number → ⊥
away b s v number (quiet last q) d i n l = absurd (cc (d, q.up))
away b s v number (busy at message h) d i n l =
    let is = opening-is (outstanding_in v) v.outbound.sender.next number message h.outstanding n in
    elim h.place [
      | inl p ↦ absurd (omega (arith, l, is, h.next, h.small, p.sync, p.last_small))
      | inr p ↦ absurd (omega (arith, l, is, h.next, h.small, p.last_is))
    ]
away b s v number (opening at h) d i n l = absurd (cc (i, ap is_opening h.outstanding))

-- The opening packet is received: no message is outstanding.

unfoldable pub IsNoMessage : Outstanding → Type 0
IsNoMessage (Message message) = ⊥
IsNoMessage other = Unit {0}

pub no-message : (b : ℕ) (s : Session) (v : Delivery) (packet : ConfirmedParts)
    → IsDelivering b s v → IsHeardOf v.packet_sent (Confirmed packet) → head_syn packet.head ≡ true → IsNoMessage (outstanding_in v)
unfolding IsNoMessage
no-message b s v packet (quiet last q) heard syn = rw q.outstanding tt
no-message b s v packet (busy number message h) heard syn =
    let d = newest v.packet_sent (IsDataOf number message) heard.sent h.packet_sent heard.newest_is in
    let p = data-heard number message heard.sent (Confirmed packet) h.small h.short d heard.true_to in
    absurd (cc (p.1, p.2.syn, syn))
no-message b s v packet (opening number h) heard syn = rw h.outstanding tt
