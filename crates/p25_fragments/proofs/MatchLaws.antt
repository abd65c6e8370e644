-- The match of the long messages of the present session with its delivery: by the outstanding packet, and by whether it has arrived.
use Rattle.std.proofs.Common.{◌≡◌, ℕ, ◌+◌, ◌<◌, ◌≤◌, List, [], ◌∷◌, ◌++◌, length, Option, Some, None, ap, sym, subst, ◌∙◌, arith, length-append, append-nil}
use Rattle.p25_messages.specs.LongMessages.{part_count, part_of}
use Rattle.p25_delivery.specs.{declared.sender.Outstanding.{Outstanding}, declared.sender.Outstanding.TheVariants.{Nothing, Message, Opening}}
use Rattle.p25_delivery.specs.{Delivery.{Delivery, Session, empty_session, present_session}, Orderly.{IsOrderly}}
use Rattle.p25_fragments.specs.{declared.long_stations.OutstandingPart.{OutstandingPart}, Joining.{Joining, first_joining}}
use Rattle.p25_fragments.proofs.JoinLaws.{joined_at}

-- whether the outstanding part has arrived, by the numbers of messages delivered and acknowledged: the state of the joiner then, and the whole messages after
-- the long messages before
pub data Came (message : List ℕ) (number : ℕ) (earlier : List (List ℕ)) (delivered acknowledged : ℕ) (j : Joining) (whole : List (List ℕ)) : Type 0 where
  not_yet : delivered ≡ acknowledged → whole ≡ earlier → j ≡ joined_at message number → Came message number earlier delivered acknowledged j whole
  came_inner : delivered ≡ acknowledged + 1 → number + 1 < part_count (length message)
      → whole ≡ earlier → j ≡ joined_at message (number + 1) → Came message number earlier delivered acknowledged j whole
  came_last : delivered ≡ acknowledged + 1 → number + 1 ≡ part_count (length message) → whole ≡ earlier ++ message ∷ [] → j ≡ first_joining → Came message number earlier delivered acknowledged j whole

-- while nothing is outstanding
pub record IsIdleLong (out : Option OutstandingPart) (j : Joining) (p : Session) : Type 0 where
  pub out_is : out ≡ None
  pub joining_is : j ≡ first_joining
  pub whole_is : p.delivered ≡ p.sent
  pub acknowledged_is : p.acknowledged ≡ length p.sent

-- while a part is outstanding: the facts that do not change when it arrives
pub record IsPartOf (part : List ℕ) (out : Option OutstandingPart) (p : Session) : Type 0 where
  pub message : List ℕ
  pub number : ℕ
  pub earlier : List (List ℕ)
  pub out_is : out ≡ Some (record { message = message; number = number })
  pub part_is : part ≡ part_of message number
  pub short : length message ≤ 4000
  pub below : number < part_count (length message)
  pub sent_is : p.sent ≡ earlier ++ message ∷ []
  pub acknowledged_is : p.acknowledged ≡ length earlier

pub record IsSendingLong (part : List ℕ) (s : Session) (out : Option OutstandingPart) (j : Joining) (p : Session) : Type 0 where
  pub of : IsPartOf part out p
  pub came : Came of.message of.number of.earlier (length s.delivered) s.acknowledged j p.delivered

-- while the opening packet is outstanding
pub record IsOpeningLong (number last : ℕ) (out : Option OutstandingPart) (j : Joining) (p : Session) : Type 0 where
  pub out_is : out ≡ None
  pub session_is : p ≡ empty_session
  pub joining_is : last ≡ number → j ≡ first_joining

-- the outstanding packet with V(R) and the present session of the delivery, and the long messages that match it
unfoldable pub MatchesBy : Outstanding → ℕ → Session → Option OutstandingPart → Joining → Session → Type 0
MatchesBy Nothing last s out j p = IsIdleLong out j p
MatchesBy (Message part) last s out j p = IsSendingLong part s out j p
MatchesBy (Opening number) last s out j p = IsOpeningLong number last out j p

abbrev pub MatchesAs : Delivery → Outstanding → Option OutstandingPart → Joining → Session → Type 0
MatchesAs v o out j p = MatchesBy o v.inbound.receiver.last (present_session v) out j p

abbrev pub Matches : Delivery → Option OutstandingPart → Joining → Session → Type 0
Matches v out j p = MatchesAs v v.outbound.sender.outstanding out j p

pub matches-at : (v : Delivery) (o : Outstanding) (out : Option OutstandingPart) (j : Joining) (p : Session) → v.outbound.sender.outstanding ≡ o → Matches v out j p → MatchesAs v o out j p
matches-at v o out j p e m = rw e at m

pub matches-from : (v : Delivery) (o : Outstanding) (out : Option OutstandingPart) (j : Joining) (p : Session) → v.outbound.sender.outstanding ≡ o → MatchesAs v o out j p → Matches v out j p
matches-from v o out j p e m = rw e m

-- So the present session is orderly.

whole-orderly : (p : Session) → p.delivered ≡ p.sent → p.acknowledged ≤ length p.sent → length p.sent ≤ p.acknowledged + 1 → IsOrderly p
whole-orderly p d a m = record { rest = []; beginning = cc (append-nil p.delivered); acknowledged = omega (arith, ap length d); delivered = omega (arith, ap length d) }

earlier-orderly : (p : Session) (message : List ℕ) (earlier : List (List ℕ)) → p.delivered ≡ earlier → p.sent ≡ earlier ++ message ∷ [] → p.acknowledged ≡ length earlier → IsOrderly p
earlier-orderly p message earlier d e a = record {
  rest = message ∷ [];
  beginning = cc;
  acknowledged = omega (arith, a, ap length d);
  delivered = omega (arith, a, ap length d);
}

came-orderly : (message : List ℕ) (number : ℕ) (earlier : List (List ℕ)) (delivered acknowledged : ℕ) (j : Joining) (p : Session) → p.sent ≡ earlier ++ message ∷ [] → p.acknowledged ≡ length earlier →
    Came message number earlier delivered acknowledged j p.delivered → IsOrderly p
came-orderly message number earlier delivered acknowledged j p e a (not_yet c w i) = earlier-orderly p message earlier w e a
came-orderly message number earlier delivered acknowledged j p e a (came_inner c n w i) = earlier-orderly p message earlier w e a
came-orderly message number earlier delivered acknowledged j p e a (came_last c n w i) =
    let count : length p.sent ≡ length earlier + 1 = cc (length-append earlier (message ∷ [])) in
    whole-orderly p (cc) (omega (arith, a, count)) (omega (arith, a, count))

pub orderly-matches : (o : Outstanding) (last : ℕ) (s : Session) (out : Option OutstandingPart) (j : Joining) (p : Session) → MatchesBy o last s out j p → IsOrderly p
unfolding MatchesBy
orderly-matches Nothing last s out j p m = whole-orderly p m.whole_is (omega (arith, m.acknowledged_is)) (omega (arith, m.acknowledged_is))
orderly-matches (Message part) last s out j p m = came-orderly m.of.message m.of.number m.of.earlier (length s.delivered) s.acknowledged j p m.of.sent_is m.of.acknowledged_is m.came
orderly-matches (Opening number) last s out j p m =
    whole-orderly p (cc) (omega (arith, ap (λ (x : Session). x.acknowledged) m.session_is))
    (omega (arith, ap (λ (x : Session). length x.sent) m.session_is))
