-- Each step of the inner world in a clean run keeps the long messages matched to the delivery, and refuses no part: also if a part is delivered, or
-- acknowledged. By the outstanding packet.
use Rattle.std.proofs.Common.{◌≡◌, ℕ, ◌+◌, ◌*◌, ◌<◌, ◌≤◌, ◌⊎◌, inl, inr, Bool, true, false, List, [], ◌∷◌, ◌++◌, length, drop, Option, Some, None, refl, ap, ap₂, sym, subst, ◌∙◌, arith, length-append}
use Rattle.std.proofs.{lemmas.Bool.{cond-true, cond-false}, lemmas.Bool.Decides.{nat_tests}, lemmas.List.{length-take}}
use Rattle.std.specs.Prelude.{nat_lt}
use Rattle.p25_messages.specs.{LongMessages.{part_count, part_of}, declared.step_kind.StepKind.{StepKind}, declared.step_kind.StepKind.TheVariants.{Acknowledged, Delivered}}
use Rattle.p25_delivery.specs.{declared.sender.Outstanding.TheVariants.{Nothing, Message}, Delivery.{Delivery, Session, present_session, first_number, Happening, Offering}}
use Rattle.p25_delivery.specs.Orderly.{IsClean, IsOrderly}
use Rattle.p25_delivery.proofs.{DeliveryLaws.{happens-kept}, SessionLaws.{divided-delivered, divided-acknowledged, present-sent, present-delivered, present-acknowledged}, PhaseLaws.{IsKept}}
use Rattle.p25_stations.specs.{declared.step.Event.TheVariants.{Send}, declared.step.Step.{Step}, WorldState.{WorldState}, Steps.{world_step}}
use Rattle.p25_fragments.specs.{declared.long_stations.OutstandingPart.{OutstandingPart}, declared.joiner.Joined.{Joined}}
use Rattle.p25_fragments.specs.{declared.joiner.Joined.TheVariants.{Whole as JoinedWhole, Part as JoinedPart}, declared.long_step.Then.{Then}, Joining.{Joining, first_joining, message_taken}}
use Rattle.p25_fragments.specs.{LongState.{LongState, long_delivery}, LongSteps.{next_offered, after_acknowledged, after_delivered, after_kind, inner_happened}}
use Rattle.p25_fragments.proofs.{JoinLaws.{joined_at, join-inner, join-last}, OfferLaws.{send-taken}}
use Rattle.p25_fragments.proofs.MoveLaws.{outstanding_in, Moves, moves_nothing, ends, delivers, hears_opening, acknowledges, opens_session}
use Rattle.p25_fragments.proofs.CleanMoveLaws.{quiet-counts, IsDelivered, delivered-is, acknowledged-is, opened-is, away, no-message}
use Rattle.p25_fragments.proofs.MatchLaws.{Came, not_yet, came_inner, came_last, IsPartOf, IsSendingLong, MatchesBy, matches-at, matches-from}
use Rattle.p25_fragments.proofs.FollowsLaws.{present, Follows, FollowsStep, FollowsThen, on, nothing-follows, opened-follows, syn-follows, ended-follows}

-- A part is delivered.

next-or-last : (number count : ℕ) → number < count → (number + 1 < count) ⊎ (number + 1 ≡ count)
next-or-last number count h =
    let by : (b : Bool) → nat_lt (number + 1) count ≡ b → (number + 1 < count) ⊎ (number + 1 ≡ count)
    = λ (b : Bool). elim b as (λ (c : Bool). nat_lt (number + 1) count ≡ c → (number + 1 < count) ⊎ (number + 1 ≡ count)) [
      | true ↦ λ (e : nat_lt (number + 1) count ≡ true). inl (grind (arith, nat_tests))
      | false ↦ λ (e : nat_lt (number + 1) count ≡ false). inr (grind (arith, nat_tests))
    ] in
    by (nat_lt (number + 1) count) refl

-- the state of the joiner before, if the part had not arrived
held-before : (message : List ℕ) (number : ℕ) (earlier : List (List ℕ)) (delivered acknowledged : ℕ) (j : Joining) (whole : List (List ℕ))
    → delivered ≡ acknowledged → Came message number earlier delivered acknowledged j whole →
    (whole ≡ earlier) × (j ≡ joined_at message number)
held-before message number earlier d a j whole c (not_yet e w i) = (w, i)
held-before message number earlier d a j whole c (came_inner e n w i) = absurd (omega (arith, c, e))
held-before message number earlier d a j whole c (came_last e n w i) = absurd (omega (arith, c, e))

-- a part of a long message that is outstanding, once the joiner takes it
TakesPart : LongState → WorldState → List ℕ → Type 0
TakesPart w inner part = FollowsThen (after_delivered (record w { inner = inner }) (message_taken w.joining part))

takes-inner : (w : LongState) (inner : WorldState) (part : List ℕ) → Follows w → IsKept inner.delivery → outstanding_in inner.delivery ≡ Message part →
    length (present_session inner.delivery).delivered ≡ (present_session inner.delivery).acknowledged + 1 →
    (m : IsPartOf part w.outstanding (present w)) → (present w).delivered ≡ m.earlier → w.joining ≡ joined_at m.message m.number → m.number + 1 < part_count (length m.message) → TakesPart w inner part
unfolding TakesPart MatchesBy after_delivered
takes-inner w inner part f k o c m d j n =
    let now : LongState = record w { inner = inner } in
    let taken : message_taken w.joining part ≡ (joined_at m.message (m.number + 1), JoinedPart m.number)
    = cc (join-inner m.message m.number m.short n) in
    let matches = matches-from inner.delivery (Message part) w.outstanding (joined_at m.message (m.number + 1)) (present w) o (record { of = m; came = came_inner c n d refl }) in
    rw taken (record { follows = record { kept = k; divided = f.divided; matches = matches }; unrefused = λ q. absurd (cc) })

takes-last : (w : LongState) (inner : WorldState) (part : List ℕ) → Follows w → IsKept inner.delivery → outstanding_in inner.delivery ≡ Message part
    → length (present_session inner.delivery).delivered ≡ (present_session inner.delivery).acknowledged + 1 →
    (m : IsPartOf part w.outstanding (present w)) → (present w).delivered ≡ m.earlier → w.joining ≡ joined_at m.message m.number → m.number + 1 ≡ part_count (length m.message) → TakesPart w inner part
unfolding TakesPart MatchesBy after_delivered
takes-last w inner part f k o c m d j n =
    let now : LongState = record w { inner = inner } in
    let to : LongState = record now { joining = first_joining; whole = w.whole ++ m.message ∷ [] } in
    let taken : message_taken w.joining part ≡ (first_joining, JoinedWhole m.message) = cc (join-last m.message m.number m.short n) in
    let more = present-delivered (long_delivery w) m.message f.divided.0 in
    let of : IsPartOf part w.outstanding (present to)
    = record {
      message = m.message;
      number = m.number;
      earlier = m.earlier;
      out_is = m.out_is;
      part_is = m.part_is;
      short = m.short;
      below = m.below;
      sent_is = cc;
      acknowledged_is = cc;
    } in
    let whole = ap (λ (x : Session). x.delivered) more ∙ ap (λ (xs : List (List ℕ)). xs ++ m.message ∷ []) d in
    let matches = matches-from inner.delivery (Message part) w.outstanding first_joining (present to) o (record { of = of; came = came_last c n whole refl }) in
    rw taken (record { follows = record { kept = k; divided = divided-delivered IsOrderly (long_delivery w) m.message f.divided; matches = matches }; unrefused = λ q. absurd (cc) })

takes-part : (w : LongState) (inner : WorldState) (part : List ℕ)
    → Follows w → IsKept inner.delivery → outstanding_in inner.delivery ≡ outstanding_in w.inner.delivery → IsDelivered w.inner.delivery inner.delivery part
    → TakesPart w inner part
unfolding MatchesBy
takes-part w inner part f k o d =
    let v = w.inner.delivery in
    let m : IsSendingLong part (present_session v) w.outstanding w.joining (present w) = matches-at v (Message part) w.outstanding w.joining (present w) d.outstanding f.matches in
    let held = held-before m.of.message m.of.number m.of.earlier (length (present_session v).delivered) (present_session v).acknowledged w.joining (present w).delivered d.before m.came in
    elim (next-or-last m.of.number (part_count (length m.of.message)) m.of.below) [
      | inl n ↦ takes-inner w inner part f k (o ∙ d.outstanding) d.after m.of held.0 held.1 n
      | inr n ↦ takes-last w inner part f k (o ∙ d.outstanding) d.after m.of held.0 held.1 n
    ]

delivered-then : (w : LongState) (inner : WorldState) (kind : StepKind) (number : ℕ) (part : List ℕ)
    → kind ≡ Delivered number part → TakesPart w inner part → FollowsThen (after_kind kind (record w { inner = inner }))
unfolding TakesPart after_kind
delivered-then w inner kind number part k t = rw k t

-- A part is offered.

-- the world after the offer of a part, if nothing was outstanding
pub record OfferedTo (part : List ℕ) (x : WorldState) : Type 0 where
  pub kept : IsKept x.delivery
  pub outstanding : outstanding_in x.delivery ≡ Message part
  pub counted : length (present_session x.delivery).delivered ≡ (present_session x.delivery).acknowledged

part-short : (message : List ℕ) (number : ℕ) → length (part_of message number) ≤ 2028
unfolding part_of
part-short message number = omega (arith, length-take 500 (drop (500 * number) message))

kept-offer : (inner : WorldState) (part : List ℕ) → length part ≤ 2028 → IsKept inner.delivery → IsKept (world_step inner (Send part)).0.delivery
unfolding world_step IsClean
kept-offer inner part short k = happens-kept inner.delivery (Offering part) k short

pub offered-to : (inner : WorldState) (message : List ℕ) (number : ℕ) → IsKept inner.delivery → outstanding_in inner.delivery ≡ Nothing → inner.delivery.outbound.sender.down ≡ false →
    OfferedTo (part_of message number) (world_step inner (Send (part_of message number))).0
offered-to inner message number k o up =
    let part = part_of message number in
    let sent = send-taken inner part up o in
    let more = ap (λ (x : WorldState × Step). present_session x.0.delivery) sent ∙ present-sent inner.delivery part k.divided.0 in
    record {
      kept = kept-offer inner part (part-short message number) k;
      outstanding = ap (λ (x : WorldState × Step). outstanding_in x.0.delivery) sent;
      counted = ap (λ (x : Session). length x.delivered) more ∙ quiet-counts inner.delivery k o ∙ sym (ap (λ (x : Session). x.acknowledged) more);
    }

-- A part is acknowledged.

-- the state of the joiner after the part
held-after : (message : List ℕ) (number : ℕ) (earlier : List (List ℕ)) (delivered acknowledged : ℕ) (j : Joining) (whole : List (List ℕ))
    → delivered ≡ acknowledged + 1 → Came message number earlier delivered acknowledged j whole →
    ((number + 1 < part_count (length message)) × (whole ≡ earlier) × (j ≡ joined_at message (number + 1)))
    ⊎ ((number + 1 ≡ part_count (length message)) × (whole ≡ earlier ++ message ∷ []) × (j ≡ first_joining))
held-after message number earlier d a j whole c (not_yet e w i) = absurd (omega (arith, c, e))
held-after message number earlier d a j whole c (came_inner e n w i) = inl (n, w, i)
held-after message number earlier d a j whole c (came_last e n w i) = inr (n, w, i)

-- the next part is offered
next-then : (w : LongState) (inner : WorldState) (part : List ℕ) → Follows w → IsKept inner.delivery
    → outstanding_in inner.delivery ≡ Nothing → inner.delivery.outbound.sender.down ≡ false → (m : IsPartOf part w.outstanding (present w)) →
    m.number + 1 < part_count (length m.message) → (present w).delivered ≡ m.earlier → w.joining ≡ joined_at m.message (m.number + 1) →
    FollowsThen (after_acknowledged (Some (record { message = m.message; number = m.number })) (record w { inner = inner }))
unfolding MatchesBy after_acknowledged next_offered
next-then w inner part f k o up m n d j =
    let number = m.number + 1 in
    let next : OutstandingPart = record { message = m.message; number = number } in
    let offer = offered-to inner m.message number k o up in
    let x = world_step inner (Send (part_of m.message number)) in
    let test : nat_lt (m.number + 1) (part_count (length m.message)) ≡ true = grind (arith, nat_tests) in
    let matches = matches-from x.0.delivery (Message (part_of m.message number)) (Some next) w.joining (present w) offer.outstanding (record {
      of = record {
        message = m.message;
        number = number;
        earlier = m.earlier;
        out_is = refl;
        part_is = refl;
        short = m.short;
        below = n;
        sent_is = m.sent_is;
        acknowledged_is = m.acknowledged_is;
      };
      came = not_yet offer.counted d j;
    }) in
    let y : LongState × Then = next_offered (record w { inner = inner }) next x in
    let follows : FollowsThen y = record { follows = record { kept = offer.kept; divided = f.divided; matches = matches }; unrefused = λ q. absurd (cc) } in
    rw (cond-true _ y _ test) follows

-- the long message is acknowledged with its last part
finished-then : (w : LongState) (inner : WorldState) (part : List ℕ) → Follows w → IsKept inner.delivery → outstanding_in inner.delivery ≡ Nothing → (m : IsPartOf part w.outstanding (present w))
    → m.number + 1 ≡ part_count (length m.message) →
    (present w).delivered ≡ m.earlier ++ m.message ∷ [] → w.joining ≡ first_joining
    → FollowsThen (after_acknowledged (Some (record { message = m.message; number = m.number })) (record w { inner = inner }))
unfolding MatchesBy after_acknowledged
finished-then w inner part f k o m n d j =
    let to : LongState = record w { inner = inner; outstanding = None; acknowledged = w.acknowledged + 1 } in
    let more = present-acknowledged (long_delivery w) f.divided.0 in
    let sent = ap (λ (x : Session). x.sent) more in
    let count : length (present w).sent ≡ length m.earlier + 1 = cc (length-append m.earlier (m.message ∷ [])) in
    let test : nat_lt (m.number + 1) (part_count (length m.message)) ≡ false = grind (arith, nat_tests) in
    let matches = matches-from inner.delivery Nothing None w.joining (present to) o (record {
      out_is = refl;
      joining_is = j;
      whole_is = cc;
      acknowledged_is = omega (arith, ap (λ (x : Session). x.acknowledged) more, m.acknowledged_is, count, ap length sent);
    }) in
    let follows : Follows to = record { kept = k; divided = divided-acknowledged IsOrderly (long_delivery w) f.divided; matches = matches } in
    rw (cond-false _ _ _ test) (record { follows = follows; unrefused = λ q. absurd (cc) })

acknowledged-then : (w : LongState) (inner : WorldState) (kind : StepKind) (number : ℕ) (part : List ℕ)
    → Follows w → IsKept inner.delivery → kind ≡ Acknowledged number → outstanding_in w.inner.delivery ≡ Message part →
    length (present_session w.inner.delivery).delivered ≡ (present_session w.inner.delivery).acknowledged + 1 → outstanding_in inner.delivery ≡ Nothing → inner.delivery.outbound.sender.down ≡ false →
    FollowsThen (after_kind kind (record w { inner = inner }))
unfolding MatchesBy after_kind
acknowledged-then w inner kind number part f k is o c p up =
    let v = w.inner.delivery in
    let now : LongState = record w { inner = inner } in
    let m : IsSendingLong part (present_session v) w.outstanding w.joining (present w) = matches-at v (Message part) w.outstanding w.joining (present w) o f.matches in
    let gone : FollowsThen (after_acknowledged (Some (record { message = m.of.message; number = m.of.number })) now)
    = elim (held-after m.of.message m.of.number m.of.earlier (length (present_session v).delivered) (present_session v).acknowledged w.joining (present w).delivered c m.came) [
      | inl held ↦ next-then w inner part f k p up m.of held.0 held.1 held.2
      | inr held ↦ finished-then w inner part f k p m.of held.0 held.1 held.2
    ] in
    subst FollowsThen (sym (ap (λ (x : StepKind). after_kind x now) is)) (subst (λ (out : Option OutstandingPart). FollowsThen (after_acknowledged out now)) (sym m.of.out_is) gone)

-- Whatever happens at the delivery, but an offer.

pub moved-follows : (w : LongState) (inner : WorldState) (step : Step) (happening : Happening) → Follows w → IsKept inner.delivery → IsClean w.inner.delivery happening →
    Moves w.inner.delivery happening (inner.delivery, step.kind) → FollowsStep (inner_happened w (inner, step))
unfolding IsClean
moved-follows w inner step h f k c (moves_nothing p o l e) = nothing-follows w inner step f k p o l e
moved-follows w inner step h f k c (ends number p d i n o l e) =
    let v = w.inner.delivery in
    ended-follows w inner step number f k o (λ (last : inner.delivery.inbound.receiver.last ≡ number). away (first_number v) (present_session v) v number f.kept.delivering d i n (sym l ∙ last)) e
moved-follows w inner step h f k c (delivers number message is o e) =
    on w inner step (ap (λ (v : Delivery). v.outbound.marks) e) (delivered-then w inner step.kind number message is
    (takes-part w inner message f k o (delivered-is w.inner.delivery inner.delivery message f.kept k o e)))
moved-follows w inner step h f k c (hears_opening number packet heard syn is o e) =
    let v = w.inner.delivery in
    let true_to = subst (IsClean v) heard c in
    syn-follows w inner step number f k is (no-message (first_number v) (present_session v) v packet f.kept.delivering true_to syn) o e
moved-follows w inner step h f k c (acknowledges number message is o p up e) =
    on w inner step (ap (λ (v : Delivery). v.outbound.marks) e) (acknowledged-then w inner step.kind number message f k is o (acknowledged-is w.inner.delivery inner.delivery f.kept k p e) p up)
moved-follows w inner step h f k c (opens_session number p o q n l e) = opened-follows w inner step number f k p o (opened-is number w.inner.delivery inner.delivery f.kept k o q n l e) q e
