use Rattle.std.proofs.Common.{◌≡◌, ℕ, ◌+◌, ◌-◌, ◌≤◌, List, [], ◌∷◌, ◌++◌, length, ap, ap₂, ◌∙◌, arith}
use Rattle.std.specs.Prelude.{vec_len, vec_capacity}
use Rattle.p25_messages.specs.MessageList.{ListParts, AreEnds, room_for}
use Rattle.p25_messages.proofs.MessageListLaws.{pieces_between-push, AreEnds-push, room-less}
use Rattle.p25_messages.proofs.message_list.MessageListOf.push.Goals as goal

pub invariant_of-self : goal.invariant_of-self
invariant_of-self g c =
    let more = c.octets.result.now in
    let items : c.push.new.self.items ≡ c.self.inside.ends.items ++ c.len.result ∷ [] = rw c.unwrap-2.ensures at c.push.ensures.items in
    let count : c.extend_from_slice.new.self.len ≡ c.self.inside.octets.len + length more = rw c.unwrap.ensures at c.extend_from_slice.ensures.len in
    let last : c.len.result ≡ c.self.inside.octets.len + length more = c.len.ensures ∙ count in
    record {
      some = c.self.invariant.some;
      few = c.self.invariant.few;
      are = rw (items, last, count) (AreEnds-push 0 c.self.inside.ends.items c.self.inside.octets.len (length more) c.self.invariant.are);
    }

pub returns-clause-list : goal.returns-clause-list
returns-clause-list g c =
    let more = c.octets.result.now in
    let octets = c.self.inside.octets.items in
    let items : c.push.new.self.items ≡ c.self.inside.ends.items ++ c.len.result ∷ [] = rw c.unwrap-2.ensures at c.push.ensures.items in
    let all : c.extend_from_slice.new.self.items ≡ octets ++ more = rw c.unwrap.ensures at c.extend_from_slice.ensures.items in
    let count : c.extend_from_slice.new.self.len ≡ c.self.inside.octets.len + length more = rw c.unwrap.ensures at c.extend_from_slice.ensures.len in
    let last : c.len.result ≡ length octets + length more = c.len.ensures ∙ count ∙ ap (λ (n : ℕ). n + length more) c.self.inside.octets.ok.0 in
    let are : AreEnds 0 c.self.inside.ends.items (length octets) = rw (← c.self.inside.octets.ok.0) c.self.invariant.are in
    rw (items, last, all)
    (pieces_between-push 0 c.self.inside.ends.items octets more are
    ∙ ap₂ (λ (list : List (List ℕ)) (message : List ℕ). list ++ message ∷ []) (ap (λ (s : ListParts). s.list) c.self.view_is) c.octets.ensures.octets)

pub returns-clause-spare : goal.returns-clause-spare
returns-clause-spare g c =
    let octets = c.self.inside.octets in
    let now = c.extend_from_slice.new.self in
    let spare : room_for g.row.MOST octets c.self.inside.ends ≡ c.args.self.now.spare = ap (λ (s : ListParts). s.spare) c.self.view_is in
    let count : now.len ≡ octets.len + length c.octets.result.now = rw c.unwrap.ensures at c.extend_from_slice.ensures.len in
    let ends : c.push.new.self.len ≡ c.self.inside.ends.len + 1 = rw c.unwrap-2.ensures at c.push.ensures.len in
    let free = vec_capacity octets - vec_len octets in
    let left = vec_capacity now - vec_len now in
    let few : free ≤ left + g.row.MOST = omega (arith, count, c.octets.ensures.most, c.extend_from_slice.ensures.capacity) in
    omega (arith, spare, ends, room-less g.row.MOST free left c.self.invariant.some few, c.push.ensures.capacity)
