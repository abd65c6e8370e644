-- The responses of a receiver to the packets of a clean delivery. By the rules, each test decided by the contents of the packet.
use Rattle.std.proofs.Common.{◌≡◌, ℕ, ◌+◌, ◌%◌, ◌<◌, ◌⊎◌, inl, inr, Bool, true, false, cond, eqb, ◌&&◌, List, [], ◌∷◌, length, get_or, Option, Some, None, refl, ap, ap₂, sym, ◌∙◌, subst, arith}
use Rattle.std.proofs.{lemmas.List.{get_or-replicate, length-replicate}, lemmas.Option.{slice_get-get_or}, lemmas.Bool.{cases_eq, cond-true, cond-false, and_from, eq-eqb, ne_eqb}}
use Rattle.std.specs.Prelude.{slice_get, IfSome}
use Rattle.p25_packet_blocks.specs.{Heads.{head_is_full, head_blocks, head_pad, head_llid, head_syn, head_number, opening_head}, Parts.{BlockParts}, ConfirmedParts.{ConfirmedParts}}
use Rattle.p25_packet_blocks.specs.{declared.block.Slot.{Slot}, declared.block.Slot.TheVariants.{Good, Bad}, declared.packet.Packet.TheVariants.{Confirmed}}
use Rattle.p25_delivery.specs.{MessageBlocks.{block_count, pad_count, message_octets, message_block, unpadded}, Places.{put_block, put_slots, all_octets, held_flags, AreBlocksOf}}
use Rattle.p25_delivery.specs.{SentPackets.{ack_packet, retry_packet}, Halves.{Keeping, Receiving}}
use Rattle.p25_delivery.specs.{ReceiverRules.{empty_places, keeping_full, keeping_for, finished, completed, filled, opening_heard, data_heard, receiver_heard}, Facts.{KeepsOf}}
use Rattle.p25_messages.specs.{declared.answers.Heard.{Heard}, declared.answers.Heard.TheVariants.{Delivered, Opened, Again, Kept, Ignored}}
use Rattle.p25_delivery.proofs.{PlacesLaws.{length-put_block, length-put_slots, all_octets-empty}, CarriedLaws.{put_block-here, put_block-other, places-of_message, message-read_back}}
use Rattle.p25_delivery.proofs.{HeadLaws.{opening_head-llid, opening_head-syn, opening_head-number, opening_head-blocks}, SentLaws.{CarriesData}}

-- empty entries hold nothing
empty-keeps : (message : List ℕ) → KeepsOf message (empty_places (block_count (length message)) (pad_count (length message)))
empty-keeps message = record {
  count = length-replicate (block_count (length message)) None;
  pad_is = refl;
  held = λ (j : ℕ) (h : j < block_count (length message)). inl (get_or-replicate (block_count (length message)) j None None h);
}

-- an entry holds no block or its block of the message, also after a block of the message is stored
put_block-keeps : (message : List ℕ) (places : List (Option BlockParts)) (block : BlockParts) (j : ℕ) → j < length places → block ≡ message_block message block.serial → (get_or places j None ≡ None) ⊎
    (get_or places j None ≡ Some (message_block message j)) → (get_or (put_block places block) j None ≡ None) ⊎ (get_or (put_block places block) j None ≡ Some (message_block message j))
put_block-keeps message places block j h b held =
    elim (cases_eq block.serial j) [
      | inl e ↦ inr (cc (put_block-here places block j h e))
      | inr n ↦ elim held [ inl e ↦ inl (put_block-other places block j n ∙ e) | inr e ↦ inr (put_block-other places block j n ∙ e) ]
    ]

put_slots-keeps : (message : List ℕ) (slots : List Slot) (places : List (Option BlockParts)) (j : ℕ)
    → j < length places → AreBlocksOf message slots → (get_or places j None ≡ None) ⊎ (get_or places j None ≡ Some (message_block message j)) →
    (get_or (put_slots places slots) j None ≡ None) ⊎ (get_or (put_slots places slots) j None ≡ Some (message_block message j))
unfolding AreBlocksOf put_slots
put_slots-keeps message [] places j h are held = held
put_slots-keeps message (Bad ∷ slots) places j h are held = put_slots-keeps message slots places j h are held
put_slots-keeps message (Good block ∷ slots) places j h are held =
    put_slots-keeps message slots (put_block places block) j (omega (arith, length-put_block places block)) are.1 (put_block-keeps message places block j h are.0 held)

slots-keep : (message : List ℕ) (slots : List Slot) (kept : Keeping)
    → AreBlocksOf message slots → KeepsOf message kept → KeepsOf message (record { places = put_slots kept.places slots; pad = kept.pad })
slots-keep message slots kept are k = record {
  count = length-put_slots kept.places slots ∙ k.count;
  pad_is = k.pad_is;
  held = λ (j : ℕ) (h : j < block_count (length message)). put_slots-keeps message slots kept.places j (omega (arith, k.count)) are (k.held j h);
}

-- if no entry is empty, they hold the message
whole-places : (message : List ℕ) (kept : Keeping) (octets : List ℕ) → KeepsOf message kept → all_octets kept.places ≡ Some octets → unpadded octets kept.pad ≡ Some message
whole-places message kept octets k e =
    let each : (j : ℕ) → j < block_count (length message) → get_or kept.places j None ≡ Some (message_block message j)
    = λ (j : ℕ) (h : j < block_count (length message)).
    elim (k.held j h) [
      | inl empty ↦
          (let here : slice_get kept.places j ≡ Some None = cc (slice_get-get_or kept.places j None (omega (arith, k.count))) in
          let gone : None ≡ Some octets = cc (all_octets-empty kept.places j here) in
          cc)
      | inr held ↦ held
    ] in
    let all : Some octets ≡ Some (message_octets message) = sym e ∙ places-of_message message kept.places k.count each in
    let same : octets ≡ message_octets message = cc in
    cc (message-read_back message)

-- the blocks kept while a packet of the message is received
keeping-keeps : (message : List ℕ) (kept : Option Keeping) → IfSome kept (KeepsOf message) → KeepsOf message (keeping_full kept (block_count (length message)) (pad_count (length message)))
unfolding keeping_full
keeping-keeps message None k = empty-keeps message
keeping-keeps message (Some kept) k =
    let same : (eqb (length kept.places) (block_count (length message)) && eqb kept.pad (pad_count (length message))) ≡ true
    = and_from _ _ (eq-eqb (length kept.places) (block_count (length message)) k.count) (eq-eqb kept.pad (pad_count (length message)) k.pad_is) in
    rw (cond-true _ kept (empty_places (block_count (length message)) (pad_count (length message))) same) k

kept-by_full : (message : List ℕ) (kept : Option Keeping) (number : ℕ) (packet : ConfirmedParts) (full : Bool)
    → CarriesData number message packet → IfSome kept (KeepsOf message) → head_is_full packet.head ≡ full →
    IfSome (cond full (cond (eqb (head_blocks packet.head) 0) None (Some (keeping_full kept (head_blocks packet.head) (head_pad packet.head)))) kept) (KeepsOf message)
kept-by_full message kept number packet false c k e = k
kept-by_full message kept number packet true c k e =
    let blocks = c.full e in
    let some : eqb (head_blocks packet.head) 0 ≡ false = ne_eqb (head_blocks packet.head) 0 (λ z. absurd (omega (arith, z, blocks))) in
    let is : cond (eqb (head_blocks packet.head) 0) None (Some (keeping_full kept (head_blocks packet.head) (head_pad packet.head)))
    ≡ Some (keeping_full kept (block_count (length message)) (pad_count (length message)))
    = cc (cond-false _ None (Some (keeping_full kept (head_blocks packet.head) (head_pad packet.head))) some) in
    rw is (keeping-keeps message kept k)

keeping_for-keeps : (message : List ℕ) (kept : Option Keeping) (number : ℕ) (packet : ConfirmedParts)
    → CarriesData number message packet → IfSome kept (KeepsOf message) → IfSome (keeping_for kept packet.head) (KeepsOf message)
unfolding keeping_for
keeping_for-keeps message kept number packet c k = kept-by_full message kept number packet (head_is_full packet.head) c k refl

-- the result of a receiver for blocks of the next message
pub data HearsNext (r : Receiving) (number : ℕ) (message : List ℕ) (x : Receiving × Heard) : Type 0 where
  ignores : x ≡ (r, Ignored) → HearsNext r number message x
  keeps : (kept : Keeping) → KeepsOf message kept → x ≡ (
    record { last = r.last; kept = Some kept },
    Kept number (held_flags kept.places) (retry_packet number (held_flags kept.places)),
  ) → HearsNext r number message x
  delivers : x ≡ (record { last = number; kept = None }, Delivered number message (ack_packet number)) → HearsNext r number message x

hears-completed : (r : Receiving) (number : ℕ) (message : List ℕ) (kept : Keeping) (found : Option (List ℕ))
    → KeepsOf message kept → all_octets kept.places ≡ found → HearsNext r number message (completed r number kept found)
unfolding completed finished
hears-completed r number message kept None k e = keeps kept k refl
hears-completed r number message kept (Some octets) k e =
    let is : unpadded octets kept.pad ≡ Some message = whole-places message kept octets k e in
    delivers (ap (finished r number) is)

hears-filled : (r : Receiving) (number : ℕ) (message : List ℕ) (packet : ConfirmedParts) (kept : Option Keeping)
    → CarriesData number message packet → IfSome kept (KeepsOf message) → HearsNext r number message (filled r packet kept)
unfolding filled
hears-filled r number message packet None c k = ignores refl
hears-filled r number message packet (Some kept) c k =
    let now : Keeping = record { places = put_slots kept.places packet.slots; pad = kept.pad } in
    rw c.number_is (hears-completed r number message now (all_octets now.places) (slots-keep message packet.slots kept c.blocks k) refl)

-- a packet of data is not one with Syn
pub data-is_heard : (r : Receiving) (number : ℕ) (message : List ℕ) (packet : ConfirmedParts) → CarriesData number message packet → receiver_heard r (Confirmed packet) ≡ data_heard r packet
unfolding receiver_heard
data-is_heard r number message packet c =
    cond-true _ (cond (head_syn packet.head) (opening_heard r packet.head) (data_heard r packet)) (r, Ignored) (eq-eqb (head_llid packet.head) 1 c.llid)
    ∙ cond-false _ (opening_heard r packet.head) (data_heard r packet) c.syn

-- blocks of the next message
pub next-heard : (r : Receiving) (number : ℕ) (message : List ℕ) (packet : ConfirmedParts)
    → r.last < 8 → (r.last + 1) % 8 ≡ number → IfSome r.kept (KeepsOf message) → CarriesData number message packet →
    HearsNext r number message (receiver_heard r (Confirmed packet))
unfolding data_heard
next-heard r number message packet small sync kept c =
    let other : eqb (head_number packet.head) r.last ≡ false = ne_eqb (head_number packet.head) r.last (λ e. absurd (omega (arith, e, sync, c.number_is, small))) in
    let next : eqb (head_number packet.head) ((r.last + 1) % 8) ≡ true = eq-eqb (head_number packet.head) ((r.last + 1) % 8) (cc) in
    let is : receiver_heard r (Confirmed packet) ≡ filled r packet (keeping_for r.kept packet.head)
    = data-is_heard r number message packet c ∙ cond-false _ _ _ other ∙ cond-true _ _ _ next in
    rw is (hears-filled r number message packet (keeping_for r.kept packet.head) c (keeping_for-keeps message r.kept number packet c kept))

-- blocks of the last message again
pub last-heard : (r : Receiving) (number : ℕ) (message : List ℕ) (packet : ConfirmedParts)
    → r.last ≡ number → CarriesData number message packet → receiver_heard r (Confirmed packet) ≡ (r, Again r.last (ack_packet r.last))
unfolding data_heard
last-heard r number message packet last c =
    data-is_heard r number message packet c ∙ cond-true _ _ _ (eq-eqb (head_number packet.head) r.last (cc))

-- an opening packet
pub opening-is_heard : (r : Receiving) (number : ℕ) (packet : ConfirmedParts) → number < 8 → packet.head ≡ opening_head 1 number →
    receiver_heard r (Confirmed packet) ≡ (record { last = number; kept = None }, Opened number (ack_packet number))
unfolding receiver_heard opening_heard
opening-is_heard r number packet small e =
    let llid : head_llid packet.head ≡ 1 = cc (opening_head-llid number) in
    let syn : head_syn packet.head ≡ true = cc (opening_head-syn number small) in
    let none : head_blocks packet.head ≡ 0 = cc (opening_head-blocks number) in
    let is : head_number packet.head ≡ number = cc (opening_head-number number small) in
    cc (cond-true _ _ _ (eq-eqb (head_llid packet.head) 1 llid), cond-true _ _ _ syn, cond-true _ _ _ (eq-eqb (head_blocks packet.head) 0 none))
