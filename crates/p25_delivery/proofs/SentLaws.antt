-- The packets that carry a message, and those that are true to one. By recursion on their slots.
use Rattle.std.proofs.Common.{◌≡◌, ℕ, zero, suc, ◌<◌, ◌≤◌, inl, inr, Bool, true, false, cond, List, [], ◌∷◌, ◌++◌, length, map, refl, ap, sym, ◌∙◌, subst, arith, length-append}
use Rattle.std.proofs.{lemmas.List.{map-append}, lemmas.Bool.{false≢true}}
use Rattle.std.specs.Prelude.{slice_index_or, nat_le}
use Rattle.p25_bits.specs.Numbers.{each_below, joined_below}
use Rattle.p25_bits.proofs.NumbersLaws.{each_below-zero, each_below-suc, joined_below-zero, joined_below-suc}
use Rattle.p25_packet_blocks.specs.{Heads.{head_is_full, head_blocks, head_pad, head_llid, head_syn, head_number, confirmed_head, response_head, opening_head}, FlagOctets.{flag_octets}}
use Rattle.p25_packet_blocks.specs.{Parts.{BlockParts, PlainParts}, ConfirmedParts.{ConfirmedParts}, declared.block.Slot.{Slot}, declared.block.Slot.TheVariants.{Good, Bad}}
use Rattle.p25_packet_blocks.specs.{declared.packet.Packet.{Packet}, declared.packet.Packet.TheVariants.{Confirmed, Plain}}
use Rattle.p25_delivery.specs.{MessageBlocks.{block_count, pad_count, message_block, message_blocks}, Places.{AreBlocksOf}}
use Rattle.p25_delivery.specs.{SentPackets.{good_slot, message_packet, wanted_slots, blocks_packet, opening_packet, short_response, ack_packet, retry_packet}, Facts.{IsDataOf}}
use Rattle.p25_delivery.specs.Orderly.{AreTrueSlots, IsTrueTo}
use Rattle.p25_delivery.proofs.HeadLaws.{confirmed_head-llid, confirmed_head-syn, confirmed_head-number, confirmed_head-pad, confirmed_head-blocks, confirmed_head-full}

-- the contents of such a packet, and those that are left if slots become `Bad`
pub record CarriesData (number : ℕ) (message : List ℕ) (packet : ConfirmedParts) : Type 0 where
  pub llid : head_llid packet.head ≡ 1
  pub syn : head_syn packet.head ≡ false
  pub number_is : head_number packet.head ≡ number
  pub pad : head_pad packet.head ≡ pad_count (length message)
  pub full : head_is_full packet.head ≡ true → head_blocks packet.head ≡ block_count (length message)
  pub blocks : AreBlocksOf message packet.slots

AreBlocksOf-append : (message : List ℕ) (xs ys : List Slot) → AreBlocksOf message xs → AreBlocksOf message ys → AreBlocksOf message (xs ++ ys)
unfolding AreBlocksOf
AreBlocksOf-append message [] ys a b = b
AreBlocksOf-append message (Bad ∷ xs) ys a b = AreBlocksOf-append message xs ys a b
AreBlocksOf-append message (Good block ∷ xs) ys a b = (a.0, AreBlocksOf-append message xs ys a.1 b)

one-block : (message : List ℕ) (serial : ℕ) → AreBlocksOf message (good_slot (message_block message serial) ∷ [])
unfolding AreBlocksOf message_block
one-block message serial = (refl, tt)

no-blocks : (message : List ℕ) → AreBlocksOf message []
unfolding AreBlocksOf
no-blocks message = tt

pub all-blocks : (message : List ℕ) (n : ℕ) → AreBlocksOf message (map good_slot (each_below n (message_block message)))
all-blocks message zero = rw (each_below-zero (message_block message)) (no-blocks message)
all-blocks message (suc n) =
    let split : map good_slot (each_below (suc n) (message_block message)) ≡ map good_slot (each_below n (message_block message)) ++ good_slot (message_block message n) ∷ []
    = cc (each_below-suc n (message_block message), map-append good_slot (each_below n (message_block message)) (message_block message n ∷ [])) in
    rw split (AreBlocksOf-append message
    (map good_slot (each_below n (message_block message))) (good_slot (message_block message n) ∷ []) (all-blocks message n) (one-block message n))

-- the slots that the block of a serial number adds to the requested ones
abbrev wanted_slot : List ℕ → List Bool → ℕ → List Slot
wanted_slot message wanted serial = cond (slice_index_or wanted serial false) (good_slot (message_block message serial) ∷ []) []

some-block : (message : List ℕ) (wanted : List Bool) (serial : ℕ) → AreBlocksOf message (wanted_slot message wanted serial) × (length (wanted_slot message wanted serial) ≤ 1)
some-block message wanted serial =
    elim (slice_index_or wanted serial false) as (λ (flag : Bool). AreBlocksOf message (cond flag (good_slot (message_block message serial) ∷ []) [])
    × (length (cond flag (good_slot (message_block message serial) ∷ []) []) ≤ 1)) [
      | true ↦ (one-block message serial, omega arith)
      | false ↦ (no-blocks message, omega arith)
    ]

some-blocks : (message : List ℕ) (wanted : List Bool) (n : ℕ) → AreBlocksOf message (joined_below n (wanted_slot message wanted)) × (length (joined_below n (wanted_slot message wanted)) ≤ n)
some-blocks message wanted zero =
    rw (joined_below-zero (wanted_slot message wanted)) (no-blocks message, omega arith)
some-blocks message wanted (suc n) =
    let before = some-blocks message wanted n in
    let more = some-block message wanted n in
    let xs = joined_below n (wanted_slot message wanted) in
    let ys = wanted_slot message wanted n in
    rw (joined_below-suc n (wanted_slot message wanted)) (AreBlocksOf-append message xs ys before.0 more.0, omega (arith, length-append xs ys, before.1, more.1))

-- slots that are true to blocks of a message are such blocks, or Bad
true-blocks : (message : List ℕ) (sent heard : List Slot) → AreTrueSlots sent heard → AreBlocksOf message sent → AreBlocksOf message heard
unfolding AreTrueSlots AreBlocksOf
true-blocks message [] [] t a = tt
true-blocks message (Bad ∷ sent) (Bad ∷ heard) t a = true-blocks message sent heard t.1 a
true-blocks message (Good was ∷ sent) (Bad ∷ heard) t a = true-blocks message sent heard t.1 a.1
true-blocks message (Bad ∷ sent) (Good block ∷ heard) (inl e, t) a = cc
true-blocks message (Bad ∷ sent) (Good block ∷ heard) (inr e, t) a = cc
true-blocks message (Good was ∷ sent) (Good block ∷ heard) (inl e, t) a = cc
true-blocks message (Good was ∷ sent) (Good block ∷ heard) (inr e, t) a =
    let same : block ≡ was = cc in
    (rw same a.0, true-blocks message sent heard t a.1)
true-blocks message sent heard t a = absurd t

-- a confirmed packet is received as one
confirmed-heard : (sent : ConfirmedParts) (heard : Packet) → IsTrueTo (Confirmed sent) heard
    → (packet : ConfirmedParts) × (heard ≡ Confirmed packet) × (packet.head ≡ sent.head) × AreTrueSlots sent.slots packet.slots
unfolding IsTrueTo
confirmed-heard sent (Confirmed packet) t = (packet, refl, t.0, t.1)
confirmed-heard sent (Plain packet) t = absurd t

pub plain-heard : (sent heard : Packet) (plain : PlainParts) → sent ≡ Plain plain → IsTrueTo sent heard → heard ≡ sent
unfolding IsTrueTo
plain-heard (Confirmed sent) heard plain e t = cc
plain-heard (Plain sent) (Confirmed heard) plain e t = absurd t
plain-heard (Plain sent) (Plain heard) plain e t = cc

CarriesData-true : (number : ℕ) (message : List ℕ) (sent packet : ConfirmedParts)
    → CarriesData number message sent → packet.head ≡ sent.head → AreTrueSlots sent.slots packet.slots → CarriesData number message packet
CarriesData-true number message sent packet c h t = record {
  llid = cc;
  syn = cc;
  number_is = cc;
  pad = cc;
  full = λ f. cc (c.full (cc));
  blocks = true-blocks message sent.slots packet.slots t c.blocks;
}

-- the counts of a message of at most 2,028 octets
pub counts-small : (message : List ℕ) → length message ≤ 2028 → (block_count (length message) < 128) × (pad_count (length message) < 32)
counts-small message h = (omega arith, omega arith)

pub whole-carries : (number : ℕ) (message : List ℕ) → number < 8 → length message ≤ 2028 →
    CarriesData number message (record { head = confirmed_head 1 true (block_count (length message)) (pad_count (length message)) number; slots = map good_slot (message_blocks message) })
unfolding message_blocks
whole-carries number message n l =
    let small = counts-small message l in
    let blocks = block_count (length message) in
    let pad = pad_count (length message) in
    record {
      llid = confirmed_head-llid true blocks pad number;
      syn = confirmed_head-syn true blocks pad number n;
      number_is = confirmed_head-number true blocks pad number n;
      pad = confirmed_head-pad true blocks pad number small.1;
      full = λ f. confirmed_head-blocks true blocks pad number small.0;
      blocks = all-blocks message blocks;
    }

blocks-carry : (number : ℕ) (message : List ℕ) (wanted : List Bool) → number < 8 → length message ≤ 2028 →
    CarriesData number message (record { head = confirmed_head 1 false (length (wanted_slots message wanted)) (pad_count (length message)) number; slots = wanted_slots message wanted })
unfolding wanted_slots
blocks-carry number message wanted n l =
    let small = counts-small message l in
    let some = some-blocks message wanted (block_count (length message)) in
    let count = length (joined_below (block_count (length message)) (wanted_slot message wanted)) in
    let few : count < 128 = omega (arith, some.1, small.0) in
    let pad = pad_count (length message) in
    record {
      llid = confirmed_head-llid false count pad number;
      syn = confirmed_head-syn false count pad number n;
      number_is = confirmed_head-number false count pad number n;
      pad = confirmed_head-pad false count pad number small.1;
      full = λ f. absurd (false≢true (cc (confirmed_head-full false count pad number few)));
      blocks = some.0;
    }

-- the received packet of a message
pub data-heard : (number : ℕ) (message : List ℕ) (sent heard : Packet)
    → number < 8 → length message ≤ 2028 → IsDataOf number message sent → IsTrueTo sent heard → (packet : ConfirmedParts) × (heard ≡ Confirmed packet) ×
    CarriesData number message packet
unfolding IsDataOf message_packet blocks_packet
data-heard number message sent heard n l (inl e) t =
    let whole : ConfirmedParts = record { head = confirmed_head 1 true (block_count (length message)) (pad_count (length message)) number; slots = map good_slot (message_blocks message) } in
    let h = confirmed-heard whole heard (rw e at t) in
    (h.0, h.1, CarriesData-true number message whole h.0 (whole-carries number message n l) h.2 h.3)
data-heard number message sent heard n l (inr (wanted, e)) t =
    let some : ConfirmedParts = record { head = confirmed_head 1 false (length (wanted_slots message wanted)) (pad_count (length message)) number; slots = wanted_slots message wanted } in
    let h = confirmed-heard some heard (rw e at t) in
    (h.0, h.1, CarriesData-true number message some h.0 (blocks-carry number message wanted n l) h.2 h.3)

-- the received opening packet
pub opening-packet_heard : (number : ℕ) (sent heard : Packet)
    → sent ≡ opening_packet number → IsTrueTo sent heard → (packet : ConfirmedParts) × (heard ≡ Confirmed packet) × (packet.head ≡ opening_head 1 number)
unfolding opening_packet
opening-packet_heard number sent heard e t =
    let opener : ConfirmedParts = record { head = opening_head 1 number; slots = [] } in
    let h = confirmed-heard opener heard (rw e at t) in
    (h.0, h.1, h.2)

-- a received response is the transmitted one
pub ack-heard : (status : ℕ) (sent heard : Packet) → sent ≡ ack_packet status → IsTrueTo sent heard → heard ≡ sent
unfolding short_response
ack-heard status sent heard e t = plain-heard sent heard (record { head = response_head 1 0 1 status 0; octets = [] }) e t

pub retry-heard : (status : ℕ) (flags : List Bool) (sent heard : Packet) → sent ≡ retry_packet status flags → IsTrueTo sent heard → heard ≡ sent
unfolding retry_packet
retry-heard status flags sent heard e t =
    plain-heard sent heard (record { head = response_head 1 2 0 status (cond (nat_le (length flags) 64) 1 2); octets = flag_octets flags }) e t
