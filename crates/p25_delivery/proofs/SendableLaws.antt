-- The packets that stations transmit are sendable: their headers have ten octets, and each slot holds a block. By the laws of lists by their
-- positions.
use Rattle.std.proofs.Common.{◌≡◌, ℕ, zero, suc, ◌+◌, ◌-◌, ◌*◌, ◌/◌, ◌%◌, ◌<◌, ◌≤◌, ◌⊎◌, inl, inr, Bool, true, false, cond, eqb, List, [], ◌∷◌, ◌++◌, length, map, get_or, drop, replicate, refl, ap, sym, ◌∙◌, arith, length-append}
use Rattle.std.proofs.{lemmas.List.{length-map}, lemmas.Bool.{cond-true, cond-false, le-leb, leb-true, false_from_ne_true}}
use Rattle.std.proofs.lemmas.List.Elements.{All-nil, All-cons, All-append, All-replicate, All-get_or, All-map, All-take, All-drop}
use Rattle.std.specs.Prelude.{All, nat_le, slice_index_or}
use Rattle.p25_bits.specs.Numbers.{each_below, joined_below, octets_from}
use Rattle.p25_bits.proofs.{PartLaws.{length-part}, NumbersLaws.{length-each_below, All-each_below, joined_below-zero, joined_below-suc, All-joined_below, All-numbers_from}}
use Rattle.p25_packet_blocks.specs.{declared.block.Slot.{Slot}, declared.block.Slot.TheVariants.{Good, Bad}, declared.packet.Packet.TheVariants.{Confirmed, Plain}}
use Rattle.p25_packet_blocks.specs.{Heads.{head_format, head_blocks, confirmed_head, response_head, opening_head}, Parts.{BlockParts}, FlagOctets.{flag_octets}}
use Rattle.p25_packet_blocks.specs.Sendable.{AreOctets, IsHead, IsDataBlock, AreDataBlocks, IsSendable}
use Rattle.p25_packet_blocks.proofs.ImageLaws.{AreOctets-checked_octets}
use Rattle.p25_delivery.specs.MessageBlocks.{block_count, pad_count, message_octets, message_block, message_blocks}
use Rattle.p25_delivery.specs.{SentPackets.{good_slot, message_packet, wanted_slots, blocks_packet, opening_packet, short_response, retry_packet}, SoundHalves.{IsMessage}}
use Rattle.p25_delivery.proofs.{MessageBlocksLaws.{length-message_octets}, SentPacketsLaws.{wanted_slot, length-flag_octets}}
use Rattle.p25_delivery.proofs.HeadLaws.{confirmed_head-blocks, opening_head-blocks, response_head-format}

-- Headers.

abbrev IsOctet : ℕ → Type 0
IsOctet n = n < 256

ten : (a b c d e f g h i j : ℕ) → IsOctet a → IsOctet b → IsOctet c → IsOctet d → IsOctet e → IsOctet f → IsOctet g → IsOctet h → IsOctet i → IsOctet j →
    IsHead (record { 0 = a ∷ b ∷ c ∷ d ∷ e ∷ f ∷ g ∷ h ∷ i ∷ j ∷ [] })
ten a b c d e f g h i j ka kb kc kd ke kf kg kh ki kj = record {
  long = refl;
  small =
      All-cons IsOctet a (b ∷ c ∷ d ∷ e ∷ f ∷ g ∷ h ∷ i ∷ j ∷ []) ka (All-cons IsOctet b (c ∷ d ∷ e ∷ f ∷ g ∷ h ∷ i ∷ j ∷ []) kb (All-cons IsOctet c (d ∷ e ∷ f ∷ g ∷ h ∷ i ∷ j ∷ []) kc
      (All-cons IsOctet d (e ∷ f ∷ g ∷ h ∷ i ∷ j ∷ []) kd (All-cons IsOctet e (f ∷ g ∷ h ∷ i ∷ j ∷ []) ke (All-cons IsOctet f (g ∷ h ∷ i ∷ j ∷ []) kf
      (All-cons IsOctet g (h ∷ i ∷ j ∷ []) kg (All-cons IsOctet h (i ∷ j ∷ []) kh (All-cons IsOctet i (j ∷ []) ki (All-cons IsOctet j [] kj (All-nil IsOctet))))))))));
}

full-octet : (full : Bool) (blocks : ℕ) → blocks < 128 → cond full 128 0 + blocks < 256
full-octet true blocks h = omega arith
full-octet false blocks h = omega arith

confirmed_head-is_head : (full : Bool) (blocks pad number : ℕ) → blocks < 128 → pad < 32 → number < 8 → IsHead (confirmed_head 1 full blocks pad number)
unfolding confirmed_head
confirmed_head-is_head full blocks pad number b p n =
    ten 0x56 0xC0 0 (1 / 65536) (1 / 256 % 256) (1 % 256) (cond full 128 0 + blocks) pad (16 * number + 8) 0
    (omega arith) (omega arith) (omega arith) (omega arith) (omega arith) (omega arith) (full-octet full blocks b) (omega arith) (omega arith) (omega arith)

confirmed_head-format : (full : Bool) (blocks pad number : ℕ) → head_format (confirmed_head 1 full blocks pad number) ≡ 0x16
unfolding head_format confirmed_head
confirmed_head-format full blocks pad number = refl

opening_head-is_head : (number : ℕ) → number < 8 → IsHead (opening_head 1 number)
unfolding opening_head
opening_head-is_head number n =
    ten 0x56 0xC0 0 (1 / 65536) (1 / 256 % 256) (1 % 256) 0x80 0 (0x88 + 16 * number) 0
    (omega arith) (omega arith) (omega arith) (omega arith) (omega arith) (omega arith) (omega arith) (omega arith) (omega arith) (omega arith)

opening_head-format : (number : ℕ) → head_format (opening_head 1 number) ≡ 0x16
unfolding head_format opening_head
opening_head-format number = refl

response_head-is_head : (class kind status blocks : ℕ) → class < 4 → kind < 8 → status < 8 → blocks < 128 → IsHead (response_head 1 class kind status blocks)
unfolding response_head
response_head-is_head class kind status blocks c k s b =
    ten 0x23 (64 * class + 8 * kind + status) 0 (1 / 65536) (1 / 256 % 256) (1 % 256) (128 + blocks) 0 0 0
    (omega arith) (omega arith) (omega arith) (omega arith) (omega arith) (omega arith) (omega arith) (omega arith) (omega arith) (omega arith)

response_head-blocks : (class kind status blocks : ℕ) → blocks < 128 → head_blocks (response_head 1 class kind status blocks) ≡ blocks
unfolding head_blocks response_head
response_head-blocks class kind status blocks b = omega arith

-- The blocks of a message.

message_octets-small : (message : List ℕ) → AreOctets message → AreOctets (message_octets message)
unfolding message_octets
message_octets-small message small =
    AreOctets-checked_octets (message ++ replicate (pad_count (length message)) 0)
    (All-append IsOctet message (replicate (pad_count (length message)) 0) small (All-replicate IsOctet (pad_count (length message)) 0 (omega arith)))

message_block-keeps : (message : List ℕ) → IsMessage message → (serial : ℕ) → serial < block_count (length message) → IsDataBlock (message_block message serial)
unfolding message_block
message_block-keeps message is serial h = record {
  serial_fits = omega (arith, is.short);
  long = length-part (16 * serial) 16 (message_octets message) (omega (arith, length-message_octets message));
  small = All-take IsOctet 16 (drop (16 * serial) (message_octets message)) (All-drop IsOctet (16 * serial) (message_octets message) (message_octets-small message is.octets));
}

-- a slot that holds a block
record HoldsBlock (slot : Slot) : Type 0 where
  pub block : BlockParts
  pub is : slot ≡ Good block
  pub keeps : IsDataBlock block

good-holds : (block : BlockParts) → IsDataBlock block → HoldsBlock (good_slot block)
good-holds block keeps = record { block = block; is = refl; keeps = keeps }

blocks-from_all : (slots : List Slot) (n : ℕ) → n ≤ length slots → All HoldsBlock slots → AreDataBlocks slots n
blocks-from_all slots n fits all = record {
  at = λ (j : ℕ) (h : j < n). let holds : HoldsBlock (get_or slots j Bad) = All-get_or HoldsBlock slots j Bad (omega arith) all in (holds.block, holds.is, holds.keeps);
}

all-blocks : (message : List ℕ) → IsMessage message → All HoldsBlock (map good_slot (message_blocks message))
unfolding message_blocks
all-blocks message is =
    let n = block_count (length message) in
    All-map HoldsBlock good_slot (each_below n (message_block message))
    (All-each_below (λ block. HoldsBlock (good_slot block)) n (message_block message) (λ (j : ℕ) (h : j < n). good-holds (message_block message j) (message_block-keeps message is j h)))

length-blocks : (message : List ℕ) → length (map good_slot (message_blocks message)) ≡ block_count (length message)
unfolding message_blocks
length-blocks message = length-map (each_below (block_count (length message)) (message_block message)) good_slot ∙ length-each_below (block_count (length message)) (message_block message)

one-wanted : (message : List ℕ) → IsMessage message → (wanted : List Bool) (j : ℕ) → j < block_count (length message) → All HoldsBlock (wanted_slot message wanted j)
one-wanted message is wanted j h =
    elim (slice_index_or wanted j false) as (λ (flag : Bool). All HoldsBlock (cond flag (good_slot (message_block message j) ∷ []) [])) [
      | true ↦ All-cons HoldsBlock (good_slot (message_block message j)) [] (good-holds (message_block message j) (message_block-keeps message is j h)) (All-nil HoldsBlock)
      | false ↦ All-nil HoldsBlock
    ]

all-wanted : (message : List ℕ) → IsMessage message → (wanted : List Bool) → All HoldsBlock (wanted_slots message wanted)
unfolding wanted_slots
all-wanted message is wanted = All-joined_below HoldsBlock (block_count (length message)) (wanted_slot message wanted) (one-wanted message is wanted)

-- Packets of data.

-- a confirmed packet of a number of slots, each with a block
confirmed-sendable : (full : Bool) (pad number : ℕ) (slots : List Slot) (count : ℕ) → length slots ≡ count → count < 128 → pad < 32 → number < 8 → All HoldsBlock slots →
    IsSendable (Confirmed (record { head = confirmed_head 1 full count pad number; slots = slots }))
unfolding IsSendable
confirmed-sendable full pad number slots count e b p n all =
    let blocks : head_blocks (confirmed_head 1 full count pad number) ≡ count = confirmed_head-blocks full count pad number b in
    record {
      kind = record { format = confirmed_head-format full count pad number; count = cc };
      head = confirmed_head-is_head full count pad number b p n;
      good = blocks-from_all slots (head_blocks (confirmed_head 1 full count pad number)) (omega (arith, e, blocks)) all;
    }

pub message_packet-sendable : (number : ℕ) (message : List ℕ) → number < 8 → IsMessage message → IsSendable (message_packet number message)
unfolding message_packet
message_packet-sendable number message n is =
    confirmed-sendable true (pad_count (length message)) number (map good_slot (message_blocks message))
    (block_count (length message)) (length-blocks message) (omega (arith, is.short)) (omega (arith, is.short)) n (all-blocks message is)

length-wanted_slot : (message : List ℕ) (wanted : List Bool) (j : ℕ) → length (wanted_slot message wanted j) ≤ 1
length-wanted_slot message wanted j =
    elim (slice_index_or wanted j false) as (λ (flag : Bool). length (cond flag (good_slot (message_block message j) ∷ []) []) ≤ 1) [ true ↦ omega arith | false ↦ omega arith ]

length-wanted : (message : List ℕ) (wanted : List Bool) (n : ℕ) → length (joined_below n (wanted_slot message wanted)) ≤ n
length-wanted message wanted zero = omega (arith, ap length (joined_below-zero (wanted_slot message wanted)))
length-wanted message wanted (suc n) =
    omega (
      arith,
      ap length (joined_below-suc n (wanted_slot message wanted)),
      length-append
          (joined_below n (wanted_slot message wanted)) (wanted_slot message wanted n),
      length-wanted message wanted n,
      length-wanted_slot message wanted n,
    )

few-wanted : (message : List ℕ) (wanted : List Bool) → length (wanted_slots message wanted) ≤ block_count (length message)
unfolding wanted_slots
few-wanted message wanted = length-wanted message wanted (block_count (length message))

pub blocks_packet-sendable : (number : ℕ) (message : List ℕ) (wanted : List Bool) → number < 8 → IsMessage message → IsSendable (blocks_packet number message wanted)
unfolding blocks_packet
blocks_packet-sendable number message wanted n is =
    confirmed-sendable false (pad_count (length message)) number (wanted_slots message wanted)
    (length (wanted_slots message wanted)) refl (omega (arith, is.short, few-wanted message wanted)) (omega (arith, is.short)) n
    (all-wanted message is wanted)

pub opening_packet-sendable : (number : ℕ) → number < 8 → IsSendable (opening_packet number)
unfolding opening_packet IsSendable
opening_packet-sendable number n =
    let none : head_blocks (opening_head 1 number) ≡ 0 = opening_head-blocks number in
    record {
      kind = record { format = opening_head-format number; count = sym none };
      head = opening_head-is_head number n;
      good = record { at = λ (j : ℕ) (h : j < head_blocks (opening_head 1 number)). absurd (omega (arith, h, none)) };
    }

-- Responses.

pub short_response-sendable : (class kind status : ℕ) → class < 4 → kind < 8 → status < 8 → IsSendable (short_response class kind status)
unfolding short_response IsSendable
short_response-sendable class kind status c k s =
    let none : head_blocks (response_head 1 class kind status 0) ≡ 0 = response_head-blocks class kind status 0 (omega arith) in
    record {
      kind = record { format = inr (response_head-format class kind status 0); count = omega (arith, none) };
      head = response_head-is_head class kind status 0 c k s (omega arith);
      small = All-nil IsOctet;
    }

flag_octets-small : (flags : List Bool) → AreOctets (flag_octets flags)
unfolding flag_octets
flag_octets-small flags =
    All-append IsOctet (octets_from (length flags / 8) flags) (cond (eqb (length flags) 128) (0 ∷ 0 ∷ 0 ∷ 0 ∷ []) []) (All-numbers_from 8 (length flags / 8) flags)
    (elim (eqb (length flags) 128) as (λ (b : Bool). AreOctets (cond b (0 ∷ 0 ∷ 0 ∷ 0 ∷ []) [])) [ true ↦ All-replicate IsOctet 4 0 (omega arith) | false ↦ All-nil IsOctet ])

retry-sendable : (status : ℕ) (flags : List Bool) (blocks : ℕ) → status < 8 → (length flags ≡ 64) ⊎ (length flags ≡ 128) → (length flags ≤ 64 → blocks ≡ 1) → (64 < length flags → blocks ≡ 2) →
    IsSendable (Plain (record { head = response_head 1 2 0 status blocks; octets = flag_octets flags }))
unfolding IsSendable
retry-sendable status flags blocks s l few many =
    let small : blocks < 128 = elim l [ inl e ↦ omega (arith, few (omega (arith, e))) | inr e ↦ omega (arith, many (omega (arith, e))) ] in
    record {
      kind =
          record {
            format = inr (response_head-format 2 0 status blocks);
            count = cc (length-flag_octets flags (flag_octets flags) blocks refl l few many, response_head-blocks 2 0 status blocks small);
          };
      head = response_head-is_head 2 0 status blocks (omega arith) (omega arith) s small;
      small = flag_octets-small flags;
    }

pub retry_packet-sendable : (status : ℕ) (flags : List Bool) → status < 8 → (length flags ≡ 64) ⊎ (length flags ≡ 128) → IsSendable (retry_packet status flags)
unfolding retry_packet
retry_packet-sendable status flags s (inl e) =
    let one : cond (nat_le (length flags) 64) 1 2 ≡ 1 = cond-true (nat_le (length flags) 64) 1 2 (le-leb _ _ (omega (arith, e))) in
    retry-sendable status flags (cond (nat_le (length flags) 64) 1 2) s (inl e) (λ (h : length flags ≤ 64). one) (λ (h : 64 < length flags). absurd (omega (arith, e, h)))
retry_packet-sendable status flags s (inr e) =
    let two : cond (nat_le (length flags) 64) 1 2 ≡ 2 = cond-false (nat_le (length flags) 64) 1 2 (false_from_ne_true _ (λ fits. omega (arith, e, leb-true _ _ fits))) in
    retry-sendable status flags (cond (nat_le (length flags) 64) 1 2) s (inr e) (λ (h : length flags ≤ 64). absurd (omega (arith, e, h))) (λ (h : 64 < length flags). two)
