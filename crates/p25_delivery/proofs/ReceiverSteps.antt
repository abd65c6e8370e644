-- The results of a receiver after the blocks of a packet are stored in their entries. By the definitions.
use Rattle.std.proofs.Common.{◌≡◌, ℕ, List, Option, Some, None, refl, ap, sym, ◌∙◌}
use Rattle.p25_packet_blocks.specs.{Parts.{BlockParts}, Heads.{head_number}, ConfirmedParts.{ConfirmedParts}, declared.block.Slot.{Slot}}
use Rattle.p25_delivery.specs.{MessageBlocks.{unpadded}, Places.{put_slots, all_octets}, Halves.{Keeping, Receiving}, ReceiverRules.{finished, completed, filled}}
use Rattle.p25_messages.specs.declared.answers.Heard.{Heard}

-- the result of a finished message depends on V(R) alone
pub finished-last : (r s : Receiving) (number : ℕ) (message : Option (List ℕ)) → s.last ≡ r.last → finished s number message ≡ finished r number message
unfolding finished
finished-last r s number None e = cc
finished-last r s number (Some message) e = refl

-- all entries hold a block
pub filled-whole : (r s : Receiving) (packet : ConfirmedParts) (kept : Keeping)
    (slots : List Slot) (places : List (Option BlockParts)) (octets : List ℕ) (number pad : ℕ) (message : Option (List ℕ)) (answer : Receiving × Heard) →
    s.last ≡ r.last → slots ≡ packet.slots → places ≡ put_slots kept.places slots → Some octets ≡ all_octets places
    → number ≡ head_number packet.head → pad ≡ kept.pad → message ≡ unpadded octets pad → answer ≡ finished s number message →
    answer ≡ filled r packet (Some kept)
unfolding filled completed
filled-whole r s packet kept slots places octets number pad message answer l e p o n d m a =
    let held : all_octets (put_slots kept.places packet.slots) ≡ Some octets
    = cc in
    let whole : Option (List ℕ) → Receiving × Heard
    = λ (found : Option (List ℕ)). completed r (head_number packet.head) (record { places = put_slots kept.places packet.slots; pad = kept.pad }) found in
    cc (finished-last r s number message l)
