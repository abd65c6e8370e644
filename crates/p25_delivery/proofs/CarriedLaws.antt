-- A message is read back from its blocks, in whatever order they arrive. By recursion on the slots: a stored block stays, because only the same block can be
-- stored in its entry again.
use Rattle.std.proofs.Common.{◌≡◌, ℕ, zero, suc, ◌+◌, ◌-◌, ◌*◌, ◌<◌, ◌≤◌, inl, inr, Bool, true, false, cond, List, [], ◌∷◌, ◌++◌, length, take, drop, get_or, set, replicate, Option, Some, None, refl, ap, sym, ◌∙◌, arith, length-append, zero-add}
use Rattle.std.proofs.lemmas.List.{get_or-set_same, get_or-set_other, ext_get_or, take_at, drop_at, length-replicate, take-append-le, append-nil}
use Rattle.std.proofs.lemmas.Bool.{cases_eq, cond-true, and_from, eq-eqb, le-leb, lt-ltb}
use Rattle.std.specs.Prelude.{nat_lt, nat_le, eqb}
use Rattle.p25_bits.specs.{Bits.{part}, Numbers.{octets_number, number_after, each_below, joined_below}}
use Rattle.p25_bits.proofs.NumbersLaws.{each_below-zero, each_below-suc, length-each_below, get_or-each_below, joined_below-zero, joined_below-suc, joined_below-same, joined_below-parts}
use Rattle.p25_bits.proofs.PartLaws.{part_whole}
use Rattle.p25_crc.specs.Values.{crc32_of}
use Rattle.p25_packet_blocks.specs.{Image.{four_octets, checked_octets}, Parts.{BlockParts}, declared.block.Slot.{Slot}, declared.block.Slot.TheVariants.{Good, Bad}}
use Rattle.p25_delivery.specs.MessageBlocks.{block_count, pad_count, message_octets, message_block, unpadded}
use Rattle.p25_delivery.specs.Places.{put_block, put_slots, before_octets, all_octets, AreBlocksOf, HoldsSerial, CarriesMessage, unpadded_option, read_back}
use Rattle.p25_delivery.proofs.{PlacesLaws.{length-put_block, length-put_slots, both_octets, all_octets-append}, MessageBlocksLaws.{length-message_octets}}

-- the number of the packet CRC's octets
pub octets_number-four_octets : (n : ℕ) → octets_number (four_octets n) ≡ n
unfolding octets_number number_after
octets_number-four_octets n = omega arith

-- octets with their packet CRC after them
pub unpadded-is : (beginning check : List ℕ) (pad : ℕ) → length check ≡ 4
    → octets_number check ≡ crc32_of beginning → pad ≤ length beginning → unpadded (beginning ++ check) pad ≡ Some (take (length beginning - pad) beginning)
unfolding unpadded
unpadded-is beginning check pad four agrees small =
    let count : length (beginning ++ check) - 4 ≡ length beginning = omega (arith, length-append beginning check) in
    let front_is : take (length (beginning ++ check) - 4) (beginning ++ check) ≡ beginning = take_at beginning check (length (beginning ++ check) - 4) (sym count) in
    let check_is : drop (length (beginning ++ check) - 4) (beginning ++ check) ≡ check = drop_at beginning check (length (beginning ++ check) - 4) (sym count) in
    let fits : nat_le pad (length (beginning ++ check) - 4) ≡ true = le-leb pad (length (beginning ++ check) - 4) (omega arith) in
    let right : eqb (octets_number (drop (length (beginning ++ check) - 4) (beginning ++ check))) (crc32_of (take (length (beginning ++ check) - 4) (beginning ++ check))) ≡ true
    = eq-eqb _ _ (cc) in
    let short : length (beginning ++ check) - 4 - pad ≡ length beginning - pad = omega arith in
    cc (cond-true _ _ _ (and_from _ _ fits right), take-append-le (length beginning - pad) beginning check (omega arith))

-- the octets of a message's blocks
pub message-read_back : (message : List ℕ) → unpadded (message_octets message) (pad_count (length message)) ≡ Some message
unfolding message_octets checked_octets
message-read_back message =
    let pad = pad_count (length message) in
    let zeros = replicate pad 0 in
    let many : length zeros ≡ pad = length-replicate {A = ℕ} pad 0 in
    let count : length (message ++ zeros) - pad ≡ length message = omega (arith, length-append message zeros, many) in
    cc (
      unpadded-is (message ++ zeros) (four_octets (crc32_of (message ++ zeros))) pad refl (octets_number-four_octets (crc32_of (message ++ zeros))) (omega (arith, length-append message zeros, many)),
      take_at message zeros
          (length (message ++ zeros) - pad) (sym count),
    )

-- a block is stored in the entry of its serial number, and the other entries stay
pub put_block-here : (places : List (Option BlockParts)) (block : BlockParts) (j : ℕ) → j < length places → block.serial ≡ j → get_or (put_block places block) j None ≡ Some block
unfolding put_block
put_block-here places block j h e =
    let there : nat_lt block.serial (length places) ≡ true = lt-ltb block.serial (length places) (omega arith) in
    cc (
      cond-true (nat_lt block.serial (length places))
          (set places block.serial (Some block)) places there,
      get_or-set_same places j (Some block) None h,
    )

pub put_block-other : (places : List (Option BlockParts)) (block : BlockParts) (j : ℕ) → (block.serial ≡ j → ⊥) → get_or (put_block places block) j None ≡ get_or places j None
unfolding put_block
put_block-other places block j n =
    elim (nat_lt block.serial (length places)) as (λ (b : Bool). get_or (cond b (set places block.serial (Some block)) places) j None ≡ get_or places j None) [
      | true ↦ get_or-set_other places block.serial j (Some block) None (λ e. n (sym e))
      | false ↦ refl
    ]

-- a block that is held stays
pub put_slots-stays : (message : List ℕ) (slots : List Slot) (places : List (Option BlockParts)) (j : ℕ)
    → AreBlocksOf message slots → j < length places → get_or places j None ≡ Some (message_block message j) →
    get_or (put_slots places slots) j None ≡ Some (message_block message j)
unfolding AreBlocksOf put_slots
put_slots-stays message [] places j are h held = held
put_slots-stays message (Bad ∷ slots) places j are h held = put_slots-stays message slots places j are h held
put_slots-stays message (Good block ∷ slots) places j are h held =
    let same : get_or (put_block places block) j None ≡ Some (message_block message j)
    = elim (cases_eq block.serial j) [
      | inl e ↦ cc (put_block-here places block j h e)
      | inr n ↦ put_block-other places block j n ∙ held
    ] in
    put_slots-stays message slots (put_block places block) j are.1 (omega (arith, length-put_block places block)) same

-- a block that arrives is held
pub put_slots-comes : (message : List ℕ) (slots : List Slot) (places : List (Option BlockParts)) (j : ℕ) → AreBlocksOf message slots → j < length places → HoldsSerial j slots →
    get_or (put_slots places slots) j None ≡ Some (message_block message j)
unfolding AreBlocksOf HoldsSerial put_slots
put_slots-comes message [] places j are h holds = absurd holds
put_slots-comes message (Bad ∷ slots) places j are h holds = put_slots-comes message slots places j are h holds
put_slots-comes message (Good block ∷ slots) places j are h (inl e) =
    put_slots-stays message slots (put_block places block) j are.1 (omega (arith, length-put_block places block))
    (cc (put_block-here places block j h e))
put_slots-comes message (Good block ∷ slots) places j are h (inr later) =
    put_slots-comes message slots (put_block places block) j are.1 (omega (arith, length-put_block places block)) later

-- the octets of entries that all hold a block
pub all_octets-each : (n : ℕ) (block : ℕ → BlockParts) → all_octets (each_below n (λ j. Some (block j))) ≡ Some (joined_below n (λ j. (block j).octets))
unfolding all_octets
all_octets-each zero block =
    cc (each_below-zero (λ (j : ℕ). Some (block j)), joined_below-zero (λ (j : ℕ). (block j).octets))
all_octets-each (suc n) block =
    let octets = joined_below n (λ (j : ℕ). (block j).octets) in
    rw (
      each_below-suc n (λ (j : ℕ). Some (block j)),
      all_octets-append (each_below n (λ (j : ℕ). Some (block j))) (Some (block n) ∷ []),
      all_octets-each n block,
      append-nil (block n).octets,
      ← joined_below-suc n
          (λ (j : ℕ). (block j).octets),
    )

-- the blocks of a message joined are its octets
pub joined-message_blocks : (message : List ℕ) → joined_below (block_count (length message)) (λ j. (message_block message j).octets) ≡ message_octets message
unfolding message_block
joined-message_blocks message =
    let n = block_count (length message) in
    let octets = message_octets message in
    joined_below-same n (λ (j : ℕ). part (16 * j) 16 octets) (λ (j : ℕ). part (0 + 16 * j) 16 octets)
    (λ (j : ℕ) (h : j < n). ap (λ (at : ℕ). part at 16 octets) (sym (zero-add (16 * j)))) ∙ joined_below-parts 0 16 n octets ∙
    part_whole (16 * n) octets (length-message_octets message)

-- the entries of a message, if all hold their blocks
pub places-of_message : (message : List ℕ) (places : List (Option BlockParts))
    → length places ≡ block_count (length message) → ((j : ℕ) → j < block_count (length message) → get_or places j None ≡ Some (message_block message j)) →
    all_octets places ≡ Some (message_octets message)
places-of_message message places long held =
    let n = block_count (length message) in
    let each : ℕ → Option BlockParts = λ (j : ℕ). Some (message_block message j) in
    let same : places ≡ each_below n each
    = ext_get_or None places (each_below n each) (cc (length-each_below n each))
    (λ (j : ℕ) (h : j < length places). held j (omega arith) ∙ sym (get_or-each_below n each j None (omega arith))) in
    cc (all_octets-each n (message_block message), joined-message_blocks message)

pub slots-read_back : (message : List ℕ) (slots : List Slot) → CarriesMessage message slots → read_back (block_count (length message)) (pad_count (length message)) slots ≡ Some message
unfolding read_back unpadded_option
slots-read_back message slots carries =
    let n = block_count (length message) in
    let empty : List (Option BlockParts) = replicate n None in
    let many : length empty ≡ n = length-replicate n None in
    let long : length (put_slots empty slots) ≡ n = length-put_slots empty slots ∙ many in
    let held : (j : ℕ) → j < n → get_or (put_slots empty slots) j None ≡ Some (message_block message j)
    = λ (j : ℕ) (h : j < n). put_slots-comes message slots empty j carries.blocks (omega arith) (carries.all j h) in
    cc (places-of_message message (put_slots empty slots) long held, message-read_back message)
