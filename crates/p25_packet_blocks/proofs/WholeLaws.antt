-- A decoded packet in which no slot is `Bad` is sendable, and the first nearest paths carry it. By cases of the decoding: if the checks agree, the
-- decoded octets are the encoded ones.
use Rattle.std.proofs.Common.{◌≡◌, ◌≢◌, ℕ, ◌+◌, ◌-◌, ◌*◌, ◌/◌, ◌%◌, ◌<◌, ◌^◌, inl, inr, Bool, true, false, ◌||◌, eqb, List, [], ◌∷◌, ◌++◌, length, take, drop, get_or, Result, Ok, Err, refl, ap, ap₂, sym, subst, ◌∙◌, arith, length-drop, take-append-drop}
use Rattle.std.proofs.{lemmas.Bool.{cases_Bool, cases_eq, eqb-true, ne_eqb}, lemmas.List.{length-take-le}, lemmas.List.Elements.{All-head, All-tail, All-take, All-drop}}
use Rattle.p25_bits.specs.{Bits.{part}, Numbers.{octets_number, number_after}}
use Rattle.p25_bits.proofs.NumbersLaws.{All-numbers_from, All-joined_below, get_or-each_below, part-joined_below}
use Rattle.p25_status.specs.{declared.fields.Field.{Field}, declared.fields.Field.TheVariants.{Format}}
use Rattle.p25_trellis.specs.Nearest.{nearest_octets, half_octets, three_quarter_octets}
use Rattle.p25_crc.specs.Values.{crc9_of, crc16_of, crc32_of}
use Rattle.p25_packet_blocks.specs.{declared.head.PacketHead.{PacketHead}, declared.block.Block.{Block}, declared.block.Slot.{Slot}, declared.block.Slot.TheVariants.{Good, Bad}}
use Rattle.p25_packet_blocks.specs.{declared.packet.Packet.{Packet}, declared.packet.Packet.TheVariants.{Confirmed, Plain}, Heads.{head_format, head_blocks}, Kinds.{IsPlainFormat}}
use Rattle.p25_packet_blocks.specs.Whole.{packet_head, AreGood, IsWholePacket}
use Rattle.p25_packet_blocks.specs.Reading.{header_bits, block_bits, head_from, head_reading_of, slot_from, slots_read, octets_read, plain_from, packet_of_head, packet_from, packet_reading_of}
use Rattle.p25_packet_blocks.specs.{Image.{two_octets, four_octets, header_octets, confirmed_octets, checked_octets}, Sendable.{AreOctets, IsHead, IsDataBlock, IsSendable}}
use Rattle.p25_packet_blocks.specs.WholeReading.{IsBlockRead, IsPacketRead}
use Rattle.p25_packet_blocks.proofs.ReadingLaws.{head_reading_of-is, length-slots_read, length-half_octets, length-three_quarter_octets, length-octets_read, packet_of_head-confirmed, packet_of_head-plain, packet_of_head-other}
use Rattle.p25_packet_blocks.proofs.ImageLaws.{header_octets-is, confirmed_octets-is, checked_octets-is}

-- Octets are those of the number that they write.

abbrev IsOctet : ℕ → Type 0
IsOctet number = number < 256

two_again : (octets : List ℕ) → length octets ≡ 2 → AreOctets octets → two_octets (octets_number octets) ≡ octets
unfolding octets_number number_after
two_again (a ∷ b ∷ []) long small =
    let first = All-head IsOctet a (b ∷ []) small in
    let second = All-head IsOctet b [] (All-tail IsOctet a (b ∷ []) small) in
    ap₂ (λ x y. x ∷ y ∷ []) (omega (arith, first, second)) (omega (arith, first, second))
two_again [] long small = absurd (omega (arith, long))
two_again (a ∷ []) long small = absurd (omega (arith, long))
two_again (a ∷ b ∷ c ∷ rest) long small = absurd (omega (arith, long))

four_again : (octets : List ℕ) → length octets ≡ 4 → AreOctets octets → four_octets (octets_number octets) ≡ octets
unfolding octets_number number_after
four_again (a ∷ b ∷ c ∷ d ∷ []) long small =
    let second = All-tail IsOctet a (b ∷ c ∷ d ∷ []) small in
    let third = All-tail IsOctet b (c ∷ d ∷ []) second in
    let a_fits = All-head IsOctet a (b ∷ c ∷ d ∷ []) small in
    let b_fits = All-head IsOctet b (c ∷ d ∷ []) second in
    let c_fits = All-head IsOctet c (d ∷ []) third in
    let d_fits = All-head IsOctet d [] (All-tail IsOctet c (d ∷ []) third) in
    let n = 256 * (256 * (256 * (256 * 0 + a) + b) + c) + d in
    let one : n / 2 ^ 24 ≡ a = omega (arith, a_fits, b_fits, c_fits, d_fits) in
    let two : n / 2 ^ 16 % 256 ≡ b = omega (arith, a_fits, b_fits, c_fits, d_fits) in
    let three : n / 2 ^ 8 % 256 ≡ c = omega (arith, a_fits, b_fits, c_fits, d_fits) in
    let four : n % 256 ≡ d = omega (arith, a_fits, b_fits, c_fits, d_fits) in
    simp (one, two, three, four)
four_again [] long small = absurd (omega (arith, long))
four_again (a ∷ []) long small = absurd (omega (arith, long))
four_again (a ∷ b ∷ []) long small = absurd (omega (arith, long))
four_again (a ∷ b ∷ c ∷ []) long small = absurd (omega (arith, long))
four_again (a ∷ b ∷ c ∷ d ∷ e ∷ rest) long small = absurd (omega (arith, long))

-- The header.

-- a decoded header has the invariant of every header, and its octets are those that were read
pub record IsHeadOf (octets : List ℕ) (head : PacketHead) : Type 0 where
  pub is_head : IsHead head
  pub octets_are : octets ≡ header_octets head

IsHeadOf-octets : (octets : List ℕ) → length octets ≡ 12 → AreOctets octets → octets_number (drop 10 octets) ≡ crc16_of (take 10 octets) → IsHeadOf octets (record { 0 = take 10 octets })
IsHeadOf-octets octets long small agrees =
    record {
      is_head = record { long = length-take-le 10 octets (omega arith); small = All-take IsOctet 10 octets small };
      octets_are =
          sym (take-append-drop 10 octets)
          ∙ ap (λ xs. take 10 octets ++ xs) (sym (two_again (drop 10 octets) (omega (arith, length-drop 10 octets)) (All-drop IsOctet 10 octets small)) ∙ ap two_octets agrees)
          ∙ sym (header_octets-is (record { 0 = take 10 octets }));
    }

IsHeadOf-from : (octets : List ℕ) (head : PacketHead) → length octets ≡ 12 → AreOctets octets → head_from octets ≡ Ok head → IsHeadOf octets head
unfolding head_from
IsHeadOf-from octets head long small is =
    let test = eqb (octets_number (drop 10 octets)) (crc16_of (take 10 octets)) in
    let made : PacketHead = record { 0 = take 10 octets } in
    elim (cases_Bool test) [
      | inl agrees ↦
          let same : made ≡ head = cc in
          simp same at (IsHeadOf-octets octets long small (eqb-true _ _ agrees))
      | inr differs ↦ absurd (cc)
    ]

AreOctets-half : (bits : List Bool) → AreOctets (half_octets bits)
unfolding nearest_octets
AreOctets-half bits = All-numbers_from 8 12 _

AreOctets-three_quarter : (bits : List Bool) → AreOctets (three_quarter_octets bits)
unfolding nearest_octets
AreOctets-three_quarter bits = All-numbers_from 8 18 _

pub IsHeadOf-reading : (bare : List Bool) (head : PacketHead) → head_reading_of bare ≡ Ok head → IsHeadOf (half_octets (header_bits bare)) head
IsHeadOf-reading bare head is = IsHeadOf-from (half_octets (header_bits bare)) head (length-half_octets (header_bits bare)) (AreOctets-half (header_bits bare)) (sym (head_reading_of-is bare) ∙ is)

-- A confirmed block.

record IsBlockOf (octets : List ℕ) (block : Block) : Type 0 where
  pub is_block : IsDataBlock block
  pub octets_are : octets ≡ confirmed_octets block

IsBlockOf-octets : (a b : ℕ) (rest : List ℕ) → length rest ≡ 16 → AreOctets (a ∷ b ∷ rest) → 256 * (a % 2) + b ≡ crc9_of (a / 2) rest
    → IsBlockOf (a ∷ b ∷ rest) (record { serial = a / 2; octets = rest })
IsBlockOf-octets a b rest long small agrees =
    let first = All-head IsOctet a (b ∷ rest) small in
    let behind = All-tail IsOctet a (b ∷ rest) small in
    let second = All-head IsOctet b rest behind in
    record {
      is_block = record { serial_fits = omega (arith, first); long = long; small = All-tail IsOctet b rest behind };
      octets_are = sym (confirmed_octets-is (record { serial = a / 2; octets = rest }) ∙ ap₂ (λ x y. x ∷ y ∷ rest) (omega (arith, agrees, first, second)) (omega (arith, agrees, first, second)));
    }

IsBlockOf-cons : (a b : ℕ) (rest : List ℕ) (block : Block) → length rest ≡ 16 → AreOctets (a ∷ b ∷ rest) → slot_from (a ∷ b ∷ rest) ≡ Good block → IsBlockOf (a ∷ b ∷ rest) block
unfolding slot_from
IsBlockOf-cons a b rest block long small is =
    let test = eqb (256 * (a % 2) + b) (crc9_of (a / 2) rest) in
    let made : Block = record { serial = a / 2; octets = rest } in
    elim (cases_Bool test) [
      | inl agrees ↦
          let same : made ≡ block = cc in
          simp same at (IsBlockOf-octets a b rest long small (eqb-true _ _ agrees))
      | inr differs ↦ absurd (cc)
    ]

IsBlockOf-from : (octets : List ℕ) (block : Block) → length octets ≡ 18 → AreOctets octets → slot_from octets ≡ Good block → IsBlockOf octets block
IsBlockOf-from [] block long small is = absurd (omega (arith, long))
IsBlockOf-from (a ∷ []) block long small is = absurd (omega (arith, long))
IsBlockOf-from (a ∷ b ∷ rest) block long small is = IsBlockOf-cons a b rest block (omega (arith, long)) small is

-- a slot that is not Bad has a block
good_block : (slot : Slot) → slot ≢ Bad → (block : Block) × (slot ≡ Good block)
good_block (Good block) some = (block, refl)
good_block Bad some = absurd (some refl)

-- The blocks to follow.

-- the decoding of the blocks to follow is sendable, and is the packet that the first nearest paths carry
pub record IsReadOf (head : PacketHead) (bare : List Bool) (packet : Packet) : Type 0 where
  pub head_is : packet_head packet ≡ head
  pub sendable : IsSendable packet
  pub blocks : (j : ℕ) → j < head_blocks head → IsBlockRead packet j (block_bits bare j)

-- a confirmed packet
module _ (head : PacketHead) (bare : List Bool) where
  abbrev slot_octets : ℕ → List ℕ
  slot_octets j = three_quarter_octets (block_bits bare j)

  slot_is : (j : ℕ) → j < head_blocks head → get_or (slots_read (head_blocks head) bare) j Bad ≡ slot_from (slot_octets j)
  unfolding slots_read
  slot_is j inside = get_or-each_below (head_blocks head) (λ i. slot_from (slot_octets i)) j Bad inside

  block_is : AreGood (slots_read (head_blocks head) bare) → (j : ℕ) → j < head_blocks head
      → (block : Block) × (get_or (slots_read (head_blocks head) bare) j Bad ≡ Good block) × IsBlockOf (slot_octets j) block
  block_is good j inside =
      let found = good_block (get_or (slots_read (head_blocks head) bare) j Bad) (good.at j (omega (arith, length-slots_read (head_blocks head) bare))) in
      (found.0, found.1, IsBlockOf-from (slot_octets j) found.0 (length-three_quarter_octets (block_bits bare j)) (AreOctets-three_quarter (block_bits bare j)) (sym (slot_is j inside) ∙ found.1))

  IsReadOf-confirmed : IsHead head → head_format head ≡ 0x16 → AreGood (slots_read (head_blocks head) bare)
      → IsReadOf head bare (Confirmed (record { head = head; slots = slots_read (head_blocks head) bare }))
  unfolding IsSendable IsBlockRead
  IsReadOf-confirmed is_head format good = record {
    head_is = refl;
    sendable = record {
      kind = record { format = format; count = length-slots_read (head_blocks head) bare };
      head = is_head;
      good = record { at = λ j inside. let is = block_is good j inside in (is.0, is.1, is.2.is_block) };
    };
    blocks = λ j inside. let is = block_is good j inside in (is.0, is.1, is.2.octets_are);
  }

-- another packet
module _ (head : PacketHead) (bare : List Bool) where
  abbrev all_octets : List ℕ
  all_octets = octets_read (head_blocks head) bare

  abbrev carried : List ℕ
  carried = take (12 * head_blocks head - 4) all_octets

  small_octets : AreOctets all_octets
  unfolding octets_read
  small_octets = All-joined_below IsOctet (head_blocks head) _ (λ j inside. AreOctets-half (block_bits bare j))

  long_carried : length carried ≡ 12 * head_blocks head - 4
  long_carried = length-take-le (12 * head_blocks head - 4) all_octets (omega (arith, length-octets_read (head_blocks head) bare))

  -- if there are blocks to follow, their octets are those that are written
  checked_again : 0 < head_blocks head → octets_number (drop (12 * head_blocks head - 4) all_octets) ≡ crc32_of carried → checked_octets carried ≡ all_octets
  checked_again some agrees =
      let count = 12 * head_blocks head - 4 in
      let last : length (drop count all_octets) ≡ 4 = omega (arith, length-drop count all_octets, length-octets_read (head_blocks head) bare) in
      cc (checked_octets-is carried, agrees, four_again (drop count all_octets) last (All-drop IsOctet count all_octets small_octets), take-append-drop count all_octets)

  octets_of_block : (j : ℕ) → j < head_blocks head → part (12 * j) 12 all_octets ≡ half_octets (block_bits bare j)
  unfolding octets_read
  octets_of_block j inside = part-joined_below 12 (head_blocks head) (λ i. half_octets (block_bits bare i)) j (λ i below. length-half_octets (block_bits bare i)) inside

  IsReadOf-plain : IsHead head → IsPlainFormat (head_format head) → (0 < head_blocks head → octets_number (drop (12 * head_blocks head - 4) all_octets) ≡ crc32_of carried)
      → IsReadOf head bare (Plain (record { head = head; octets = carried }))
  unfolding IsSendable IsBlockRead
  IsReadOf-plain is_head format agrees = record {
    head_is = refl;
    sendable = record {
      kind = record { format = format; count = long_carried };
      head = is_head;
      small = All-take IsOctet (12 * head_blocks head - 4) all_octets small_octets;
    };
    blocks = λ j inside. let some : 0 < head_blocks head = omega arith in
        sym (octets_of_block j inside) ∙ ap (λ (xs : List ℕ). part (12 * j) 12 xs) (sym (checked_again some (agrees some)));
  }

  IsReadOf-plain_from : (packet : Packet) → IsHead head → IsPlainFormat (head_format head) → plain_from head all_octets ≡ Ok packet → IsReadOf head bare packet
  unfolding plain_from
  IsReadOf-plain_from packet is_head format is =
      let made : Packet = Plain (record { head = head; octets = carried }) in
      let agree = eqb (octets_number (drop (12 * head_blocks head - 4) all_octets)) (crc32_of carried) in
      let test = eqb (head_blocks head) 0 || agree in
      elim (cases_Bool test) [
        | inr none ↦ absurd (cc)
        | inl some ↦
            let same : made ≡ packet = cc in
            simp same at (IsReadOf-plain is_head format
            (λ blocks. eqb-true _ _ (right_of (eqb (head_blocks head) 0) agree some (ne_eqb (head_blocks head) 0 (λ zero'. omega arith)))))
      ]
    where
      right_of : (a b : Bool) → (a || b) ≡ true → a ≡ false → b ≡ true
      right_of true b either none = absurd (cc)
      right_of false b either none = either

-- by the format
IsReadOf-head : (head : PacketHead) (bare : List Bool) (packet : Packet) → IsHead head → packet_of_head head bare ≡ Ok packet → IsWholePacket packet → IsReadOf head bare packet
unfolding IsWholePacket
IsReadOf-head head bare packet is_head is whole =
    let format = head_format head in
    elim (cases_eq format 0x16) [
      | inl confirmed ↦
          let made : Packet = Confirmed (record { head = head; slots = slots_read (head_blocks head) bare }) in
          let two : Ok made ≡ Ok packet = sym (packet_of_head-confirmed head bare confirmed) ∙ is in
          let same : made ≡ packet = cc in
          let good = subst IsWholePacket (sym same) whole in
          simp same at (IsReadOf-confirmed head bare is_head confirmed good)
      | inr not_16 ↦ elim (cases_eq format 0x15) [
        | inl data' ↦ IsReadOf-plain_from head bare packet is_head (inl data') (sym (packet_of_head-plain head bare (inl data')) ∙ is)
        | inr not_15 ↦ elim (cases_eq format 0x03) [
          | inl response ↦ IsReadOf-plain_from head bare packet is_head (inr response) (sym (packet_of_head-plain head bare (inr response)) ∙ is)
          | inr not_03 ↦ let two : Err Format ≡ Ok packet = sym (packet_of_head-other head bare not_16 not_15 not_03) ∙ is in absurd (cc)
        ]
      ]
    ]

-- The packet of a data unit.

-- a decoded packet in which no slot is `Bad`
pub record IsWholeRead (bare : List Bool) (packet : Packet) : Type 0 where
  pub head : head_reading_of bare ≡ Ok (packet_head packet)
  pub sendable : IsSendable packet
  pub read : IsPacketRead packet bare

whole-from : (bare : List Bool) (packet : Packet) (reading : Result PacketHead Field) → head_reading_of bare ≡ reading → packet_from reading bare ≡ Ok packet → IsWholePacket packet
    → IsWholeRead bare packet
unfolding packet_from
whole-from bare packet (Err field) read is whole = absurd (cc)
whole-from bare packet (Ok head) read is whole =
    let of = IsHeadOf-reading bare head read in
    let body = IsReadOf-head head bare packet of.is_head is whole in
    record {
      head = read ∙ ap Ok (sym body.head_is);
      sendable = body.sendable;
      read = record {
        header = of.octets_are ∙ ap header_octets (sym body.head_is);
        blocks = λ j inside. body.blocks j (simp body.head_is at inside);
      };
    }

pub IsWholeRead-reading : (bare : List Bool) (packet : Packet) → packet_reading_of bare ≡ Ok packet → IsWholePacket packet → IsWholeRead bare packet
unfolding packet_reading_of
IsWholeRead-reading bare packet is whole = whole-from bare packet (head_reading_of bare) refl is whole
