-- The contents of sample data units: their types in turn, and the draws of each after a state.
use Rattle.std.specs.Prelude.{ℕ, ◌+◌, ◌-◌, ◌*◌, ◌%◌, true, List, [], ◌∷◌, take, slice_index, slice_index_or}
use Rattle.p25_bits.specs.Numbers.{each_below, pair_at, triple_at}
use Rattle.p25_link.specs.{declared.link_control.LinkControl.{LinkControl}, declared.encryption.EncryptionSync.{EncryptionSync}}
use Rattle.p25_link.specs.declared.encryption.HeaderWord.{HeaderWord}
use Rattle.p25_voice_units.specs.declared.voice.VoiceFrame.{VoiceFrame}
use Rattle.p25_voice_units.specs.declared.unit.VoiceUnit.TheVariants.{Header as header_unit, Link1 as ldu1_unit, Link2 as ldu2_unit, End as end_unit, EndLink as tdulc_unit}
use Rattle.p25_packet_blocks.specs.{Heads.{confirmed_head, plain_head, response_head}, declared.block.Slot.{Slot}, declared.block.Slot.TheVariants.{Good}}
use Rattle.p25_packet_blocks.specs.Reading.{confirmed_by_parts, plain_by_parts}
use Rattle.p25_units.specs.{declared.unit.Body.{Body}, declared.unit.Body.TheVariants.{Voice, Packet}}
use Rattle.p25_vectors.specs.{Draws.{Drawing, and_then, draw, drawn, octets_drawn, octets_next, state_after}, declared.bodies.Kind.{Kind}}
use Rattle.p25_vectors.specs.declared.bodies.Kind.TheVariants.{End, Header, EndLink, Link1, Link2, Confirmed, Plain, Response}

-- the types, in turn
unfoldable pub kinds : List Kind
kinds = End ∷ Header ∷ EndLink ∷ Link1 ∷ Link2 ∷ Confirmed ∷ Plain ∷ Response ∷ []

-- the type of the data unit of an index, from 0
unfoldable pub kind_of : ℕ → Kind
kind_of i = slice_index_or kinds (i % 8) End

-- the header word of an HDU: fifteen octets of MI, MFID, ALGID, KID and TGID
abbrev pub header_of : List ℕ → HeaderWord
header_of octets = record {
  mi = take 9 octets;
  mfid = slice_index octets 9;
  algid = slice_index octets 10;
  kid = pair_at octets 11;
  tgid = pair_at octets 13;
}

-- encryption sync (ES), of an LDU2: twelve octets of MI, ALGID and KID
abbrev pub sync_of : List ℕ → EncryptionSync
sync_of octets = record { mi = take 9 octets; algid = slice_index octets 9; kid = pair_at octets 10 }

-- link control (LC), of an LDU1 or a TDULC: nine octets
abbrev pub link_of : List ℕ → LinkControl
link_of octets = record { 0 = octets }

-- a voice frame of eighteen octets
abbrev pub voice_frame_of : List ℕ → VoiceFrame
voice_frame_of octets = record { 0 = octets }

-- a number of voice frames, of an LDU1 or an LDU2
unfoldable pub voice_drawn : ℕ → ℕ → List VoiceFrame
voice_drawn count state = each_below count (λ i. voice_frame_of (octets_drawn 18 (state_after (18 * i) state)))

abbrev pub voice_next : ℕ → Drawing (List VoiceFrame)
voice_next count = λ state. (voice_drawn count state, state_after (18 * count) state)

-- a logical link identifier (LLID): three octets
abbrev pub llid_drawn : ℕ → ℕ
llid_drawn state = triple_at (octets_drawn 3 state) 0

abbrev pub llid_next : Drawing ℕ
llid_next = λ state. (llid_drawn state, state_after 3 state)

-- the number of blocks to follow, one to four
abbrev pub blocks_drawn : ℕ → ℕ
blocks_drawn state = 1 + draw 0 state % 4

abbrev pub blocks_next : Drawing ℕ
blocks_next = λ state. (blocks_drawn state, state_after 1 state)

-- a block of a serial number and sixteen octets
abbrev pub block_of : ℕ → List ℕ → Slot
block_of serial octets = Good (record { serial = serial; octets = octets })

-- a number of blocks of a confirmed packet (PDU)
unfoldable pub slots_drawn : ℕ → ℕ → List Slot
slots_drawn blocks state = each_below blocks (λ j. block_of j (octets_drawn 16 (state_after (16 * j) state)))

abbrev pub slots_next : ℕ → Drawing (List Slot)
slots_next blocks = λ state. (slots_drawn blocks state, state_after (16 * blocks) state)

-- the contents of a data unit of a type, its parts drawn one after the other
unfoldable pub body_next : Kind → Drawing Body
body_next End = drawn (Voice end_unit)
body_next Header = and_then (octets_next 15) (λ octets. drawn (Voice (header_unit (header_of octets))))
body_next EndLink = and_then (octets_next 9) (λ octets. drawn (Voice (tdulc_unit (link_of octets))))
body_next Link1 =
    and_then (octets_next 9) (λ octets. and_then (octets_next 2) (λ low. and_then (voice_next 9) (λ voice.
    drawn (Voice (ldu1_unit (link_of octets) low voice)))))
body_next Link2 =
    and_then (octets_next 12) (λ octets. and_then (octets_next 2) (λ low. and_then (voice_next 9) (λ voice.
    drawn (Voice (ldu2_unit (sync_of octets) low voice)))))
body_next Confirmed =
    and_then blocks_next (λ blocks. and_then llid_next (λ llid. and_then (slots_next blocks) (λ slots.
    drawn (Packet (confirmed_by_parts (confirmed_head llid true blocks 0 0) slots)))))
body_next Plain =
    and_then blocks_next (λ blocks. and_then llid_next (λ llid. and_then (octets_next (12 * blocks - 4)) (λ octets.
    drawn (Packet (plain_by_parts (plain_head llid blocks 0) octets)))))
body_next Response = and_then llid_next (λ llid. drawn (Packet (plain_by_parts (response_head llid 0 1 0 0) [])))
