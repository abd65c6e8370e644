-- The bits of a data unit with a known length, by its type: the length that its DUID or its header determines.
use Rattle.std.proofs.Common.{◌≡◌, ◌≢◌, ℕ, ◌*◌, ◌/◌, ◌%◌, ◌<◌, ◌≤◌, ◌⊎◌, inl, inr, Bool, List, length, take, Option, Some, None, Result, Ok, Err, refl, ap, sym, ◌∙◌, subst, arith}
use Rattle.std.proofs.{lemmas.Bool.{cases_eq, cases_lt}, lemmas.List.{length-take-le}}
use Rattle.p25_status.specs.{Woven.{bare_of}, declared.fields.Field.{Field}, declared.fields.Field.TheVariants.{Duid}}
use Rattle.p25_voice_units.specs.Lengths.{voice_length_of}
use Rattle.p25_packet_blocks.specs.{declared.head.PacketHead.{PacketHead}, Heads.{head_blocks}, Lengths.{packet_sent_length}, Reading.{head_reading_of}, UnitReading.{sent_head_of}}
use Rattle.p25_packet_blocks.proofs.{SentLaws.{sent_head_of-bare_of}, UnitLaws.{sent_head_of-take}}
use Rattle.p25_units.specs.{Units.{sent_length}, Needs.{voice_need, head_need, packet_need, kind_need}, declared.needs.Need.TheVariants.{More, Length, NoLength}}
use Rattle.p25_units.proofs.PacketNeedLaws.{length_need-is}
use Rattle.p25_units.proofs.NeedsLaws.{voice_need-none, voice_need-some, head_need-bad, head_need-good, packet_need-short, packet_need-long, kind_need-packet, kind_need-unpacked, IsHead-kind}

-- the bits of a voice data unit are as many as its DUID states
pub record IsVoiceKind (duid : ℕ) (sent : List Bool) : Type 0 where
  pub other : duid ≢ 0xC
  pub bare : ℕ
  pub kind : voice_length_of duid ≡ Some bare
  pub is : length sent ≡ sent_length bare

-- the bits of a packet are as many as its header states
pub record IsPacketKind (duid : ℕ) (sent : List Bool) : Type 0 where
  pub packet : duid ≡ 0xC
  pub head : PacketHead
  pub read : head_reading_of (bare_of sent) ≡ Ok head
  pub is : length sent ≡ packet_sent_length (head_blocks head)

-- the bits of a data unit: blocks of 72, as many as its type states
pub record IsUnitOf (duid : ℕ) (sent : List Bool) : Type 0 where
  pub blocks : ℕ
  pub long : length sent ≡ 72 * blocks
  pub least : 2 ≤ blocks
  pub most : blocks ≤ 360
  pub kind : IsVoiceKind duid sent ⊎ IsPacketKind duid sent

module _ (count : ℕ) (bits : List Bool) where
  voice_in : (duid : ℕ) (found : Option ℕ) → duid ≢ 0xC → count ≤ length bits → voice_length_of duid ≡ found → voice_need found (length bits) ≡ Length count → IsVoiceKind duid (take count bits)
  voice_in duid None other there is e = let two : NoLength Duid ≡ Length count = sym (voice_need-none (length bits)) ∙ e in absurd (cc)
  voice_in duid (Some bare) other there is e = record {
    other = other;
    bare = bare;
    kind = is;
    is = length-take-le count bits there ∙ sym (length_need-is (sent_length bare) (length bits) count (sym (voice_need-some bare (length bits)) ∙ e));
  }

  -- the header of the data unit's own bits is that of all
  own_head : (n : ℕ) → count ≤ length bits → count ≡ packet_sent_length n → sent_head_of bits ≡ head_reading_of (bare_of (take count bits))
  own_head n there is =
      let long : length (take count bits) ≡ 72 * (count / 72) = length-take-le count bits there ∙ omega (arith, is) in
      sym (sent_head_of-take count bits (omega (arith, is))) ∙ sent_head_of-bare_of (count / 72) (take count bits) (omega (arith, is)) long

  head_in : (reading : Result PacketHead Field) → count ≤ length bits → sent_head_of bits ≡ reading → head_need reading (length bits) ≡ Length count → IsPacketKind 0xC (take count bits)
  head_in (Err field) there is e = let two : NoLength field ≡ Length count = sym (head_need-bad field (length bits)) ∙ e in absurd (cc)
  head_in (Ok head) there is e =
      let known = sym (length_need-is (packet_sent_length (head_blocks head)) (length bits) count (sym (head_need-good head (length bits)) ∙ e)) in
      record {
        packet = refl;
        head = head;
        read = sym (own_head (head_blocks head) there known) ∙ is;
        is = length-take-le count bits there ∙ known;
      }

  packet_in : count ≤ length bits → packet_need bits ≡ Length count → IsPacketKind 0xC (take count bits)
  packet_in there e =
      elim (cases_lt (length bits) 316) [
        | inl short ↦ let two : More 316 ≡ Length count = sym (packet_need-short bits short) ∙ e in absurd (cc)
        | inr long ↦ head_in (sent_head_of bits) there refl (sym (packet_need-long bits long) ∙ e)
      ]

  kind_in : (duid : ℕ) → count ≤ length bits → kind_need duid bits ≡ Length count → IsVoiceKind duid (take count bits) ⊎ IsPacketKind duid (take count bits)
  kind_in duid there e =
      elim (cases_eq duid 0xC) [
        | inl packet ↦ inr (subst (λ (d : ℕ). IsPacketKind d (take count bits)) (sym packet) (packet_in there (sym (kind_need-packet bits) ∙ ap (λ d. kind_need d bits) (sym packet) ∙ e)))
        | inr other ↦ inl (voice_in duid (voice_length_of duid) other there refl (sym (kind_need-unpacked duid bits other) ∙ e))
      ]

  pub IsUnitOf-need : (duid : ℕ) → kind_need duid bits ≡ Length count → IsUnitOf duid (take count bits)
  IsUnitOf-need duid e =
      let bounds = (IsHead-kind duid).there bits count e in
      let some : 72 < count = bounds.0 in
      let whole : count % 72 ≡ 0 = bounds.2 in
      record {
        blocks = count / 72;
        long = length-take-le count bits bounds.3 ∙ omega (arith, whole);
        least = omega (arith, whole, some);
        most = omega (arith, bounds.1);
        kind = kind_in duid bounds.3 e;
      }
