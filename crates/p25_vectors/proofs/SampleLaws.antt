-- Damaged sample data units lie within the correction radius of their frames and decode to them. The damage is in codewords that their codes correct,
-- so the voice frames and the status symbols are as transmitted.
use Rattle.std.proofs.Common.{◌≡◌, ℕ, suc, ◌+◌, ◌*◌, ◌/◌, ◌%◌, ◌≤◌, ◌⊎◌, inl, inr, ◌&&◌, ◌||◌, Bool, true, nat_le, List, [], ◌∷◌, ◌++◌, length, take, drop, map, replicate, sum, Ok, refl, ap, ap₂, sym, subst, ◌∙◌, arith, length-drop}
use Rattle.std.proofs.{lemmas.Bool.{and_parts, or_cases, leb-true}, lemmas.List.{length-replicate, length-take-le, take_at, drop_at, take-take, append-nil}, lemmas.List.Sums.{sum_by_push}}
use Rattle.std.specs.{List.{list_all, AllByRecursion as Each}, Option.{unwrap_or}}
use Rattle.p25_bits.specs.{Bits.{part}, Distance.{distance_of}, Numbers.{each_below, numbers_from}}
use Rattle.p25_bits.proofs.{PartLaws.{drop-part, take-part}, NumbersLaws.{numbers_from-take, each_below-zero, each_below-more}}
use Rattle.p25_status.specs.{Woven.{bare_of, statuses_of}, declared.symbols.Status.{Status}, Status.{status_modulo}}
use Rattle.p25_status.proofs.WovenLaws.{length-woven, bare_of-woven, statuses_of-woven}
use Rattle.p25_unit_front.specs.Front.{front_of, identifier_bits}
use Rattle.p25_unit_front.proofs.FrontLaws.{front_of-bare_of}
use Rattle.p25_voice_units.specs.{declared.voice.VoiceFrame.{VoiceFrame}, declared.unit.VoiceUnit.{VoiceUnit}, declared.unit.VoiceUnit.TheVariants.{Link1, Link2}, FieldLayouts.{word_places}}
use Rattle.p25_voice_units.specs.{Fixes.{wide, link_looked}, Images.{voice_image_of}, Layouts.{ldu_rows}, Lengths.{voice_duid, voice_length_of}}
use Rattle.p25_voice_units.specs.{Readings.{frame_places, frame_in, low_places, voice_in}, Sendable.{IsSendableVoice}}
use Rattle.p25_units.specs.{Needs.{need_of}, Readings.{unit_reading_of}, UnitParts.{UnitParts}}
use Rattle.p25_units.specs.Units.{body_image_of, body_length, filled_frame, frame_length_of, image_of, unit_image_of, IsSendableBody, IsSendableUnit, IsSoundFrame, IsWholeBody}
use Rattle.p25_units.specs.{WithinRadius.{IsBodyWithin, IsFrontWithin, IsWithinRadius, received_body, received_frame}, declared.unit.Body.{Body}, declared.unit.Body.TheVariants.{Voice, Packet}}
use Rattle.p25_units.specs.{declared.frame.Frame.{Frame}, declared.needs.Need.TheVariants.{Length}}
use Rattle.p25_voice_units.proofs.RadiusLaws.{within_from_words, received_itself}
use Rattle.p25_coded_fields.specs.Layouts.{places_from}
use Rattle.p25_packet_blocks.specs.Image.{packet_image_of}
use Rattle.p25_units.proofs.{ReadingsLaws.{IsVoiceImage-same}, UnitsLaws.{length-body_image_of, blocks-sound, symbols-image, length-image_of-blocks, bare_of-image_of}}
use Rattle.p25_units.proofs.WithinRadiusLaws.{need_of-near, unit_reading_of-near}
use Rattle.p25_vectors.specs.{Draws.{draw, state_after}, Damage.{Hit, both, damaged, inversions, word_hits, link_hits, body_hits, unit_hits}}
use Rattle.p25_vectors.specs.Samples.{frame_of, frame_next, damaged_image, damage_state, flips_of, sample_bits, sample_flips, sample_frame, state_before, state_behind_unit}
use Rattle.p25_vectors.specs.{Bodies.{body_next, kind_of}, declared.bodies.Kind.{Kind}}
use Rattle.p25_vectors.proofs.{BodiesLaws.{body_next-whole}, DamageLaws.{word_of, IsFit, IsOutside, IsNearAt, length-damaged, part-damaged}}
use Rattle.p25_vectors.proofs.WithinLaws.{behind, voice-within, packet-within, link-words, unit-fit, unit-near, parts-near}

-- Voice frames.

-- a voice frame lies outside of words
clear : ℕ → List (ℕ × ℕ) → Bool
clear at words = list_all (λ word. nat_le (word.0 + word.1) at || nat_le (at + 144) word.0) words

clear-outside : (at : ℕ) (hits : List Hit) → Each IsFit hits → clear at (map word_of hits) ≡ true → Each (IsOutside at 144) hits
unfolding clear
clear-outside at [] fit test = tt
clear-outside at (hit ∷ hits) fit test =
    let parts = and_parts (nat_le (hit.0 + hit.1) at || nat_le (at + 144) hit.0) (clear at (map word_of hits)) test in
    let first : IsOutside at 144 hit = elim (or_cases (nat_le (hit.0 + hit.1) at) (nat_le (at + 144) hit.0) parts.0) [
      | inl behind ↦ inl (omega (arith, fit.0, leb-true (hit.0 + hit.1) at behind))
      | inr before ↦ inr (leb-true (at + 144) hit.0 before)
    ] in
    (first, clear-outside at hits fit.1 parts.1)

-- it is there
frame-same : (at : ℕ) (sent received : List Bool) → at + 144 ≤ length sent → length received ≡ length sent → part at 144 received ≡ part at 144 sent → frame_in at received ≡ frame_in at sent
unfolding frame_in
frame-same at sent received there long same =
    let made : List ℕ → VoiceFrame = λ octets. record { 0 = octets } in
    let inside : 8 * 18 ≤ 144 = omega arith in
    let first : 8 * 18 ≤ length (drop at received) = omega (arith, length-drop at received, long, there) in
    let second : 8 * 18 ≤ length (drop at sent) = omega (arith, length-drop at sent, there) in
    ap made (sym (numbers_from-take 8 18 144 (drop at received) inside first) ∙ ap (numbers_from 8 18) same ∙ numbers_from-take 8 18 144 (drop at sent) inside second)

frames-same : (hits : List Hit) (sent : List Bool) (places : List ℕ) → Each IsFit hits → length sent ≡ 1680
    → list_all (λ at. nat_le (at + 144) 1680 && clear at (map word_of hits)) places ≡ true
    → map (λ at. frame_in at (damaged hits sent)) places ≡ map (λ at. frame_in at sent) places
frames-same hits sent [] fit long test = refl
frames-same hits sent (at ∷ places) fit long test =
    let parts = and_parts (nat_le (at + 144) 1680 && clear at (map word_of hits)) (list_all (λ at. nat_le (at + 144) 1680 && clear at (map word_of hits)) places) test in
    let here = and_parts (nat_le (at + 144) 1680) (clear at (map word_of hits)) parts.0 in
    let there : at + 144 ≤ length sent = omega (arith, leb-true (at + 144) 1680 here.0, long) in
    ap₂ (λ (x : VoiceFrame) (xs : List VoiceFrame). x ∷ xs)
    (frame-same at sent (damaged hits sent) there (length-damaged hits sent) (part-damaged at 144 hits sent (clear-outside at hits fit here.1)))
    (frames-same hits sent places fit long parts.1)

frames-clear : list_all (λ at. nat_le (at + 144) 1680 && clear at ((0, 48) ∷ (48, 63) ∷ link_looked)) (frame_places ldu_rows) ≡ true
unfolding clear frame_places link_looked wide word_places places_from low_places
frames-clear = refl

-- What a unit carries.

long-link : (nac : ℕ) (voice : VoiceUnit) → IsSendableVoice voice → body_length (Voice voice) ≡ 1680 → length (voice_image_of nac voice) ≡ 1680
unfolding IsSendableBody
long-link nac voice sendable is = length-body_image_of nac (Voice voice) sendable ∙ is

link_long : (voice : VoiceUnit) → voice_duid voice ≡ 5 ⊎ voice_duid voice ≡ 10 → body_length (Voice voice) ≡ 1680
unfolding voice_length_of
link_long voice (inl is) = ap (λ (d : ℕ). unwrap_or (voice_length_of d) 0) is
link_long voice (inr is) = ap (λ (d : ℕ). unwrap_or (voice_length_of d) 0) is

voice-same : (voice : VoiceUnit) (state : ℕ) (sent : List Bool) → map word_of (unit_hits (Voice voice) state).0 ≡ (0, 48) ∷ (48, 63) ∷ link_looked → length sent ≡ 1680
    → voice_in (damaged (unit_hits (Voice voice) state).0 sent) ≡ voice_in sent
unfolding voice_in
voice-same voice state sent words long =
    frames-same (unit_hits (Voice voice) state).0 sent (frame_places ldu_rows) (unit-fit (Voice voice) state) long (rw words frames-clear)

unit-words : (most state : ℕ) → map word_of (both (both (word_hits 48 4 0 (0 ∷ [])) (word_hits 63 11 0 (48 ∷ []))) (link_hits most) state).0 ≡ (0, 48) ∷ (48, 63) ∷ link_looked
unfolding word_hits
unit-words most state = ap (λ words. (0, 48) ∷ (48, 63) ∷ words) (link-words most (state_after 1 (state_after 1 state)))

received-same : (nac : ℕ) (body : Body) (state : ℕ) → IsSendableBody body
    → received_body body (damaged (unit_hits body state).0 (body_image_of nac body)) ≡ body
unfolding IsSendableBody unit_hits body_hits
received-same nac (Voice (Link1 link low voice)) state sendable =
    let unit = Link1 link low voice in
    let sent = voice_image_of nac unit in
    let same = voice-same unit state sent (unit-words 6 state) (long-link nac unit sendable (link_long unit (inl refl))) in
    ap (λ (v : List VoiceFrame). Voice (Link1 link low v)) same ∙ ap Voice (received_itself nac unit sent sendable (IsVoiceImage-same nac unit sendable))
received-same nac (Voice (Link2 sync low voice)) state sendable =
    let unit = Link2 sync low voice in
    let sent = voice_image_of nac unit in
    let same = voice-same unit state sent (unit-words 4 state) (long-link nac unit sendable (link_long unit (inr refl))) in
    ap (λ (v : List VoiceFrame). Voice (Link2 sync low v)) same ∙ ap Voice (received_itself nac unit sent sendable (IsVoiceImage-same nac unit sendable))
received-same nac body state sendable = refl

body-within : (nac : ℕ) (body : Body) (state : ℕ) (received : List Bool) → IsSendableBody body → length received ≡ length (body_image_of nac body)
    → Each (IsNearAt (body_image_of nac body) received) (body_hits body state).0 → IsBodyWithin body (body_image_of nac body) received
unfolding IsSendableBody IsBodyWithin
body-within nac (Voice voice) state received sendable long is =
    within_from_words nac voice (voice_image_of nac voice) received (IsVoiceImage-same nac voice sendable) long (voice-within voice state (voice_image_of nac voice) received is)
body-within nac (Packet packet) state received sendable long is = packet-within packet state (packet_image_of nac packet) received long is

-- Sync and NID of a transmitted data unit, by its bits without status symbols.
sent-front : (blocks : ℕ) (sent : List Bool) → 2 ≤ blocks → length sent ≡ 72 * blocks
    → (take 48 sent ≡ part 0 48 (bare_of sent)) × (take 63 (identifier_bits sent) ≡ part 48 63 (bare_of sent))
unfolding front_of
sent-front blocks sent two long =
    let bare = bare_of sent in
    let front : take 112 bare ≡ take 48 sent ++ identifier_bits sent = front_of-bare_of blocks sent two long in
    let first : length (take 48 sent) ≡ 48 = length-take-le 48 sent (omega arith) in (
      sym (take_at (take 48 sent) (identifier_bits sent) 48 first) ∙ sym (ap (take 48) front) ∙ take-take 48 112 bare (omega arith),
      ap (take 63) (sym (drop_at (take 48 sent) (identifier_bits sent) 48 first) ∙ sym (ap (drop 48) front) ∙ drop-part 0 112 48 bare (omega arith)) ∙ take-part 48 64 63 bare (omega arith),
    )

-- A frame.

module _ (frame : Frame) (sound : IsSoundFrame frame) (sendable : IsSendableUnit frame.unit) (state : ℕ) where
  blocks : ℕ
  blocks = length frame.statuses

  sent : List Bool
  sent = damaged_image frame state

  bare : List Bool
  bare = damaged (unit_hits frame.unit.body state).0 (unit_image_of frame.unit)

  long_bare : length bare ≡ 70 * blocks
  unfolding bare blocks
  long_bare = length-damaged (unit_hits frame.unit.body state).0 (unit_image_of frame.unit) ∙ symbols-image frame sound sendable

  long_sent : length sent ≡ 72 * blocks
  unfolding sent damaged_image bare blocks
  long_sent = length-woven bare frame.statuses long_bare

  bare_is : bare_of sent ≡ bare
  unfolding sent damaged_image bare blocks
  bare_is = bare_of-woven bare frame.statuses long_bare

  statuses_are : statuses_of sent ≡ frame.statuses
  unfolding sent damaged_image bare blocks
  statuses_are = statuses_of-woven bare frame.statuses long_bare

  near : (distance_of (part 0 48 bare) (part 0 48 (unit_image_of frame.unit)) ≤ 4) × (distance_of (part 48 63 bare) (part 48 63 (unit_image_of frame.unit)) ≤ 11)
      × Each (IsNearAt (unit_image_of frame.unit) bare) (body_hits frame.unit.body (behind frame.unit.body state)).0
  unfolding bare
  near = parts-near frame.unit.body state (unit_image_of frame.unit) bare (unit-near frame.unit.body state (unit_image_of frame.unit))

  front-within : IsFrontWithin frame sent
  unfolding blocks
  front-within =
      let image = image_of frame in
      let two = (blocks-sound frame sound).0 in
      let here = sent-front blocks sent two long_sent in
      let there = sent-front blocks image two (length-image_of-blocks frame sound sendable) in
      let image_bare = bare_of-image_of frame sound sendable in
      let first = here.0 ∙ ap (part 0 48) bare_is in
      let second = there.0 ∙ ap (part 0 48) image_bare in
      let third = here.1 ∙ ap (part 48 63) bare_is in
      let fourth = there.1 ∙ ap (part 48 63) image_bare in
      record {
        long = long_sent ∙ sym (length-image_of-blocks frame sound sendable);
        sync = omega (arith, near.0, ap₂ (λ (xs ys : List Bool). distance_of xs ys) first second);
        identifier = omega (arith, near.1, ap₂ (λ (xs ys : List Bool). distance_of xs ys) third fourth);
      }

  body-is-within : IsBodyWithin frame.unit.body (unit_image_of frame.unit) bare
  unfolding unit_image_of bare
  body-is-within =
      let long = length-damaged (unit_hits frame.unit.body state).0 (unit_image_of frame.unit) in
      body-within frame.unit.nac frame.unit.body (behind frame.unit.body state) bare sendable.body long near.2

  pub image-within : IsWithinRadius frame (damaged_image frame state)
  unfolding sent
  image-within = record { front = front-within; body = subst (IsBodyWithin frame.unit.body (unit_image_of frame.unit)) (sym bare_is) body-is-within }

  pub image-received : received_frame frame (damaged_image frame state) ≡ frame
  unfolding sent bare unit_image_of
  image-received =
      ap₂ (λ (body : Body) (statuses : List Status). let unit : UnitParts = record { nac = frame.unit.nac; body = body } in let same : Frame = record { unit = unit; statuses = statuses } in same)
      (ap (received_body frame.unit.body) bare_is ∙ received-same frame.unit.nac frame.unit.body state sendable.body)
      statuses_are

  pub image-length : need_of (damaged_image frame state) ≡ Length (length (damaged_image frame state))
  image-length =
      ap need_of (sym (append-nil (damaged_image frame state))) ∙ need_of-near frame (damaged_image frame state) [] sound sendable image-within

  pub image-reads : unit_reading_of (damaged_image frame state) ≡ Ok frame
  image-reads = unit_reading_of-near frame (damaged_image frame state) sound sendable image-within ∙ ap Ok image-received

-- Frames that were drawn.

pub frame_of-sound : (nac : ℕ) (status : Status) (body : Body) → IsWholeBody body → IsSoundFrame (frame_of nac status body)
unfolding frame_length_of
frame_of-sound nac status body whole = record { whole = whole; symbols = omega (arith, length-replicate (body_length body / 70) status) }

pub frame_next-sound : (kind : Kind) (state : ℕ) → IsSoundFrame (frame_next kind state).0
unfolding frame_next
frame_next-sound kind state =
    let behind = state_after 1 (state_after 1 state) in
    frame_of-sound (draw 0 state % 4096) (status_modulo (draw 0 (state_after 1 state))) (body_next kind behind).0 (body_next-whole kind behind)

pub frame-drawn : (kind : Kind) (state first second last nac : ℕ) (status : Status) (body : Body) (unit : UnitParts)
    → nac ≡ draw 0 state % 4096 → first ≡ state_after 1 state → status ≡ status_modulo (draw 0 first) → second ≡ state_after 1 first
    → body ≡ (body_next kind second).0 → last ≡ (body_next kind second).1 → unit ≡ record { nac = nac; body = body }
    → (filled_frame status unit ≡ (frame_next kind state).0) × (last ≡ (frame_next kind state).1)
unfolding frame_next frame_length_of
frame-drawn kind state first second last nac status body unit a b c d e f g =
    let behind : second ≡ state_after 1 (state_after 1 state) = d ∙ ap (state_after 1) b in
    let symbol : status ≡ status_modulo (draw 0 (state_after 1 state)) = c ∙ ap (λ (s : ℕ). status_modulo (draw 0 s)) b in
    let carried : body ≡ (body_next kind (state_after 1 (state_after 1 state))).0 = e ∙ ap (λ (s : ℕ). (body_next kind s).0) behind in
    let made : ℕ → Body → UnitParts = λ n x. record { nac = n; body = x } in
    let whole : UnitParts → List Status → Frame = λ u xs. record { unit = u; statuses = xs } in
    let units : unit ≡ made (draw 0 state % 4096) (body_next kind (state_after 1 (state_after 1 state))).0 = g ∙ ap₂ made a carried in
    let count : frame_length_of unit / 72 ≡ body_length unit.body / 70 = omega arith in
    let symbols : replicate (frame_length_of unit / 72) status ≡ replicate (body_length (body_next kind (state_after 1 (state_after 1 state))).0 / 70) (status_modulo (draw 0 (state_after 1 state)))
    = ap₂ (λ (n : ℕ) (x : Status). replicate n x) (count ∙ ap (λ (u : UnitParts). body_length u.body / 70) units) symbol in
    (ap₂ whole units symbols, f ∙ ap (λ (s : ℕ). (body_next kind s).1) behind)

-- The units in order.

pub sample-next : (i state middle last flips : ℕ) (kind : Kind) (frame : Frame) (bits : List Bool) → kind ≡ kind_of i → state ≡ state_before i → frame ≡ (frame_next kind state).0
    → middle ≡ (frame_next kind state).1 → bits ≡ damaged_image frame middle → flips ≡ inversions (unit_hits frame.unit.body middle).0
    → last ≡ (unit_hits frame.unit.body middle).1
    → (frame ≡ sample_frame i) × (bits ≡ sample_bits i) × (flips ≡ sample_flips i) × (last ≡ state_before (i + 1))
unfolding sample_frame sample_bits sample_flips state_before state_behind_unit
sample-next i state middle last flips kind frame bits a b c d e f g =
    let frames : frame ≡ sample_frame i = c ∙ ap₂ (λ (k : Kind) (s : ℕ). (frame_next k s).0) a b in
    let behind : middle ≡ damage_state i = d ∙ ap₂ (λ (k : Kind) (s : ℕ). (frame_next k s).1) a b in
    let next : suc i ≡ i + 1 = omega arith in (
      frames,
      e ∙ ap₂ damaged_image frames behind,
      f ∙ ap₂ (λ (x : Frame) (s : ℕ). inversions (unit_hits x.unit.body s).0) frames behind,
      g ∙ ap₂ (λ (x : Frame) (s : ℕ). (unit_hits x.unit.body s).1) frames behind ∙ ap state_before next,
    )

pub flips_of-none : flips_of 0 ≡ 0
unfolding flips_of
flips_of-none = ap sum (each_below-zero sample_flips)

pub flips_of-more : (units : ℕ) → flips_of (units + 1) ≡ flips_of units + sample_flips units
unfolding flips_of
flips_of-more units = ap sum (each_below-more units sample_flips) ∙ sum_by_push (λ (x : ℕ). x) (each_below units sample_flips) (sample_flips units)
