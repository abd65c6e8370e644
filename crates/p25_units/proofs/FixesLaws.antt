-- The fixes of a frame are those of sync and NID and those after them, by splitting the lists of examined bits.
use Rattle.std.proofs.Common.{◌≡◌, ℕ, zero, suc, ◌+◌, ◌*◌, ◌≤◌, Bool, List, [], ◌∷◌, ◌++◌, length, take, drop, refl, ap, ap₂, sym, ◌∙◌, arith, append-nil, append_assoc, length-drop}
use Rattle.std.proofs.lemmas.List.{take-take, length-take-le}
use Rattle.std.specs.Bool.{beq}
use Rattle.p25_bits.specs.{Bits.{part}, Numbers.{each_below}, Distance.{distance_of}}
use Rattle.p25_bits.proofs.{PartLaws.{part_add}, NumbersLaws.{each_below-zero, each_below-suc}, DistanceLaws.{distance_of-same, distance_by-append}}
use Rattle.p25_status.specs.Woven.{bare_of}
use Rattle.p25_status.proofs.WovenLaws.{length-bare_of}
use Rattle.p25_unit_front.specs.Front.{unit_front, front_of, front_fixes_of}
use Rattle.p25_unit_front.proofs.FrontLaws.{front_of-bare_of, front_fixes_of-take}
use Rattle.p25_voice_units.specs.{declared.unit.VoiceUnit.{VoiceUnit}, declared.unit.VoiceUnit.TheVariants.{End}, Fixes.{voice_looked, bits_at, voice_fixes_of}, Images.{voice_image_of}}
use Rattle.p25_voice_units.proofs.FixesLaws.{bits_at-append}
use Rattle.p25_packet_blocks.specs.{declared.packet.Packet.{Packet as packet_type}, Heads.{head_blocks}, Image.{packet_image_of}, Whole.{packet_head}}
use Rattle.p25_units.specs.{UnitParts.{UnitParts}, Units.{body_duid, frame_length_of, unit_image_of, image_of, IsSoundFrame, IsSendableBody, IsSendableUnit}}
use Rattle.p25_units.specs.{Fixes.{packet_looked, body_looked, looked_of, body_fixes_of, fixes_of}, declared.unit.Body.TheVariants.{Voice, Packet}, declared.frame.Frame.{Frame}}
use Rattle.p25_units.proofs.UnitsLaws.{blocks-sound, unit_image_of-front, bare_of-image_of, length-unit_image_of, IsSentLength-body}

-- the bits at one position, and at none
bits_at-cons : (place : ℕ × ℕ) (places : List (ℕ × ℕ)) (bits : List Bool) → bits_at (place ∷ places) bits ≡ part place.0 place.1 bits ++ bits_at places bits
unfolding bits_at
bits_at-cons place places bits = refl

bits_at-nil : (bits : List Bool) → bits_at [] bits ≡ []
unfolding bits_at
bits_at-nil bits = refl

-- the first 111 bits of a list that begins with given 112 bits
first_111 : (bits start : List Bool) → take 112 bits ≡ start → take 111 bits ≡ take 111 start
first_111 bits start is = sym (take-take 111 112 bits (omega arith)) ∙ ap (take 111) is

-- the fixes of a sendable frame are those of its sync and NID and those after them
pub fixes_of-parts : (frame : Frame) (blocks : ℕ) (sent : List Bool) → IsSendableBody frame.unit.body → 2 ≤ blocks → length sent ≡ 72 * blocks
    → fixes_of frame sent ≡ front_fixes_of (frame.unit.nac, body_duid frame.unit.body) sent + body_fixes_of frame.unit (bare_of sent)
unfolding fixes_of front_fixes_of body_fixes_of
fixes_of-parts frame blocks sent sendable two long =
    let unit = frame.unit in
    let places = body_looked unit.body in
    let bare = bare_of sent in
    let image = unit_image_of unit in
    let is = IsSentLength-body unit.body in
    let bare_long : 111 ≤ length bare = omega (arith, length-bare_of blocks sent long, two) in
    let image_long : 111 ≤ length image = omega (arith, length-unit_image_of unit sendable, is.fills, is.least) in
    ap₂ (λ (xs ys : List Bool). distance_of xs ys) (bits_at-cons (0, 111) places bare) (bits_at-cons (0, 111) places image)
    ∙ distance_by-append beq (take 111 bare) (bits_at places bare) (take 111 image) (bits_at places image) (length-take-le 111 bare bare_long ∙ sym (length-take-le 111 image image_long))
    ∙ ap (λ n. n + distance_of (bits_at places bare) (bits_at places image))
    (ap₂ (λ (xs ys : List Bool). distance_of xs ys)
    (first_111 bare (front_of sent) (front_of-bare_of blocks sent two long))
    (first_111 image (unit_front unit.nac (body_duid unit.body)) (unit_image_of-front unit sendable)))

-- the fixes of a voice data unit
pub body_fixes_of-voice : (nac : ℕ) (voice : VoiceUnit) (bare : List Bool)
    → let unit : UnitParts = record { nac = nac; body = Voice voice } in body_fixes_of unit bare ≡ voice_fixes_of voice bare (voice_image_of nac voice)
unfolding body_fixes_of unit_image_of voice_fixes_of
body_fixes_of-voice nac voice bare = refl

-- after sync and NID of a terminator no bit is examined
pub body_fixes_of-end : (nac : ℕ) (bare : List Bool) → let unit : UnitParts = record { nac = nac; body = Voice End } in body_fixes_of unit bare ≡ 0
unfolding body_fixes_of voice_looked
body_fixes_of-end nac bare =
    let unit : UnitParts = record { nac = nac; body = Voice End } in
    ap₂ (λ (xs ys : List Bool). distance_of xs ys) (bits_at-nil bare) (bits_at-nil (unit_image_of unit)) ∙ distance_of-same []

-- the examined positions of a packet touch
block_places : ℕ → List (ℕ × ℕ)
block_places n = each_below n (λ j. (308 + 196 * j, 196))

bits_at-blocks : (n : ℕ) (bits : List Bool) → part 112 196 bits ++ bits_at (block_places n) bits ≡ part 112 (196 * (1 + n)) bits
unfolding block_places
bits_at-blocks zero bits = ap (λ (rest : List Bool). part 112 196 bits ++ rest)
    (ap (λ places. bits_at places bits) (each_below-zero (λ j. (308 + 196 * j, 196))) ∙ bits_at-nil bits) ∙ append-nil (part 112 196 bits)
bits_at-blocks (suc n) bits =
    let place : ℕ × ℕ = (308 + 196 * n, 196) in
    let one : bits_at (place ∷ []) bits ≡ part (308 + 196 * n) 196 bits
    = bits_at-cons place [] bits ∙ ap (λ (rest : List Bool). part (308 + 196 * n) 196 bits ++ rest) (bits_at-nil bits) ∙ append-nil (part (308 + 196 * n) 196 bits) in
    let last : 112 + 196 * (1 + n) ≡ 308 + 196 * n = omega arith in
    let all : 196 * (1 + n) + 196 ≡ 196 * (1 + suc n) = omega arith in
    ap (λ (rest : List Bool). part 112 196 bits ++ rest)
    (ap (λ places. bits_at places bits) (each_below-suc n (λ j. (308 + 196 * j, 196)))
    ∙ bits_at-append (block_places n) (place ∷ []) bits ∙ ap (λ (rest : List Bool). bits_at (block_places n) bits ++ rest) one)
    ∙ sym (append_assoc (part 112 196 bits) (bits_at (block_places n) bits) (part (308 + 196 * n) 196 bits))
    ∙ ap₂ (λ (xs ys : List Bool). xs ++ ys) (bits_at-blocks n bits) (ap (λ at. part at 196 bits) (sym last))
    ∙ part_add 112 (196 * (1 + n)) 196 bits
    ∙ ap (λ count. part 112 count bits) all

bits_at-packet : (n : ℕ) (bits : List Bool) → bits_at (packet_looked n) bits ≡ part 112 (196 * (1 + n)) bits
unfolding packet_looked block_places
bits_at-packet n bits = bits_at-cons (112, 196) (block_places n) bits ∙ bits_at-blocks n bits

pub body_fixes_of-packet : (nac : ℕ) (packet : packet_type) (bare : List Bool)
    → let unit : UnitParts = record { nac = nac; body = Packet packet } in
    let count = 196 * (1 + head_blocks (packet_head packet)) in
    body_fixes_of unit bare ≡ distance_of (part 112 count bare) (part 112 count (packet_image_of nac packet))
unfolding body_fixes_of unit_image_of
body_fixes_of-packet nac packet bare =
    let n = head_blocks (packet_head packet) in
    ap₂ (λ (xs ys : List Bool). distance_of xs ys) (bits_at-packet n bare) (bits_at-packet n (packet_image_of nac packet))

-- an undamaged image has none
pub fixes_of-image_of : (frame : Frame) → IsSoundFrame frame → IsSendableUnit frame.unit → fixes_of frame (image_of frame) ≡ 0
unfolding fixes_of
fixes_of-image_of frame sound sendable =
    let places = looked_of frame.unit in
    ap (λ (xs : List Bool). distance_of (bits_at places xs) (bits_at places (unit_image_of frame.unit))) (bare_of-image_of frame sound sendable)
    ∙ distance_of-same (bits_at places (unit_image_of frame.unit))

-- the fixes of a sound frame, if its bits are among others
pub fixes_in : (frame : Frame) (bits : List Bool) (at nac duid : ℕ)
    → IsSoundFrame frame → IsSendableUnit frame.unit → at + frame_length_of frame.unit ≤ length bits → nac ≡ frame.unit.nac → duid ≡ body_duid frame.unit.body
    → (m n : ℕ) → m ≡ front_fixes_of (nac, duid) (drop at bits) → n ≡ body_fixes_of frame.unit (bare_of (part at (frame_length_of frame.unit) bits))
    → m + n ≡ fixes_of frame (part at (frame_length_of frame.unit) bits)
fixes_in frame bits at nac duid sound sendable there nac_is duid_is m n front body =
    let count = frame_length_of frame.unit in
    let rest = drop at bits in
    let sent = take count rest in
    let blocks = length frame.statuses in
    let two = (blocks-sound frame sound).0 in
    let enough : count ≤ length rest = omega (arith, there, length-drop at bits) in
    let long : length sent ≡ 72 * blocks = length-take-le count rest enough ∙ sym sound.symbols in
    let many : 114 ≤ count = omega (arith, sound.symbols, two) in
    ap₂ (λ (a b : ℕ). a + b)
    (front ∙ ap₂ (λ (a b : ℕ). front_fixes_of (a, b) rest) nac_is duid_is ∙ sym (front_fixes_of-take (frame.unit.nac, body_duid frame.unit.body) count rest many))
    body
    ∙ sym (fixes_of-parts frame blocks sent sendable.body two long)
