-- Terminators: their frames are sound, their bits are the transmitted ones, and bits begin with one if and only if the first 144 lie within the
-- correction radius of its frame. By the laws of all data units, at a length of two blocks.
use Rattle.std.proofs.{Common.{◌≡◌, ℕ, ◌+◌, ◌*◌, ◌<◌, ◌≤◌, Bool, List, length, take, refl, ap, ap₂, sym, ◌∙◌, subst, arith}, lemmas.List.{length-take-le, take-take}}
use Rattle.p25_bits.specs.Distance.{distance_of}
use Rattle.p25_status.specs.{Sync.{sync_bits, sync_slack}, Woven.{woven, bare_of, statuses_of}, declared.symbols.Status.{Status}}
use Rattle.p25_status.proofs.WovenLaws.{length-statuses_of}
use Rattle.p25_bch_nid.specs.NidWord.{nid_word}
use Rattle.p25_unit_front.specs.Front.{unit_front, identifier_bits}
use Rattle.p25_unit_front.proofs.FrontLaws.{front_of-sync, front_of-identifier, front_fixes_of-parts, identifier_bits-take}
use Rattle.p25_voice_units.specs.{declared.unit.VoiceUnit.TheVariants.{End}, Lengths.{voice_length_of}, Sendable.{IsSendableVoice}, WithinRadius.{IsVoiceWithin}}
use Rattle.p25_voice_units.proofs.KindsLaws.{image-end}
use Rattle.p25_units.specs.{declared.unit.Body.TheVariants.{Voice}, Fixes.{fixes_of}, Terminators.{terminator, terminator_bits, sync_errors, identifier_errors, HasTerminator}}
use Rattle.p25_units.specs.{Units.{unit_image_of, frame_length_of, image_of, IsWholeBody, IsSoundFrame, IsSendableBody, IsSendableUnit}, WithinRadius.{IsBodyWithin, IsFrontWithin, IsWithinRadius}}
use Rattle.p25_units.proofs.{UnitsLaws.{front_of-image_of, length-image_of}, FixesLaws.{fixes_of-parts, body_fixes_of-end}}

-- a terminator has 144 transmitted bits
pub length-terminator : (nac : ℕ) (statuses : List Status) → frame_length_of (terminator nac statuses).unit ≡ 144
unfolding frame_length_of voice_length_of
length-terminator nac statuses = refl

-- with two status symbols its frame is sound
pub IsSoundFrame-terminator : (nac : ℕ) (statuses : List Status) → length statuses ≡ 2 → IsSoundFrame (terminator nac statuses)
unfolding IsWholeBody
IsSoundFrame-terminator nac statuses two = record { whole = tt; symbols = ap (λ n. 72 * n) two ∙ sym (length-terminator nac statuses) }

-- and with a network access code of 12 bits it is sendable
IsSendableBody-terminator : IsSendableBody (Voice End)
unfolding IsSendableBody IsSendableVoice
IsSendableBody-terminator = tt

pub IsSendableUnit-terminator : (nac : ℕ) (statuses : List Status) → nac < 4096 → IsSendableUnit (terminator nac statuses).unit
IsSendableUnit-terminator nac statuses fits = record { nac_fits = omega (arith, fits); body = IsSendableBody-terminator }

pub symbols-terminator : (nac : ℕ) (statuses : List Status) → IsSoundFrame (terminator nac statuses) → length statuses ≡ 2
symbols-terminator nac statuses sound = omega (arith, sound.symbols, length-terminator nac statuses)

-- its transmitted bits
pub image_of-terminator : (nac : ℕ) (statuses : List Status) → image_of (terminator nac statuses) ≡ terminator_bits nac statuses
unfolding image_of unit_image_of unit_front
image_of-terminator nac statuses = ap (λ bits. woven bits statuses) (image-end nac)

-- and their sync and NID
module _ (nac : ℕ) (statuses : List Status) (sound : IsSoundFrame (terminator nac statuses)) (fits : nac < 4096) where
  sendable : IsSendableUnit (terminator nac statuses).unit
  sendable = IsSendableUnit-terminator nac statuses fits

  long-terminator : length (image_of (terminator nac statuses)) ≡ 144
  long-terminator = length-image_of (terminator nac statuses) sound sendable ∙ length-terminator nac statuses

  sync-terminator : take 48 (image_of (terminator nac statuses)) ≡ sync_bits
  sync-terminator =
      front_of-sync nac 3 (image_of (terminator nac statuses)) (omega (arith, long-terminator)) (front_of-image_of (terminator nac statuses) sound sendable)

  identifier-terminator : identifier_bits (image_of (terminator nac statuses)) ≡ nid_word nac 3
  identifier-terminator =
      front_of-identifier nac 3 (image_of (terminator nac statuses)) (omega (arith, long-terminator)) (front_of-image_of (terminator nac statuses) sound sendable)

-- the errors of the first 144 bits are those of all
sync_errors-take : (bits : List Bool) → sync_errors (take 144 bits) ≡ sync_errors bits
sync_errors-take bits = ap (λ (xs : List Bool). distance_of xs sync_bits) (take-take 48 144 bits (omega arith))

identifier_errors-take : (nac : ℕ) (bits : List Bool) → identifier_errors nac (take 144 bits) ≡ identifier_errors nac bits
identifier_errors-take nac bits =
    ap (λ (xs : List Bool). distance_of (take 63 xs) (take 63 (nid_word nac 3))) (identifier_bits-take 144 bits (omega arith))

-- the status symbols of 144 bits are two
pub two-statuses : (bits : List Bool) → 144 ≤ length bits → length (statuses_of (take 144 bits)) ≡ 2
two-statuses bits there = length-statuses_of 2 (take 144 bits) (length-take-le 144 bits there)

-- bits that begin with a terminator are within the correction radius of its frame
pub IsWithinRadius-terminator : (nac : ℕ) (statuses : List Status) (bits : List Bool) → length statuses ≡ 2 → HasTerminator nac bits → IsWithinRadius (terminator nac statuses) (take 144 bits)
unfolding IsBodyWithin IsVoiceWithin
IsWithinRadius-terminator nac statuses bits two has =
    let sound = IsSoundFrame-terminator nac statuses two in
    let sync = sym (sync-terminator nac statuses sound has.fits) in
    let identifier = sym (identifier-terminator nac statuses sound has.fits) in
    record {
      front = record {
        long = length-take-le 144 bits has.there ∙ sym (long-terminator nac statuses sound has.fits);
        sync = subst (λ (xs : List Bool). distance_of (take 48 (take 144 bits)) xs ≤ sync_slack) sync (omega (arith, has.sync, sync_errors-take bits));
        identifier =
            subst (λ (xs : List Bool). distance_of (take 63 (identifier_bits (take 144 bits))) (take 63 xs) ≤ 11) identifier
            (omega (arith, has.identifier, identifier_errors-take nac bits));
      };
      body = tt;
    }

-- and conversely
pub HasTerminator-from : (nac : ℕ) (statuses : List Status) (bits : List Bool) → IsSoundFrame (terminator nac statuses) → nac < 4096 → 144 ≤ length bits
    → IsFrontWithin (terminator nac statuses) (take 144 bits) → HasTerminator nac bits
HasTerminator-from nac statuses bits sound fits there near = record {
  there = there;
  fits = fits;
  sync =
      subst (λ n. n ≤ 4) (sync_errors-take bits) (subst (λ (xs : List Bool). distance_of (take 48 (take 144 bits)) xs ≤ sync_slack) (sync-terminator nac statuses sound fits) near.sync);
  identifier =
      subst (λ n. n ≤ 11) (identifier_errors-take nac bits)
      (subst (λ (xs : List Bool). distance_of (take 63 (identifier_bits (take 144 bits))) (take 63 xs) ≤ 11) (identifier-terminator nac statuses sound fits) near.identifier);
}

-- its fixes are these errors
pub fixes_of-terminator : (nac : ℕ) (statuses : List Status) (bits : List Bool) → 144 ≤ length bits → fixes_of (terminator nac statuses) (take 144 bits) ≡ sync_errors bits + identifier_errors nac bits
fixes_of-terminator nac statuses bits there =
    let sent = take 144 bits in
    let long : length sent ≡ 144 = length-take-le 144 bits there in
    fixes_of-parts (terminator nac statuses) 2 sent IsSendableBody-terminator (omega arith) long
    ∙ ap₂ (λ a b. a + b)
    (front_fixes_of-parts (nac, 3) sent (omega (arith, long)) ∙ ap₂ (λ a b. a + b) (sync_errors-take bits) (identifier_errors-take nac bits))
    (body_fixes_of-end nac (bare_of sent))
    ∙ omega arith
