-- The frame of a decoded data unit: its fixes are those of sync and NID and those after them.
use Rattle.std.proofs.Common.{◌≡◌, ℕ, ◌+◌, ◌≤◌, Bool, List, length, drop, Some, Result, Ok, Err, refl, ap, sym, subst, ◌∙◌, arith}
use Rattle.p25_bits.specs.Bits.{part}
use Rattle.p25_status.specs.{Woven.{bare_of, statuses_of}, Outcomes.{IfRead, read_or}, declared.fields.Field.{Field}, declared.read_outcome.ReadOutcome.{ReadOutcome}}
use Rattle.p25_status.specs.{declared.read_outcome.ReadOutcome.TheVariants.{Read, Failing}, declared.symbols.Status.{Status}}
use Rattle.p25_unit_front.specs.Front.{front_fixes_of}
use Rattle.p25_units.specs.{UnitParts.{UnitParts}, Fixes.{body_fixes_of, fixes_of}, Needs.{kind_need}, Readings.{body_reading_of, reading_from}, Units.{frame_length_of}, declared.frame.Frame.{Frame}}
use Rattle.p25_units.specs.declared.needs.Need.TheVariants.{Length}
use Rattle.p25_units.proofs.{FixesLaws.{fixes_in}, KindsLaws.{IsUnitOf-need}, ReadingsLaws.{IsFrameOf-reading}, UnitPlaceLaws.{IsCountAt-kind, frame-is, reading-is}}

-- the frame of a whole data unit by its body
pub whole_frame-is : (nac duid : ℕ) (sent : List Bool) (unit : UnitParts) (statuses : List Status) → unit.nac ≡ nac → statuses ≡ statuses_of sent → Ok unit.body ≡ body_reading_of duid (bare_of sent)
    → let frame : Frame = record { unit = unit; statuses = statuses } in Ok frame ≡ reading_from (Some (nac, duid)) sent
whole_frame-is nac duid sent unit statuses named statuses_is read =
    let make : ℕ → Result Frame (List Field) = λ n. let made : UnitParts = record { nac = n; body = unit.body } in
    let frame : Frame = record { unit = made; statuses = statuses } in
    Ok frame in
    ap make named ∙ reading-is (nac, duid) sent statuses (Ok unit.body) statuses_is read

-- its fixes are those of its sync and NID and those after them
pub whole_fixes-is : (nac duid : ℕ) (bits : List Bool) (at count : ℕ) (frame : Frame) → at ≤ length bits → kind_need duid (drop at bits) ≡ Length count → nac ≤ 4095 → frame.unit.nac ≡ nac
    → Ok frame ≡ reading_from (Some (nac, duid)) (part at count bits)
    → (m n : ℕ) → m ≡ front_fixes_of (nac, duid) (drop at bits) → n ≡ body_fixes_of frame.unit (bare_of (part at count bits)) → m + n ≡ fixes_of frame (part at count bits)
whole_fixes-is nac duid bits at count frame inside kind fits named read m n front behind =
    let is = IsFrameOf-reading (nac, duid) (part at count bits) frame (IsUnitOf-need count (drop at bits) duid kind) (sym read) in
    let long : frame_length_of frame.unit ≡ count = (frame-is nac duid bits at count frame inside kind (sym read)).1 in
    let there : at + frame_length_of frame.unit ≤ length bits = omega (arith, long, (IsCountAt-kind duid bits at count inside kind).there) in
    let small : frame.unit.nac ≤ 4095 = omega (arith, named, fits) in
    let rest = behind ∙ ap (λ k. body_fixes_of frame.unit (bare_of (part at k bits))) (sym long) in
    fixes_in frame bits at nac duid is.sound (record { nac_fits = small; body = is.sendable }) there (sym named) (sym is.duid) m n front rest ∙ ap (λ k. fixes_of frame (part at k bits)) long

-- the outcome of a data unit is that of the bits after its sync and NID, with the bit errors of sync and NID
pub record IsWithFront (front : ℕ) (outcome answer : ReadOutcome) : Type 0 where
  pub read : (wrong : ℕ) → outcome ≡ Read wrong → answer ≡ Read (front + wrong)
  pub failing : (fields : List Field) → outcome ≡ Failing fields → answer ≡ Failing fields

-- so it is the decoding of its frame
pub frame_outcome : (front : ℕ) (outcome answer : ReadOutcome) → IsWithFront front outcome answer → (nac duid : ℕ) (sent : List Bool) (unit : UnitParts) (statuses : List Status)
    → unit.nac ≡ nac → statuses ≡ statuses_of sent → read_or outcome unit.body ≡ body_reading_of duid (bare_of sent)
    → let frame : Frame = record { unit = unit; statuses = statuses } in read_or answer frame ≡ reading_from (Some (nac, duid)) sent
frame_outcome front (Read wrong) answer is nac duid sent unit statuses named statuses_is read =
    let frame : Frame = record { unit = unit; statuses = statuses } in
    ap (λ o. read_or o frame) (is.read wrong refl) ∙ whole_frame-is nac duid sent unit statuses named statuses_is read
frame_outcome front (Failing fields) answer is nac duid sent unit statuses named statuses_is read =
    let frame : Frame = record { unit = unit; statuses = statuses } in
    ap (λ o. read_or o frame) (is.failing fields refl) ∙ reading-is (nac, duid) sent statuses (Err fields) statuses_is read

-- and its bit errors are the fixes of the frame
pub frame_wrong : (front : ℕ) (outcome answer : ReadOutcome) → IsWithFront front outcome answer → (nac duid : ℕ) (bits : List Bool) (at count : ℕ) (unit : UnitParts) (statuses : List Status)
    → at ≤ length bits → kind_need duid (drop at bits) ≡ Length count → nac ≤ 4095 → unit.nac ≡ nac → statuses ≡ statuses_of (part at count bits)
    → read_or outcome unit.body ≡ body_reading_of duid (bare_of (part at count bits))
    → front ≡ front_fixes_of (nac, duid) (drop at bits) → IfRead outcome (λ wrong. wrong ≡ body_fixes_of unit (bare_of (part at count bits)))
    → let frame : Frame = record { unit = unit; statuses = statuses } in IfRead answer (λ wrong. wrong ≡ fixes_of frame (part at count bits))
frame_wrong front (Read wrong) answer is nac duid bits at count unit statuses inside kind fits named statuses_is read front_is wrong_is =
    let frame : Frame = record { unit = unit; statuses = statuses } in
    subst (λ o. IfRead o (λ n. n ≡ fixes_of frame (part at count bits))) (sym (is.read wrong refl))
    (whole_fixes-is nac duid bits at count frame inside kind fits named (whole_frame-is nac duid (part at count bits) unit statuses named statuses_is read) front wrong front_is wrong_is)
frame_wrong front (Failing fields) answer is nac duid bits at count unit statuses inside kind fits named statuses_is read front_is wrong_is =
    let frame : Frame = record { unit = unit; statuses = statuses } in
    subst (λ o. IfRead o (λ n. n ≡ fixes_of frame (part at count bits))) (sym (is.failing fields refl)) tt
