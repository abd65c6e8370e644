-- The output of `build`: its bits are those of the data units of its lines, by induction on the data units, so it is a recording of undamaged data
-- units. The decodings of lines are by induction on the lines and cases on the first.
use Rattle.std.proofs.Common.{◌≡◌, ℕ, ◌+◌, ◌/◌, Bool, true, List, [], ◌∷◌, ◌++◌, length, map, take, Option, Some, Result, Ok, Err, refl, subst, ap, ap₂, sym, ◌∙◌, append-nil, arith, false, None}
use Rattle.std.proofs.{lemmas.List.{length-replicate}, lemmas.List.Elements.{All-cons, All-head, All-map, All-nil, All-tail, All-weaker}, lemmas.List.Folds.{flat_map-map}}
use Rattle.std.specs.{Prelude.{All}, List.{flat_map}}
use Rattle.p25_bits.specs.Bits.{octet_bits}
use Rattle.p25_bits.proofs.BitsLaws.{octet_bits-append, octet_bits-nil}
use Rattle.p25_line.specs.declared.fault.LineFault.{LineFault}
use Rattle.p25_status.specs.declared.symbols.Status.{Status}
use Rattle.p25_text.specs.Grammar.{read_line_of, text_of}
use Rattle.p25_text.proofs.GrammarLaws.{text_of-read_line}
use Rattle.p25_units.specs.{Fixes.{fixes_of}, UnitParts.{UnitParts}, Units.{IsSendableUnit, IsSoundFrame, filled_frame, frame_length_of, image_octets, image_of}, declared.frame.Frame.{Frame}}
use Rattle.p25_units.specs.{declared.item.Item.{Item}, declared.item.Item.TheVariants.{Whole}}
use Rattle.p25_units.proofs.{FixesLaws.{fixes_of-image_of}, ReadingsLaws.{IsWholeBody-sendable}, UnitsLaws.{length-image_of}, WithinRadiusLaws.{IsWithinRadius-image_of, received-image_of}}
use Rattle.p25_stream.specs.Arrivals.{Arrival, IsNearArrival, whole_of, wholes_of}
use Rattle.p25_stream.proofs.ArrivalLaws.{wholes_of-cons, wholes_of-nil}
use Rattle.p25_filter.specs.{declared.ending.Ending.{Ending}, Lines.{closing_by, lines_in, refusal_in}}
use Rattle.p25_filter.proofs.LinesLaws.{read_of-err, read_of-nil, read_of-ok}
use Rattle.p25_tool.specs.{Built.{AcceptedAreRead, BuildsUnits, LinesAreTexts, bits_built, units_of, wholes_built}, declared.command.Command.TheVariants.{Build}, Outputs.{output_by}}
use Rattle.p25_tool.specs.Recorded.{IsRecording}
use Rattle.p25_recording_filters.specs.ItemOutputs.{shown}
use Rattle.p25_tool.proofs.RecordedLaws.{items-recording, octet_bits-whole, shows-units, whole-image}

module _ (status : Status) where
  -- a data unit that is built, as one that was received without damage
  abbrev built : UnitParts → Arrival
  built unit = record { frame = filled_frame status unit; bits = image_of (filled_frame status unit) }

  module _ (unit : UnitParts) (sendable : IsSendableUnit unit) where
    built-sound : IsSoundFrame (filled_frame status unit)
    unfolding frame_length_of
    built-sound = record {
      whole = IsWholeBody-sendable unit.body sendable.body;
      symbols = omega (arith, length-replicate (frame_length_of unit / 72) status);
    }

    built-near : IsNearArrival (built unit)
    built-near = record { sound = built-sound; sendable = sendable; near = IsWithinRadius-image_of (filled_frame status unit) built-sound sendable }

    -- its item has no fixes
    built-whole : (place : ℕ) → whole_of place (built unit) ≡ Whole place (filled_frame status unit) 0
    built-whole place =
        let frame = filled_frame status unit in
        ap (λ (f : Frame). Whole place f (fixes_of f (image_of frame))) (received-image_of frame built-sound sendable)
        ∙ ap (Whole place frame) (fixes_of-image_of frame built-sound sendable)

  wholes-built : (place : ℕ) (units : List UnitParts) → All IsSendableUnit units → wholes_of place (map built units) ≡ wholes_built status place units
  unfolding wholes_built
  wholes-built place [] all = wholes_of-nil place
  wholes-built place (unit ∷ units) all =
      let sendable = All-head IsSendableUnit unit units all in
      wholes_of-cons place (built unit) (map built units)
      ∙ ap₂ (λ (item : Item) (n : ℕ). item ∷ wholes_of (place + n) (map built units))
      (built-whole unit sendable place) (length-image_of (filled_frame status unit) (built-sound unit sendable) sendable)
      ∙ ap (λ (items : List Item). Whole place (filled_frame status unit) 0 ∷ items) (wholes-built (place + frame_length_of unit) units (All-tail IsSendableUnit unit units all))

  -- the octets of their images
  images-built : (units : List UnitParts) → All IsSendableUnit units → octet_bits (flat_map (image_octets status) units) ≡ bits_built status units
  images-built [] all = octet_bits-nil
  images-built (unit ∷ units) all =
      let sendable = All-head IsSendableUnit unit units all in
      let image = image_of (filled_frame status unit) in
      octet_bits-append (image_octets status unit) (flat_map (image_octets status) units)
      ∙ ap₂ ◌++◌ (octet_bits-whole image (whole-image (filled_frame status unit) (built-sound unit sendable) sendable)) (images-built units (All-tail IsSendableUnit unit units all))

  -- they are a recording of data units without damage
  built-recording : (units : List UnitParts) (octets : List ℕ) → All IsSendableUnit units → octet_bits octets ≡ bits_built status units → IsRecording (map built units) octets
  built-recording units octets sendable bits = record {
    near = All-map IsNearArrival built units (All-weaker IsSendableUnit (λ unit. IsNearArrival (built unit)) built-near units sendable);
    bits = bits ∙ sym (flat_map-map (λ (arrival : Arrival). arrival.bits) built units);
  }

-- data units whose texts are the first of some lines
AreTexts : List (List ℕ) → List UnitParts → Type 0
AreTexts lines units = All IsSendableUnit units × (map text_of units ≡ take (length units) lines)

units-texts : (lines : List (List ℕ)) → AreTexts lines (units_of lines)
unfolding AreTexts
units-texts [] = subst (AreTexts []) (sym (read_of-nil read_line_of)) (All-nil IsSendableUnit, refl)
units-texts (line ∷ lines) = by_reading (read_line_of line) refl (units-texts lines)
  where
    by_reading : (read : Result UnitParts LineFault) → read_line_of line ≡ read → AreTexts lines (units_of lines) → AreTexts (line ∷ lines) (units_of (line ∷ lines))
    by_reading (Ok unit) is rest =
        let text = text_of-read_line line unit is in
        subst (AreTexts (line ∷ lines)) (sym (read_of-ok read_line_of line lines unit is)) (All-cons IsSendableUnit unit (units_of lines) text.1 rest.0, ap₂ ◌∷◌ text.0 rest.1)
    by_reading (Err fault) is rest = subst (AreTexts (line ∷ lines)) (sym (read_of-err read_line_of line lines fault is)) (All-nil IsSendableUnit, refl)

pub lines-texts : LinesAreTexts
unfolding AreTexts
lines-texts lines = (units-texts lines).1

pub accepted-read : AcceptedAreRead
accepted-read [] [] read = (read_of-nil read_line_of, refl)
accepted-read (line ∷ lines) (unit ∷ units) read =
    let first : read_line_of line ≡ Ok unit = cc read in
    let later : map read_line_of lines ≡ map Ok units = cc read in
    let rest = accepted-read lines units later in
    (read_of-ok read_line_of line lines unit first ∙ ap (λ (us : List UnitParts). unit ∷ us) rest.0, ap₂ ◌∷◌ (text_of-read_line line unit first).0 rest.1)
accepted-read lines units read = cc read

-- `build` writes nothing at the end
closing_none : (ended : Bool) (refusal : Option Ending) → closing_by ended refusal [] ≡ []
closing_none ended (Some refusal) = refl
closing_none true None = refl
closing_none false None = refl

output-images : (ended : Bool) (status : Status) (octets : List ℕ)
    → output_by (Build status) ended octets ≡ flat_map (image_octets status) (units_of (lines_in ended [] octets))
output-images ended status octets =
    let images = flat_map (image_octets status) (units_of (lines_in ended [] octets)) in
    ap (λ (zs : List ℕ). images ++ zs) (closing_none ended (refusal_in read_line_of 1 (lines_in ended [] octets))) ∙ append-nil images

pub builds-units : BuildsUnits
unfolding AreTexts
builds-units ended status octets =
    let units = units_of (lines_in ended [] octets) in
    let sendable = (units-texts (lines_in ended [] octets)).0 in
    let bits = ap octet_bits (output-images ended status octets) ∙ images-built status units sendable in
    let recording = built-recording status units _ sendable bits in
    let wholes = wholes-built status 0 units sendable in
    record {
      bits = bits;
      items = items-recording true (map (built status) units) _ recording ∙ wholes;
      lines = shows-units true (map (built status) units) _ recording ∙ ap (flat_map shown) wholes;
    }
