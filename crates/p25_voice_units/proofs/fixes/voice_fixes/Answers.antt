use Rattle.std.proofs.{Common.{◌≡◌, ◌+◌, ◌≤◌, length, refl, ap, ap₂, sym, ◌∙◌, arith}, lemmas.Grind.{common_steps}}
use Rattle.p25_bits.specs.Distance.{distance_by, distance_of}
use Rattle.p25_coded_fields.specs.Layouts.{places_from}
use Rattle.p25_coded_fields.proofs.CodesLaws.{all_end}
use Rattle.p25_voice_units.specs.{Fixes.{bits_at, link_looked, voice_looked, voice_fixes_of}, FieldLayouts.{word_places}, Layouts.{ldu_rows}, Lengths.{voice_duid, voice_length_of}}
use Rattle.p25_voice_units.specs.Readings.{low_places}
use Rattle.p25_voice_units.proofs.{FieldCodesLaws.{header_there}, FixesLaws.{fixes-append}, KindsLaws.{long_by_kind}, LengthsLaws.{length-header}}
use Rattle.p25_voice_units.proofs.fixes.voice_fixes.Goals as goal

pub differing-requires-clause-received : goal.differing-requires-clause-received
unfolding word_places places_from
differing-requires-clause-received c =
    header_there c.args.received.now (long_by_kind (voice_duid c.args.unit.now) 0 770 (length c.args.received.now) (ap voice_duid c.in-Header.is) length-header c.requires.received)

pub differing-requires-clause-image : goal.differing-requires-clause-image
unfolding word_places places_from
differing-requires-clause-image c =
    header_there c.args.image.now (long_by_kind (voice_duid c.args.unit.now) 0 770 (length c.args.image.now) (ap voice_duid c.in-Header.is) length-header c.requires.image)

pub returns-in-Link1-clause-value : goal.returns-in-Link1-clause-value
unfolding link_looked word_places low_places places_from voice_fixes_of voice_looked voice_length_of
returns-in-Link1-clause-value c =
    let received = c.args.received.now in
    let image = c.args.image.now in
    let places = word_places 10 ldu_rows in
    let first : 1680 ≤ length received = grind (arith, common_steps) in
    let second : 1680 ≤ length image = grind (arith, common_steps) in
    let sum : c.differing-in-Link1.result + c.differing-in-Link1-2.result ≡ distance_of (bits_at link_looked received) (bits_at link_looked image)
    = ap₂ (λ a b. a + b) c.differing-in-Link1.ensures.value c.differing-in-Link1-2.ensures.value
    ∙ sym (fixes-append 10 16 places (low_places ldu_rows) received image (all_end 10 1680 (length received) places refl first) (all_end 10 1680 (length image) places refl second)) in
    grind (arith, common_steps, sum)

pub returns-in-End-clause-value : goal.returns-in-End-clause-value
unfolding voice_fixes_of voice_looked bits_at distance_by
returns-in-End-clause-value c = sym (ap (λ unit. voice_fixes_of unit c.args.received.now c.args.image.now) c.in-End.is)
