use Rattle.std.proofs.Common.{◌+◌, ◌/◌, ◌^◌, ◌≤◌, Bool, List, length, take, slice_index, Some, option_map, refl, ap, sym, ◌∙◌, arith, lit≤}
use Rattle.std.specs.Bool.{beq}
use Rattle.p25_bits.specs.Bits.{bits_of, field_of, part}
use Rattle.p25_bits.proofs.{BitsLaws.{length-bits_of, take-bits_of}, DistanceLaws.{ones-xor-le}}
use Rattle.p25_code.specs.Words.{IsEncoding}
use Rattle.p25_coded_fields.proofs.ReadLaws.{received_bits, received_reading, read_word_of_set, wrong_bits}
use Rattle.p25_hamming.specs.{Lsd16.{IsLsd16}, Lsd16Laws.{lsd16_code, lsd16_reading_of}}
use Rattle.p25_voice_units.specs.{Fixes.{low_fixes_of}, Layouts.{ldu_rows}, Readings.{low_in, low_places}}
use Rattle.p25_voice_units.proofs.{ReadLaws.{low_octet, low_place-le, some_at}}
use Rattle.p25_voice_units.proofs.read.read_low.Goals as goal

pub returns-in-Some : goal.returns-in-Some
unfolding low_in low_places low_fixes_of
returns-in-Some c =
    let at = slice_index (low_places ldu_rows) c.args.i in
    let received = c.field-received.result in
    let sent = c.in-Some.sent in
    let info = bits_of 8 (sent / 2 ^ 8) in
    let bits = part at 16 c.args.bare.now in
    let there : at + 16 ≤ length c.args.bare.now = omega (arith, low_place-le c.args.i c.requires.i, c.requires.there) in
    let small = some_at _ c.read_number.result sent c.read_number.ensures.fits c.in-Some.is in
    let taken = received_bits 16 at received c.args.bare.now c.field-received.ensures.value refl there in
    let read = received_reading 16 received bits lsd16_reading_of c.in-Some.is c.read_number.ensures.reading taken in
    let is_word = read_word_of_set beq IsLsd16 2 bits (bits_of 16 sent) (lsd16_reading_of bits) (lsd16_code.is.reads bits) (sym read) in
    let made : IsEncoding IsLsd16 8 info (bits_of 16 sent) = record { word_of_set = is_word; begins = take-bits_of 8 16 sent (lit≤ tt) } in
    record {
      value = ap Some (low_octet sent small) ∙ ap (option_map (λ (w : List Bool). field_of (take 8 w))) read;
      wrong = wrong_bits 16 8 lsd16_code.is.laws.one_word received sent info bits _ made (lsd16_code.is.encodes info (length-bits_of 8 (sent / 2 ^ 8))) taken c.field-received.ensures.fits small;
      most = ones-xor-le 16 received sent c.field-received.ensures.fits small;
    }

pub returns-in-None-clause-value : goal.returns-in-None-clause-value
unfolding low_in low_places
returns-in-None-clause-value c =
    let at = slice_index (low_places ldu_rows) c.args.i in
    let there : at + 16 ≤ length c.args.bare.now = omega (arith, low_place-le c.args.i c.requires.i, c.requires.there) in
    let taken = received_bits 16 at c.field-received.result c.args.bare.now c.field-received.ensures.value refl there in
    ap (option_map (λ (w : List Bool). field_of (take 8 w)))
    (received_reading 16 c.field-received.result (part at 16 c.args.bare.now) lsd16_reading_of c.in-None.is c.read_number.ensures.reading taken)
