use Rattle.std.proofs.{Common.{◌^◌, ◌<◌, ◌≤◌, rules, arith, w32, bit_xor}, lemmas.Int.{to_z_pos}}
use Rattle.std.specs.Int.RustNames.{count_ones}
use Rattle.p25_bits.proofs.DistanceLaws.{ones-xor-le}
use Rattle.p25_c.proofs.NumberSteps.{number_read, number_beyond}
use Rattle.p25_c.proofs.word_calls.numbers.read_number.Goals as goal

pub overflow_cast-result : goal.overflow_cast-result
overflow_cast-result g c =
    let n = g.C.BlockCode.N in
    let old : c.args.word.now < 2 ^ n = search rules in
    let fits : c.in-Some.sent < 2 ^ n = c.in-Some.ensures.fits in
    let few : count_ones (bit_xor c.args.word.now c.in-Some.sent) ≤ n = ones-xor-le n c.args.word.now c.in-Some.sent old fits in
    let narrow : n ≤ 32 = g.met.C.NumberCode.fits_number c.requires in
    let below : count_ones (bit_xor c.args.word.now c.in-Some.sent) ≤ 32 = omega arith in
    search rules

pub returns-in-Some : goal.returns-in-Some
returns-in-Some g c =
    let n = g.C.BlockCode.N in
    let old : c.args.word.now < 2 ^ n = search rules in
    let fits : c.in-Some.sent < 2 ^ n = c.in-Some.ensures.fits in
    let few : count_ones (bit_xor c.args.word.now c.in-Some.sent) ≤ n = ones-xor-le n c.args.word.now c.in-Some.sent old fits in
    let narrow : n ≤ 32 = g.met.C.NumberCode.fits_number c.requires in
    number_read n g.C.BlockCode.reading_is c.args.word.now old c.in-Some.sent _ fits c.in-Some.ensures.reading
    (to_z_pos w32 (count_ones (bit_xor c.args.word.now c.in-Some.sent)) (omega arith))

pub returns-in-None : goal.returns-in-None
returns-in-None g c =
    let n = g.C.BlockCode.N in
    let old : c.args.word.now < 2 ^ n = search rules in
    number_beyond n g.C.BlockCode.reading_is c.args.word.now old c.in-None.ensures.reading
