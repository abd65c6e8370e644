use Rattle.std.proofs.{Common.{rules, ◌≡◌, ◌+◌, ◌-◌, ◌*◌, ◌%◌, ◌^◌, ◌≤◌, ap, ap₂, sym, ◌∙◌, arith}, lemmas.List.{length-replicate, take_all}}
use Rattle.p25_bits.specs.Bits.{bits_of, field_of, octet_bits}
use Rattle.p25_bits.proofs.BitsLaws.{field_of-nil, octet_bits-nil}
use Rattle.p25_link.specs.Symbols.{symbols_in}
use Rattle.p25_link.proofs.SymbolNumbersLaws.{joined_bits, joined-lt, octets_more, octets_room}
use Rattle.p25_link.proofs.symbols.symbols_of.Goals as goal

pub loop-octet-init : goal.loop-octet-init
loop-octet-init g c = sym (ap field_of octet_bits-nil ∙ field_of-nil)

pub overflow_mul-number : goal.overflow_mul-number
overflow_mul-number g c = omega (arith, octets_room c.args.octets.now c.loop-octet.octet-index (omega arith), c.loop-octet.invariant)

pub overflow_add-number : goal.overflow_add-number
overflow_add-number g c = omega (arith, octets_room c.args.octets.now c.loop-octet.octet-index (omega arith), c.loop-octet.invariant)

pub loop-octet-preserved : goal.loop-octet-preserved
loop-octet-preserved g c = octets_more c.args.octets.now c.loop-octet.octet-index c.from.result c.loop-octet.number (omega arith) c.from.ensures (omega arith) c.loop-octet.invariant

pub returns-clause-nine : goal.returns-clause-nine
returns-clause-nine g c = record { long = c.told-octets; small = search rules }

pub overflow_add-number-2 : goal.overflow_add-number-2
overflow_add-number-2 g c =
    let octets = c.args.octets.now in
    let is = c.loop-octet.invariant ∙ ap (λ xs. field_of (octet_bits xs)) (take_all c.loop-octet.octet-index octets (omega arith)) in
    let fits : 72 + (6 * g.row.N - 72) ≤ 120 = omega arith in
    omega (arith, joined-lt octets c.loop-octet.number (6 * g.row.N - 72) c.args.rest c.told-octets is c.requires.fits fits)

pub returns-clause-list : goal.returns-clause-list
returns-clause-list g c =
    let n = g.row.N in
    let width = 6 * n - 72 in
    let octets = c.args.octets.now in
    let front = c.loop-octet.number in
    let is = c.loop-octet.invariant ∙ ap (λ xs. field_of (octet_bits xs)) (take_all c.loop-octet.octet-index octets (omega arith)) in
    let fits : 72 + width ≤ 120 = omega arith in
    let many : 6 * n ≡ 72 + width = omega arith in
    let small = joined-lt octets front width c.args.rest c.told-octets is c.requires.fits fits in
    let number : front * 2 ^ width % 2 ^ 128 + c.from-2.result ≡ front * 2 ^ width + c.args.rest = omega (arith, small) in
    c.put_symbols.ensures
    ∙ ap₂ (λ count sum. symbols_in count (bits_of (6 * count) sum)) (length-replicate n _) number
    ∙ ap (symbols_in n)
    (ap (λ k. bits_of k (front * 2 ^ width + c.args.rest)) many ∙ joined_bits octets front width c.args.rest c.told-octets is c.requires.fits)
