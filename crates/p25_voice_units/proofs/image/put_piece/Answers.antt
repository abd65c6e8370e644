use Rattle.std.proofs.Common.{◌≡◌, ℕ, ◌+◌, ◌*◌, ◌/◌, ◌≤◌, ◌++◌, ◌-◌, List, length, take, drop, ap, sym, subst, ◌∙◌, arith}
use Rattle.p25_bits.specs.Bits.{part}
use Rattle.p25_gf64.specs.declared.symbol.Sym.{Sym}
use Rattle.p25_voice_units.specs.Images.{piece_bits}
use Rattle.p25_voice_units.proofs.{ImageSteps.{words_fit, bits_of-nulls}}
use Rattle.p25_voice_units.proofs.image.put_piece.Goals as goal

pub slice_bounds-put_coded-end : goal.slice_bounds-put_coded-end
slice_bounds-put_coded-end g c =
    let each = g.I.BlockCode.K / 6 in
    let fit = words_fit each (length c.args.symbols.now) (length c.args.low.now) (length c.args.frames.now) c.args.piece c.in-Words.first c.in-Words.count c.in-Words.is c.requires.fits in
    let inside : ℕ → Type 0 = λ k. k / 6 * c.in-Words.first + k / 6 * c.in-Words.count ≤ length c.args.symbols.now in
    omega (arith, subst inside (sym c.K-each.ensures) fit)

pub returns-in-Words-clause-list : goal.returns-in-Words-clause-list
unfolding piece_bits
returns-in-Words-clause-list g c =
    let each = g.I.BlockCode.K / 6 in
    let symbols = c.args.symbols.now in
    let from = each * c.in-Words.first in
    let many = each * c.in-Words.count in
    let cut : from + many - from ≡ many = omega arith in
    let given : ℕ → List Sym = λ k. take (k / 6 * c.in-Words.first + k / 6 * c.in-Words.count - k / 6 * c.in-Words.first) (drop (k / 6 * c.in-Words.first) symbols) in
    let group : given c.K-each.result ≡ part from many symbols = ap given c.K-each.ensures ∙ ap (λ n. take n (drop from symbols)) cut in
    rw (c.in-Words.is, ← group) c.put_coded.ensures.list

pub returns-in-Frame-clause-list : goal.returns-in-Frame-clause-list
unfolding piece_bits
returns-in-Frame-clause-list g c = rw c.in-Frame.is c.put_frame.ensures.list

pub returns-in-LowSpeed-clause-list : goal.returns-in-LowSpeed-clause-list
unfolding piece_bits
returns-in-LowSpeed-clause-list g c =
    rw (c.in-LowSpeed.is, ← c.from.ensures, ← c.encode_number-word.ensures.encoding) (rw c.from-in-LowSpeed.ensures at c.put_field.ensures.list)

pub returns-in-Nulls-clause-list : goal.returns-in-Nulls-clause-list
unfolding piece_bits
returns-in-Nulls-clause-list g c = rw c.in-Nulls.is (c.put_field-in-Nulls.ensures.list ∙ ap (λ xs. c.args.out.now ++ xs) (bits_of-nulls c.in-Nulls.count))
