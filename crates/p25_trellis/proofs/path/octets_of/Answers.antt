use Rattle.std.proofs.{Common.{◌^◌, ◌<◌, ap, sym, subst, ◌∙◌, arith}, lemmas.List.{length-take-le}, lemmas.List.Elements.{All-take}}
use Rattle.p25_trellis.specs.Trellis.{Carries}
use Rattle.p25_trellis.proofs.NearestLaws.{Carries-octets_from}
use Rattle.p25_trellis.proofs.path.octets_of.Goals as goal

pub slice_bounds-regroup-end : goal.slice_bounds-regroup-end
slice_bounds-regroup-end g c = sym (length-take-le 48 c.args.path.now (omega (arith, c.requires.path.long)))

pub regroup-requires-clause-source : goal.regroup-requires-clause-source
regroup-requires-clause-source g c = length-take-le 48 c.args.path.now (omega (arith, c.requires.path.long))

pub regroup-requires-clause-small : goal.regroup-requires-clause-small
regroup-requires-clause-small g c =
    rw (g.met.R.Rate.table.states_of_bits ∙ ap (λ n. 2 ^ n) (sym c.BITS_PER_SYMBOL.ensures)) at (All-take (λ symbol. symbol < g.R.Rate.STATES) 48 c.args.path.now c.requires.path.below)

pub returns : goal.returns
returns g c =
    let width = g.R.Rate.BITS_PER_SYMBOL in
    let path = c.args.path.now in
    subst (λ octets. Carries width path octets)
    (sym (cc (c.regroup.ensures, c.BITS_PER_SYMBOL.ensures)))
    (Carries-octets_from g.R.Rate.STATES width path c.requires.path)
