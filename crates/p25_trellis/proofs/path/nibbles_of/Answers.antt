use Rattle.std.proofs.{Common.{ℕ, ◌<◌, ◌++◌, length, refl, sym, ap₂, ◌∙◌, append-nil, arith, length-set}, lemmas.List.{take_all, drop_all}}
use Rattle.std.proofs.lemmas.List.Elements.{All-replicate, All-set}
use Rattle.p25_trellis.proofs.PathLaws.{nibbles_more, nibbles_from-nil, power-pos}
use Rattle.p25_trellis.proofs.path.nibbles_of.Goals as goal

pub loop-step-init : goal.loop-step-init
loop-step-init g c = record {
  done = refl;
  fits = All-replicate (λ (n : ℕ). n < 16) 49 0 (omega arith);
  row = power-pos g.R.Rate.BITS_PER_SYMBOL g.R.Rate.STATES g.met.R.Rate.table.states_of_bits;
  long = refl;
}

pub loop-step-preserved : goal.loop-step-preserved
loop-step-preserved g c =
    let loop = c.loop-step in
    let step = loop.step in
    let path = c.args.path.now in
    let nibbles = loop.nibbles in
    let there : step < length path = omega (arith, c.told-path) in record {
      done
          = nibbles_more g.R.Rate.point_of loop.state nibbles path step c.point.result (omega (arith, loop.invariant.long)) there c.point.ensures.value ∙ loop.invariant.done;
      fits = All-set (λ n. n < 16) nibbles step c.point.result c.point.ensures.nibble loop.invariant.fits;
      row = c.requires step 0 there;
      long = length-set nibbles step c.point.result ∙ loop.invariant.long;
    }

pub returns-clause-value : goal.returns-clause-value
returns-clause-value g c =
    let loop = c.loop-step in
    let step = loop.step in
    let nibbles = loop.nibbles in
    sym (append-nil nibbles)
    ∙ ap₂ (λ xs ys. xs ++ ys) (sym (take_all step nibbles (omega (arith, loop.invariant.long)))) (sym (cc (drop_all step c.args.path.now (omega (arith, c.told-path)), nibbles_from-nil g.R.Rate.point_of loop.state)))
    ∙ loop.invariant.done
