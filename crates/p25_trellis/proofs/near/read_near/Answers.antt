use Rattle.std.proofs.{Common.{rules, refl, ◌≡◌, sym, ◌∙◌, arith}, iter.Serving.{serving}}
use Rattle.p25_trellis.specs.{Costs.{received_cost}, Least.{rest_in}}
use Rattle.p25_trellis.proofs.{CostLaws.{rest_in-first}, NearSteps.{rest_read}}
use Rattle.p25_trellis.proofs.near.read_near.Goals as goal

pub take_path-requires-clause-callable : goal.take_path-requires-clause-callable
take_path-requires-clause-callable g c = grind (serving, g.met.R.Rate.table.few_states)

pub take_path-requires-clause-below : goal.take_path-requires-clause-below
take_path-requires-clause-below g c = λ step state symbol early row answers.
    let is : symbol ≡ rest_in c.fill_rests.new.symbols step state = search (rules, rest_read c.fill_rests.new.symbols step state state refl) in
    omega (arith, is, (c.fill_rests.ensures.lowest.at step state (omega arith) early row).below)

pub returns : goal.returns
returns g c =
    let cost = received_cost c.args.received.now in
    let rests = c.fill_rests.new.rests in
    rw (rest_in-first rests ∙ sym c.from.ensures) at (c.take_path.ensures cost rests c.fill_rests.ensures.least
    (record {
      at = λ step state symbol early row answers.
          let is : symbol ≡ rest_in c.fill_rests.new.symbols step state = search (rules, rest_read c.fill_rests.new.symbols step state state refl) in (
            rest_in rests step state,
            rw is (c.fill_rests.ensures.lowest.at step state (omega arith) early row),
          );
    }))
