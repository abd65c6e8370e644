use Rattle.std.proofs.{Common.{◌≡◌, ℕ, List, [], ◌∷◌, refl, subst, arith}, lemmas.List.{take-append-drop}}
use Rattle.p25_trellis.specs.{Costs.{path_cost, symbols_cost}, Least.{rest_in}}
use Rattle.p25_trellis.proofs.{PathLaws.{power-pos, IsPathTo-begins, IsPathTo-more}, FirstPathLaws.{IsFirstLeastEnd, IsFirstLeastEnd-last, IsFirstLeast-from_end, IsFirstLeast-total, completes_more}}
use Rattle.p25_trellis.proofs.path.take_path.Goals as goal

pub loop-step-init : goal.loop-step-init
loop-step-init g c =
    record {
      completes = λ cost rests least chooses before end place is.
          let whole : before ≡ 48 = omega (arith, place) in
          rw whole at is;
      path = IsPathTo-begins g.R.Rate.STATES (power-pos g.R.Rate.BITS_PER_SYMBOL g.R.Rate.STATES g.met.R.Rate.table.states_of_bits);
    }

pub loop-step-preserved : goal.loop-step-preserved
loop-step-preserved g c =
    let loop_step_test = c.loop-step-test.true in
    let loop = c.loop-step in
    let step = loop.step in
    let state = loop.state in
    let path = loop.path in
    let symbol = c.choose-state.result in
    let now = loop.invariant in
    record {
      completes = λ cost rests least chooses.
          let choice = chooses.at step state symbol loop_step_test now.path.row c.choose-state.ensures in
          completes_more g.R.Rate.STATES g.R.Rate.point_of cost rests path step state symbol choice.0 least loop_step_test now.path.is_path.long choice.1
          (now.completes cost rests least chooses);
      path = IsPathTo-more g.R.Rate.STATES path state step symbol now.path loop_step_test (c.requires.below step state symbol loop_step_test now.path.row c.choose-state.ensures);
    }

pub returns : goal.returns
returns g c =
    let loop = c.loop-step in
    λ cost rests least chooses.
    let states = g.R.Rate.STATES in
    let point = g.R.Rate.point_of in
    let path = loop.path in
    let done : 48 ≡ loop.step = omega arith in
    let some = power-pos g.R.Rate.BITS_PER_SYMBOL states g.met.R.Rate.table.states_of_bits in
    let ends = subst (λ (p : List ℕ). IsFirstLeastEnd states 48 (symbols_cost point cost 0 0) p) (cc (done, loop.invariant.path.is_path.last, take-append-drop 48 path))
    (loop.invariant.completes cost rests least chooses 0 (0 ∷ []) (omega arith)
    (IsFirstLeastEnd-last states (symbols_cost point cost loop.step loop.state))) in
    let first = IsFirstLeast-from_end states (path_cost point cost) path some ends in record {
      path = path;
      first_least = first;
      carries = c.octets_of.ensures;
      total_is = IsFirstLeast-total states (path_cost point cost) path (rest_in rests 0 0) some (least.at 0 48 0 (omega arith) refl some) first;
    }
