use Rattle.std.proofs.{Common.{◌≤◌, ◌==◌, length, sym, arith}, iter.Serving.{serving}, lemmas.List.Sums.{position_or_len_is}}
use Rattle.p25_filter.proofs.LineFiltersLaws.{step-end, step-part}
use Rattle.p25_filter.proofs.line_filter.LineFilterFilter.push_some.Goals as goal

pub returns-then-count-octets-clause-moved : goal.returns-then-count-octets-clause-moved
returns-then-count-octets-clause-moved g c =
    let count = c.unwrap_or-count.result in
    step-part g.M.LineMachine.rules g.met.M.LineMachine.long c.args.self.now c.keep.new.self c.args.octets.now count
    (sym (position_or_len_is (λ octet. octet == 10) c.args.octets.now count 0 (grind serving) (λ k below. grind serving) (λ below. grind serving)))
    c.requires.drained.0 c.requires.going c.keep.ensures

pub returns-clause-moved : goal.returns-clause-moved
returns-clause-moved g c =
    let count = c.unwrap_or-count.result in
    let within : count ≤ length c.args.octets.now = grind serving in
    step-end g.M.LineMachine.rules g.met.M.LineMachine.long c.args.self.now c.keep-2.new.self c.args.octets.now count
    (sym (position_or_len_is (λ octet. octet == 10) c.args.octets.now count 0 within (λ k below. grind serving) (λ below. grind serving)))
    c.requires.drained.0 c.requires.going (omega (arith, within, c.if-count-octets.false)) c.keep-2.ensures
