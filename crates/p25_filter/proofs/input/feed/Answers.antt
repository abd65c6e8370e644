use Rattle.std.proofs.{Common.{◌≡◌, ℕ, ◌+◌, ◌-◌, ◌≤◌, List, [], ◌++◌, length, take, drop, ap, sym, subst, ◌∙◌, arith, append-nil, length-drop}, Math.Seq.{take-add}}
use Rattle.std.proofs.lemmas.List.{take_all, take-append-drop}
use Rattle.p25_filter.specs.{declared.ending.FilterEnd.TheVariants.{WriteFault}, Futures.{IsIdle}, Goings.{Comes, Goes}}
use Rattle.p25_filter.proofs.GoingsLaws.{Comes-after, Comes-more, Goes-next, Goes-none, Goes-trans}
use Rattle.p25_filter.proofs.input.feed.Goals as goal

-- the first octets, and some of those after them
more_taken : (octets : List ℕ) (done count : ℕ) → take done octets ++ take count (take (length octets - done) (drop done octets)) ≡ take (done + count) octets
more_taken octets done count =
    let all : length (drop done octets) ≤ length octets - done = omega (arith, length-drop done octets) in
    ap (λ (zs : List ℕ). take done octets ++ take count zs) (take_all (length octets - done) (drop done octets) all)
    ∙ sym (take-add done count octets)

pub returns-in-Err-clause-comes : goal.returns-in-Err-clause-comes
returns-in-Err-clause-comes g c =
    let chain = g.met.P.Port.chain in
    let octets = c.args.octets.now in
    let done = c.loop-done.done in
    let count = c.push_some-done.result in
    let rest = take count (take (length octets - done) (drop done octets)) in
    let pushed = Goes-next chain c.loop-done.port c.loop-done.page rest [] _ _ c.push_some-done.ensures.moved in
    let fed = rw (append-nil c.loop-done.page) at (Goes-trans chain (take done octets) rest c.loop-done.invariant.goes pushed) in
    let comes = Comes-after chain (take done octets ++ rest) [] fed c.in-Err.ensures.comes in
    let whole : ((take done octets ++ rest) ++ []) ++ drop (done + count) octets ≡ octets =
    ap (λ (zs : List ℕ). zs ++ drop (done + count) octets) (append-nil (take done octets ++ rest) ∙ more_taken octets done count)
    ∙ take-append-drop (done + count) octets in
    subst (λ (zs : List ℕ). Comes g.P.Port.moves c.args.port.now c.args.page.now (g.W.Filter.future c.args.filter.now) zs c.in-Err.stop c.drain.new.port) whole
    (Comes-more chain ((take done octets ++ rest) ++ []) (drop (done + count) octets) comes)

pub loop-done-preserved : goal.loop-done-preserved
loop-done-preserved g c =
    let chain = g.met.P.Port.chain in
    let octets = c.args.octets.now in
    let done = c.loop-done.done in
    let count = c.push_some-done.result in
    let rest = take count (take (length octets - done) (drop done octets)) in
    let pushed = Goes-next chain c.loop-done.port c.loop-done.page rest [] _ _ c.push_some-done.ensures.moved in
    let fed = rw (append-nil c.loop-done.page) at (Goes-trans chain (take done octets) rest c.loop-done.invariant.goes pushed) in
    record {
      there = omega (arith, c.push_some-done.ensures.there, length-drop done octets, c.loop-done.invariant.there);
      goes =
          subst (λ (zs : List ℕ). Goes g.P.Port.moves c.args.port.now c.args.page.now (g.W.Filter.future c.args.filter.now) zs c.drain.new.port
          c.drain.new.page (g.W.Filter.future c.drain.new.filter)) (append-nil (take done octets ++ rest) ∙ more_taken octets done count)
          (Goes-trans chain (take done octets ++ rest) [] fed c.in-Ok.ensures.goes);
      drained = c.in-Ok.ensures.drained;
      idle = subst (λ (is : _). IsIdle is (g.W.Filter.future c.drain.new.filter)) (c.drain.ensures.same ∙ c.push_some-done.ensures.going) c.in-Ok.ensures.idle;
      going = c.drain.ensures.same ∙ c.push_some-done.ensures.going;
      size = omega (arith, c.drain.ensures.size, c.push_some-done.ensures.size, c.loop-done.invariant.size);
    }

pub returns-in-Ok-flush-clause-goes : goal.returns-in-Ok-flush-clause-goes
returns-in-Ok-flush-clause-goes g c =
    let octets = c.args.octets.now in
    subst (λ (zs : List ℕ). Goes g.P.Port.moves c.args.port.now c.args.page.now (g.W.Filter.future c.args.filter.now) zs c.flush.new.port []
    (g.W.Filter.future c.loop-done.filter)) (append-nil (take c.loop-done.done octets) ∙ take_all c.loop-done.done octets (omega arith))
    (Goes-trans g.met.P.Port.chain (take c.loop-done.done octets) [] c.loop-done.invariant.goes (c.in-Ok-flush.ensures.ok _))

pub returns-in-Err-flush-clause-comes : goal.returns-in-Err-flush-clause-comes
returns-in-Err-flush-clause-comes g c =
    let octets = c.args.octets.now in
    subst (λ (zs : List ℕ). Comes g.P.Port.moves c.args.port.now c.args.page.now (g.W.Filter.future c.args.filter.now) zs WriteFault c.flush.new.port)
    (append-nil (take c.loop-done.done octets) ∙ take_all c.loop-done.done octets (omega arith))
    (Comes-after g.met.P.Port.chain (take c.loop-done.done octets) [] c.loop-done.invariant.goes (c.in-Err-flush.ensures.err _))

pub loop-done-init : goal.loop-done-init
loop-done-init g c = record {
  there = omega arith;
  goes = Goes-none g.met.P.Port.chain _ _ _;
  drained = c.requires.drained;
  idle = c.requires.idle;
  going = c.requires.going;
  size = omega arith;
}
