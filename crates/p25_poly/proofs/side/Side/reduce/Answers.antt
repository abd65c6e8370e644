use Rattle.std.proofs.Common.{◌∙◌, ap₂, arith}
use Rattle.p25_gf64.specs.Gf64.{gf64}
use Rattle.p25_poly.proofs.{EuclidSteps.{moved_twice}, side.Side.reduce.Goals.{then-self-ge16, else-self-ge16}}
use Rattle.p25_poly.proofs.side.Side.reduce.Goals as goal

pub returns : goal.returns
returns c = record {
  multiple = c.div-multiple.result;
  is_multiple = c.div-multiple.ensures.quotient ∙ ap₂ (λ a b. gf64.mul a (gf64.inverse b)) c.leading.ensures c.leading-2.ensures;
  rest = elim c.if-self-ge16.branch [
    | then-self-ge16 w ↦ rw w.self-is (record {
      last = 32;
      enough = omega arith;
      most = omega arith;
      moved = moved_twice c.div-multiple.result _ c.args.self.now.rest c.args.other.now.rest c.add_moved-2.new.into w.add_moved-then-self-ge16.new.into c.add_moved-2.ensures
          w.add_moved-then-self-ge16.ensures;
    })
    | else-self-ge16 w ↦ rw w.self-is (record { last = 16; enough = omega (arith, w.if-self-ge16.false); most = omega arith; moved = c.add_moved-2.ensures })
  ];
  factor = c.add_moved.ensures;
  degree = omega arith;
}
