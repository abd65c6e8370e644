use Rattle.std.proofs.{Common.{◌≡◌, ◌/◌, refl, append_assoc, arith}, lemmas.List.{append-nil}}
use Rattle.p25_bits.proofs.NumbersLaws.{joined_below-more, joined_below-zero}
use Rattle.p25_coded_fields.specs.Layouts.{field_bits}
use Rattle.p25_coded_fields.proofs.SymbolsLaws.{group_is, one_more}
use Rattle.p25_coded_fields.proofs.put.put_coded.Goals as goal

pub loop-i-init : goal.loop-i-init
unfolding field_bits
loop-i-init g c = record { list = rw (joined_below-zero, append-nil) refl; len = omega arith }

pub loop-i-preserved : goal.loop-i-preserved
unfolding field_bits
loop-i-preserved g c =
    let b = g.I.BlockCode in
    let group = group_is _ (b.K / 6) c.loop-i.i c.args.symbols.now (rw c.K-each.ensures refl) in
    record {
      list = rw (joined_below-more, ← append_assoc, ← c.loop-i.invariant.list, ← group) c.put_inner.ensures.list;
      len = omega (arith, one_more);
    }

pub returns-clause-list : goal.returns-clause-list
returns-clause-list g c = let all : c.loop-i.i ≡ c.args.count = omega arith in rw all at c.loop-i.invariant.list
