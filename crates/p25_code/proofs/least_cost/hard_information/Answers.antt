use Rattle.std.proofs.Common.{◌≡◌, ◌*◌, ◌/◌, ◌^◌, ◌<◌, length, arith, subst}
use Rattle.std.proofs.lemmas.Nat.{shr_below}
use Rattle.p25_code.proofs.LeastCostLaws.{alone_is_cheapest}
use Rattle.p25_code.proofs.least_cost.hard_information.Goals as goal

pub encode_number-requires-clause-info : goal.encode_number-requires-clause-info
encode_number-requires-clause-info g c =
    let b = g.C.BlockCode in
    let word = c.in_ok-word.word in
    let begins = g.met.C.BlockCode.begins c.requires.code in
    shr_below word b.K _ (subst (λ m. word < 2 ^ m) (omega (arith, c.N.ensures, c.K.ensures)) c.in_ok-word.ensures.0)

pub returns-then-encode_number-word : goal.returns-then-encode_number-word
returns-then-encode_number-word g c =
    let code = c.requires.code in
    let b = g.C.BlockCode in
    let m = g.met.C.BlockCode in
    let word = c.in_ok-word.word in
    let costs = c.args.costs.now in
    let width : 2 * (length costs / 4) ≡ b.N = omega arith in
    let small = shr_below word b.K _ (subst (λ k. word < 2 ^ k) (omega (arith, c.N.ensures, c.K.ensures)) (rw width at c.in_ok-word.ensures.0)) in (
      small,
      alone_is_cheapest b.IsWord b.N b.K b.encoding_is (g.met.C.NumberCode.encodes code) (m.one_word code) (m.length_of_word code)
          (m.begins code) costs _ word small (rw width at c.in_ok-word.ensures.1) (cc (c.encode_number.ensures.encoding, c.if-encode_number-word.true)),
    )
