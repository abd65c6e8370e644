use Rattle.std.proofs.{Common.{◌≢◌, [], ◌++◌, length, ap, ◌∙◌, arith}, lemmas.Bool.{both_ways}}
use Rattle.p25_bits.specs.Bits.{part}
use Rattle.p25_stream.specs.{Items.{first_item}, Scan.{Scan, given}}
use Rattle.p25_stream.proofs.ScanLaws.{gave-next, next-fits}
use Rattle.p25_stream.proofs.scanner.Scanner.next_in.Goals as goal

pub append-requires-clause-there : goal.append-requires-clause-there
append-requires-clause-there c =
    let scan = c.args.self.now in
    let some : given scan ≢ [] = λ none. both_ways c.is_drained.result c.if-is_drained.false (c.is_drained.ensures.1 none) in
    let first = c.set_item.ensures.item ∙ ap (λ (s : Scan). first_item s.place s.held) c.self.view_is in
    omega (arith, next-fits scan c.set_item.new.item some first, c.covered-count.ensures.value, ap (λ (s : Scan). length s.held) c.self.view_is)

pub append-requires-clause-room : goal.append-requires-clause-room
append-requires-clause-room c =
    let scan = c.args.self.now in
    let some : given scan ≢ [] = λ none. both_ways c.is_drained.result c.if-is_drained.false (c.is_drained.ensures.1 none) in
    let first = c.set_item.ensures.item ∙ ap (λ (s : Scan). first_item s.place s.held) c.self.view_is in
    omega (arith, next-fits scan c.set_item.new.item some first, c.covered-count.ensures.value, ap (λ (s : Scan). length s.held) c.self.view_is, c.self.invariant.1, ap length c.clear.ensures)

pub returns-clause-given : goal.returns-clause-given
returns-clause-given c =
    let scan = c.args.self.now in
    let some : given scan ≢ [] = λ none. both_ways c.is_drained.result c.if-is_drained.false (c.is_drained.ensures.1 none) in
    let first = c.set_item.ensures.item ∙ ap (λ (s : Scan). first_item s.place s.held) c.self.view_is in
    let count = c.covered-count.result in
    let bits = c.append.ensures.list ∙ ap (λ xs. xs ++ part 0 count c.self.inside.held) c.clear.ensures in
    λ _. gave-next scan _ c.let_go.new.self c.set_item.new.item c.append.new.self count some first c.self.view_is c.covered-count.ensures.value bits c.let_go.ensures
