use Rattle.std.proofs.{Common.{◌≢◌, [], length, take, ap, ap₂, sym, ◌∙◌, arith}, lemmas.Bool.{both_ways}}
use Rattle.p25_units.specs.Items.{covered}
use Rattle.p25_stream.specs.{Items.{first_item}, Scan.{Scan, given}}
use Rattle.p25_stream.proofs.ScanLaws.{gave-next, next-fits}
use Rattle.p25_stream.proofs.scanner.Scanner.next_item_in.Goals as goal

pub let_go-requires : goal.let_go-requires
let_go-requires c =
    let scan = c.args.self.now in
    let some : given scan ≢ [] = λ none. both_ways c.is_drained.result c.if-is_drained.false (c.is_drained.ensures.1 none) in
    let first = c.set_item.ensures.item ∙ ap (λ (s : Scan). first_item s.place s.held) c.self.view_is in
    omega (arith, next-fits scan c.set_item.new.item some first, c.covered.ensures.value, ap (λ (s : Scan). length s.held) c.self.view_is)

pub returns-clause-given : goal.returns-clause-given
returns-clause-given c =
    let scan = c.args.self.now in
    let some : given scan ≢ [] = λ none. both_ways c.is_drained.result c.if-is_drained.false (c.is_drained.ensures.1 none) in
    let first = c.set_item.ensures.item ∙ ap (λ (s : Scan). first_item s.place s.held) c.self.view_is in
    let bits = ap₂ (λ n (s : Scan). take n s.held) (sym c.covered.ensures.value) (sym c.self.view_is) in
    λ _. gave-next scan _ c.let_go.new.self c.set_item.new.item (take (covered c.set_item.new.item) scan.held) c.covered.result
    some first c.self.view_is c.covered.ensures.value bits c.let_go.ensures
