use Rattle.std.proofs.Common.{◌≡◌, ◌↔◌, [], not, subst}
use Rattle.std.specs.Prelude.{IsTrue}
use Rattle.p25_stream.specs.Scan.{Scan, given}
use Rattle.p25_stream.proofs.ScanLaws.{drained-when-finished, drained-when-going}
use Rattle.p25_stream.proofs.scanner.Scanner.is_drained.Goals as goal

pub returns-then-self : goal.returns-then-self
returns-then-self c =
    let inside = c.self.inside in
    subst (λ (s : Scan). IsTrue c.is_empty.result ↔ (given s ≡ [])) c.self.view_is
    (drained-when-finished (record { place = inside.place; held = inside.held; finished = inside.finished }) c.is_empty.result c.if-self.true c.is_empty.ensures)

pub returns-else-self : goal.returns-else-self
returns-else-self c =
    let inside = c.self.inside in
    subst (λ (s : Scan). IsTrue (not c.is_settled.result) ↔ (given s ≡ [])) c.self.view_is
    (drained-when-going inside.judged (record { place = inside.place; held = inside.held; finished = inside.finished }) c.is_settled.result c.if-self.false c.self.invariant.0 c.is_settled.ensures)
