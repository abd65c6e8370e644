use Rattle.std.proofs.Common.{Bool, List, false, ap, ◌∙◌}
use Rattle.p25_stream.specs.Items.{items_by}
use Rattle.p25_stream.proofs.ItemsLaws.{items_by-nil}
use Rattle.p25_stream.proofs.scanner.Scanner.new.Goals as goal

pub returns-clause-drained : goal.returns-clause-drained
returns-clause-drained c = ap (λ (held : List Bool). items_by false 0 held) c.new-held.ensures ∙ items_by-nil false 0
