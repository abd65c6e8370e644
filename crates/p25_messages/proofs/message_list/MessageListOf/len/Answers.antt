use Rattle.std.proofs.Common.{length, ap, sym, ◌∙◌}
use Rattle.p25_messages.specs.MessageList.{ListParts}
use Rattle.p25_messages.proofs.MessageListLaws.{length-pieces_between}
use Rattle.p25_messages.proofs.message_list.MessageListOf.len.Goals as goal

pub returns : goal.returns
returns g c =
    c.len.ensures ∙ c.self.inside.ends.ok.0 ∙ sym (length-pieces_between 0 c.self.inside.ends.items c.self.inside.octets.items) ∙ ap (λ (s : ListParts). length s.list) c.self.view_is
