use Rattle.std.proofs.Common.{sym, refl}
use Rattle.p25_messages.specs.MessageList.{pieces_between, AreEnds}
use Rattle.p25_messages.proofs.message_list.MessageListOf.new.Goals as goal

pub invariant_of-result : goal.invariant_of-result
unfolding AreEnds
invariant_of-result g c = record { some = c.requires.some; few = c.requires.most; are = rw c.new-2.ensures.items (sym c.new.ensures.len) }

pub returns : goal.returns
unfolding pieces_between
returns g c = rw c.new-2.ensures.items refl
