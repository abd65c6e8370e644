use Rattle.std.proofs.Common.{◌∙◌, sym, drop}
use Rattle.p25_follow.proofs.LookLaws.{told-clear, told-read, told-unread}
use Rattle.p25_follow.proofs.told.told_at.Goals as goal

pub returns-then-look : goal.returns-then-look
returns-then-look c = told-clear c.args.look (drop c.args.at c.args.bits.now) c.if-look.true

pub returns-then-is_read : goal.returns-then-is_read
returns-then-is_read c = told-read c.args.look (drop c.args.at c.args.bits.now) c.if-look.false (sym c.is_read.ensures ∙ c.if-is_read.true)

pub returns-else-is_read : goal.returns-else-is_read
returns-else-is_read c = told-unread c.args.look (drop c.args.at c.args.bits.now) (sym c.is_read.ensures ∙ c.if-is_read.false)
