use Rattle.std.proofs.{Common.{Err, ap, sym, ◌∙◌}, lemmas.Result.{err_from_is_err_and}}
use Rattle.p25_packet_blocks.proofs.OutcomeLaws.{head_reading_of-read, head_reading_of-unread}
use Rattle.p25_packet_blocks.proofs.read.read_head.Goals as goal

pub returns-in_err-read_header : goal.returns-in_err-read_header
returns-in_err-read_header c =
    let p = err_from_is_err_and c.from_residual.result c.from_residual.ensures.1 in
    p.1 ∙ sym (head_reading_of-unread c.args.bare.now p.0 (sym c.in_err-read_header.ensures.read ∙ ap Err (sym p.2)))

pub returns : goal.returns
returns c = sym (head_reading_of-read c.args.bare.now c.in_ok-read_header.field-0 (sym c.in_ok-read_header.ensures.read))
