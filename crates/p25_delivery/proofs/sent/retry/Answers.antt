use Rattle.std.proofs.Common.{◌≡◌, ◌<◌, ◌≤◌, ◌-◌, ◌*◌, ℕ, length, ap, sym, ◌∙◌, inr, arith}
use Rattle.p25_delivery.proofs.{SentPacketsLaws.{length-flag_octets}, sent.retry.Goals.{then-len-le64, else-len-le64}}
use Rattle.p25_delivery.proofs.sent.retry.Goals as goal

pub new-requires : goal.new-requires
new-requires c =
    let flags = c.args.flags.now in
    let few : length flags ≤ 64 → c.if-len-le64.blocks ≡ 1 = λ h.
    elim c.if-len-le64.branch [ then-len-le64 w ↦ w.blocks-is | else-len-le64 w ↦ absurd (omega (arith, w.if-len-le64.false, c.len.ensures.value)) ] in
    let many : 64 < length flags → c.if-len-le64.blocks ≡ 2 = λ h.
    elim c.if-len-le64.branch [ then-len-le64 w ↦ absurd (omega (arith, w.if-len-le64.true, c.len.ensures.value)) | else-len-le64 w ↦ w.blocks-is ] in
    record {
      format = inr c.response-head.ensures.format;
      count = cc (length-flag_octets flags c.flags_make.result c.if-len-le64.blocks c.flags_make.ensures.octets
          (rw c.len.ensures.value at c.len.ensures.counts) few many);
    }
