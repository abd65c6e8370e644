use Rattle.std.proofs.Common.{◌≢◌, ap, sym, ◌∙◌, arith, Some, length, List, ℕ, take}
use Rattle.p25_bits.specs.Bits.{octet_bits}
use Rattle.p25_packet_blocks.proofs.FlagLaws.{flags_of_octets-8, flags_of_octets-20, flags_of_octets-none}
use Rattle.p25_packet_blocks.proofs.flags.flags_read.Goals as goal

pub returns-in-8-clause-flags : goal.returns-in-8-clause-flags
returns-in-8-clause-flags c =
    let same = c.octets-all.ensures.value in
    ap Some (c.flags_in.ensures ∙ ap octet_bits same) ∙ sym (flags_of_octets-8 c.args.octets.now (ap length (sym same) ∙ c.in-8.is))

pub returns-in-20-clause-flags : goal.returns-in-20-clause-flags
returns-in-20-clause-flags c =
    let same = c.octets-all.ensures.value in
    ap Some (c.flags_in-in-20.ensures ∙ ap (λ (xs : List ℕ). octet_bits (take 16 xs)) same) ∙ sym (flags_of_octets-20 c.args.octets.now (ap length (sym same) ∙ c.in-20.is))

pub returns-in_default-clause-flags : goal.returns-in_default-clause-flags
returns-in_default-clause-flags c =
    let not_8 : length c.args.octets.now ≢ 8 = grind arith in
    let not_20 : length c.args.octets.now ≢ 20 = grind arith in
    sym (flags_of_octets-none c.args.octets.now not_8 not_20)
