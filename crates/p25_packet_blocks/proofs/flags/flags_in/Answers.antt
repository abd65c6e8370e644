use Rattle.std.proofs.{Common.{◌≤◌, arith, Bool, List, ◌++◌, ap, sym, length, ◌∙◌, length-set}, lemmas.List.{take_all}}
use Rattle.p25_bits.specs.Numbers.{number_bits}
use Rattle.p25_bits.proofs.NumbersLaws.{number_bits-octets}
use Rattle.p25_packet_blocks.proofs.FlagSteps.{same_flags_more}
use Rattle.p25_packet_blocks.proofs.flags.flags_in.Goals as goal

pub loop-i-preserved : goal.loop-i-preserved
loop-i-preserved c = record {
  so_far = rw c.set.ensures (same_flags_more c.loop-i.flags c.put_numbers.new.self c.loop-i.i c.get.result (omega arith) (omega arith) c.get.ensures c.loop-i.invariant.so_far);
  long = ap length c.set.ensures ∙ length-set _ _ _ ∙ c.loop-i.invariant.long;
}

pub returns : goal.returns
returns c =
    let bits = c.put_numbers.new.self in
    let every : length bits ≤ c.loop-i.i = omega arith in
    let whole : length c.loop-i.flags ≤ c.loop-i.i = omega arith in
    sym (take_all c.loop-i.i c.loop-i.flags whole)
    ∙ c.loop-i.invariant.so_far
    ∙ take_all c.loop-i.i bits every
    ∙ c.put_numbers.ensures.list
    ∙ ap (λ (xs : List Bool). xs ++ number_bits 8 c.args.octets.now) c.new-bits.ensures
    ∙ number_bits-octets c.args.octets.now
