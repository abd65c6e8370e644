use Rattle.std.proofs.Common.{arith, [], ◌∷◌}
use Rattle.p25_io.specs.Events.{Read, Wrote}
use Rattle.p25_filter.proofs.{OrdersLaws.{no_read-ahead, no_read-after_end, nothing-after_read_fault, nothing-after_write_fault, read_fault-told, write_fault-told}, TracesLaws.{IsLive-parts}}
use Rattle.p25_filter.specs.Traces.{at_first}
use Rattle.p25_filter.proofs.laws.order_laws.Goals as goal

pub returns : goal.returns
returns c = record {
  all_is_written_first = λ future before after octets live. (IsLive-parts future at_first before (Read octets ∷ after) live).1.0.0.wrote;
  no_read_after_refusal = λ future before after octets live. (IsLive-parts future at_first before (Read octets ∷ after) live).1.0.0.ends;
  no_read_ahead = no_read-ahead;
  no_read_after_end = no_read-after_end;
  no_empty_write = λ future before after live.
      let due = (IsLive-parts future at_first before (Wrote [] ∷ after) live).1.0 in
      omega (arith, due.some);
  nothing_after_read_fault = nothing-after_read_fault;
  nothing_after_write_fault = nothing-after_write_fault;
  read_fault_is_told = read_fault-told;
  write_fault_is_told = write_fault-told;
}
