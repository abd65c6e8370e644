use Rattle.std.proofs.Common.{◌≡◌, ℕ, ◌-◌, ◌*◌, ◌/◌, List, [], ◌∷◌, ◌++◌, drop, ap, sym, ◌∙◌, arith}
use Rattle.p25_bits.specs.{Bits.{field_of}, Numbers.{octets_from}}
use Rattle.p25_bits.proofs.{NumbersLaws.{numbers_from-more}, PartLaws.{part-drop}}
use Rattle.p25_recording_filters.proofs.OctetsLaws.{octets-more, octets-none, octets-on}
use Rattle.p25_recording_filters.proofs.reports.changed.put_octets.Goals as goal

pub loop-k-init : goal.loop-k-init
loop-k-init c = record { list = octets-none c.args.out.now (drop c.args.at c.args.bits.now); len = omega arith }

pub loop-k-preserved : goal.loop-k-preserved
loop-k-preserved c =
    let bits = c.args.bits.now in
    let at = c.args.at in
    let k = c.loop-k.k in
    record {
      list =
          octets-on c.args.out.now (octets_from (8 * k) (drop at bits)) _ _ _ _ c.loop-k.invariant.list
          (ap (λ (xs : List ℕ). octets_from (8 * k) (drop at bits) ++ xs) c.to_be_bytes.ensures ∙ octets-more bits at k c.field.result (omega arith) c.field.ensures.value)
          c.put.ensures.list;
      len = omega (arith, c.put.ensures.len, c.loop-k.invariant.len);
    }

pub loop-j-init : goal.loop-j-init
loop-j-init c =
    let done : c.loop-k.k ≡ (c.len.result - c.args.at) / 64 = omega (arith, c.loop-k.auto.k-end) in
    record {
      list = c.loop-k.invariant.list ∙ ap (λ (k : ℕ). c.args.out.now ++ octets_from (8 * k) (drop c.args.at c.args.bits.now)) done;
      len = omega (arith, c.loop-k.invariant.len, done);
    }

pub loop-j-preserved : goal.loop-j-preserved
loop-j-preserved c =
    let bits = c.args.bits.now in
    let at = c.args.at in
    let j = c.loop-j.j in
    record {
      list =
          octets-on c.args.out.now (octets_from j (drop at bits)) _ _ _ _ c.loop-j.invariant.list
          (ap (λ (n : ℕ). octets_from j (drop at bits) ++ n ∷ []) (c.field-in-loop-j.ensures.value ∙ ap field_of (sym (part-drop (8 * j) 8 at bits))) ∙ sym (numbers_from-more 8 j (drop at bits)))
          c.put-in-loop-j.ensures.list;
      len = omega (arith, c.put-in-loop-j.ensures.len, c.loop-j.invariant.len);
    }
