use Rattle.std.proofs.Common.{◌≡◌, ℕ, ◌≤◌, ◌+◌, Bool, true, false, cond, slice_index, arith, ap, ◌∙◌, refl}
use Rattle.p25_coded_fields.specs.Decided.{rank_of, stands_before}
use Rattle.p25_coded_fields.proofs.DecidedLaws.{rank_none, rank_more}
use Rattle.p25_coded_fields.proofs.decide.rank.Goals as goal

pub loop-j-init : goal.loop-j-init
loop-j-init c = record { value = rank_none (stands_before (slice_index c.args.leasts.now) (slice_index c.args.seconds.now)) c.args.i; low = omega arith }

-- a truth value as a number
byte_is : (b : Bool) → mir.Val.bool_byte b ≡ cond b 1 0
byte_is true = refl
byte_is false = refl

-- it is at most one
at_most : (b : Bool) → cond b 1 0 ≤ 1
at_most true = omega arith
at_most false = omega arith

pub loop-j-preserved : goal.loop-j-preserved
loop-j-preserved c =
    let before = stands_before (slice_index c.args.leasts.now) (slice_index c.args.seconds.now) in
    let one : c.from-before.result ≡ cond (before c.loop-j.j c.args.i) 1 0 = c.from-before.ensures ∙ byte_is c.is_before.result ∙ ap (λ (b : Bool). cond {A = ℕ} b 1 0) c.is_before.ensures in
    record {
      value = ap (λ n. n + c.from-before.result) c.loop-j.invariant.value ∙ rank_more c.loop-j.j before c.args.i c.from-before.result one;
      low = omega (arith, one, at_most (before c.loop-j.j c.args.i), c.loop-j.invariant.low);
    }
