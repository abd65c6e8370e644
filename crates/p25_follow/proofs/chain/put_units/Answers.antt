use Rattle.std.proofs.{Common.{◌≡◌, ℕ, ◌+◌, ◌-◌, Bool, List, Option, Some, None, true, false, ◌++◌, ◌||◌, length, drop, ap, ap₂, sym, subst, ◌∙◌, refl, arith, length-drop}, lemmas.List.{drop-drop}}
use Rattle.std.specs.Prelude.{nat_le}
use Rattle.p25_bch_nid.specs.declared.nid.Nid.{Nid}
use Rattle.p25_follow.specs.{Chains.{chain_by}, Expected.{name_of, names_of}, Following.{Follow, left_of}}
use Rattle.p25_follow.proofs.{ChainSteps.{chain-stepped, chain-stopped, left-stepped, left-stopped}, StepLaws.{step_of-there}}
use Rattle.p25_follow.proofs.chain.put_units.Goals as goal

abbrev pair : ℕ → ℕ → ℕ × ℕ
pair nac kind = (nac, kind)

-- the output that remains and the bits left, if the data unit before is known
written-at : (whole : Bool) (before now : Option Nid) (bits out all : List Bool) (end : Option (ℕ × ℕ)) → before ≡ now → out ++ chain_by whole (names_of before) bits end ≡ all
    → out ++ chain_by whole (names_of now) bits end ≡ all
written-at whole before now bits out all end same is = subst (λ (o : Option Nid). out ++ chain_by whole (names_of o) bits end ≡ all) same is

left-at : (before now : Option Nid) (bits : List Bool) (kept : Follow) → before ≡ now → left_of (names_of before) bits ≡ kept → left_of (names_of now) bits ≡ kept
left-at before now bits kept same is = subst (λ (o : Option Nid). left_of (names_of o) bits ≡ kept) same is

can-step : (whole answer known : Bool) (count : ℕ) (rest : List Bool) → answer ≡ (whole || nat_le 6912 count) → answer ≡ known → length rest ≡ count → (whole || nat_le 6912 (length rest)) ≡ known
can-step whole answer known count rest is value long = ap (λ (n : ℕ). whole || nat_le 6912 n) long ∙ sym is ∙ value

pub returns-then-not-can_step-clause-waits : goal.returns-then-not-can_step-clause-waits
returns-then-not-can_step-clause-waits c =
    let rest = drop c.loop-before.at c.args.bits.now in
    let whole = c.args.whole in
    can-step whole c.can_step.result false (c.len.result - c.loop-before.at) rest c.can_step.ensures c.if-not-can_step.true
    (omega (arith, c.len.ensures.value, length-drop c.loop-before.at c.args.bits.now))

pub with_kind-next-requires : goal.with_kind-next-requires
with_kind-next-requires c =
    (step_of-there (name_of c.in-Some.name) (drop c.loop-before.at c.args.bits.now) (names_of c.args.end.now) c.in-Some-step.kind (sym c.step.ensures.value ∙ c.in-Some-step.is)).fits

pub put_with_front-requires-clause-some : goal.put_with_front-requires-clause-some
put_with_front-requires-clause-some c =
    let there = step_of-there (name_of c.in-Some.name) (drop c.loop-before.at c.args.bits.now) (names_of c.args.end.now) c.in-Some-step.kind (sym c.step.ensures.value ∙ c.in-Some-step.is) in
    omega (arith, c.kind_length-count.ensures.value, there.few)

pub put_with_front-requires-clause-there : goal.put_with_front-requires-clause-there
put_with_front-requires-clause-there c =
    let there = step_of-there (name_of c.in-Some.name) (drop c.loop-before.at c.args.bits.now) (names_of c.args.end.now) c.in-Some-step.kind (sym c.step.ensures.value ∙ c.in-Some-step.is) in
    omega (arith, c.kind_length-count.ensures.value, there.there, length-drop c.loop-before.at c.args.bits.now, c.loop-before.invariant.there)

pub put_with_front-requires-clause-room : goal.put_with_front-requires-clause-room
put_with_front-requires-clause-room c =
    let there = step_of-there (name_of c.in-Some.name) (drop c.loop-before.at c.args.bits.now) (names_of c.args.end.now) c.in-Some-step.kind (sym c.step.ensures.value ∙ c.in-Some-step.is) in
    omega (arith, c.kind_length-count.ensures.value, there.there, length-drop c.loop-before.at c.args.bits.now, c.loop-before.invariant.there, c.loop-before.invariant.filled, c.requires)

pub loop-before-smaller-in-Some-step : goal.loop-before-smaller-in-Some-step
loop-before-smaller-in-Some-step c =
    let there = step_of-there (name_of c.in-Some.name) (drop c.loop-before.at c.args.bits.now) (names_of c.args.end.now) c.in-Some-step.kind (sym c.step.ensures.value ∙ c.in-Some-step.is) in
    omega (arith, c.kind_length-count.ensures.value, there.few, there.there, length-drop c.loop-before.at c.args.bits.now, c.loop-before.invariant.there)

pub loop-before-preserved-in-Some-step : goal.loop-before-preserved-in-Some-step
loop-before-preserved-in-Some-step c =
    let bits = c.args.bits.now in
    let at = c.loop-before.at in
    let rest = drop at bits in
    let out = c.loop-before.out in
    let whole = c.args.whole in
    let end = names_of c.args.end.now in
    let name = c.in-Some.name in
    let kind = c.in-Some-step.kind in
    let count = c.kind_length-count.result in
    let all = c.args.out.now ++ chain_by whole (names_of c.args.before) bits end in
    let kept = left_of (names_of c.args.before) bits in
    let step = sym c.step.ensures.value ∙ c.in-Some-step.is in
    let there = step_of-there (name_of name) rest end kind step in
    let goes = can-step whole c.can_step.result true (c.len.result - at) rest c.can_step.ensures c.if-not-can_step.false (omega (arith, c.len.ensures.value, length-drop at bits)) in
    let next = ap₂ pair c.with_kind-next.ensures.network c.with_kind-next.ensures.kind in
    let left = sym (drop-drop count at bits) in
    record {
      there = omega (arith, c.kind_length-count.ensures.value, there.there, length-drop at bits, c.loop-before.invariant.there);
      written =
          chain-stepped whole (name_of name) (name_of c.with_kind-next.result) kind count rest (drop (at + count) bits) out c.put_with_front.new.out all end goes step next
          c.kind_length-count.ensures.value left c.put_with_front.ensures.list
          (written-at whole c.loop-before.before (Some name) rest out all end c.in-Some.is c.loop-before.invariant.written);
      left = λ open_.
          left-stepped whole (name_of name) (name_of c.with_kind-next.result) kind count rest (drop (at + count) bits) end kept goes open_ step next
          c.kind_length-count.ensures.value left
          (left-at c.loop-before.before (Some name) rest kept c.in-Some.is (c.loop-before.invariant.left open_));
      filled = omega (arith, c.put_with_front.ensures.len, c.loop-before.invariant.filled);
    }

pub loop-before-preserved : goal.loop-before-preserved
loop-before-preserved c =
    let bits = c.args.bits.now in
    let at = c.loop-before.at in
    let rest = drop at bits in
    let out = c.loop-before.out in
    let whole = c.args.whole in
    let end = names_of c.args.end.now in
    let name = c.in-Some.name in
    let all = c.args.out.now ++ chain_by whole (names_of c.args.before) bits end in
    let kept = left_of (names_of c.args.before) bits in
    let step = sym c.step.ensures.value ∙ c.in-None.is in
    let goes = can-step whole c.can_step.result true (c.len.result - at) rest c.can_step.ensures c.if-not-can_step.false (omega (arith, c.len.ensures.value, length-drop at bits)) in
    record {
      there = c.loop-before.invariant.there;
      written = chain-stopped whole (name_of name) rest out all end goes step (written-at whole c.loop-before.before (Some name) rest out all end c.in-Some.is c.loop-before.invariant.written);
      left = λ open_. left-stopped whole (name_of name) rest end kept goes open_ step (left-at c.loop-before.before (Some name) rest kept c.in-Some.is (c.loop-before.invariant.left open_));
      filled = c.loop-before.invariant.filled;
    }

none-from : (o : Option Nid) → ((x : Nid) → o ≡ Some x → ⊥) → o ≡ None
none-from None not_some = refl
none-from (Some x) not_some = absurd (not_some x refl)

pub returns-clause-list : goal.returns-clause-list
returns-clause-list c =
    let rest = drop c.loop-before.at c.args.bits.now in
    let whole = c.args.whole in
    let end = names_of c.args.end.now in
    let all = c.args.out.now ++ chain_by whole (names_of c.args.before) c.args.bits.now end in
    written-at whole c.loop-before.before None rest c.loop-before.out all end (none-from c.loop-before.before c.in_default.not-Some) c.loop-before.invariant.written

pub returns-clause-left : goal.returns-clause-left
returns-clause-left c =
    let rest = drop c.loop-before.at c.args.bits.now in
    let kept = left_of (names_of c.args.before) c.args.bits.now in
    λ open_. left-at c.loop-before.before None rest kept (none-from c.loop-before.before c.in_default.not-Some) (c.loop-before.invariant.left open_)
