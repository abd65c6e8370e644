use Rattle.std.proofs.Common.{◌≡◌, ℕ, ◌+◌, ◌-◌, ◌*◌, Bool, List, ◌++◌, length, take, drop, Option, Some, None, refl, ap, ap₂, sym, subst, ◌∙◌, arith, length-drop}
use Rattle.std.proofs.lemmas.List.{drop-drop}
use Rattle.p25_bits.specs.Bits.{part}
use Rattle.p25_bits.proofs.PartLaws.{drop-is_part}
use Rattle.p25_bch_nid.specs.declared.nid.Nid.{Nid}
use Rattle.p25_follow.specs.{Chains.{chain_by}, Expected.{kind_length, name_of, names_of}}
use Rattle.p25_follow.proofs.AfterUnitLaws.{Sound, some-sound}
use Rattle.p25_decide.specs.{DecidedRecordings.{item_decided}, DecidedTaking.{over_by, over_left, settled_kind, voice_decided}}
use Rattle.p25_decide.proofs.StretchSteps.{IsAmongSettled, is-among, over-begins, over-ends, over-goes, over-nothing}
use Rattle.p25_decide.proofs.stretch.decide_settled.Goals as goal

abbrev pair : ℕ → ℕ → ℕ × ℕ
pair nac kind = (nac, kind)

-- the name that is kept has an access code of 12 bits
sound-name : (name : Nid) → Sound (Some (name_of name))
sound-name name = some-sound (name_of name) (omega (arith, name.nac_fits))

-- a unit that is settled, among the settled bits
among-by : (whole : Bool) (name : Nid) (rest settled : List Bool) (end : Option (ℕ × ℕ)) (answer : Option ℕ) (kind : ℕ) → answer ≡ settled_kind whole (name_of name) rest end → answer ≡ Some kind
    → settled ≡ chain_by whole (Some (name_of name)) rest end → IsAmongSettled whole (name_of name) rest end kind settled
among-by whole name rest settled end answer kind is some left = is-among whole (name_of name) rest end kind settled (sym is ∙ some) (sound-name name) left

pub loop-before-init : goal.loop-before-init
loop-before-init c =
    let whole = c.args.whole in
    let stretch = c.args.stretch.now in
    let settled = c.args.settled.now in
    let end = names_of c.args.end.now in
    record {
      there = omega arith;
      among = omega arith;
      filled = ap length c.clear.ensures;
      left = λ name is. c.requires.settled ∙ ap (λ (o : Option Nid). chain_by whole (names_of o) stretch end) is;
      written = λ first all are.
          let position : 2 * first + c.args.from + 0 ≡ 2 * first + c.args.from = omega arith in
          ap₂ (λ (xs : List Bool) n. xs ++ over_left whole (item_decided all) n (names_of c.args.before) stretch end settled) c.clear.ensures position
          ∙ over-begins whole (item_decided all) (2 * first + c.args.from) (names_of c.args.before) stretch end settled c.requires.settled;
    }

pub put_unit-requires-clause-kind : goal.put_unit-requires-clause-kind
put_unit-requires-clause-kind c =
    (among-by c.args.whole c.in-Some.name (drop c.loop-before.at c.args.stretch.now) (drop c.loop-before.at c.args.settled.now) (names_of c.args.end.now) c.settled_kind.result c.in-Some-settled_kind.kind
    c.settled_kind.ensures c.in-Some-settled_kind.is (c.loop-before.invariant.left c.in-Some.name c.in-Some.is)).few

pub put_unit-requires-clause-there : goal.put_unit-requires-clause-there
put_unit-requires-clause-there c =
    let among = among-by c.args.whole c.in-Some.name (drop c.loop-before.at c.args.stretch.now) (drop c.loop-before.at c.args.settled.now) (names_of c.args.end.now) c.settled_kind.result c.in-Some-settled_kind.kind
    c.settled_kind.ensures c.in-Some-settled_kind.is (c.loop-before.invariant.left c.in-Some.name c.in-Some.is) in
    omega (arith, among.among, length-drop c.loop-before.at c.args.settled.now, c.loop-before.invariant.among)

pub put_unit-requires-clause-levels : goal.put_unit-requires-clause-levels
put_unit-requires-clause-levels c =
    let among = among-by c.args.whole c.in-Some.name (drop c.loop-before.at c.args.stretch.now) (drop c.loop-before.at c.args.settled.now) (names_of c.args.end.now) c.settled_kind.result c.in-Some-settled_kind.kind
    c.settled_kind.ensures c.in-Some-settled_kind.is (c.loop-before.invariant.left c.in-Some.name c.in-Some.is) in
    omega (arith, among.there, length-drop c.loop-before.at c.args.stretch.now, c.loop-before.invariant.there, c.requires.levels)

pub put_unit-requires-clause-room : goal.put_unit-requires-clause-room
put_unit-requires-clause-room c =
    let among = among-by c.args.whole c.in-Some.name (drop c.loop-before.at c.args.stretch.now) (drop c.loop-before.at c.args.settled.now) (names_of c.args.end.now) c.settled_kind.result c.in-Some-settled_kind.kind
    c.settled_kind.ensures c.in-Some-settled_kind.is (c.loop-before.invariant.left c.in-Some.name c.in-Some.is) in
    omega (arith, among.among, length-drop c.loop-before.at c.args.settled.now, c.loop-before.invariant.among, c.loop-before.invariant.filled, c.len-count.ensures.value, c.len-count.ensures.most)

pub with_kind-requires : goal.with_kind-requires
with_kind-requires c =
    (among-by c.args.whole c.in-Some.name (drop c.loop-before.at c.args.stretch.now) (drop c.loop-before.at c.args.settled.now) (names_of c.args.end.now) c.settled_kind.result c.in-Some-settled_kind.kind
    c.settled_kind.ensures c.in-Some-settled_kind.is (c.loop-before.invariant.left c.in-Some.name c.in-Some.is)).fits

pub loop-before-smaller-in-Some-settled_kind : goal.loop-before-smaller-in-Some-settled_kind
loop-before-smaller-in-Some-settled_kind c =
    let among = among-by c.args.whole c.in-Some.name (drop c.loop-before.at c.args.stretch.now) (drop c.loop-before.at c.args.settled.now) (names_of c.args.end.now) c.settled_kind.result c.in-Some-settled_kind.kind
    c.settled_kind.ensures c.in-Some-settled_kind.is (c.loop-before.invariant.left c.in-Some.name c.in-Some.is) in
    omega (arith, c.kind_length-at.ensures.value, among.few, among.there, length-drop c.loop-before.at c.args.stretch.now, c.loop-before.invariant.there)

pub loop-before-preserved-in-Some-settled_kind : goal.loop-before-preserved-in-Some-settled_kind
loop-before-preserved-in-Some-settled_kind c =
    let whole = c.args.whole in
    let stretch = c.args.stretch.now in
    let settled = c.args.settled.now in
    let end = names_of c.args.end.now in
    let at = c.loop-before.at in
    let name = c.in-Some.name in
    let kind = c.in-Some-settled_kind.kind in
    let next = c.with_kind.result in
    let inv = c.loop-before.invariant in
    let left = inv.left name c.in-Some.is in
    let settles = sym c.settled_kind.ensures ∙ c.in-Some-settled_kind.is in
    let among = is-among whole (name_of name) (drop at stretch) end kind (drop at settled) settles (sound-name name) left in
    let count : c.kind_length-at.result ≡ kind_length kind = c.kind_length-at.ensures.value in
    let next_is : name_of next ≡ pair name.nac kind = ap₂ pair c.with_kind.ensures.network c.with_kind.ensures.kind in
    let left_is : drop (at + c.kind_length-at.result) stretch ≡ drop (kind_length kind) (drop at stretch) = ap (λ n. drop (at + n) stretch) count ∙ sym (drop-drop (kind_length kind) at stretch) in
    let settled_is : drop (at + c.kind_length-at.result) settled ≡ drop (kind_length kind) (drop at settled) = ap (λ n. drop (at + n) settled) count ∙ sym (drop-drop (kind_length kind) at settled) in
    record {
      there = omega (arith, count, among.there, length-drop at stretch, inv.there);
      among = omega (arith, count, among.among, length-drop at settled, inv.among);
      filled = omega (arith, count, c.put_unit.ensures.len, inv.filled);
      left = λ other is.
          settled_is
          ∙ among.left
          ∙ ap₂ (λ (n : ℕ × ℕ) (xs : List Bool). chain_by whole (Some n) xs end) (sym next_is) (sym left_is)
          ∙ ap (λ (o : Option Nid). chain_by whole (names_of o) (drop (at + c.kind_length-at.result) stretch) end) is;
      written = λ first all are.
          let here = 2 * first + c.args.from + at in
          let now : c.put_unit.new.out ≡ c.loop-before.out ++ voice_decided all here kind (take (kind_length kind) (drop at settled))
          = c.put_unit.ensures.list first all are
          ∙ (let position : 2 * first + (c.args.from + at) ≡ here = omega arith in ap (λ n. c.loop-before.out ++ voice_decided all n kind (part at (kind_length kind) settled)) position) in
          let position : 2 * first + c.args.from + (at + c.kind_length-at.result) ≡ here + kind_length kind = omega (arith, count) in
          ap (λ n. c.put_unit.new.out ++ over_left whole (item_decided all) n (Some (name_of next)) (drop (at + c.kind_length-at.result) stretch) end (drop (at + c.kind_length-at.result) settled)) position
          ∙ over-goes whole all here (name_of name) (name_of next) (drop at stretch) (drop (at + c.kind_length-at.result) stretch) end kind (drop at settled)
          (drop (at + c.kind_length-at.result) settled) c.loop-before.out c.put_unit.new.out
          (over_by whole (item_decided all) (2 * first + c.args.from) (names_of c.args.before) stretch end) settles (sound-name name) left next_is left_is now
          (subst (λ (o : Option Nid). c.loop-before.out ++ over_left whole (item_decided all) here (names_of o) (drop at stretch) end (drop at settled)
          ≡ over_by whole (item_decided all) (2 * first + c.args.from) (names_of c.args.before) stretch end) c.in-Some.is (inv.written first all are));
    }

pub loop-before-preserved : goal.loop-before-preserved
loop-before-preserved c =
    let whole = c.args.whole in
    let stretch = c.args.stretch.now in
    let settled = c.args.settled.now in
    let end = names_of c.args.end.now in
    let at = c.loop-before.at in
    let name = c.in-Some.name in
    let inv = c.loop-before.invariant in
    let left = inv.left name c.in-Some.is in
    let stops = sym c.settled_kind.ensures ∙ c.in-None.is in
    record {
      there = inv.there;
      among = inv.among;
      filled = inv.filled;
      left = λ other is. absurd (cc);
      written = λ first all are.
          let here = 2 * first + c.args.from + at in
          ap (λ (xs : List Bool). c.loop-before.out ++ xs)
          (over-nothing whole (item_decided all) here (drop at stretch) end (drop at settled)
          ∙ sym (over-ends whole (item_decided all) here (name_of name) (drop at stretch) end (drop at settled) stops left))
          ∙ subst (λ (o : Option Nid). c.loop-before.out ++ over_left whole (item_decided all) here (names_of o) (drop at stretch) end (drop at settled)
          ≡ over_by whole (item_decided all) (2 * first + c.args.from) (names_of c.args.before) stretch end) c.in-Some.is (inv.written first all are);
    }

none-from : (o : Option Nid) → ((x : Nid) → o ≡ Some x → ⊥) → o ≡ None
none-from None not_some = refl
none-from (Some x) not_some = absurd (not_some x refl)

pub returns : goal.returns
returns c =
    let whole = c.args.whole in
    let stretch = c.args.stretch.now in
    let settled = c.args.settled.now in
    let end = names_of c.args.end.now in
    let at = c.loop-before.at in
    let inv = c.loop-before.invariant in
    let rest : part at (c.len-count.result - at) settled ≡ drop at settled = ap (λ n. part at (n - at) settled) c.len-count.ensures.value ∙ sym (drop-is_part at settled) in
    λ first all are.
    let here = 2 * first + c.args.from + at in
    c.append.ensures.list
    ∙ ap (λ (xs : List Bool). c.loop-before.out ++ xs) (rest ∙ sym (over-nothing whole (item_decided all) here (drop at stretch) end (drop at settled)))
    ∙ subst (λ (o : Option Nid). c.loop-before.out ++ over_left whole (item_decided all) here (names_of o) (drop at stretch) end (drop at settled)
    ≡ over_by whole (item_decided all) (2 * first + c.args.from) (names_of c.args.before) stretch end) (none-from c.loop-before.before c.in_default.not-Some) (inv.written first all are)
