use Rattle.std.proofs.{Common.{◌≡◌, ℕ, ◌-◌, Bool, List, Option, Some, None, true, false, ◌++◌, ◌||◌, length, take, drop, ap, sym, subst, ◌∙◌, arith, length-drop}, Math.Seq.{take-length}}
use Rattle.std.specs.Prelude.{IfSome, nat_le}
use Rattle.p25_bch_nid.specs.declared.nid.Nid.{Nid}
use Rattle.p25_follow.specs.{Chains.{chain_by}, Expected.{name_of, names_of}, Following.{Follow, follow, left_of}}
use Rattle.p25_follow.proofs.{ChainLaws.{left_of-none}, ChainSteps.{chain-ended, chain-waits, left-waits}}
use Rattle.p25_follow.proofs.chain.put_chain.Goals as goal

-- the output and the bits left, if the data unit before is known
written-at : (whole : Bool) (before now : Option Nid) (bits out all : List Bool) (end : Option (ℕ × ℕ)) → before ≡ now → out ++ chain_by whole (names_of before) bits end ≡ all
    → out ++ chain_by whole (names_of now) bits end ≡ all
written-at whole before now bits out all end same is = subst (λ (o : Option Nid). out ++ chain_by whole (names_of o) bits end ≡ all) same is

left-at : (before now : Option Nid) (bits : List Bool) (kept : Follow) → before ≡ now → left_of (names_of before) bits ≡ kept → left_of (names_of now) bits ≡ kept
left-at before now bits kept same is = subst (λ (o : Option Nid). left_of (names_of o) bits ≡ kept) same is

waits-at : (before : Option Nid) (name : Nid) (test : Bool) → before ≡ Some name → IfSome before (λ _. test ≡ false) → test ≡ false
waits-at before name test same waits = subst (λ (o : Option Nid). IfSome o (λ _. test ≡ false)) same waits

pub returns-in-Some-clause-list : goal.returns-in-Some-clause-list
returns-in-Some-clause-list c =
    let reached = c.put_units-reached.result in
    let rest = drop reached.at c.args.bits.now in
    let whole = c.args.whole in
    let end = names_of c.args.end.now in
    let all = c.args.out.now ++ chain_by whole (names_of c.args.before) c.args.bits.now end in
    let out = c.put_units-reached.new.out in
    chain-waits whole (name_of c.in-Some.name) rest out all end (waits-at reached.before c.in-Some.name (whole || nat_le 6912 (length rest)) c.in-Some.is c.put_units-reached.ensures.waits)
    (written-at whole reached.before (Some c.in-Some.name) rest out all end c.in-Some.is c.put_units-reached.ensures.list)

pub returns-in-Some-clause-left : goal.returns-in-Some-clause-left
returns-in-Some-clause-left c =
    let reached = c.put_units-reached.result in
    let rest = drop reached.at c.args.bits.now in
    let whole = c.args.whole in
    let kept = left_of (names_of c.args.before) c.args.bits.now in
    λ open_.
    ap (λ (xs : List Bool). follow (Some (name_of c.in-Some.name)) xs) c.drop_written.ensures
    ∙ left-waits whole (name_of c.in-Some.name) rest kept (waits-at reached.before c.in-Some.name (whole || nat_le 6912 (length rest)) c.in-Some.is c.put_units-reached.ensures.waits)
    (left-at reached.before (Some c.in-Some.name) rest kept c.in-Some.is (c.put_units-reached.ensures.left open_))

pub returns-in-Some-clause-none : goal.returns-in-Some-clause-none
returns-in-Some-clause-none c =
    let reached = c.put_units-reached.result in
    let rest = drop reached.at c.args.bits.now in
    λ whole.
    let waits = waits-at reached.before c.in-Some.name (c.args.whole || nat_le 6912 (length rest)) c.in-Some.is c.put_units-reached.ensures.waits in
    absurd (let never : true ≡ false = sym (ap (λ (b : Bool). b || nat_le 6912 (length rest)) whole) ∙ waits in cc)

pub returns-in-None-clause-list : goal.returns-in-None-clause-list
returns-in-None-clause-list c =
    let reached = c.put_units-reached.result in
    let bits = c.args.bits.now in
    let rest = drop reached.at bits in
    let whole = c.args.whole in
    let end = names_of c.args.end.now in
    let all = c.args.out.now ++ chain_by whole (names_of c.args.before) bits end in
    let out = c.put_units-reached.new.out in
    let long : c.len.result - reached.at ≡ length rest = omega (arith, c.len.ensures.value, length-drop reached.at bits) in
    c.append.ensures.list
    ∙ ap (λ (xs : List Bool). out ++ xs) (ap (λ (n : ℕ). take n rest) long ∙ take-length rest)
    ∙ chain-ended whole rest out all end (written-at whole reached.before None rest out all end c.in-None.is c.put_units-reached.ensures.list)

pub returns-in-None-clause-left : goal.returns-in-None-clause-left
returns-in-None-clause-left c =
    let reached = c.put_units-reached.result in
    let rest = drop reached.at c.args.bits.now in
    let kept = left_of (names_of c.args.before) c.args.bits.now in
    λ open_.
    ap (λ (xs : List Bool). follow None xs) c.clear.ensures
    ∙ sym (left_of-none rest)
    ∙ left-at reached.before None rest kept c.in-None.is (c.put_units-reached.ensures.left open_)
