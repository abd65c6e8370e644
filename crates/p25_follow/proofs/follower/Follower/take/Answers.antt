use Rattle.std.proofs.Common.{◌≡◌, false, not, Option, Some, None, refl, ap, sym, subst, ◌∙◌}
use Rattle.std.specs.Option.{is_some}
use Rattle.p25_bch_nid.specs.declared.nid.Nid.{Nid}
use Rattle.p25_follow.specs.{Expected.{names_of}, Following.{Follow, IsFollow}}
use Rattle.p25_follow.proofs.{FollowingLaws.{IsFollow-left}, FollowerSteps.{appended-all, none-behind, none-out, rest-behind, rest-out, unit-behind, unit-out}}
use Rattle.p25_follow.proofs.follower.Follower.take.Goals as goal

pub invariant_of-self : goal.invariant_of-self
invariant_of-self c =
    subst (λ (k : Follow). IsFollow k) (sym (c.put_chain-self-inside.ensures.left refl)) (IsFollow-left (names_of c.self.inside.before) c.append-then-is_rest.new.self)

pub returns-else-is_none-clause-out : goal.returns-else-is_none-clause-out
returns-else-is_none-clause-out c =
    let raw = c.args.raw.now in
    let stretch = c.self.inside.stretch in
    rest-out c.args.self.now c.args.item.now raw (names_of c.self.inside.before) stretch c.self.view_is
    c.append-then-is_rest.new.self c.clear.new.self c.put_chain-self-inside.new.out (sym c.is_rest.ensures ∙ c.if-is_rest.true)
    (appended-all stretch raw c.append-then-is_rest.new.self c.len-then-is_rest.result c.len-then-is_rest.ensures.value c.append-then-is_rest.ensures.list) c.clear.ensures
    c.put_chain-self-inside.ensures.list

pub returns-else-is_none-clause-behind : goal.returns-else-is_none-clause-behind
returns-else-is_none-clause-behind c =
    let raw = c.args.raw.now in
    let stretch = c.self.inside.stretch in
    rest-behind c.args.self.now c.args.item.now raw (names_of c.self.inside.before) stretch c.self.view_is c.append-then-is_rest.new.self _ (sym c.is_rest.ensures ∙ c.if-is_rest.true)
    (appended-all stretch raw c.append-then-is_rest.new.self c.len-then-is_rest.result c.len-then-is_rest.ensures.value c.append-then-is_rest.ensures.list) (c.put_chain-self-inside.ensures.left refl)

pub returns-else-is_none-clause-few : goal.returns-else-is_none-clause-few
returns-else-is_none-clause-few c =
    (subst (λ (k : Follow). IsFollow k) (sym (c.put_chain-self-inside.ensures.left refl)) (IsFollow-left (names_of c.self.inside.before) c.append-then-is_rest.new.self)).few

pub returns-else-is_rest-clause-out : goal.returns-else-is_rest-clause-out
returns-else-is_rest-clause-out c =
    unit-out c.args.self.now c.args.item.now c.args.raw.now (names_of c.self.inside.before) c.self.inside.stretch c.self.view_is (names_of c.unit_name-name.result) c.clear.new.self
    c.put_chain-self-inside-else-is_rest.new.out (sym c.is_rest.ensures ∙ c.if-is_rest.false) c.unit_name-name.ensures c.clear.ensures c.put_chain-self-inside-else-is_rest.ensures.list

pub returns-else-is_rest-clause-behind : goal.returns-else-is_rest-clause-behind
returns-else-is_rest-clause-behind c =
    unit-behind c.args.self.now c.args.item.now c.args.raw.now (names_of c.self.inside.before) c.self.inside.stretch c.self.view_is (names_of c.unit_name-name.result)
    c.put_chain-self-inside-else-is_rest.new.bits (sym c.is_rest.ensures ∙ c.if-is_rest.false) c.unit_name-name.ensures (c.put_chain-self-inside-else-is_rest.ensures.none refl)

none-names : (o : Option Nid) → is_some o ≡ false → names_of o ≡ None
none-names None is = refl
none-names (Some name) is = absurd (cc)

pub returns-then-is_none-clause-out : goal.returns-then-is_none-clause-out
returns-then-is_none-clause-out c =
    let none = none-names c.self.inside.before (c.is_none.ensures ∙ ap not c.if-is_none.true) in
    none-out c.args.self.now c.args.item.now c.args.raw.now (names_of c.self.inside.before) c.self.inside.stretch c.self.view_is c.clear.new.self c.append.new.self none
    (c.self.invariant.none none) (sym c.is_rest.ensures ∙ c.if-is_rest.true) c.clear.ensures
    (appended-all c.clear.new.self c.args.raw.now c.append.new.self c.len.result c.len.ensures.value c.append.ensures.list)

pub returns-then-is_none-clause-behind : goal.returns-then-is_none-clause-behind
returns-then-is_none-clause-behind c =
    let none = none-names c.self.inside.before (c.is_none.ensures ∙ ap not c.if-is_none.true) in
    none-behind c.args.self.now c.args.item.now c.args.raw.now (names_of c.self.inside.before) c.self.inside.stretch c.self.view_is none (c.self.invariant.none none)
    (sym c.is_rest.ensures ∙ c.if-is_rest.true)
