use Rattle.std.proofs.{Common.{◌≡◌, ◌∙◌, ◌-◌, ◌≤◌, ◌<◌, ℕ, Bool, List, ap, ap₂, sym, arith, drop, length, length-drop}, lemmas.List.{drop-drop, drop_all}}
use Rattle.std.specs.Option.{is_some}
use Rattle.p25_follow.specs.{Expected.{name_of, names_of}, Steps.{is_sure}}
use Rattle.p25_follow.proofs.LookSteps.{sure-after, sure-end, sure-fit, sure-no_links, sure-not_after, sure-short, sure-unfit, sure-unlinked}
use Rattle.p25_follow.proofs.steps.+is_sure.Goals.{then-links-eq0-via-then-links-eq0, then-links-eq0-via-else-links-eq0+then-len-at-lt-LINK_LENGTH}
use Rattle.p25_follow.proofs.steps.+is_sure.Goals as goal

abbrev pair : ℕ → ℕ → ℕ × ℕ
pair nac kind = (nac, kind)

pub returns-then-len-at : goal.returns-then-len-at
returns-then-len-at t c =
    let bits = c.args.bits.now in
    let at = c.args.at in
    c.is_end.ensures
    ∙ sym
    (ap (λ (xs : List Bool). is_sure c.args.links (name_of c.args.before.now) xs (names_of c.args.end.now)) (drop_all at bits (omega (arith, c.len.ensures.value, c.if-len-at.true)))
    ∙ sure-end c.args.links (name_of c.args.before.now) (names_of c.args.end.now))

pub returns-then-is_some : goal.returns-then-is_some
returns-then-is_some t c =
    let rest = drop c.args.at c.args.bits.now in
    let some : 0 < length rest = omega (arith, length-drop c.args.at c.args.bits.now, c.len.ensures.value, c.if-len-at.false) in
    let test = ap is_some (sym c.if_fits.ensures) ∙ sym c.is_some.ensures ∙ c.if-is_some.true in
    c.is_some-then-is_some.ensures
    ∙ sure-fit (name_of c.args.before.now) rest (names_of c.args.end.now) c.look_at-look.result some c.look_at-look.ensures c.args.links c.told_at.result c.if_fits-then-is_some.result test
    c.told_at.ensures c.if_fits-then-is_some.ensures

pub returns-then-not-is_nothing : goal.returns-then-not-is_nothing
returns-then-not-is_nothing t c =
    let rest = drop c.args.at c.args.bits.now in
    let some : 0 < length rest = omega (arith, length-drop c.args.at c.args.bits.now, c.len.ensures.value, c.if-len-at.false) in
    let test = ap is_some (sym c.if_fits.ensures) ∙ sym c.is_some.ensures ∙ c.if-is_some.false in
    sure-unfit (name_of c.args.before.now) rest (names_of c.args.end.now) c.look_at-look.result some c.look_at-look.ensures c.args.links test (sym c.is_nothing.ensures ∙ c.if-not-is_nothing.true)

pub returns-then-links-eq0 : goal.returns-then-links-eq0
returns-then-links-eq0 t c =
    let before = name_of c.args.before.now in
    let end = names_of c.args.end.now in
    let rest = drop c.args.at c.args.bits.now in
    let some : 0 < length rest = omega (arith, length-drop c.args.at c.args.bits.now, c.len.ensures.value, c.if-len-at.false) in
    let test = ap is_some (sym c.if_fits.ensures) ∙ sym c.is_some.ensures ∙ c.if-is_some.false in
    elim c.then-links-eq0.branch [
      | then-links-eq0-via-then-links-eq0 w ↦
          let none : 0 ≡ c.args.links = omega (arith, w.if-links-eq0.true) in
          sure-no_links before rest end c.look_at-look.result some c.look_at-look.ensures test ∙ ap (λ (links : ℕ). is_sure links before rest end) none
      | then-links-eq0-via-else-links-eq0+then-len-at-lt-LINK_LENGTH w ↦
          let short : length rest < 1728 = omega (arith, length-drop c.args.at c.args.bits.now, w.len-else-links-eq0.ensures.value, w.if-len-at-lt-LINK_LENGTH.true) in
          sure-short before rest end c.look_at-look.result some c.look_at-look.ensures c.args.links test short
    ]

pub returns-in-None : goal.returns-in-None
returns-in-None t c =
    let rest = drop c.args.at c.args.bits.now in
    let some : 0 < length rest = omega (arith, length-drop c.args.at c.args.bits.now, c.len.ensures.value, c.if-len-at.false) in
    let test = ap is_some (sym c.if_fits.ensures) ∙ sym c.is_some.ensures ∙ c.if-is_some.false in
    sure-unlinked (name_of c.args.before.now) rest (names_of c.args.end.now) c.look_at-look.result some c.look_at-look.ensures c.args.links test (sym c.in-None.ensures.value)

pub returns-then-not-is_sure : goal.returns-then-not-is_sure
returns-then-not-is_sure t c =
    let bits = c.args.bits.now in
    let at = c.args.at in
    let end = names_of c.args.end.now in
    let rest = drop at bits in
    let next = name_of c.with_kind-next.result in
    let some : 0 < length rest = omega (arith, length-drop at bits, c.len.ensures.value, c.if-len-at.false) in
    let links : 0 < c.args.links = omega arith in
    let test = ap is_some (sym c.if_fits.ensures) ∙ sym c.is_some.ensures ∙ c.if-is_some.false in
    sure-not_after (name_of c.args.before.now) rest end c.look_at-look.result some c.look_at-look.ensures c.args.links c.in-Some.kind next c.is_sure.result links test
    (sym c.in-Some.ensures.value) (ap₂ pair c.with_kind-next.ensures.network c.with_kind-next.ensures.kind)
    (c.is_sure.ensures ∙ ap (λ (xs : List Bool). is_sure (c.args.links - 1) next xs end) (sym (drop-drop 1728 at bits))) c.if-not-is_sure.true

pub returns-else-not-is_sure : goal.returns-else-not-is_sure
returns-else-not-is_sure t c =
    let bits = c.args.bits.now in
    let at = c.args.at in
    let end = names_of c.args.end.now in
    let rest = drop at bits in
    let next = name_of c.with_kind-next.result in
    let some : 0 < length rest = omega (arith, length-drop at bits, c.len.ensures.value, c.if-len-at.false) in
    let links : 0 < c.args.links = omega arith in
    let long : 1728 ≤ length rest = omega (arith, length-drop at bits, c.len-else-links-eq0.ensures.value, c.if-len-at-lt-LINK_LENGTH.false) in
    let test = ap is_some (sym c.if_fits.ensures) ∙ sym c.is_some.ensures ∙ c.if-is_some.false in
    sure-after (name_of c.args.before.now) rest end c.look_at-look.result some c.look_at-look.ensures c.args.links c.in-Some.kind next c.is_sure.result c.told_at-in-Some.result
    c.is_nothing-in-Some.result links test long (sym c.in-Some.ensures.value) (ap₂ pair c.with_kind-next.ensures.network c.with_kind-next.ensures.kind)
    (c.is_sure.ensures ∙ ap (λ (xs : List Bool). is_sure (c.args.links - 1) next xs end) (sym (drop-drop 1728 at bits))) c.if-not-is_sure.false c.told_at-in-Some.ensures
    c.is_nothing-in-Some.ensures
