use Rattle.std.proofs.Common.{ℕ, ◌-◌, ◌%◌, List, [], ◌∷◌, ◌++◌, drop, ap, sym, ◌∙◌, arith, append_assoc, append-nil, length-append}
use Rattle.p25_units.specs.Units.{whole_octets}
use Rattle.p25_recording_filters.proofs.OctetsLaws.{kept-behind, octets-behind, whole_octets-few}
use Rattle.p25_recording_filters.proofs.reports.changed.put_after.Goals as goal

pub returns-then-len-missing-clause-octets : goal.returns-then-len-missing-clause-octets
returns-then-len-missing-clause-octets c =
    let all = c.args.kept.now ++ c.args.bits.now in
    sym (append-nil c.args.out.now)
    ∙ ap (λ (zs : List ℕ). c.args.out.now ++ zs)
    (sym (whole_octets-few all (omega (arith, length-append c.args.kept.now c.args.bits.now, c.if-len-missing.true, c.len-missing.ensures.value, c.len.ensures.value))))

pub returns-clause-octets : goal.returns-clause-octets
returns-clause-octets c =
    let missing = 8 - c.len-missing.result in
    let last = whole_octets (drop missing c.args.bits.now) in
    c.put_octets.ensures.list
    ∙ ap (λ (zs : List ℕ). zs ++ last) (c.put.ensures.list ∙ ap (λ (n : ℕ). c.args.out.now ++ n ∷ []) c.field.ensures.value)
    ∙ append_assoc c.args.out.now _ last
    ∙ ap (λ (zs : List ℕ). c.args.out.now ++ zs)
    (octets-behind c.args.kept.now c.args.bits.now missing c.requires.kept (ap (λ (n : ℕ). 8 - n) c.len-missing.ensures.value)
    (omega (arith, c.if-len-missing.false, c.len.ensures.value)) c.append-2.new.self c.append-2.ensures.list)

pub returns-clause-kept : goal.returns-clause-kept
returns-clause-kept c =
    let missing = 8 - c.len-missing.result in
    let count = (c.len-2.result - missing) % 8 in
    kept-behind c.args.kept.now c.args.bits.now missing c.requires.kept (ap (λ (n : ℕ). 8 - n) c.len-missing.ensures.value)
    (omega (arith, c.if-len-missing.false, c.len.ensures.value)) c.clear.new.self c.append-3.new.self (c.len-3.result - count) count c.clear.ensures
    c.append-3.ensures.list
    (ap (λ (n : ℕ). (n - missing) % 8) c.len-2.ensures.value)
    (omega (arith, c.len-2.ensures.value, c.len-3.ensures.value, c.if-len-missing.false, c.len.ensures.value))
