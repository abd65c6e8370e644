use Rattle.std.proofs.Common.{◌≡◌, ◌≢◌, ◌-◌, ◌%◌, [], ◌∷◌, ◌++◌, List, length, ap, ap₂, sym, subst, ◌∙◌, ℤ, to_z, of_z, w8}
use Rattle.p25_bits.specs.Bits.{bits_of, part}
use Rattle.p25_soft.specs.Levels.{hard_bits}
use Rattle.p25_recording_filters.specs.Softs.{IsHoldingAfter}
use Rattle.p25_recording_filters.proofs.SoftHearingLaws.{holding-group, holding-open}
use Rattle.p25_recording_filters.proofs.hearing.hear.Goals as goal

pub returns-then-len-eq0-clause-holding : goal.returns-then-len-eq0-clause-holding
returns-then-len-eq0-clause-holding c =
    let levels = c.args.levels.now in
    let level = to_z w8 (of_z w8 c.args.level) in
    let list = c.push.ensures.list in
    let count : c.len-len.result ≡ length (levels ++ level ∷ []) = c.len-len.ensures ∙ ap length list in
    let whole : length (levels ++ level ∷ []) % 4 ≡ 0 = ap (λ n. n % 4) (sym count) ∙ c.if-len-eq0.true in
    let bits : bits_of 8 c.group_octet.result ≡ hard_bits (part (length (levels ++ level ∷ []) - 4) 4 (levels ++ level ∷ []))
    = c.group_octet.ensures ∙ ap hard_bits (c.part.ensures.list ∙ ap₂ (λ n (ls : List ℤ). part (n - 4) 4 ls) count list) in
    λ ahead holding.
    subst (λ (ls : List ℤ). IsHoldingAfter ahead c.push-then-len-eq0.new.self ls) (sym list)
    (holding-group c.args.scanner.now c.push-then-len-eq0.new.self levels level c.group_octet.result c.requires.going whole bits c.push-then-len-eq0.ensures ahead holding)

pub returns-else-len-eq0-clause-holding : goal.returns-else-len-eq0-clause-holding
returns-else-len-eq0-clause-holding c =
    let levels = c.args.levels.now in
    let level = to_z w8 (of_z w8 c.args.level) in
    let list = c.push.ensures.list in
    let count : c.len-len.result ≡ length (levels ++ level ∷ []) = c.len-len.ensures ∙ ap length list in
    let open_group : length (levels ++ level ∷ []) % 4 ≢ 0 = λ e. c.if-len-eq0.false (ap (λ n. n % 4) count ∙ e) in
    λ ahead holding. subst (λ (ls : List ℤ). IsHoldingAfter ahead c.args.scanner.now ls) (sym list) (holding-open c.args.scanner.now levels level c.requires.going open_group ahead holding)
