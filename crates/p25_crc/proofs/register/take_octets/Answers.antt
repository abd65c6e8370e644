use Rattle.std.proofs.{Common.{◌≡◌, ℕ, ◌+◌, ◌-◌, ◌*◌, ◌/◌, ◌^◌, ◌<◌, ◌≤◌, ◌++◌, Bool, List, length, take, drop, get_or, ap, sym, ◌∙◌, subst, arith}, lemmas.List.{get_or-drop, get_or-take, take_all}}
use Rattle.p25_bits.specs.{Bits.{field_of, octet_bits}, Divisible.{IsRemainder}}
use Rattle.p25_crc.proofs.{RegisterLaws.{octets_none, octets_more, word_more, octets_in_two}, RemaindersLaws.{octet_taken}}
use Rattle.p25_crc.proofs.register.take_octets.Goals as goal

pub loop-k-init : goal.loop-k-init
loop-k-init c = λ divisor before are is. subst (λ (n : ℕ). IsRemainder divisor 32 (n * 2 ^ 32) c.args.register) (sym (octets_none before)) is

pub loop-k-preserved : goal.loop-k-preserved
loop-k-preserved c =
    let octets = c.args.octets.now in
    let k = c.loop-k.k in
    let there : 4 * k + 4 ≤ length octets = omega arith in
    let small : (i : ℕ) → get_or octets i 0 < 2 ^ 8 = λ i. omega (arith, c.type_inv.octets i) in
    λ divisor before are is.
    subst (λ (n : ℕ). IsRemainder divisor 32 (n * 2 ^ 32) c.take_word-register.result)
    (ap (λ word. field_of (before ++ octet_bits (take (4 * k) octets)) * 2 ^ 32 + word) c.from_be_bytes-word.ensures ∙ sym (word_more before octets k there small))
    (c.take_word-register.ensures divisor _ are (c.loop-k.invariant divisor before are is))

pub loop-octet-init : goal.loop-octet-init
loop-octet-init c = λ divisor before are is. subst (λ (n : ℕ). IsRemainder divisor 32 (n * 2 ^ 32) c.loop-k.register) (sym (octets_none before)) is

pub loop-octet-preserved : goal.loop-octet-preserved
loop-octet-preserved c =
    let octets = c.args.octets.now in
    let n = 4 * (length octets / 4) in
    let rest = take (length octets - n) (drop n octets) in
    let i = c.loop-octet.octet-index in
    let more : i < length rest = omega arith in
    let same : get_or rest i 0 ≡ get_or octets (n + i) 0 = get_or-take (length octets - n) (drop n octets) i 0 (omega arith) ∙ get_or-drop n octets i 0 in
    let small : get_or rest i 0 < 2 ^ 8 = omega (arith, same, c.type_inv.octets (n + i)) in
    λ divisor before are is.
    rw (octets_more before rest i more small)
    (octet_taken divisor c.args.remainders.now are (field_of (before ++ octet_bits (take i rest))) c.loop-octet.register (get_or rest i 0) (omega arith) (omega (arith, small))
    (c.loop-octet.invariant divisor before are is))

pub returns : goal.returns
returns c =
    let octets = c.args.octets.now in
    let n = 4 * (length octets / 4) in
    let rest = take (length octets - n) (drop n octets) in
    let done : 4 * c.loop-k.k ≡ n = omega arith in
    let whole : length rest ≤ c.loop-octet.octet-index = omega arith in
    λ divisor before are is.
    subst (λ (bits : List Bool). IsRemainder divisor 32 (field_of bits * 2 ^ 32) c.loop-octet.register)
    (octets_in_two before (4 * c.loop-k.k) n octets done)
    (subst (λ (octets' : List ℕ). IsRemainder divisor 32 (field_of (before ++ octet_bits (take (4 * c.loop-k.k) octets) ++ octet_bits octets') * 2 ^ 32) c.loop-octet.register)
    (take_all c.loop-octet.octet-index rest whole)
    (c.loop-octet.invariant divisor (before ++ octet_bits (take (4 * c.loop-k.k) octets)) are (c.loop-k.invariant divisor before are is)))
