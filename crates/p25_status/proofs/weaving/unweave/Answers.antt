use Rattle.std.proofs.{Common.{◌≡◌, ◌+◌, ◌*◌, ◌/◌, ◌<◌, ◌≤◌, ◌++◌, Bool, List, length, drop, get_or, false, ap, ap₂, sym, ◌∙◌, subst, arith}, lemmas.List.{append-nil}}
use Rattle.p25_bits.specs.Bits.{field_of, part}
use Rattle.p25_bits.proofs.PartLaws.{length-part, part-part}
use Rattle.p25_status.specs.{Status.{status_from_bits}, declared.symbols.Status.{Status}, Woven.{woven, bare_in, bare_of, statuses_in, statuses_of, StandsByPlaces}}
use Rattle.p25_status.proofs.{PlacesSteps.{woven-places}, WovenLaws.{woven-of}, WeavingSteps.{bare_more, statuses_more, bare_none, statuses_none, status_read}}
use Rattle.p25_status.proofs.weaving.unweave.Goals as goal

pub loop-i-preserved : goal.loop-i-preserved
loop-i-preserved c =
    let bits = c.args.bits.now in
    let at = c.args.at in
    let len = c.args.len in
    let i = c.loop-i.i in
    let sent = part at len bits in
    let more : i < len / 72 = omega arith in
    let block : 72 * i + 70 ≤ len = omega arith in
    let both : 72 * i + 70 + 2 ≤ len = omega arith in
    let second : 72 * i + 70 + 1 ≡ 72 * i + 71 = omega arith in
    let place : at + 72 * i + 70 ≡ at + (72 * i + 70) = omega arith in
    let read = c.field-status.ensures.value ∙ ap (λ k. field_of (part k 2 bits)) place in
    let symbol = status_read bits at len (72 * i + 70) c.field-status.result c.at_number.result both c.requires.there c.at_number.ensures read
    ∙ ap (λ k. status_from_bits (get_or sent (72 * i + 70) false) (get_or sent k false)) second in record {
      bare =
          bare_more (len / 72) i sent c.loop-i.out c.append.new.self (part (at + 72 * i) 70 bits) more (sym (part-part at len (72 * i) 70 bits block)) c.append.ensures.list
          ∙ c.loop-i.invariant.bare;
      statuses = statuses_more (len / 72) i sent c.loop-i.statuses c.push.new.self c.at_number.result more symbol c.push.ensures.list ∙ c.loop-i.invariant.statuses;
      bare_len = omega arith;
      statuses_len = omega arith;
    }

pub returns-clause-bare : goal.returns-clause-bare
unfolding bare_of
returns-clause-bare c =
    let sent = part c.args.at c.args.len c.args.bits.now in
    let long : length sent ≡ c.args.len = length-part c.args.at c.args.len c.args.bits.now c.requires.there in
    let done : c.args.len / 72 ≤ c.loop-i.i = c.loop-i-test.false in
    sym (append-nil c.loop-i.out)
    ∙ ap (λ (xs : List Bool). c.loop-i.out ++ xs) (sym (bare_none (c.args.len / 72) c.loop-i.i (drop (72 * c.loop-i.i) sent) done))
    ∙ c.loop-i.invariant.bare
    ∙ ap (λ n. bare_in (n / 72) sent) (sym long)

pub returns-clause-statuses : goal.returns-clause-statuses
unfolding statuses_of
returns-clause-statuses c =
    let sent = part c.args.at c.args.len c.args.bits.now in
    let long : length sent ≡ c.args.len = length-part c.args.at c.args.len c.args.bits.now c.requires.there in
    let done : c.args.len / 72 ≤ c.loop-i.i = c.loop-i-test.false in
    sym (append-nil c.loop-i.statuses)
    ∙ ap (λ (xs : List Status). c.loop-i.statuses ++ xs) (sym (statuses_none (c.args.len / 72) c.loop-i.i (drop (72 * c.loop-i.i) sent) done))
    ∙ c.loop-i.invariant.statuses
    ∙ ap (λ n. statuses_in (n / 72) sent) (sym long)

pub returns-clause-woven : goal.returns-clause-woven
returns-clause-woven c =
    let sent = part c.args.at c.args.len c.args.bits.now in
    let blocks : c.args.len ≡ 72 * (c.args.len / 72) = omega arith in
    let long : length sent ≡ 72 * (c.args.len / 72) = length-part c.args.at c.args.len c.args.bits.now c.requires.there ∙ blocks in
    ap₂ woven (returns-clause-bare c) (returns-clause-statuses c) ∙ woven-of (c.args.len / 72) sent long

pub returns-clause-places : goal.returns-clause-places
returns-clause-places c =
    let long : length c.loop-i.out ≡ 70 * length c.loop-i.statuses = omega arith in
    subst (λ (sent : List Bool). StandsByPlaces c.loop-i.out c.loop-i.statuses sent) (returns-clause-woven c) (woven-places c.loop-i.out c.loop-i.statuses long)
