use Rattle.std.proofs.{Common.{◌≡◌, ◌*◌, ◌≤◌, ◌++◌, Bool, List, length, drop, ap, ap₂, sym, ◌∙◌, subst, arith}, lemmas.List.{drop_all, append-nil}}
use Rattle.p25_bits.specs.Bits.{bits_of}
use Rattle.p25_status.specs.{Status.{status_number}, Woven.{bare_of, statuses_of, StandsByPlaces}}
use Rattle.p25_status.proofs.{WovenLaws.{bare_of-woven, statuses_of-woven}, PlacesSteps.{woven-places, StandsByPlaces-unique}, WeavingSteps.{woven_none, woven_more}}
use Rattle.p25_status.proofs.weaving.weave.Goals as goal

pub loop-i-preserved : goal.loop-i-preserved
loop-i-preserved c =
    let bare = c.args.bare.now in
    let statuses = c.args.statuses.now in
    let i = c.loop-i.i in
    let bits : c.from.result ≡ status_number c.get.result = c.from.ensures ∙ c.value.ensures.number in
    let put = c.put_field.ensures.list ∙ ap₂ (λ xs n. xs ++ bits_of 2 n) c.append.ensures.list bits in record {
      list = woven_more bare statuses i c.get.result c.loop-i.out c.put_field.new.self c.get.ensures put ∙ c.loop-i.invariant.list;
      len = omega arith;
    }

pub returns-clause-list : goal.returns-clause-list
returns-clause-list c =
    let i = c.loop-i.i in
    let done : length c.args.statuses.now ≤ i = omega arith in
    sym (append-nil c.loop-i.out)
    ∙ ap (λ (xs : List Bool). c.loop-i.out ++ xs) (sym (woven_none (drop (70 * i) c.args.bare.now) (drop i c.args.statuses.now) (drop_all i c.args.statuses.now done)))
    ∙ c.loop-i.invariant.list

pub returns-clause-places : goal.returns-clause-places
returns-clause-places c =
    subst
    (λ (sent : List Bool). StandsByPlaces c.args.bare.now c.args.statuses.now sent)
    (sym (returns-clause-list c))
    (woven-places c.args.bare.now c.args.statuses.now c.requires)

pub returns-clause-only : goal.returns-clause-only
returns-clause-only c = λ other by_places. StandsByPlaces-unique c.args.bare.now c.args.statuses.now other c.loop-i.out c.requires by_places (returns-clause-places c)

pub returns-clause-bare_again : goal.returns-clause-bare_again
returns-clause-bare_again c = ap bare_of (returns-clause-list c) ∙ bare_of-woven c.args.bare.now c.args.statuses.now c.requires

pub returns-clause-statuses_again : goal.returns-clause-statuses_again
returns-clause-statuses_again c = ap statuses_of (returns-clause-list c) ∙ statuses_of-woven c.args.bare.now c.args.statuses.now c.requires
