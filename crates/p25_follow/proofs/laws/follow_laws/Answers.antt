use Rattle.std.proofs.Common.{◌≤◌, true, refl, arith}
use Rattle.p25_follow.specs.Expected.{kind_length}
use Rattle.p25_follow.proofs.{ChainLaws.{chain-settles, chain_by-none, chain_by-step, chain_by-stop}, CompleteLaws.{complete-in}, FollowingLaws.{written-follows}, FoundLaws.{written-found}}
use Rattle.p25_follow.proofs.{FrontBitsLaws.{front-bits}, KindLaws.{IsKind, expected-kinds, is_expected-all}, LengthLaws.{length-follow_of}, StepLaws.{step_of-append, step_of-there}}
use Rattle.p25_follow.proofs.{StretchesLaws.{by-stretches}, TellsLaws.{step-near, step-reads}, NeverWorseLaws.{never-worse, second-nothing}, PlaceLaws.{place-few}, RepairLaws.{repair-before}}
use Rattle.p25_follow.proofs.{SameUnitsLaws.{same-units}, UnchangedLaws.{follow-untouched, rest-stays, symbol-stays}}
use Rattle.p25_follow.proofs.laws.follow_laws.Goals as goal

pub returns-clause-length : goal.returns-clause-length
returns-clause-length c = length-follow_of

pub returns-clause-recursion : goal.returns-clause-recursion
returns-clause-recursion c = (
  λ bits end. chain_by-none true bits end,
  λ before bits end is. chain_by-stop true before bits end refl is,
  λ before bits end kind is. chain_by-step true before bits end kind refl is,
)

pub returns-clause-there : goal.returns-clause-there
returns-clause-there c = λ before bits end kind is. ((step_of-there before bits end kind is).few, (step_of-there before bits end kind is).there)

pub returns-clause-few : goal.returns-clause-few
returns-clause-few c = step_of-append

pub returns-clause-front : goal.returns-clause-front
returns-clause-front c = λ name bits long. (symbol-stays name bits long, rest-stays name bits long)

pub returns-clause-unchanged : goal.returns-clause-unchanged
returns-clause-unchanged c = follow-untouched

pub returns-clause-name : goal.returns-clause-name
returns-clause-name c = step-reads

pub returns-clause-complete : goal.returns-clause-complete
returns-clause-complete c =
    λ nac before kind bits end nac_fits kind_fits may there near.
    let known = is_expected-all IsKind before kind (expected-kinds before) may in
    let enough : 114 ≤ kind_length kind = omega (arith, known.few) in
    chain_by-step true (nac, before) bits end kind refl (step-near nac before kind bits end nac_fits kind_fits may enough there near)

pub returns-clause-found : goal.returns-clause-found
returns-clause-found c =
    λ place nac kind bits more nac_fits few kind_fits long.
    let is = written-found place nac kind bits more nac_fits few kind_fits long in
    (is.name_is, is.covers, is.decided)

pub returns-clause-place : goal.returns-clause-place
returns-clause-place c = place-few

pub returns-clause-same : goal.returns-clause-same
returns-clause-same c = same-units

pub returns-clause-stretches : goal.returns-clause-stretches
returns-clause-stretches c = by-stretches

pub returns-clause-complete_in : goal.returns-clause-complete_in
returns-clause-complete_in c = complete-in

pub returns-clause-places : goal.returns-clause-places
returns-clause-places c = front-bits

pub returns-clause-never_worse : goal.returns-clause-never_worse
returns-clause-never_worse c = never-worse

pub returns-clause-second : goal.returns-clause-second
returns-clause-second c = second-nothing

pub returns-clause-repair : goal.returns-clause-repair
returns-clause-repair c = repair-before

pub returns-clause-settled : goal.returns-clause-settled
returns-clause-settled c = chain-settles

pub returns-clause-follower : goal.returns-clause-follower
returns-clause-follower c = written-follows
