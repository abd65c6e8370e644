use Rattle.std.proofs.Common.{◌≡◌, ℕ, List, [], ◌∷◌, refl}
use Rattle.p25_status.specs.{Outcomes.{outcome_of}, declared.fields.Field.{Field}, declared.read_outcome.ReadOutcome.TheVariants.{Read, Failing}}
use Rattle.p25_status.proofs.read_outcome.ReadOutcome.of.Goals as goal

some-failing : (fields : List Field) (wrong : ℕ) → ((fields ≡ []) → ⊥) → Failing fields ≡ outcome_of fields wrong
unfolding outcome_of
some-failing [] wrong some = absurd (some refl)
some-failing (field ∷ fields) wrong some = refl

none-failing : (fields : List Field) (wrong : ℕ) → fields ≡ [] → Read wrong ≡ outcome_of fields wrong
unfolding outcome_of
none-failing [] wrong none = refl
none-failing (field ∷ fields) wrong none = absurd (cc)

pub returns-then-is_empty : goal.returns-then-is_empty
returns-then-is_empty c = none-failing c.args.fields c.args.wrong (c.is_empty.ensures.0 c.if-is_empty.true)

pub returns-else-is_empty : goal.returns-else-is_empty
returns-else-is_empty c = some-failing c.args.fields c.args.wrong (λ none. let e = c.if-is_empty.ensures.1 none in absurd (cc))
