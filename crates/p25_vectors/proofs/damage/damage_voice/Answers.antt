use Rattle.std.proofs.Common.{ap, subst, sym, ◌∙◌}
use Rattle.p25_coded_fields.specs.Layouts.{places_from}
use Rattle.p25_voice_units.specs.{FieldLayouts.{word_places}, Lengths.{voice_length_of}}
use Rattle.p25_voice_units.proofs.FieldCodesLaws.{header_there}
use Rattle.p25_units.specs.{Units.{body_length}, declared.unit.Body.TheVariants.{Voice}}
use Rattle.p25_vectors.specs.Damage.{IsDamage, body_hits}
use Rattle.p25_vectors.proofs.HitsLaws.{damage-none}
use Rattle.p25_vectors.proofs.damage.damage_voice.Goals as goal

pub damage_field-requires-clause-there : goal.damage_field-requires-clause-there
unfolding word_places places_from voice_length_of
damage_field-requires-clause-there c = header_there c.args.bits.now (c.requires ∙ ap (λ v. body_length (Voice v)) c.in-Header.is)

pub returns-in-End-clause-damage : goal.returns-in-End-clause-damage
unfolding body_hits
returns-in-End-clause-damage c =
    subst (λ v. IsDamage (body_hits (Voice v)) c.args.draws.now c.args.bits.now c.args.bits.now 0 c.args.draws.now) (sym c.in-End.is)
    (damage-none c.args.draws.now c.args.bits.now)
