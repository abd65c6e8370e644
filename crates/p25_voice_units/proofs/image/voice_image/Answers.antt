use Rattle.p25_voice_units.specs.{Images.{voice_image_of}}
use Rattle.p25_voice_units.proofs.RadiusLaws.{voice_reading_of-image}
use Rattle.p25_voice_units.proofs.image.voice_image.Goals as goal

pub returns-clause-list : goal.returns-clause-list
unfolding voice_image_of
returns-clause-list c =
    rw (c.put_front.ensures.list, c.clear.ensures, c.duid-duid.ensures.value) at c.put_body.ensures.list

pub returns-clause-again : goal.returns-clause-again
returns-clause-again c =
    rw (returns-clause-list c) (voice_reading_of-image c.args.nac c.args.unit.now c.put_body.ensures.sendable)
