use Rattle.std.proofs.{Common.{◌<◌, drop}, lemmas.List.Elements.{All-drop, All-take}}
use Rattle.p25_voice_units.proofs.ImageSteps.{frame_in_three}
use Rattle.p25_voice_units.proofs.image.put_frame.Goals as goal

pub put_numbers-requires-clause-fits : goal.put_numbers-requires-clause-fits
put_numbers-requires-clause-fits c =
    let octets = c.args.octets.now in
    All-take (λ octet. octet < 256) 2 (drop 16 octets) (All-drop (λ octet. octet < 256) 16 octets c.octets_fit.ensures)

pub returns-clause-list : goal.returns-clause-list
returns-clause-list c =
    let octets = c.args.octets.now in
    rw (c.put_numbers.ensures.list, c.put_eight-2.ensures.list, c.put_eight.ensures.list) (frame_in_three c.args.out.now octets c.told-octets)
