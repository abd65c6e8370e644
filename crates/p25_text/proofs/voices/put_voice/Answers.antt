use Rattle.std.proofs.Common.{◌∷◌, ◌<◌, append_assoc, arith}
use Rattle.hex.specs.Hex.{encode_lower}
use Rattle.p25_text.specs.{Names.{key_text}, Voices.{frame_octets}, declared.names.UnitKey.TheVariants.{Frames}}
use Rattle.p25_text.proofs.WriteLaws.{pair-octets, unit-put}
use Rattle.p25_text.proofs.voices.put_voice.Goals as goal

pub returns-in-Header-clause-text : goal.returns-in-Header-clause-text
returns-in-Header-clause-text c =
    let kid : c.in-Header.word.kid < 65536 = omega arith in
    let tgid : c.in-Header.word.tgid < 65536 = omega arith in
    rw c.in-Header.is (unit-put _ c.args.out.now _ (cc (pair-octets c.in-Header.word.kid kid, pair-octets c.in-Header.word.tgid tgid)))

pub returns-in-Link1-clause-text : goal.returns-in-Link1-clause-text
returns-in-Link1-clause-text c =
    rw c.in-Link1.is (unit-put _ c.args.out.now _ (cc (append_assoc c.put_value-in-Link1-2.new.out (32 ∷ key_text Frames) (encode_lower (frame_octets c.in-Link1.voice)))))

pub returns-in-Link2-clause-text : goal.returns-in-Link2-clause-text
returns-in-Link2-clause-text c =
    let kid : c.in-Link2.sync.kid < 65536 = omega arith in
    let frames = append_assoc c.put_value-in-Link2-4.new.out (32 ∷ key_text Frames) (encode_lower (frame_octets c.in-Link2.voice)) in
    rw c.in-Link2.is (unit-put _ c.args.out.now _ (cc (pair-octets c.in-Link2.sync.kid kid, frames)))

pub returns-in-End-clause-text : goal.returns-in-End-clause-text
returns-in-End-clause-text c = rw c.in-End.is (unit-put _ c.args.out.now _ (cc))

pub returns-in-EndLink-clause-text : goal.returns-in-EndLink-clause-text
returns-in-EndLink-clause-text c = rw c.in-EndLink.is (unit-put _ c.args.out.now _ (cc))
