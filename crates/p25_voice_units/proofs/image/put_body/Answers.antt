use Rattle.std.proofs.Common.{◌≡◌, ◌+◌, length, Some, ap, sym, ◌∙◌}
use Rattle.p25_voice_units.specs.{Images.{voice_body}, Sendable.{IsSendableVoice}}
use Rattle.p25_voice_units.proofs.{LengthsLaws.{length-header, length-ldu1, length-ldu2, length-end, length-tdulc}}
use Rattle.p25_voice_units.proofs.image.put_body.Goals as goal

pub returns-in-Header : goal.returns-in-Header
unfolding voice_body IsSendableVoice
returns-in-Header c =
    let put = c.put_coded_rows in
    let long : length put.new.out ≡ 770 = put.ensures.len ∙ ap (λ n. n + 658) c.requires in record {
      list = rw (c.in-Header.is, ← c.symbols.ensures.value) put.ensures.list;
      len = rw c.in-Header.is (length-header ∙ ap Some (sym long));
      sendable = rw c.in-Header.is c.symbols.ensures.sound;
    }

pub returns-in-Link1 : goal.returns-in-Link1
unfolding voice_body IsSendableVoice
returns-in-Link1 c =
    let put = c.put_coded_rows-in-Link1 in
    let long : length put.new.out ≡ 1680 = put.ensures.len ∙ ap (λ n. n + 1568) c.requires in record {
      list = rw (c.in-Link1.is, ← c.symbols-information.ensures.value, ← c.frames.ensures.value) put.ensures.list;
      len = rw c.in-Link1.is (length-ldu1 ∙ ap Some (sym long));
      sendable = rw c.in-Link1.is (record { word = c.symbols-information.ensures.sound; speech = c.fit_speech.ensures });
    }

pub returns-in-Link2 : goal.returns-in-Link2
unfolding voice_body IsSendableVoice
returns-in-Link2 c =
    let put = c.put_coded_rows-in-Link2 in
    let long : length put.new.out ≡ 1680 = put.ensures.len ∙ ap (λ n. n + 1568) c.requires in record {
      list = rw (c.in-Link2.is, ← c.symbols-information-in-Link2.ensures.value, ← c.frames-in-Link2.ensures.value) put.ensures.list;
      len = rw c.in-Link2.is (length-ldu2 ∙ ap Some (sym long));
      sendable = rw c.in-Link2.is (record { word = c.symbols-information-in-Link2.ensures.sound; speech = c.fit_speech-in-Link2.ensures });
    }

pub returns-in-End : goal.returns-in-End
unfolding voice_body IsSendableVoice
returns-in-End c =
    let long : length c.put_rows.new.out ≡ 140 = c.put_rows.ensures.len ∙ ap (λ n. n + 28) c.requires in record {
      list = rw c.in-End.is c.put_rows.ensures.list;
      len = rw c.in-End.is (length-end ∙ ap Some (sym long));
      sendable = rw c.in-End.is tt;
    }

pub returns-in-EndLink : goal.returns-in-EndLink
unfolding voice_body IsSendableVoice
returns-in-EndLink c =
    let put = c.put_coded_rows-in-EndLink in
    let long : length put.new.out ≡ 420 = put.ensures.len ∙ ap (λ n. n + 308) c.requires in record {
      list = rw (c.in-EndLink.is, ← c.symbols-in-EndLink.ensures.value) put.ensures.list;
      len = rw c.in-EndLink.is (length-tdulc ∙ ap Some (sym long));
      sendable = rw c.in-EndLink.is c.symbols-in-EndLink.ensures.sound;
    }
