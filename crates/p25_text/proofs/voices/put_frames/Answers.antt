use Rattle.std.proofs.{Common.{◌++◌, ◌<◌, length, sym, ap, ◌∙◌, append-nil, arith}, lemmas.List.{take_all}, lemmas.Option.{slice_get-get_or}}
use Rattle.hex.specs.Hex.{encode_lower}
use Rattle.p25_text.specs.Voices.{frame_octets}
use Rattle.p25_text.proofs.WriteLaws.{frames-none, next-frame}
use Rattle.p25_text.proofs.voices.put_frames.Goals as goal

pub loop-frame-init : goal.loop-frame-init
loop-frame-init c = record {
  text = sym (ap (λ l. c.args.out.now ++ l) (frames-none c.frames-frames.result.now) ∙ append-nil c.args.out.now);
  len = omega arith;
}

pub loop-frame-preserved : goal.loop-frame-preserved
loop-frame-preserved c =
    let frames = c.frames-frames.result.now in
    let inside : c.loop-frame.frame-index < length frames = omega (arith, ap length c.frames-frames.ensures.value, c.frames-frames.ensures.len) in
    record {
      text = next-frame frames c.loop-frame.frame-index _ c.args.out.now c.loop-frame.out c.put_hex.new.self
          (slice_get-get_or frames c.loop-frame.frame-index _ inside) c.loop-frame.invariant.text c.put_hex.ensures.list;
      len = omega arith;
    }

pub returns-clause-text : goal.returns-clause-text
returns-clause-text c =
    let frames = c.frames-frames.result.now in
    let all = take_all c.loop-frame.frame-index frames (omega (arith, ap length c.frames-frames.ensures.value, c.frames-frames.ensures.len)) in
    c.loop-frame.invariant.text ∙ ap (λ f. c.args.out.now ++ encode_lower (frame_octets f)) (all ∙ c.frames-frames.ensures.value)
