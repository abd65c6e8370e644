use Rattle.std.proofs.Common.{◌≡◌, ◌++◌, ◌/◌, length, take, ap, ap₂, sym, ◌∙◌}
use Rattle.hex.specs.Hex.{encode_lower}
use Rattle.p25_bits.specs.Numbers.{octets_from}
use Rattle.p25_bits.proofs.NumbersLaws.{length-numbers_from}
use Rattle.p25_script.specs.StepTexts.{flags_text}
use Rattle.p25_script.proofs.TextSteps.{flags-front}
use Rattle.p25_script.proofs.steps.put_flags.Goals as goal

pub slice_bounds-put_hex-end : goal.slice_bounds-put_hex-end
slice_bounds-put_hex-end c =
    let flags = c.args.flags.now in
    let beginning : take (c.len.result / 8) c.octets.result.now ≡ octets_from (length flags / 8) flags =
    ap₂ (λ n l. take (n / 8) l) c.len.ensures.value (c.octets.ensures.value ∙ c.flags_make-octets.ensures.octets) ∙ flags-front flags in
    sym (ap length beginning ∙ length-numbers_from 8 (length flags / 8) flags ∙ ap (λ n. n / 8) (sym c.len.ensures.value))

pub returns-clause-text : goal.returns-clause-text
unfolding flags_text
returns-clause-text c =
    let flags = c.args.flags.now in
    let beginning : take (c.len.result / 8) c.octets.result.now ≡ octets_from (length flags / 8) flags =
    ap₂ (λ n l. take (n / 8) l) c.len.ensures.value (c.octets.ensures.value ∙ c.flags_make-octets.ensures.octets) ∙ flags-front flags in
    c.put_hex.ensures.list ∙ ap (λ l. c.args.out.now ++ encode_lower l) beginning
