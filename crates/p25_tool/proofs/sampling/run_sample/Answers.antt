use Rattle.std.proofs.Common.{◌≡◌, ◌≤◌, ℕ, List, [], ◌∷◌, length, ap, subst, ◌∙◌}
use Rattle.p25_io.specs.Events.{Wrote, WriteFailed}
use Rattle.p25_tool.specs.Outputs.{sample_line}
use Rattle.p25_tool.proofs.SamplingLaws.{sample-failed, sample-wrote}
use Rattle.p25_tool.proofs.sampling.run_sample.Goals as goal

pub returns-in-Ok : goal.returns-in-Ok
returns-in-Ok g c =
    let moves = g.P.Port.moves in
    let count = c.args.count in
    let same : c.octets.result.now ≡ sample_line count = c.octets.ensures ∙ c.put_sample_line.ensures ∙ ap sample_line c.sample.ensures.units in (
      Wrote (sample_line count) ∷ [],
      subst (λ (zs : List ℕ). moves c.args.port.now (Wrote zs ∷ []) c.write.new.self) same c.in-Ok.ensures.ok,
      sample-wrote count,
      tt,
    )

pub returns-in-Err : goal.returns-in-Err
returns-in-Err g c =
    let moves = g.P.Port.moves in
    let count = c.args.count in
    let err = c.in-Err.ensures.err in
    let same : c.octets.result.now ≡ sample_line count = c.octets.ensures ∙ c.put_sample_line.ensures ∙ ap sample_line c.sample.ensures.units in (
      WriteFailed (sample_line count) err.0 ∷ [],
      subst (λ (zs : List ℕ). moves c.args.port.now (WriteFailed zs err.0 ∷ []) c.write.new.self) same err.2,
      sample-failed count err.0 (subst (λ (zs : List ℕ). err.0 ≤ length zs) same err.1),
      tt,
    )
