use Rattle.std.proofs.Common.{ℕ, ◌+◌, ◌*◌, ◌^◌, ◌<◌, [], length, take, ap, subst, sym, ◌∙◌, arith, length-append, length-take}
use Rattle.p25_bits.specs.Bits.{octet_bits}
use Rattle.p25_bits.proofs.BitsLaws.{length-octet_bits}
use Rattle.p25_stream.specs.Scan.{Scan}
use Rattle.p25_filter.specs.Futures.{Progress}
use Rattle.p25_recording_filters.specs.Recordings.{RecordingParts, has_ended, recording_future}
use Rattle.p25_recording_filters.proofs.RecordingsLaws.{going-open, step-push}
use Rattle.p25_recording_filters.proofs.recording.RecordingFilter.push_some.Goals as goal

pub invariant_of-self : goal.invariant_of-self
invariant_of-self g c =
    let s = c.self.inside in
    let same = c.push_some.ensures.bits in
    let taken = take c.push_some.result c.args.octets.now in
    let place = ap (λ (t : Scan). t.place) same in
    let held = ap (λ (t : Scan). length t.held) same ∙ length-append s.scanner.held (octet_bits taken) in
    let few : s.scanner.place + length s.scanner.held + 8 * length c.args.octets.now < 2 ^ 28
    = subst (λ (r : RecordingParts g.row.R.Denot). r.scan.place + length r.scan.held + 8 * length c.args.octets.now < 2 ^ 28) (sym c.self.view_is) c.requires.few in
    let going = ap (λ (r : RecordingParts g.row.R.Denot). has_ended r.phase) c.self.view_is ∙ c.requires.going in (
      ap (λ (t : Scan). t.finished) same ∙ c.self.invariant.0,
      omega (arith, place, c.self.invariant.1),
      omega (arith, place, held, length-octet_bits taken, length-take c.push_some.result c.args.octets.now, few),
      λ is. absurd (going-open s.phase going is),
      subst (λ (at : ℕ). g.R.Report.HasReached s.report at) (sym place) c.self.invariant.4,
    )

pub returns-clause-moved : goal.returns-clause-moved
returns-clause-moved g c =
    let reporting = g.R.Report.reporting in
    let s = c.self.inside in
    let taken = take c.push_some.result c.args.octets.now in
    let next : RecordingParts g.row.R.Denot = record { report = s.report; scan = c.push_some.new.self; phase = s.phase } in
    subst (λ (r : RecordingParts g.row.R.Denot). Progress (recording_future reporting r) taken [] (recording_future reporting next)) c.self.view_is
    (step-push reporting s.report s.scanner c.push_some.new.self s.phase taken
    (ap (λ (r : RecordingParts g.row.R.Denot). has_ended r.phase) c.self.view_is ∙ c.requires.going) c.push_some.ensures.bits)

pub returns-clause-size : goal.returns-clause-size
returns-clause-size g c =
    let s = c.self.inside in
    let same = c.push_some.ensures.bits in
    let taken = take c.push_some.result c.args.octets.now in
    let place = ap (λ (t : Scan). t.place) same in
    let held = ap (λ (t : Scan). length t.held) same ∙ length-append s.scanner.held (octet_bits taken) in
    let size = ap (λ (r : RecordingParts g.row.R.Denot). r.scan.place + length r.scan.held) c.self.view_is in
    omega (arith, place, held, length-octet_bits taken, length-take c.push_some.result c.args.octets.now, size)
