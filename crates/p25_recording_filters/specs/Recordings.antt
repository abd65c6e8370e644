-- A running report on a recording: its remaining output, for any bits that may still come.
use Rattle.std.specs.Prelude.{◌≡◌, ℕ, Bool, true, false, if◌then◌else◌, List, [], ◌++◌, Option, Some, None}
use Rattle.p25_bits.specs.Bits.{octet_bits}
use Rattle.p25_stream.specs.{Items.{items_by}, Scan.{Scan, given}}
use Rattle.p25_filter.specs.{Futures.{Future}, declared.ending.Ending.{Ending}}
use Rattle.p25_recording_filters.specs.{declared.recording.Phase.{Phase}, declared.recording.Phase.TheVariants.{Reading, Ended, Closed}}
use Rattle.p25_recording_filters.specs.Reports.{Reporting, reported, report_behind}

-- the report, the bits that are held, and the phase of the work
pub record RecordingParts (R : Type 0) : Type 0 where
  pub report : R
  pub scan : Scan
  pub phase : Phase

abbrev pub recording : {R : Type 0} → R → Scan → Phase → RecordingParts R
recording report scan phase = record { report = report; scan = scan; phase = phase }

-- the input has ended
abbrev pub has_ended : Phase → Bool
has_ended Reading = false
has_ended Ended = true
has_ended Closed = true

-- the number of chunks besides those of items
abbrev pub pieces_of : Phase → ℕ
pieces_of Reading = 0
pieces_of Ended = 1
pieces_of Closed = 0

-- after the output at the end was returned, no item is left
abbrev pub HasClosed : Phase → Scan → Type 0
HasClosed phase scan = phase ≡ Closed → given scan ≡ []

-- before the first octet
abbrev pub fresh : {R : Type 0} → R → RecordingParts R
fresh report = record { report = report; scan = record { place = 0; held = []; finished = false }; phase = Reading }

-- the output for bits from a position on, and the end of the call by them
abbrev pub bits_written : {R : Type 0} → Reporting R → Bool → R → ℕ → List Bool → List ℕ
bits_written reporting ended report place bits = reported reporting ended report (items_by ended place bits) bits

abbrev pub bits_ending : {R : Type 0} → Reporting R → Bool → R → ℕ → List Bool → Option Ending
bits_ending reporting ended report place bits = if ended then Some (reporting.ending (report_behind reporting report (items_by true place bits) bits)) else None

-- the remaining output of a recording, by the phase of the work
abbrev pub phase_future : {R : Type 0} → Reporting R → R → Scan → Phase → Future
phase_future reporting report scan Reading = record {
  writes = λ ended more. bits_written reporting ended report scan.place (scan.held ++ octet_bits more);
  ends = λ ended more. bits_ending reporting ended report scan.place (scan.held ++ octet_bits more);
  pauses = λ ended more. [];
}
phase_future reporting report scan Ended = record {
  writes = λ ended more. bits_written reporting true report scan.place scan.held;
  ends = λ ended more. bits_ending reporting true report scan.place scan.held;
  pauses = λ ended more. [];
}
phase_future reporting report scan Closed = record {
  writes = λ ended more. [];
  ends = λ ended more. Some (reporting.ending report);
  pauses = λ ended more. [];
}

unfoldable pub recording_future : {R : Type 0} → Reporting R → RecordingParts R → Future
recording_future reporting work = phase_future reporting work.report work.scan work.phase

-- the result of the call for the chunk at the end: once the input has ended and before it was returned, it is returned
abbrev pub IsClosingBy : {R : Type 0} → Reporting R → Phase → RecordingParts R → Bool → List ℕ → RecordingParts R → Type 0
IsClosingBy reporting Reading before answer out now = (answer ≡ false) × (now ≡ before)
IsClosingBy reporting Ended before answer out now =
    (answer ≡ true) × (out ≡ reporting.closing before.report) × (now ≡ record before { phase = Closed })
IsClosingBy reporting Closed before answer out now = (answer ≡ false) × (now ≡ before)

abbrev pub IsClosing : {R : Type 0} → Reporting R → RecordingParts R → Bool → List ℕ → RecordingParts R → Type 0
IsClosing reporting before answer out now = IsClosingBy reporting before.phase before answer out now
