-- The relation of the reader of lines to the definition, if the first word names nothing.
use Rattle.std.proofs.Common.{◌≡◌, ℕ, List, drop, slice_get, Some, None, Err, ap, ◌∙◌}
use Rattle.p25_line.specs.{declared.fault.LineFault.TheVariants.{Kind as WrongKind}, LineReadings.{named_or_fault}}
use Rattle.p25_line.proofs.LineWordsLaws.{first-others}
use Rattle.p25_script.specs.DuplexLines.{duplex_by_words, event_behind, start_named}

-- the first word names nothing
pub wrong-start : (words : List (List ℕ)) (first : List ℕ) → slice_get words 0 ≡ Some first → start_named first ≡ None → duplex_by_words words ≡ Err WrongKind
wrong-start words first at none = ap duplex_by_words (first-others words first at) ∙ ap (λ start. named_or_fault event_behind start (drop 1 words)) none
