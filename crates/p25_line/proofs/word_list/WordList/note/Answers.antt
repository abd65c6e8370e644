use Rattle.std.proofs.Common.{◌-◌, [], ◌∷◌, ◌++◌, take, sym, ap, ◌∙◌}
use Rattle.p25_line.specs.{Marks.{Marks}, declared.word_list.Span.{Span}}
use Rattle.p25_line.proofs.{WordsSteps.{noted-room, noted-full}, word_list.WordList.note.Goals.{then-not-is_full, else-not-is_full}}
use Rattle.p25_line.proofs.word_list.WordList.note.Goals as goal

pub returns-clause-spans : goal.returns-clause-spans
returns-clause-spans c =
    let span : Span = record { start = c.args.start; len = c.args.end - c.args.start } in
    let seen = ap (λ (m : Marks). take 16 (m.spans ++ span ∷ [])) c.self.view_is in
    elim c.if-not-is_full.branch [
      | then-not-is_full w ↦
          ap (λ s. s.spans.items) w.self-inside-is ∙ w.push.ensures.items
          ∙ noted-room c.self.inside.spans.items span (sym c.is_full.ensures.value ∙ w.if-not-is_full.true) c.is_full.ensures.fits ∙ seen
      | else-not-is_full w ↦
          ap (λ s. s.spans.items) w.self-inside-is ∙ noted-full c.self.inside.spans.items span (sym c.is_full.ensures.value ∙ w.if-not-is_full.false) ∙ seen
    ]
