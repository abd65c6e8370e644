-- What contracts see of a list of words.
use Rattle.std.specs.Prelude.{ℕ, List}
use Rattle.p25_line.specs.declared.word_list.Span.{Span}

-- the spans of the first 16 words of a line, and the number of all its words
pub record Marks : Type 0 where
  pub spans : List Span
  pub count : ℕ
