use Rattle.p25_calls.specs.CallTexts.{call_text_of}
use Rattle.p25_text.specs.{Grammar.{text_of}, ItemTexts.{item_text_of}}
use Rattle.p25_line.proofs.AsciiLaws.{IsAscii-tested}
use Rattle.p25_text.proofs.AsciiTextLaws.{ascii-call_text_of, ascii-item_text_of, ascii-text_of}
use Rattle.p25_text.proofs.laws.texts_are_ascii.Goals as goal

pub returns : goal.returns
returns c = record {
  units = λ unit. IsAscii-tested (text_of unit) (ascii-text_of unit);
  items = λ item. IsAscii-tested (item_text_of item) (ascii-item_text_of item);
  calls = λ call. IsAscii-tested (call_text_of call) (ascii-call_text_of call);
}
