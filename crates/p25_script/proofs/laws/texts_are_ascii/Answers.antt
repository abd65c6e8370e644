use Rattle.p25_duplex.specs.ClosingTexts.{duplex_closing_of}
use Rattle.p25_line.proofs.AsciiLaws.{IsAscii-tested}
use Rattle.p25_script.specs.{LongTexts.{long_closing_text_of, long_step_text_of}, StepTexts.{closing_text_of, duplex_step_text_of, step_text_of}}
use Rattle.p25_script.proofs.{AsciiDuplexLaws.{ascii-duplex_closing_of, ascii-duplex_step_text_of}, AsciiLongLaws.{ascii-long_closing_text_of, ascii-long_step_text_of}}
use Rattle.p25_script.proofs.AsciiStepLaws.{ascii-closing_text_of, ascii-step_text_of}
use Rattle.p25_script.proofs.laws.texts_are_ascii.Goals as goal

pub returns-clause-steps : goal.returns-clause-steps
returns-clause-steps c step = IsAscii-tested (step_text_of step) (ascii-step_text_of step)

pub returns-clause-closing : goal.returns-clause-closing
returns-clause-closing c world = IsAscii-tested (closing_text_of world) (ascii-closing_text_of world)

pub returns-clause-long_steps : goal.returns-clause-long_steps
returns-clause-long_steps c step = IsAscii-tested (long_step_text_of step) (ascii-long_step_text_of step)

pub returns-clause-long_closing : goal.returns-clause-long_closing
returns-clause-long_closing c world = IsAscii-tested (long_closing_text_of world) (ascii-long_closing_text_of world)

pub returns-clause-duplex_steps : goal.returns-clause-duplex_steps
returns-clause-duplex_steps c step = IsAscii-tested (duplex_step_text_of step) (ascii-duplex_step_text_of step)

pub returns-clause-duplex_closing : goal.returns-clause-duplex_closing
returns-clause-duplex_closing c side d = IsAscii-tested (duplex_closing_of side d) (ascii-duplex_closing_of side d)
