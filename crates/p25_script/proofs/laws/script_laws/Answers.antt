use Rattle.std.proofs.Common.{length, ap, arith}
use Rattle.p25_line.proofs.LineReadLaws.{line_read-words, words-line_read}
use Rattle.p25_script.specs.Script.{event_text}
use Rattle.p25_script.proofs.ScriptLaws.{IsEvent-IsScripted, event_laws, length-answer, length-data, length-send}
use Rattle.p25_script.proofs.laws.script_laws.Goals as goal

pub returns : goal.returns
unfolding event_text
returns c = record {
  line = λ event fits short. line_read-words event_laws event fits short;
  event = λ line event found. let facts = words-line_read event_laws line event found in (facts.text, facts.fits);
  long = λ line event long found. let facts = words-line_read event_laws line event found in omega (arith, long, ap length facts.text, facts.short);
  message = λ message fits. length-send message fits;
  «data» = λ places are few. omega (arith, length-data places are, few);
  answer = λ places are few. omega (arith, length-answer places are, few);
  world = λ event fits. IsEvent-IsScripted event fits;
}
