-- Lines that are too long are refused: the law of each machine over lines. It is that of lines that are read by their words.
use Rattle.std.specs.{Prelude.{◌≡◌, ℕ, ◌<◌, List, length, Err}, Result.{result_map_both}}
use Rattle.std.proofs.Common.{ap}
use Rattle.p25_line.specs.declared.fault.LineFault.TheVariants.{Long}
use Rattle.p25_line.proofs.LineReadLaws.{line_read-long}
use Rattle.p25_status.specs.declared.symbols.Status.{Status}
use Rattle.p25_text.specs.Grammar.{read_line_of, read_words}
use Rattle.p25_script.specs.{Script.{event_by_words}, LongScript.{long_event_by_words}, DuplexLines.{duplex_by_words}}
use Rattle.p25_tool.specs.Machines.{ScriptState, StationsAt, LongAt, DuplexAt, build_rules, script_rules}

pub build_long : (status : Status) (line : List ℕ) → 8192 < length line → build_rules.take status line ≡ Err Long
unfolding read_line_of
build_long status line long = ap (result_map_both _ _) (line_read-long read_words line long)

pub script_long : (script : ScriptState) (line : List ℕ) → 8192 < length line → script_rules.take script line ≡ Err Long
script_long (StationsAt world) line long = ap (result_map_both _ _) (line_read-long event_by_words line long)
script_long (LongAt world) line long = ap (result_map_both _ _) (line_read-long long_event_by_words line long)
script_long (DuplexAt world) line long = ap (result_map_both _ _) (line_read-long duplex_by_words line long)
