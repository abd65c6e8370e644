use Rattle.std.proofs.Common.{◌≡◌, [], map, string_bytes}
use Rattle.std.specs.{List.{fold}, Vec.Iter.{into_iter_items}}
use Rattle.p25_tool.specs.Words.{added}
use Rattle.p25_app.proofs.arguments.words_from.Given as goal

abbrev pub invariant-loop-argument : goal.invariant-loop-argument
invariant-loop-argument l = fold added l.words (map string_bytes (into_iter_items l.argument-iterator)) ≡ fold added [] (map string_bytes (into_iter_items l.fn.arguments))
