use Rattle.std.proofs.Common.{rules, ◌≡◌, ℕ, List, Option, Some, None, refl, ap, sym, ◌∙◌, arith}
use Rattle.p25_tool.specs.{Words.{sample_of}, declared.command.Command.TheVariants.{Sample}}
use Rattle.p25_line.specs.Values.{number_below}
use Rattle.p25_tool.proofs.WordsLaws.{IsNumberRead, number-read}
use Rattle.p25_tool.proofs.words.sample_command.Goals as goal

-- the command of the number that was read is that of the word
read-so : (word : List ℕ) (result read : Option ℕ) → IsNumberRead 10000 word result → result ≡ read → sample_of read ≡ sample_of (number_below 10001 word)
read-so word result read is same = ap sample_of (sym same ∙ number-read 10000 10001 word result refl (omega arith) is)

pub returns-in_err-count-clause-command : goal.returns-in_err-count-clause-command
returns-in_err-count-clause-command c = c.from_residual.ensures ∙ read-so c.args.count.now c.number_value.result None c.number_value.ensures c.in_err-count.was

pub returns-in-0-clause-command : goal.returns-in-0-clause-command
returns-in-0-clause-command c =
    ap (λ count. sample_of (Some count)) (sym c.in-0.is) ∙ read-so c.args.count.now c.number_value.result (Some c.in_ok-count.count) c.number_value.ensures c.in_ok-count.was

pub returns-in_default-clause-command : goal.returns-in_default-clause-command
returns-in_default-clause-command c =
    let some : Some (Sample c.in_ok-count.count) ≡ sample_of (Some c.in_ok-count.count) = search (rules, c.in_default) in
    some ∙ read-so c.args.count.now c.number_value.result (Some c.in_ok-count.count) c.number_value.ensures c.in_ok-count.was
