-- The conditions for a systematic binary code of a set of codewords: the test of its table, and that its codewords are the words that pass the rows.
use Rattle.std.specs.{Prelude.{ℕ, ◌-◌, ◌++◌, Bool, List}, Bool.{beq}}
use Rattle.p25_code.specs.{Binary.{IsChecked, check_columns}, CodeLaws.{IsCheckedCode, IsSystematic}}
use Rattle.p25_code.specs.Readings.{IsReadAs-reading_of, bits_searched, reading_of, tested_as}
use Rattle.p25_code.proofs.BinaryLaws.{IsChecked-tested, encodes, is_code}

pub is_checked_code : {n k d : ℕ} {rows : List ℕ} {IsWord : List Bool → Type 0} → IsSystematic rows n k d
    → ((word : List Bool) → IsWord word → IsChecked (rows ++ check_columns (n - k)) word)
    → ((word : List Bool) → IsChecked (rows ++ check_columns (n - k)) word → IsWord word) → IsCheckedCode n k d rows IsWord
is_checked_code {n} {k} {d} {rows} {IsWord} table passes passing =
    let columns = rows ++ check_columns _ in
    let tested = tested_as _ IsWord passing passes (IsChecked-tested columns) in
    let laws = is_code table IsWord passes in
    record {
      table = table;
      passes = passes;
      passing = passing;
      laws = laws;
      encodes = encodes table IsWord passing;
      reading = reading_of bits_searched beq IsWord tested n _;
      reads = IsReadAs-reading_of bits_searched beq IsWord tested n _ laws.long;
    }
