use Rattle.p25_code.specs.Binary.{check_columns}
use Rattle.p25_code.proofs.WrongLaws.{exact_by_one_row}
use Rattle.p25_hamming.proofs.hamming10.Hamming10CheckedCode.wrong_bits.Goals as goal

pub returns : goal.returns
unfolding check_columns
returns c = exact_by_one_row _ 4 _ c.wrong_by_rows.result c.wrong_by_rows.ensures
