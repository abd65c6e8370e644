-- The result of a decoder and the word that it leaves, by the decoding.
use Rattle.std.proofs.Common.{◌≡◌, ℕ, ◌≤◌, Bool, List, length, Option, pos, ap, ◌∙◌, arith}
use Rattle.std.specs.Prelude.{unwrap_or}
use Rattle.p25_bits.specs.Distance.{distance_by}
use Rattle.p25_bits.proofs.DistanceLaws.{distance_by-le}
use Rattle.p25_code.specs.{declared.code.Reading.{Reading}, declared.code.Reading.TheVariants.{Found, Beyond}, Erasures.{IsErasedReading}, Readings.{word_read}, Words.{IsReading}}
use Rattle.p25_c.specs.Answers.{fixes_answer, fixes_in, reading_answer}

-- a reader counts the letters that it changed, or leaves the received word
unfoldable pub IsChange : {L : Type 0} → (L → L → Bool) → List L → List L → Reading → Type 0
IsChange same received word (Found fixes) = fixes ≡ distance_by same received word
IsChange same received word Beyond = word ≡ received

pub IsChange-reading : {L : Type 0} (same : L → L → Bool) (IsWord : List L → Type 0) (radius : ℕ) (received word : List L) (reading : Reading) → IsReading same IsWord radius received word reading
    → IsChange same received word reading
unfolding IsReading IsChange
IsChange-reading same IsWord radius received word (Found fixes) is = is.fixes_is
IsChange-reading same IsWord radius received word Beyond is = is.unchanged

pub IsChange-erased : {L : Type 0} (same : L → L → Bool) (IsWord : List L → Type 0) (most : ℕ) (list : List (Option L)) (received word : List L) (reading : Reading)
    → IsErasedReading same IsWord most list received word reading → IsChange same received word reading
unfolding IsErasedReading IsChange
IsChange-erased same IsWord most list received word (Found fixes) is = is.fixes_is
IsChange-erased same IsWord most list received word Beyond is = is.unchanged

module _ {L : Type 0} (same : L → L → Bool) (received word : List L) where
  -- so its result is that of the decoded word, or of none
  pub change_answer : (reading : Reading) (read : Option (List L)) → IsChange same received word reading → word_read reading word ≡ read → reading_answer reading ≡ fixes_answer same received read
  unfolding IsChange word_read fixes_answer
  change_answer (Found fixes) read is value = ap pos is ∙ ap (fixes_answer same received) value
  change_answer Beyond read is value = ap (fixes_answer same received) value

  -- it leaves that word, or the received one
  pub change_word : (reading : Reading) (read : Option (List L)) → IsChange same received word reading → word_read reading word ≡ read → word ≡ unwrap_or read received
  unfolding IsChange word_read
  change_word (Found fixes) read is value = ap (λ (o : Option (List L)). unwrap_or o received) value
  change_word Beyond read is value = is ∙ ap (λ (o : Option (List L)). unwrap_or o received) value

  -- and it changes no more letters than there are
  pub change_few : (reading : Reading) (most : ℕ) → length received ≤ most → IsChange same received word reading → fixes_in reading ≤ most
  unfolding IsChange
  change_few (Found fixes) most few is = omega (arith, is, distance_by-le same received word)
  change_few Beyond most few is = omega arith
