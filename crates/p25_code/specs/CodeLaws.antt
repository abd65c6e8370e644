-- The laws of block codes, and of systematic binary codes by their check bits, each as one record.
use Rattle.std.specs.Prelude.{◌≡◌, ◌≢◌, ℕ, zero, suc, ◌-◌, ◌*◌, ◌/◌, ◌≤◌, ◌<◌, Bool, true, false, ◌&&◌, ◌||◌, ◌==◌, nat_le, List, [], ◌∷◌, ◌++◌, length, take, Option}
use Rattle.std.specs.{Bool.{beq}, Cmp.{IsEquivalence}}
use Rattle.p25_bits.specs.Distance.{distance_by}
use Rattle.p25_code.specs.{declared.checked_code.Parameters.{Parameters}, Readings.{IsReadAs}, Words.{Encodes}}
use Rattle.p25_code.specs.Binary.{IsChecked, check_columns, rows_fit, systematic, weight_of}

-- the laws of a block code, as one record
pub record IsBlockCode {L : Type 0} (same : L → L → Bool) (IsWord : List L → Type 0) (n k radius apart : ℕ) : Type 0 where
  pub compares : IsEquivalence same
  pub alike : (x y : L) → same x y ≡ true → x ≡ y
  pub long : (word : List L) → IsWord word → length word ≡ n
  pub one_word : (v w : List L) → IsWord v → IsWord w → take k v ≡ take k w → v ≡ w
  pub far_apart : (v w : List L) → IsWord v → IsWord w → v ≢ w → apart ≤ distance_by same v w
  pub close : 2 * radius < apart
  pub begins : k ≤ n

-- a test of all lists of so many bits
unfoldable pub all_bits : ℕ → (List Bool → Bool) → Bool
all_bits zero test = test []
all_bits (suc n) test = all_bits n (λ bits. test (true ∷ bits)) && all_bits n (λ bits. test (false ∷ bits))

-- the information is zeros alone, or the systematic word is heavy
unfoldable pub is_heavy : List ℕ → ℕ → ℕ → List Bool → Bool
is_heavy rows checks apart info = weight_of info == 0 || nat_le apart (weight_of (systematic rows checks info))

-- the correction radius of a least distance: at most one codeword lies within it of any list
abbrev pub radius_of : ℕ → ℕ
radius_of d = (d - 1) / 2

-- the facts that the tests of a table of rows establish for a code (n,k,d): the rows fit, no codeword but that of zeros is light, and the numbers are
-- those of a small code
pub record IsSystematic (rows : List ℕ) (n k d : ℕ) : Type 0 where
  pub rows_long : length rows ≡ k
  pub fit : rows_fit (n - k) rows ≡ true
  pub heavy : all_bits (length rows) (is_heavy rows (n - k) d) ≡ true
  pub begins : k ≤ n
  pub few : n ≤ 32
  pub few_checks : n - k ≤ 16
  pub some : 0 < d

-- the laws of a set of codewords by the rows of their check bits: they are the words that pass the check matrix, and a block code that a function
-- decodes; the systematic words are its encodings
pub record IsCheckedCode (n k d : ℕ) (rows : List ℕ) (IsWord : List Bool → Type 0) : Type 0 where
  pub table : IsSystematic rows n k d
  pub passes : (word : List Bool) → IsWord word → IsChecked (rows ++ check_columns (n - k)) word
  pub passing : (word : List Bool) → IsChecked (rows ++ check_columns (n - k)) word → IsWord word
  pub laws : IsBlockCode beq IsWord n k (radius_of d) d
  pub encodes : Encodes IsWord k (systematic rows (n - k))
  pub reading : List Bool → Option (List Bool)
  pub reads : (received : List Bool) → IsReadAs beq IsWord (radius_of d) received (reading received)

-- a systematic binary code (n,k,d): the check bits of the messages with a single 1, in order, its codewords, and their laws
pub record SystematicCode (n k d : ℕ) : Type 1 where
  pub rows : List ℕ
  pub IsWord : List Bool → Type 0
  pub is : IsCheckedCode n k d rows IsWord

-- the columns of its check matrix
abbrev pub columns_of : {n k d : ℕ} → SystematicCode n k d → List ℕ
columns_of {n} {k} {d} code = code.rows ++ check_columns (n - k)

-- its parameters, as the type `Parameters` of the code
abbrev pub parameters_of : {n k d : ℕ} → SystematicCode n k d → Parameters
parameters_of {n} {k} {d} code = record { n = n; k = k; d = d }
