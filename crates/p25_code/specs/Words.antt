-- Block codes: encoding and decoding, for any set of codewords and any equality test of letters.
use Rattle.std.specs.Prelude.{◌≡◌, ℕ, ◌<◌, ◌≤◌, Bool, List, length, take}
use Rattle.p25_bits.specs.Distance.{distance_by}
use Rattle.p25_code.specs.{declared.code.Reading.{Reading}, declared.code.Reading.TheVariants.{Found, Beyond}}

-- a codeword of the set that begins with the information
pub record IsEncoding {L : Type 0} (IsWord : List L → Type 0) (k : ℕ) (info word : List L) : Type 0 where
  pub word_of_set : IsWord word
  pub begins : take k word ≡ info

-- a function that encodes: for each information of k letters it gives a codeword of the set that begins with the information
abbrev pub Encodes : {L : Type 0} → (List L → Type 0) → ℕ → (List L → List L) → Type 0
Encodes {L} IsWord k encoding = (info : List L) → length info ≡ k → IsEncoding IsWord k info (encoding info)

-- the received word became a codeword of the set within the correction radius, and `fixes` letters changed
pub record IsFound {L : Type 0} (same : L → L → Bool) (IsWord : List L → Type 0) (radius : ℕ) (received word : List L) (fixes : ℕ) : Type 0 where
  pub word_of_set : IsWord word
  pub fixes_is : fixes ≡ distance_by same received word
  pub within : fixes ≤ radius

-- no codeword of the set is within the correction radius of the received word
pub record NoneWithin {L : Type 0} (same : L → L → Bool) (IsWord : List L → Type 0) (radius : ℕ) (received : List L) : Type 0 where
  pub farther : (word : List L) → IsWord word → radius < distance_by same received word

-- the received word is unchanged, and no codeword of the set is within the correction radius of it
pub record IsBeyond {L : Type 0} (same : L → L → Bool) (IsWord : List L → Type 0) (radius : ℕ) (received word : List L) : Type 0 where
  pub unchanged : word ≡ received
  pub none_within : NoneWithin same IsWord radius received

-- decoding up to the correction radius (bounded-distance decoding): the received word, the word left, and the result
unfoldable pub IsReading : {L : Type 0} → (L → L → Bool) → (List L → Type 0) → ℕ → List L → List L → Reading → Type 0
IsReading same IsWord radius received word (Found fixes) = IsFound same IsWord radius received word fixes
IsReading same IsWord radius received word Beyond = IsBeyond same IsWord radius received word
