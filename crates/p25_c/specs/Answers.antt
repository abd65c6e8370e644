-- The numbers that the calls on codewords return: the number of wrong letters, and -1 if no codeword is near enough.
use Rattle.std.specs.Prelude.{ℕ, Bool, List, Option, Some, None, ℤ, pos, negsuc}
use Rattle.p25_bits.specs.Distance.{distance_by}
use Rattle.p25_code.specs.{declared.code.Reading.{Reading}, declared.code.Reading.TheVariants.{Found, Beyond}}

-- the number of letters in which a received word differs from the decoded one, or -1 if none was decoded
unfoldable pub fixes_answer : {L : Type 0} → (L → L → Bool) → List L → Option (List L) → ℤ
fixes_answer same received None = negsuc 0
fixes_answer same received (Some word) = pos (distance_by same received word)

-- a decoding as a number: the number of letters that changed, or -1
abbrev pub reading_answer : Reading → ℤ
reading_answer (Found fixes) = pos fixes
reading_answer Beyond = negsuc 0

-- the number of letters that a decoding changed
abbrev pub fixes_in : Reading → ℕ
fixes_in (Found fixes) = fixes
fixes_in Beyond = 0
