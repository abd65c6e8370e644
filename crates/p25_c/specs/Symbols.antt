-- The effect of the calls on Reed-Solomon words on octets that represent symbols.
use Rattle.std.specs.Prelude.{◌≡◌, ℕ, ◌<◌, List, Option, ℤ, pos, negsuc, All, map, take, unwrap_or}
use Rattle.p25_gf64.specs.{declared.symbol.Sym.{Sym}, Symbol.{number}}
use Rattle.p25_reed_solomon.specs.{Words.{same_symbols}, Encoding.{rs_word}}
use Rattle.p25_c.specs.Answers.{fixes_answer}

-- octets that represent symbols become those of the decoded codeword, and the result is the number of symbols in which the two differ; if no codeword
-- is decoded the result is -1, and if an octet represents no symbol it is -2, and the octets are unchanged
pub record IsSymbolReading (reading : List Sym → Option (List Sym)) (octets left : List ℕ) (answer : ℤ) : Type 0 where
  pub answered : (received : List Sym) → map number received ≡ octets → answer ≡ fixes_answer same_symbols received (reading received)
  pub read : (received : List Sym) → map number received ≡ octets → left ≡ map number (unwrap_or (reading received) received)
  pub refused : ¬ All (λ octet. octet < 64) octets → (answer ≡ negsuc 1) × (left ≡ octets)

-- octets, the first k of which represent symbols, become the codeword of n symbols with that information, and the result is 0; if one of those
-- represents no symbol it is -2, and the octets are unchanged
pub record IsSymbolWriting (n k : ℕ) (octets left : List ℕ) (answer : ℤ) : Type 0 where
  pub written : (info : List Sym) → map number info ≡ take k octets → (answer ≡ pos 0) × (left ≡ map number (rs_word n k info))
  pub refused : ¬ All (λ octet. octet < 64) (take k octets) → (answer ≡ negsuc 1) × (left ≡ octets)
