-- The length of decimal numbers.
use Rattle.std.proofs.{Common.{ℕ, ◌^◌, ◌<◌, ◌≤◌, length, decimal, arith}, lemmas.Fmt.{length-decimal-le}}

-- a number of 64 bits has at most 20 digits
pub decimal_short : (number : ℕ) → number < 2 ^ 64 → length (decimal number) ≤ 20
decimal_short number fits = length-decimal-le 20 number (omega arith) (omega arith) fits

-- an octet has at most 3
pub decimal_octet : (number : ℕ) → number < 256 → length (decimal number) ≤ 3
decimal_octet number fits = length-decimal-le 3 number (omega arith) (omega arith) (omega arith)
