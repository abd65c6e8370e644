-- The product in GF(64): that of two polynomials over GF(2), with bit k of a number as the coefficient of x^k, reduced modulo x^6 + x + 1.
use Rattle.std.specs.Prelude.{ℕ, zero, suc, ◌*◌, ◌/◌, ◌%◌, ◌==◌, nat_lt, if◌then◌else◌, bit_xor}

-- a times x: shifted by one position, and reduced by x^6 + x + 1 (67) if it has a term x^6
unfoldable pub times_x : ℕ → ℕ
times_x a = if nat_lt a 32 then 2 * a else bit_xor (2 * a) 67

-- the exclusive or, over the lowest `count` bits of b that are 1, of a shifted by the bit's position
unfoldable pub product_by : ℕ → ℕ → ℕ → ℕ
product_by zero a b = 0
product_by (suc count) a b = bit_xor (if b % 2 == 1 then a else 0) (product_by count (times_x a) (b / 2))

-- the product of two numbers of six bits
unfoldable pub product : ℕ → ℕ → ℕ
product a b = product_by 6 a b

-- a number of six bits multiplied by itself as often as the exponent
unfoldable pub product_power : ℕ → ℕ → ℕ
product_power a zero = 1
product_power a (suc n) = product a (product_power a n)
