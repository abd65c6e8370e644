-- Status symbols as numbers and as bits.
use Rattle.std.specs.{Prelude.{◌≡◌, ℕ, ◌+◌, ◌*◌, ◌%◌, ◌<◌, Bool, true, false}, Coded.{le_prop}}
use Rattle.std.proofs.{Common.{ap, subst, lit<}, Math.Nat.{mod-lt}}
use Rattle.p25_bits.specs.Bits.{digit_of}
use Rattle.p25_status.specs.declared.symbols.Status.{Status}

-- the number of a status symbol, from 0 to 3
abbrev pub status_number : Status → ℕ
status_number status = status.value

-- the status symbol of a number below 4
abbrev pub status_at_number : (n : ℕ) → n < 4 → Status
status_at_number n h = record { value = n; below = h }

-- the status symbol of a number, modulo 4
unfoldable pub status_modulo : ℕ → Status
status_modulo n = status_at_number (n % 4) (mod-lt n (lit< tt))

pub two_digits-lt : (high low : Bool) → 2 * digit_of high + digit_of low < 4
two_digits-lt true true = lit< tt
two_digits-lt true false = lit< tt
two_digits-lt false true = lit< tt
two_digits-lt false false = lit< tt

-- the status symbol of two bits, the first one higher
unfoldable pub status_from_bits : Bool → Bool → Status
status_from_bits high low = status_at_number (2 * digit_of high + digit_of low) (two_digits-lt high low)

same_made : (m n : ℕ) → m ≡ n → (p : m < 4) (q : n < 4) → status_at_number m p ≡ status_at_number n q
same_made m n e p = subst (λ k. (q : k < 4) → status_at_number m p ≡ status_at_number k q) e (λ q. ap (λ r. status_at_number m r) (le_prop p q))

-- status symbols with the same number are equal
pub same_status : (a b : Status) → status_number a ≡ status_number b → a ≡ b
same_status a b e = same_made (status_number a) (status_number b) e a.below b.below
