-- The table of values is right at each position: the checker computes each entry. A word's values are the sums of those of the two halves of its
-- symbols, octet by octet.
use Rattle.std.proofs.{Common.{◌≡◌, ℕ, suc, ◌+◌, ◌-◌, ◌*◌, ◌/◌, ◌%◌, ◌^◌, ◌<◌, ◌≤◌, ◌==◌, [], List, true, bit_xor, get_or, refl, ap, arith}, lemmas.Bool.{eqb-true}}
use Rattle.std.proofs.{lemmas.Nat.{xor_shr, xor_mod, xor_comm, pow_pos, mod-pow-add}, Math.Nat.{le-mul_of_pos_right}}
use Rattle.p25_bits.proofs.DivisibleLaws.{xor_apart}
use Rattle.p25_gf64.specs.{Field.{power}, Product.{product, product_by, product_power, times_x}, ProductLaws.{all_below, all_below_at, product_comm, product-xor}, Symbol.{number, alpha}, Gf64.{gf64}}
use Rattle.p25_gf64.specs.declared.symbol.Sym.{Sym}
use Rattle.p25_gf64.proofs.{PowerLaws.{power-mul}, SymbolLaws.{number_zero, number_alpha, number-add, number-mul, number-power}}
use Rattle.p25_algebra.specs.{Sums.{sum_below}, Series.{coefficient}}
use Rattle.p25_algebra.proofs.SumLaws.{sum-none, sum-suc}
use Rattle.p25_reed_solomon.specs.declared.packed.TheConstants.{VALUES}

-- the term of the symbol at a position in the value of a word of n symbols at α^i
abbrev pub term : ℕ → List Sym → ℕ → ℕ → Sym
term n word i j = gf64.mul (coefficient gf64 word j) (power gf64 alpha (i * (n - 1 - j)))

-- an octet of a number, and an entry of the table
abbrev octet : ℕ → ℕ → ℕ
octet b n = n / 2 ^ (8 * b) % 2 ^ 8

abbrev entry : ℕ → ℕ → ℕ
entry row v = get_or (get_or VALUES row []) v 0

abbrev computed : ℕ → ℕ → ℕ → ℕ
computed b row v = product (product_power (product_power 2 (b + 1)) (row / 2)) (v * 8 ^ (row % 2))

entries_computed : all_below 72 (λ row. all_below 8 (λ v. all_below 16 (λ b. octet b (entry row v) == computed b row v))) ≡ true
unfolding all_below product product_by product_power times_x
entries_computed = refl

entry-is : (e half v b : ℕ) → e < 36 → half < 2 → v < 8 → b < 16 → octet b (entry (2 * e + half) v) ≡ product (number (power gf64 alpha ((b + 1) * e))) (v * 8 ^ half)
entry-is e half v b low inside small here =
    let row = 2 * e + half in
    let row_low : row < 72 = omega arith in
    let rest : row % 2 ≡ half = omega arith in
    let high : row / 2 ≡ e = omega arith in
    let base : product_power 2 (b + 1) ≡ number (power gf64 alpha (b + 1)) = simp (number_alpha, number-power) in
    cc (
      eqb-true _ _ (all_below_at 16 (λ b. octet b (entry row v) == computed b row v)
          (all_below_at 8 _
          (all_below_at 72 _ entries_computed row row_low) v small) b here),
      high,
      rest,
      base,
      number-power (power gf64 alpha (b + 1)) e,
      power-mul gf64 alpha (b + 1) e,
    )

-- the octets of a sum are the sums of the octets
octet-xor : (b m n : ℕ) → octet b (bit_xor m n) ≡ bit_xor (octet b m) (octet b n)
octet-xor b m n = simp (xor_shr, xor_mod)

-- both halves of a symbol
symbol-is : (e b : ℕ) (s : Sym) → e < 36 → b < 16
    → octet b (bit_xor (entry (2 * e) (number s % 8)) (entry (2 * e + 1) (number s / 8))) ≡ number (gf64.mul s (power gf64 alpha ((b + 1) * e)))
symbol-is e b s low here =
    let v = number s in
    let p = power gf64 alpha ((b + 1) * e) in
    let p_below : number p < 64 = p.below in
    let lower : v % 8 < 8 = omega arith in
    let upper : v / 8 < 8 = omega arith in
    let first : 2 * e + 0 ≡ 2 * e = omega arith in
    let none : v % 8 * 8 ^ 0 ≡ v % 8 = omega arith in
    let one : v / 8 * 8 ^ 1 ≡ v / 8 * 2 ^ 3 = omega arith in
    let whole : v / 8 * 2 ^ 3 + v % 8 ≡ v = omega arith in
    let low_below : v % 8 < 64 = omega arith in
    let high_below : v / 8 * 2 ^ 3 < 64 = omega arith in
    cc (
      octet-xor b (entry (2 * e) (v % 8)) _,
      first,
      entry-is e 0 (v % 8) b low (omega arith) lower here,
      none,
      entry-is e 1 (v / 8) b low (omega arith) upper here,
      one,
      product-xor (number p) (v % 8) (v / 8 * 2 ^ 3) p_below low_below high_below,
      xor_comm (v % 8) (v / 8 * 2 ^ 3),
      xor_apart (v / 8) 3 (v % 8) lower,
      whole,
      product_comm (number p) v p_below s.below,
      number-mul s p,
    )

-- nothing yet
pub values_none : (n : ℕ) (word : List Sym) (b : ℕ) → octet b 0 ≡ number (sum_below gf64 0 (term n word (b + 1)))
values_none n word b =
    let zero_octet : octet b 0 ≡ 0 = omega arith in
    simp (zero_octet, number_zero, sum-none)

-- a symbol more, by its number
pub values_more : (n : ℕ) (word : List Sym) (j values b v : ℕ) (s : Sym) → n ≤ 36 → j < n → b < 16 → v ≡ number s → s ≡ coefficient gf64 word j
    → octet b values ≡ number (sum_below gf64 j (term n word (b + 1)))
    → octet b (bit_xor values (bit_xor (entry (2 * (n - 1 - j)) (v % 8)) (entry (2 * (n - 1 - j) + 1) (v / 8)))) ≡ number (sum_below gf64 (j + 1) (term n word (b + 1)))
values_more n word j values b v s few low here number_is is so_far =
    let e : ℕ = n - 1 - j in
    let next : suc j ≡ j + 1 = omega arith in
    cc (
      number_is,
      octet-xor b values _,
      so_far,
      symbol-is e b s (omega arith) here,
      is,
      number-add (sum_below gf64 j (term n word (b + 1))) (term n word (b + 1) j),
      sum-suc gf64 j (term n word (b + 1)),
      next,
    )

-- the lowest octets of a number are zero if it is zero modulo a power of 2
pub octets_zero : (values m b : ℕ) → values % 2 ^ (8 * m) ≡ 0 → b < m → octet b values ≡ 0
octets_zero values m b none low =
    let k = 8 * b in
    let more : ℕ = 8 * m - (8 + k) in
    let e : more + (8 + k) ≡ 8 * m = omega arith in
    let lower : values % 2 ^ (8 + k) ≡ 0 = omega (arith, mod-pow-add values more (8 + k), ap (λ p. values % 2 ^ p) e, none) in
    let o = values / 2 ^ k % 2 ^ 8 in
    let product_none : o * 2 ^ k ≡ 0 = omega (arith, mod-pow-add values 8 k, lower) in
    omega (arith, product_none, le-mul_of_pos_right o (pow_pos k))
