-- The table of values is right at each position: the checker computes each entry. A word's values are the sums of those of its four-bit parts, octet
-- by octet.
use Rattle.std.proofs.{Common.{◌≡◌, ℕ, zero, suc, ◌+◌, ◌-◌, ◌*◌, ◌/◌, ◌%◌, ◌^◌, ◌<◌, ◌≤◌, ◌==◌, [], true, bit_xor, get_or, refl, ap, ap₂, sym, ◌∙◌, arith}, lemmas.Bool.{eqb-true}}
use Rattle.std.proofs.{lemmas.Nat.{xor_shr, xor_mod, xor_comm, pow_pos, mod-pow-add}, Math.Nat.{pow-suc, mod-lt}}
use Rattle.p25_bits.specs.Bits.{bits_of}
use Rattle.p25_bits.proofs.{BitsLaws.{length-bits_of, bits_of-joined}, DivisibleLaws.{xor_apart}}
use Rattle.p25_gf64.specs.{Field.{power}, Product.{product, product_by, product_power, times_x}, ProductLaws.{all_below, all_below_at}, Symbol.{number, alpha}, Gf64.{gf64}, declared.symbol.Sym.{Sym}}
use Rattle.p25_gf64.proofs.{FieldLaws.{add_zero, zero_add, zero_mul}, SymbolLaws.{number_zero, number_alpha, number-add, number-mul, number-power}}
use Rattle.p25_reed_solomon.{specs.BitValues.{bit_value, number_value}, proofs.{BitValuesLaws.{bit_value-append}, RemainderValuesLaws.{number_value-suc, number_value-zero, number_value-xor}}}
use Rattle.p25_bch_nid.specs.{Bch63FormLaws.{horner, horner-value}, declared.syndromes.TheConstants.{VALUES}}

-- the value of a word of 64 bits at a power of α
abbrev pub value : ℕ → ℕ → Sym
value i word = number_value gf64 (power gf64 alpha i) 64 word

-- coefficients that a number does not have change no value
wider : (x : Sym) (v more : ℕ) → v < 16 → number_value gf64 x (more + 4) v ≡ number_value gf64 x 4 v
wider x v zero small = refl
wider x v (suc more) small =
    ap (λ w. number_value gf64 x w v) (omega arith) ∙ number_value-suc gf64 x _ v (omega (arith, grows)) ∙ wider x v more small
  where
    grows : (n : ℕ) → 16 ≤ 2 ^ (n + 4)
    grows zero = omega arith
    grows (suc n) =
        let e : suc n + 4 ≡ suc (n + 4) = omega arith in
        omega (arith, grows n, ap (λ m. 2 ^ m) e, pow-suc 2)

-- the value of four bits at an offset
value_at_place : (x : Sym) (v place : ℕ) → v < 16 → place < 16 → number_value gf64 x 64 (v * 2 ^ (4 * place)) ≡ gf64.mul (number_value gf64 x 4 v) (power gf64 x (4 * place))
value_at_place x v place small low =
    let k = 4 * place in
    ap (λ w. number_value gf64 x w (v * 2 ^ k)) (omega arith)
    ∙ ap (number_value gf64 x _) (omega arith)
    ∙ ap (bit_value gf64 x) (bits_of-joined ((60 - k) + 4) k v 0 (pow_pos k))
    ∙ bit_value-append gf64 x _ _
    ∙ ap₂ gf64.add (simp (wider, length-bits_of)) (number_value-zero gf64 x k)
    ∙ add_zero gf64 _

-- an octet of an entry, and its value by the law of the table, on numbers
abbrev octet : ℕ → ℕ → ℕ
octet b n = n / 2 ^ (8 * b) % 2 ^ 8

abbrev entry : ℕ → ℕ → ℕ
entry row v = get_or (get_or VALUES row []) v 0

abbrev computed : ℕ → ℕ → ℕ → ℕ
computed i place v = product (horner (product_power 2 i) 0 (bits_of 4 v)) (product_power (product_power 2 i) (4 * place))

entries_computed : all_below 48 (λ row. all_below 16 (λ v. all_below 8 (λ b. octet b (entry row v) == computed (8 * (row % 3) + b + 1) (row / 3) v))) ≡ true
unfolding all_below horner product product_by product_power times_x bits_of
entries_computed = refl

computed-is : (i place v : ℕ) → v < 16 → place < 16 → computed i place v ≡ number (value i (v * 2 ^ (4 * place)))
computed-is i place v small low =
    let x = power gf64 alpha i in
    let base : product_power 2 i ≡ number x = simp (number_alpha, number-power) in
    let front : horner (number x) 0 (bits_of 4 v) ≡ number (number_value gf64 x 4 v)
    = rw (← number_zero, horner-value, zero_mul, zero_add) in
    cc (front, number-power x _, number-mul (number_value gf64 x 4 v) (power gf64 x (4 * place)), value_at_place x v place small low)

pub entry-is : (place part v b : ℕ) → place < 16 → part < 3 → v < 16 → b < 8 → octet b (entry (3 * place + part) v) ≡ number (value (8 * part + b + 1) (v * 2 ^ (4 * place)))
entry-is place part v b low inside small here =
    eqb-true _ _ (all_below_at 8 _
    (all_below_at 16 _
    (all_below_at 48 _ entries_computed (3 * place + part) (omega arith)) v small) b here)
    ∙ ap₂ (λ q p. computed (8 * q + b + 1) p v) (omega arith) (omega arith)
    ∙ computed-is _ place v small low

-- the octets of a sum are the sums of the octets
octet-xor : (b m n : ℕ) → octet b (bit_xor m n) ≡ bit_xor (octet b m) (octet b n)
octet-xor b m n = simp (xor_shr, xor_mod)

-- nothing yet
pub values_none : (word i b : ℕ) → octet b 0 ≡ number (value i (word % 2 ^ (4 * 0)))
values_none word i b =
    (omega arith) ∙ sym (ap (λ n. number (value i n)) (omega arith) ∙ ap number (number_value-zero gf64 _ 64) ∙ number_zero)

-- four bits more
pub values_more : (word place part values b : ℕ) → place < 16 → part < 3 → b < 8 → octet b values ≡ number (value (8 * part + b + 1) (word % 2 ^ (4 * place)))
    → octet b (bit_xor values (entry (3 * place + part) (word / 2 ^ (4 * place) % 16))) ≡ number (value (8 * part + b + 1) (word % 2 ^ (4 * (place + 1))))
values_more word place part values b low inside here so_far =
    let k = 4 * place in
    let v = word / 2 ^ k % 16 in
    let rest = word % 2 ^ k in
    let small : v < 16 = omega arith in
    let cut : v * 2 ^ k + rest ≡ word % 2 ^ (4 * (place + 1)) = sym (mod-pow-add word 4 k) ∙ ap (λ n. word % 2 ^ n) (omega arith) in
    rw (octet-xor, so_far, entry-is, xor_comm, ← number-add, ← number_value-xor, xor_apart v k rest (mod-lt word (pow_pos k)) ∙ cut)

-- the whole word
pub values_all : (word i place : ℕ) → place ≡ 16 → word < 2 ^ 64 → number (value i (word % 2 ^ (4 * place))) ≡ number (value i word)
values_all word i place last fits =
    let whole : word % 2 ^ (4 * 16) ≡ word = omega arith in
    simp (last, whole)
