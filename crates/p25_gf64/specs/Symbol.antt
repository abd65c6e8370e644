-- The symbols as numbers, and their operations.
use Rattle.std.specs.{Prelude.{◌≡◌, ℕ, ◌<◌, bit_xor}, Coded.{le_prop}}
use Rattle.std.proofs.Common.{ap, subst, lit<}
use Rattle.p25_gf64.specs.{Product.{product, product_power}, ProductLaws.{xor_below, product-lt, product_power-lt}, declared.symbol.Sym.{Sym}}

-- the number that a symbol is
abbrev pub number : Sym → ℕ
number symbol = symbol.value

-- the symbol of a number below 64
abbrev pub symbol_of : (n : ℕ) → n < 64 → Sym
symbol_of n h = record { value = n; below = h }

same_made : (m n : ℕ) → m ≡ n → (p : m < 64) (q : n < 64) → symbol_of m p ≡ symbol_of n q
same_made m n e p = subst (λ k. (q : k < 64) → symbol_of m p ≡ symbol_of k q) e (λ q. ap (λ r. symbol_of m r) (le_prop p q))

-- symbols with the same number are equal
pub same_symbol : (a b : Sym) → number a ≡ number b → a ≡ b
same_symbol a b e = same_made (number a) (number b) e a.below b.below

-- the symbol 0
unfoldable pub zero_symbol : Sym
zero_symbol = symbol_of 0 (lit< tt)

-- the symbol 1
unfoldable pub one_symbol : Sym
one_symbol = symbol_of 1 (lit< tt)

-- α, the symbol 2
unfoldable pub alpha : Sym
alpha = symbol_of 2 (lit< tt)

-- the exclusive or
unfoldable pub sum_of : Sym → Sym → Sym
sum_of a b = symbol_of (bit_xor (number a) (number b)) (xor_below (number a) (number b) a.below b.below)

-- the product
unfoldable pub product_of : Sym → Sym → Sym
product_of a b = symbol_of (product (number a) (number b)) (product-lt (number a) (number b) a.below)

-- the 62nd power
unfoldable pub inverse_of : Sym → Sym
inverse_of a = symbol_of (product_power (number a) 62) (product_power-lt (number a) 62 a.below)
