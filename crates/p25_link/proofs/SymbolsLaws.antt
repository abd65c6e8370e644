-- Symbols of six bits are numbers of six bits. Each law follows from that of numbers in p25_bits, or is by induction on the symbols.
use Rattle.std.proofs.{Common.{◌≡◌, ℕ, zero, suc, ◌+◌, ◌*◌, ◌<◌, ◌≤◌, Bool, List, [], ◌∷◌, ◌++◌, length, take, drop, map, refl, ap, ap₂, sym, ◌∙◌, arith, All, get_or, ◌^◌}, Math.Seq.{take-length}}
use Rattle.std.proofs.{lemmas.List.{drop-drop, length-map}, lemmas.List.Elements.{All-map}, lemmas.List.Folds.{flat_map-map}}
use Rattle.p25_bits.specs.{Bits.{bits_of, field_of}, Numbers.{number_bits, numbers_from}}
use Rattle.p25_bits.proofs.NumbersLaws.{length-number_bits, number_bits-numbers_from, numbers_from-number_bits}
use Rattle.p25_gf64.specs.{declared.symbol.Sym.{Sym}, Symbol.{number, same_symbol}}
use Rattle.p25_link.specs.Symbols.{symbol_in, symbols_in, symbol_bits}

-- the number of a symbol is that which its bits write
pub number-symbol_in : (bits : List Bool) → number (symbol_in bits) ≡ field_of (take 6 bits)
unfolding symbol_in
number-symbol_in bits = refl

-- symbols are numbers of six bits
pub number-symbols_in : (n : ℕ) (bits : List Bool) → map number (symbols_in n bits) ≡ numbers_from 6 n bits
unfolding symbols_in numbers_from
number-symbols_in zero bits = refl
number-symbols_in (suc n) bits = ap₂ ◌∷◌ (number-symbol_in bits) (number-symbols_in n (drop 6 bits))

-- and so are their bits
pub symbol_bits-numbers : (symbols : List Sym) → symbol_bits symbols ≡ number_bits 6 (map number symbols)
unfolding symbol_bits number_bits
symbol_bits-numbers symbols = sym (flat_map-map (bits_of 6) number symbols)

-- symbols of the same numbers are the same
pub same_symbols_list : (xs ys : List Sym) → map number xs ≡ map number ys → xs ≡ ys
same_symbols_list [] [] same = refl
same_symbols_list (x ∷ xs) (y ∷ ys) same =
    let first : number x ≡ number y = cc in
    let others : map number xs ≡ map number ys = cc in
    ap₂ ◌∷◌ (same_symbol x y first) (same_symbols_list xs ys others)
same_symbols_list xs ys same = absurd (cc)

pub length-symbols_in : (n : ℕ) (bits : List Bool) → length (symbols_in n bits) ≡ n
unfolding symbols_in
length-symbols_in zero bits = refl
length-symbols_in (suc n) bits = ap suc (length-symbols_in n (drop 6 bits))

pub length-symbol_bits : (symbols : List Sym) → length (symbol_bits symbols) ≡ 6 * length symbols
length-symbol_bits symbols =
    ap length (symbol_bits-numbers symbols) ∙ length-number_bits 6 (map number symbols) ∙ ap (λ n. 6 * n) (length-map symbols number)

-- the bits of the symbols that bits write are those bits
pub symbol_bits-symbols_in : (n : ℕ) (bits : List Bool) → 6 * n ≤ length bits → symbol_bits (symbols_in n bits) ≡ take (6 * n) bits
symbol_bits-symbols_in n bits there =
    symbol_bits-numbers (symbols_in n bits) ∙ ap (number_bits 6) (number-symbols_in n bits) ∙ number_bits-numbers_from 6 n bits there

-- all of them, if there are no more bits
pub symbol_bits-all : (n : ℕ) (bits : List Bool) → length bits ≡ 6 * n → symbol_bits (symbols_in n bits) ≡ bits
symbol_bits-all n bits long =
    let there : 6 * n ≤ length bits = omega (arith, long) in
    symbol_bits-symbols_in n bits there ∙ ap (λ k. take k bits) (sym long) ∙ take-length bits

-- each symbol is below 64
symbols_small : (symbols : List Sym) → All (λ n. n < 2 ^ 6) (map number symbols)
symbols_small symbols = All-map (λ n. n < 2 ^ 6) number symbols (λ i d h. (get_or symbols i d).below)

-- the symbols of the bits of symbols are those symbols
pub symbols_in-symbol_bits : (n : ℕ) (symbols : List Sym) → length symbols ≡ n → symbols_in n (symbol_bits symbols) ≡ symbols
symbols_in-symbol_bits n symbols long =
    let numbers = map number symbols in
    let count : n ≡ length numbers = sym long ∙ sym (length-map symbols number) in
    same_symbols_list (symbols_in n (symbol_bits symbols)) symbols (
    number-symbols_in n (symbol_bits symbols)
    ∙ ap₂ (numbers_from 6) count (symbol_bits-numbers symbols)
    ∙ numbers_from-number_bits 6 numbers (symbols_small symbols))

pub symbols_in-none : (bits : List Bool) → symbols_in 0 bits ≡ []
unfolding symbols_in
symbols_in-none bits = refl

symbols_in-next : (n : ℕ) (bits : List Bool) → symbols_in (suc n) bits ≡ symbols_in n bits ++ symbol_in (drop (6 * n) bits) ∷ []
unfolding symbols_in
symbols_in-next zero bits = refl
symbols_in-next (suc n) bits =
    let behind : 6 + 6 * n ≡ 6 * suc n = omega arith in
    ap (λ xs. symbol_in bits ∷ xs) (
    symbols_in-next n (drop 6 bits)
    ∙ ap (λ xs. symbols_in n (drop 6 bits) ++ symbol_in xs ∷ []) (drop-drop (6 * n) 6 bits ∙ ap (λ k. drop k bits) behind))

-- one more symbol of bits
pub symbols_in-more : (n : ℕ) (bits : List Bool) → symbols_in (n + 1) bits ≡ symbols_in n bits ++ symbol_in (drop (6 * n) bits) ∷ []
symbols_in-more n bits = let next : n + 1 ≡ suc n = omega arith in ap (λ k. symbols_in k bits) next ∙ symbols_in-next n bits

-- no symbol has no bits
pub symbol_bits-nil : symbol_bits [] ≡ []
unfolding symbol_bits
symbol_bits-nil = refl
