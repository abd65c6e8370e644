-- Symbols and octets by the numbers that their bits write: one more of them in the loops that convert one into the other, nine octets and a number
-- after them, and the fields of a number.
use Rattle.std.proofs.Common.{◌≡◌, ℕ, ◌+◌, ◌-◌, ◌*◌, ◌/◌, ◌%◌, ◌^◌, ◌<◌, ◌≤◌, Bool, List, [], ◌∷◌, ◌++◌, length, take, drop, map, get_or, set, ap, ap₂, sym, ◌∙◌, arith, length-append, length-drop, length-take}
use Rattle.std.proofs.{Math.Nat.{mod-eq_of_lt}, Math.Pow.{pow_mono}, lemmas.List.{append-nil, drop_at, length-take-le, map-append, take-append-drop, take_all, take_more, take_more_set}}
use Rattle.p25_bits.specs.{Bits.{bits_of, field_of, octet_bits, part}, Numbers.{number_bits, octets_from}}
use Rattle.p25_bits.proofs.BitsLaws.{length-bits_of, length-octet_bits, octet_bits-append, octet_bits-cons, octet_bits-nil, bits_of-field_of, bits_of-joined, field_of-append, field_of-bits_of, field_of-lt, take-bits_of, drop-bits_of}
use Rattle.p25_bits.proofs.{NumbersLaws.{number_bits-append, number_bits-one, numbers_from-more}, PartLaws.{part-drop}}
use Rattle.p25_gf64.specs.{declared.symbol.Sym.{Sym}, Symbol.{number, same_symbol}}
use Rattle.p25_link.specs.Symbols.{symbol_in, symbols_in, symbol_bits}
use Rattle.p25_link.proofs.SymbolsLaws.{number-symbol_in, symbol_bits-numbers, symbols_in-more, length-symbol_bits}

-- a field of the bits of a number
pub field_of-part : (at width count value : ℕ) → at + width ≤ count → value / 2 ^ (count - at - width) % 2 ^ width ≡ field_of (part at width (bits_of count value))
field_of-part at width count value inside =
    let there : at ≤ count = omega arith in
    let left : width ≤ count - at = omega arith in
    sym (field_of-bits_of width (value / 2 ^ (count - at - width))) ∙ ap field_of (sym (ap (take width) (drop-bits_of at count value there) ∙ take-bits_of width (count - at) value left))

-- the symbol of the number that six bits write
pub symbol_made : (bits : List Bool) (n : ℕ) (symbol : Sym) → n ≡ field_of (take 6 bits) → number symbol ≡ n → symbol ≡ symbol_in bits
symbol_made bits n symbol is value = same_symbol symbol (symbol_in bits) (value ∙ is ∙ sym (number-symbol_in bits))

-- a symbol's bits, by the number of all
pub symbol_number : (count i value : ℕ) → i < count → value / 2 ^ (6 * (count - 1 - i)) % 64 ≡ field_of (part (6 * i) 6 (bits_of (6 * count) value))
symbol_number count i value inside =
    let there : 6 * i + 6 ≤ 6 * count = omega arith in
    let left : 6 * (count - 1 - i) ≡ 6 * count - 6 * i - 6 = omega arith in
    ap (λ k. value / 2 ^ k % 64) left ∙ field_of-part (6 * i) 6 (6 * count) value there

-- one more symbol was set
pub symbol_set : (symbols : List Sym) (bits : List Bool) (i : ℕ) (symbol : Sym) → i < length symbols → take i symbols ≡ symbols_in i bits → symbol ≡ symbol_in (drop (6 * i) bits)
    → take (i + 1) (set symbols i symbol) ≡ symbols_in (i + 1) bits
symbol_set symbols bits i symbol inside before is =
    take_more_set symbols i symbol inside ∙ ap₂ (λ (xs : List Sym) (x : Sym). xs ++ x ∷ []) before is ∙ sym (symbols_in-more i bits)

pub symbol_bits-append : (xs ys : List Sym) → symbol_bits (xs ++ ys) ≡ symbol_bits xs ++ symbol_bits ys
symbol_bits-append xs ys =
    symbol_bits-numbers (xs ++ ys)
    ∙ ap (number_bits 6) (map-append number xs ys)
    ∙ number_bits-append 6 (map number xs) (map number ys)
    ∙ ap₂ (λ (us vs : List Bool). us ++ vs) (sym (symbol_bits-numbers xs)) (sym (symbol_bits-numbers ys))

symbol_bits-one : (x : Sym) → symbol_bits (x ∷ []) ≡ bits_of 6 (number x)
symbol_bits-one x = symbol_bits-numbers (x ∷ []) ∙ number_bits-one 6 (number x)

octet_bits-one : (x : ℕ) → octet_bits (x ∷ []) ≡ bits_of 8 x
octet_bits-one x = octet_bits-cons x [] ∙ ap (λ (xs : List Bool). bits_of 8 x ++ xs) octet_bits-nil ∙ append-nil (bits_of 8 x)

-- at most `most` bits write no larger number
pub few_bits-lt : (bits : List Bool) (most : ℕ) → length bits ≤ most → field_of bits < 2 ^ most
few_bits-lt bits most few = omega (arith, field_of-lt bits, pow_mono few)

-- so the number of at most eight octets fits in 64 bits, and that of at most twenty symbols in 120
pub octets_room : (octets : List ℕ) (i : ℕ) → i < 9 → field_of (octet_bits (take i octets)) < 2 ^ 64
octets_room octets i few = few_bits-lt (octet_bits (take i octets)) 64 (omega (arith, length-octet_bits (take i octets), length-take i octets))

pub symbols_room : (symbols : List Sym) (i : ℕ) → i ≤ 20 → field_of (symbol_bits (take i symbols)) < 2 ^ 120
symbols_room symbols i few = few_bits-lt (symbol_bits (take i symbols)) 120 (omega (arith, length-symbol_bits (take i symbols), length-take i symbols))

-- the number that some bits write, and then those of one more number
appended : (front : List Bool) (width low : ℕ) → low < 2 ^ width → field_of (front ++ bits_of width low) ≡ field_of front * 2 ^ width + low
appended front width low small =
    field_of-append front (bits_of width low) ∙ ap₂ (λ n m. field_of front * 2 ^ n + m) (length-bits_of width low) (field_of-bits_of width low ∙ mod-eq_of_lt small)

-- the number that the bits of one more symbol write
pub number_more : (symbols : List Sym) (i value before : ℕ) (x : Sym) → i < length symbols → x ≡ get_or symbols i x → value ≡ number x → before ≡ field_of (symbol_bits (take i symbols))
    → 64 * before + value ≡ field_of (symbol_bits (take (i + 1) symbols))
number_more symbols i value before x inside read is so_far =
    let front = symbol_bits (take i symbols) in
    let below : number x < 64 = x.below in
    let list : symbol_bits (take (i + 1) symbols) ≡ front ++ bits_of 6 (number x)
    = ap symbol_bits (take_more symbols i x inside ∙ ap (λ y. take i symbols ++ y ∷ []) (sym read))
    ∙ symbol_bits-append (take i symbols) (x ∷ []) ∙ ap (λ (ys : List Bool). front ++ ys) (symbol_bits-one x) in
    let sum : field_of (front ++ bits_of 6 (number x)) ≡ field_of front * 64 + number x = appended front 6 (number x) below in
    omega (arith, sum, so_far, is) ∙ sym (ap field_of list)

-- the number that the bits of one more octet write
pub octets_more : (octets : List ℕ) (i octet before : ℕ) → i < length octets → octet ≡ get_or octets i 0
    → octet < 256 → before ≡ field_of (octet_bits (take i octets)) → 256 * before + octet ≡ field_of (octet_bits (take (i + 1) octets))
octets_more octets i octet before inside read small so_far =
    let front = octet_bits (take i octets) in
    let list : octet_bits (take (i + 1) octets) ≡ front ++ bits_of 8 octet
    = ap octet_bits (take_more octets i 0 inside ∙ ap (λ y. take i octets ++ y ∷ []) (sym read))
    ∙ octet_bits-append (take i octets) (octet ∷ []) ∙ ap (λ (ys : List Bool). front ++ ys) (octet_bits-one octet) in
    let sum : field_of (front ++ bits_of 8 octet) ≡ field_of front * 256 + octet = appended front 8 octet small in
    omega (arith, sum, so_far) ∙ sym (ap field_of list)

-- one more octet of a number was set
pub octet_set : (octets : List ℕ) (i width value : ℕ) → i < length octets → 8 * i + 8 ≤ width → take i octets ≡ octets_from i (bits_of width value)
    → take (i + 1) (set octets i (value / 2 ^ (width - 8 - 8 * i) % 256)) ≡ octets_from (i + 1) (bits_of width value)
octet_set octets i width value inside there before =
    let left : width - 8 - 8 * i ≡ width - 8 * i - 8 = omega arith in
    take_more_set octets i _ inside
    ∙ ap₂ (λ (xs : List ℕ) x. xs ++ x ∷ []) before (ap (λ k. value / 2 ^ k % 256) left ∙ field_of-part (8 * i) 8 width value there)
    ∙ sym (numbers_from-more 8 i (bits_of width value))

-- the bits of a number that was joined from two
pub bits_joined : (k width high low : ℕ) (front : List Bool) → bits_of k high ≡ front → low < 2 ^ width → bits_of (k + width) (high * 2 ^ width + low) ≡ front ++ bits_of width low
bits_joined k width high low front is small = bits_of-joined k width high low small ∙ ap (λ (xs : List Bool). xs ++ bits_of width low) is

-- the bits of nine octets, by the number that they write
pub nine_octets_bits : (octets : List ℕ) (value : ℕ) → length octets ≡ 9 → value ≡ field_of (octet_bits octets) → bits_of 72 value ≡ octet_bits octets
nine_octets_bits octets value long is =
    let wide : 72 ≡ length (octet_bits octets) = sym (length-octet_bits octets ∙ ap (λ n. 8 * n) long) in
    ap₂ bits_of wide is ∙ bits_of-field_of (octet_bits octets)

-- the bits of symbols, by the number that they write
pub symbols_bits : (symbols : List Sym) (count value : ℕ) → length symbols ≡ count → value ≡ field_of (symbol_bits symbols) → bits_of (6 * count) value ≡ symbol_bits symbols
symbols_bits symbols count value long is =
    let wide : 6 * count ≡ length (symbol_bits symbols) = sym (length-symbol_bits symbols ∙ ap (λ n. 6 * n) long) in
    ap₂ bits_of wide is ∙ bits_of-field_of (symbol_bits symbols)

-- nine octets and some bits of a number after them, by the number that they write together
module _ (octets : List ℕ) (front width rest : ℕ) (nine : length octets ≡ 9) (is : front ≡ field_of (octet_bits octets)) (small : rest < 2 ^ width) where
  pub joined_bits : bits_of (72 + width) (front * 2 ^ width + rest) ≡ octet_bits octets ++ bits_of width rest
  joined_bits = bits_joined 72 width front rest (octet_bits octets) (nine_octets_bits octets front nine is) small

  pub joined-lt : 72 + width ≤ 120 → front * 2 ^ width + rest < 2 ^ 120
  joined-lt fits =
      let bits = octet_bits octets ++ bits_of width rest in
      let many : length bits ≤ 120 = omega (arith, length-append (octet_bits octets) (bits_of width rest), length-octet_bits octets, length-bits_of width rest, nine) in
      let sum : field_of bits ≡ field_of (octet_bits octets) * 2 ^ width + rest = appended (octet_bits octets) width rest small in
      let same : front * 2 ^ width + rest ≡ field_of bits = ap (λ n. n * 2 ^ width + rest) is ∙ sym sum in
      omega (arith, same, few_bits-lt bits 120 many)

-- the symbols from the twelfth on have the bits after nine octets
pub rest_bits : (symbols : List Sym) → 12 ≤ length symbols → symbol_bits (drop 12 symbols) ≡ drop 72 (symbol_bits symbols)
rest_bits symbols there =
    sym (ap (drop 72) (ap symbol_bits (sym (take-append-drop 12 symbols)) ∙ symbol_bits-append (take 12 symbols) (drop 12 symbols))
    ∙ drop_at (symbol_bits (take 12 symbols)) (symbol_bits (drop 12 symbols)) 72 (length-symbol_bits (take 12 symbols) ∙ ap (λ n. 6 * n) (length-take-le 12 symbols there)))

-- a field of a word is one of the number that the bits after its nine octets write
pub rest_field : (symbols : List Sym) (count at width rest : ℕ) → length symbols ≡ 12 + count → rest ≡ field_of (symbol_bits (part 12 count symbols)) → at + width ≤ 6 * count
    → rest / 2 ^ (6 * count - at - width) % 2 ^ width ≡ field_of (part (72 + at) width (symbol_bits symbols))
rest_field symbols count at width rest long is inside =
    let there : 12 ≤ length symbols = omega arith in
    let many : length (drop 12 symbols) ≡ count = omega (arith, length-drop 12 symbols) in
    let all : length (drop 12 symbols) ≤ count = omega arith in
    let last : rest ≡ field_of (symbol_bits (drop 12 symbols)) = is ∙ ap (λ xs. field_of (symbol_bits xs)) (take_all count (drop 12 symbols) all) in
    let bits : bits_of (6 * count) rest ≡ drop 72 (symbol_bits symbols) = symbols_bits (drop 12 symbols) count rest many last ∙ rest_bits symbols there in
    field_of-part at width (6 * count) rest inside ∙ ap (λ xs. field_of (part at width xs)) bits ∙ ap field_of (part-drop at width 72 (symbol_bits symbols))
