-- Symbols of the first of some bits, and groups of a list of the same length.
use Rattle.std.proofs.{Common.{◌≡◌, ℕ, ◌+◌, ◌-◌, ◌*◌, ◌<◌, ◌≤◌, Bool, List, length, take, drop, refl, sym, ◌∙◌, arith, add-one, length-drop}, Math.Nat.{mul-suc, mul-le-mul_left}}
use Rattle.std.proofs.lemmas.List.{length-take-le}
use Rattle.p25_bits.specs.Bits.{bits_of, field_of, part}
use Rattle.p25_bits.proofs.BitsLaws.{bits_of-field_of}
use Rattle.p25_bits.proofs.NumbersLaws.{numbers_from-take}
use Rattle.p25_gf64.specs.declared.symbol.Sym.{Sym}
use Rattle.p25_link.specs.Symbols.{symbols_in, symbol_bits}
use Rattle.p25_link.proofs.SymbolsLaws.{length-symbol_bits, number-symbols_in, same_symbols_list}

-- bits after those that are needed do not matter
pub symbols_in-take : (n count : ℕ) (bits : List Bool) → 6 * n ≤ count → 6 * n ≤ length bits → symbols_in n (take count bits) ≡ symbols_in n bits
symbols_in-take n count bits inside there =
    same_symbols_list _ (symbols_in n bits)
    (number-symbols_in n (take count bits) ∙ numbers_from-take 6 n count bits inside there ∙ sym (number-symbols_in n bits))

-- the information that symbols are, by the number that their bits write
pub symbols_info : (k number : ℕ) (symbols : List Sym) → number ≡ field_of (symbol_bits symbols) → 6 * length symbols ≡ k → bits_of k number ≡ symbol_bits symbols
symbols_info k number symbols is sixes = rw (is, ← sixes, ← length-symbol_bits symbols) (bits_of-field_of (symbol_bits symbols))

-- one group more
pub one_more : (each i : ℕ) → each * i + each ≡ each * (i + 1)
one_more each i = rw add-one (omega (arith, mul-suc))

-- a group within the count is there
pub room_at : (each i count n : ℕ) → i < count → each * count ≡ n → each * i + each ≤ n
room_at each i count n inside covers =
    let next : i + 1 ≤ count = omega arith in
    omega (arith, one_more, mul-le-mul_left each next)

-- a group as a range
pub group_is : {X : Type 0} (each group i : ℕ) (xs : List X) → each ≡ group → take (each * i + each - each * i) (drop (each * i) xs) ≡ part (group * i) group xs
group_is each group i xs same =
    let count : each * i + each - each * i ≡ each = omega arith in
    rw (count, same) refl

-- its length
pub length_group : {X : Type 0} (each i : ℕ) (xs : List X) → each * i + each ≤ length xs → length (take (each * i + each - each * i) (drop (each * i) xs)) ≡ each
length_group each i xs there =
    let count : each * i + each - each * i ≡ each = omega arith in
    rw count (length-take-le each _ (omega (arith, length-drop (each * i) xs)))
