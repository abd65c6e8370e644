-- Laws of the Reed-Solomon codewords: their distance, and that the information determines the codeword.
use Rattle.std.specs.Prelude.{◌≡◌, ◌≢◌, ℕ, ◌+◌, ◌-◌, ◌*◌, ◌/◌, ◌<◌, ◌≤◌, List, length, take, drop}
use Rattle.std.proofs.{Common.{inl, inr, ap, ap₂, sym, ◌∙◌, arith, length-drop, take-append-drop}, lemmas.Bool.{cases_lt}}
use Rattle.std.proofs.lemmas.List.{ext_get_or, length-take-le}
use Rattle.p25_bits.specs.Distance.{distance_by}
use Rattle.p25_bits.proofs.DistanceLaws.{distance_by-append, distance_by-same, distance_by-le}
use Rattle.p25_gf64.specs.{declared.symbol.Sym.{Sym}, Gf64.{gf64}}
use Rattle.p25_gf64.proofs.FieldLaws.{add_zero, same_from_sum}
use Rattle.p25_algebra.specs.{Sums.{nonzeros, power_sum}, Series.{coefficient}}
use Rattle.p25_algebra.proofs.VanishingLaws.{vanishing}
use Rattle.p25_reed_solomon.specs.{Words.{IsCode, IsWord, same_symbols}, Errors.{element_of}, ValueLaws.{value-power_sum, front_value-add}}
use Rattle.p25_reed_solomon.specs.{ElementLaws.{elements_apart, element_ne_zero}, DistanceLaws.{distance-nonzeros, same_symbols-same}}

-- two codewords that differ in at most as many symbols as there are check symbols are equal
pub same_word : (n k : ℕ) → IsCode n k → (v w : List Sym) → IsWord n k v → IsWord n k w → distance_by same_symbols v w ≤ n - k → v ≡ w
same_word n k code v w first second near =
    let sum : ℕ → Sym = λ j. gf64.add (coefficient gf64 v j) (coefficient gf64 w j) in
    let weight = distance-nonzeros v w (first.long ∙ sym second.long) ∙ ap (λ m. nonzeros gf64 m sum) first.long in
    let few : nonzeros gf64 n sum ≤ n - k = omega (arith, weight) in
    let sums : (i : ℕ) → 1 ≤ i → i < 1 + (n - k) → power_sum gf64 n (element_of n) sum i ≡ gf64.zero
    = λ i low high.
    sym (value-power_sum n sum i)
    ∙ front_value-add n (coefficient gf64 v) (coefficient gf64 w) i
    ∙ ap₂ gf64.add (first.vanishes i low (omega arith)) (second.vanishes i low (omega arith))
    ∙ add_zero gf64 gf64.zero in
    let none = vanishing gf64 n (n - k) 1 (element_of n) sum (elements_apart n code.places) (λ j h. element_ne_zero n j) few sums in
    ext_get_or gf64.zero v w (first.long ∙ sym second.long)
    (λ j below. same_from_sum gf64 (coefficient gf64 v j) (coefficient gf64 w j) (none j (omega (arith, first.long))))

-- two different codewords differ in more symbols than there are check symbols
pub words_apart : (n k : ℕ) → IsCode n k → (v w : List Sym) → IsWord n k v → IsWord n k w → v ≢ w → n - k + 1 ≤ distance_by same_symbols v w
words_apart n k code v w first second other =
    elim (cases_lt (n - k) (distance_by same_symbols v w)) [
      | inl far ↦ omega arith
      | inr near ↦ absurd (other (same_word n k code v w first second near))
    ]

-- codewords with the same information are equal
pub one_word_of : (n k : ℕ) → IsCode n k → (v w : List Sym) → IsWord n k v → IsWord n k w → take k v ≡ take k w → v ≡ w
one_word_of n k code v w first second same =
    let long = length-take-le k v (omega (arith, code.shorter, first.long)) ∙ sym (length-take-le k w (omega (arith, code.shorter, second.long))) in
    let split =
    ap₂ (distance_by same_symbols) (sym (take-append-drop k v)) (sym (take-append-drop k w))
    ∙ distance_by-append same_symbols (take k v) (drop k v) (take k w) (drop k w) long in
    let front = ap (λ xs. distance_by same_symbols xs (take k w)) same ∙ distance_by-same same_symbols same_symbols-same (take k w) in
    same_word n k code v w first second (omega (arith, split, front, distance_by-le same_symbols (drop k v) (drop k w), length-drop k v, first.long))

-- a codeword has n symbols
pub length_of_word_of : (n k : ℕ) (word : List Sym) → IsWord n k word → length word ≡ n
length_of_word_of n k word is = is.long

-- twice the correction radius is below the distance
pub within_of : (n k : ℕ) → IsCode n k → 2 * ((n - k) / 2) < n - k + 1
within_of n k code = omega (arith, code.even)

-- the information is part of the codeword
pub begins_of : (n k : ℕ) → IsCode n k → k ≤ n
begins_of n k code = omega (arith, code.shorter)
