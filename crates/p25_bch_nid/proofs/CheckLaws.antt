-- The table of remainders is right at each position: the checker computes each entry by doubling. A word's remainder is the sum of those of its
-- four-bit parts.
use Rattle.std.proofs.Common.{◌≡◌, ℕ, List, [], get_or, ◌+◌, ◌*◌, ◌/◌, ◌%◌, ◌^◌, ◌<◌, bit_xor, refl, ap, sym, ◌∙◌, subst, arith}
use Rattle.std.specs.Int.Bits.{xor_zero_r}
use Rattle.p25_bits.specs.{Divisible.{IsDivisible, IsRemainder}, Numbers.{each_below}}
use Rattle.p25_bits.proofs.{DivisibleLaws.{IsRemainder-unique, remainder_from_divisible, xor_apart}, DivisionLaws.{times_x, times_power, IsRemainder-sum, IsRemainder-times_power}}
use Rattle.p25_bits.proofs.NumbersLaws.{get_or-each_below}
use Rattle.p25_bch_nid.specs.{Bch63FormLaws.{generator_degree}, Nid.{generator}, declared.checks.TheConstants.{REMAINDERS}}

-- the table as the checker makes it
computed : List (List ℕ)
computed = each_below 4 (λ place. each_below 16 (λ v. times_power generator 47 (47 + 4 * place) v))

entries_computed : REMAINDERS ≡ computed
unfolding computed each_below times_power times_x
entries_computed = refl

pub entry-is : (place bits : ℕ) → place < 4 → bits < 16
    → IsRemainder generator 47 (bits * 2 ^ (47 + 4 * place)) (get_or (get_or REMAINDERS place []) bits 0)
unfolding computed
entry-is place bits low small =
    subst (IsRemainder generator 47 (bits * 2 ^ (47 + 4 * place)))
    (sym (cc (entries_computed, get_or-each_below 4 (λ p. each_below 16 (λ v. times_power generator 47 (47 + 4 * p) v)) place [] low, get_or-each_below 16 (λ v. times_power generator 47 (47 + 4 * place) v) bits 0 small)))
    (IsRemainder-times_power generator 47 (47 + 4 * place) bits generator_degree (omega arith))

-- the information is the sum of its four parts
pub parts-is : (information a b c d : ℕ) → information < 2 ^ 16
    → IsRemainder generator 47 (information / 4096 * 2 ^ (47 + 4 * 3)) a → IsRemainder generator 47 (information / 256 % 16 * 2 ^ (47 + 4 * 2)) b
    → IsRemainder generator 47 (information / 16 % 16 * 2 ^ (47 + 4 * 1)) c → IsRemainder generator 47 (information % 16 * 2 ^ (47 + 4 * 0)) d
    → IsRemainder generator 47 (information * 2 ^ 47) (bit_xor a (bit_xor b (bit_xor c d)))
parts-is information a b c d small first second third fourth =
    let n3 = information / 4096 in
    let n2 = information / 256 % 16 in
    let n1 = information / 16 % 16 in
    let n0 = information % 16 in
    let joined = ap (λ n. bit_xor (n3 * 2 ^ 59) (bit_xor (n2 * 2 ^ 55) n)) (xor_apart n1 51 (n0 * 2 ^ 47) (omega arith))
    ∙ ap (bit_xor _) (xor_apart n2 55 _ (omega arith))
    ∙ xor_apart n3 59 _ (omega arith)
    ∙ (omega arith) in
    simp joined at (IsRemainder-sum generator 47 (n3 * 2 ^ 59) _ a _ first (IsRemainder-sum generator 47 (n2 * 2 ^ 55) _ b _ second (IsRemainder-sum generator 47 (n1 * 2 ^ 51)
    (n0 * 2 ^ 47) c d third fourth)))

-- a word with the check bits of its information has the remainder 0
pub clean-is : (word checks : ℕ) → word < 2 ^ 63 → IsRemainder generator 47 (word / 2 ^ 47 * 2 ^ 47) checks → checks ≡ word % 2 ^ 47 → IsRemainder generator 47 word 0
clean-is word checks small is same =
    let joined = xor_apart (word / 2 ^ 47) 47 checks is.lower ∙ ap (λ n. word / 2 ^ 47 * 2 ^ 47 + n) same ∙ (omega arith) in
    remainder_from_divisible generator 47 word (simp joined at is.divisible)

-- and a word with the remainder 0 has them
pub checks-are : (word checks : ℕ) → word < 2 ^ 63 → IsRemainder generator 47 (word / 2 ^ 47 * 2 ^ 47) checks → IsRemainder generator 47 word 0 → checks ≡ word % 2 ^ 47
checks-are word checks small is clean =
    let low = word % 2 ^ 47 in
    let fits : low < 2 ^ 47 = omega arith in
    IsRemainder-unique generator 47 _ checks low generator_degree is (record {
      lower = fits;
      divisible = rw (xor_apart (word / 2 ^ 47) 47 low fits ∙ (omega arith)
          ∙ sym (xor_zero_r word)) clean.divisible;
    })
