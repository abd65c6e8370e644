-- The tables of the checks hold the remainders: the checker computes each entry by doubling. So the register is right after the bits of an octet, and
-- after a word of four.
use Rattle.std.proofs.{Common.{◌≡◌, ℕ, ◌+◌, ◌*◌, ◌/◌, ◌%◌, ◌^◌, ◌<◌, List, [], bit_xor, get_or, refl, ap, sym, ◌∙◌, subst, arith, lit<, lit≤}, lemmas.Nat.{xor_comm, xor_lt}}
use Rattle.std.specs.Int.Bits.{xor_assoc}
use Rattle.p25_bits.specs.{Divisible.{HasDegree, IsRemainder}, Numbers.{each_below}}
use Rattle.p25_bits.proofs.{NumbersLaws.{get_or-each_below}, DivisibleLaws.{IsRemainder-lower, xor_apart}}
use Rattle.p25_bits.proofs.DivisionLaws.{times_x, times_power, xor_times_power, IsRemainder-sum, IsRemainder-more, IsRemainder-times_power}
use Rattle.p25_crc.specs.{Checks.{block_divisor, header_divisor, packet_divisor}, Remainders.{AreRemainders}, Values.{packet_degree}, declared.remainders.TheConstants.{BLOCK, HEADER, PACKET}}

-- the tables as the checker makes them
unfoldable computed : ℕ → List (List ℕ)
computed divisor = each_below 4 (λ place. each_below 256 (λ v. times_power divisor 32 (32 + 8 * place) v))

AreRemainders-computed : (divisor : ℕ) (tables : List (List ℕ)) → HasDegree divisor 32 → tables ≡ computed divisor → AreRemainders divisor tables
unfolding AreRemainders computed
AreRemainders-computed divisor tables has same place v low small =
    let f : ℕ → List ℕ = λ p. each_below 256 (λ u. times_power divisor 32 (32 + 8 * p) u) in
    let entry : get_or (get_or tables place []) v 0 ≡ times_power divisor 32 (32 + 8 * place) v
    = ap (λ (t : List (List ℕ)). get_or (get_or t place []) v 0) same
    ∙ ap (λ (t : List ℕ). get_or t v 0) (get_or-each_below 4 f place [] low)
    ∙ get_or-each_below 256 (λ u. times_power divisor 32 (32 + 8 * place) u) v 0 small in
    let fits : v < 2 ^ 32 = omega arith in
    subst (IsRemainder divisor 32 (v * 2 ^ (32 + 8 * place))) (sym entry) (IsRemainder-times_power divisor 32 (32 + 8 * place) v has fits)

-- the checker makes the tables of the code
block_computed : BLOCK ≡ computed (block_divisor * 2 ^ 23)
unfolding computed each_below times_power times_x
block_computed = refl

header_computed : HEADER ≡ computed (header_divisor * 2 ^ 16)
unfolding computed each_below times_power times_x
header_computed = refl

packet_computed : PACKET ≡ computed packet_divisor
unfolding computed each_below times_power times_x
packet_computed = refl

pub block_remainders : AreRemainders (block_divisor * 2 ^ 23) BLOCK
block_remainders = AreRemainders-computed (block_divisor * 2 ^ 23) BLOCK (record { highest = lit≤ tt; none_above = lit< tt }) block_computed

pub header_remainders : AreRemainders (header_divisor * 2 ^ 16) HEADER
header_remainders = AreRemainders-computed (header_divisor * 2 ^ 16) HEADER (record { highest = lit≤ tt; none_above = lit< tt }) header_computed

pub packet_remainders : AreRemainders packet_divisor PACKET
packet_remainders = AreRemainders-computed packet_divisor PACKET packet_degree packet_computed

-- an entry of the table with an index
abbrev entry : List (List ℕ) → ℕ → ℕ → ℕ
entry tables place v = get_or (get_or tables place []) v 0

module _ (divisor : ℕ) (tables : List (List ℕ)) (are : AreRemainders divisor tables) where
  -- the contents of the tables
  entry-is : (place v : ℕ) → place < 4 → v < 256 → IsRemainder divisor 32 (v * 2 ^ (32 + 8 * place)) (entry tables place v)
  unfolding AreRemainders
  entry-is = are

  -- one octet more: the eight highest bits of the register leave it
  pub octet_taken : (before register octet : ℕ) → register < 2 ^ 32 → octet < 2 ^ 8 → IsRemainder divisor 32 (before * 2 ^ 32) register
      → IsRemainder divisor 32 ((before * 2 ^ 8 + octet) * 2 ^ 32) (bit_xor (register * 2 ^ 8 % 2 ^ 32) (get_or (get_or tables 0 []) (bit_xor (register / 2 ^ 24) octet) 0))
  octet_taken before register octet fits small is =
      let high = register / 2 ^ 24 in
      let low = register * 2 ^ 8 % 2 ^ 32 in
      let low_fits : low < 2 ^ 32 = omega arith in
      let high_fits : high < 2 ^ 8 = omega arith in
      let both : high * 2 ^ 32 + low ≡ register * 2 ^ 8 = omega arith in
      let same : bit_xor low (bit_xor high octet * 2 ^ 32) ≡ bit_xor (register * 2 ^ 8) (octet * 2 ^ 32)
      = ap (bit_xor low) (sym (xor_times_power high octet 32))
      ∙ sym (xor_assoc low (high * 2 ^ 32) (octet * 2 ^ 32))
      ∙ ap (λ n. bit_xor n (octet * 2 ^ 32)) (xor_comm low (high * 2 ^ 32) ∙ xor_apart high 32 low low_fits ∙ both) in
      let first : 0 < 4 = omega arith in
      IsRemainder-more divisor 32 before 8 octet 32 register _ small is
      (subst (λ n. IsRemainder divisor 32 n (bit_xor low (entry tables 0 (bit_xor high octet)))) same
      (IsRemainder-sum divisor 32 low _ low _ (IsRemainder-lower divisor 32 low low_fits) (entry-is 0 (bit_xor high octet) first (xor_lt 8 high octet high_fits small))))

  -- the remainder of a word of four octets is the sum of theirs
  word_remainder : (word : ℕ) → word < 2 ^ 32
      → IsRemainder divisor 32 (word * 2 ^ 32) (bit_xor (entry tables 3 (word / 2 ^ 24))
      (bit_xor (entry tables 2 (word / 2 ^ 16 % 2 ^ 8)) (bit_xor (entry tables 1 (word / 2 ^ 8 % 2 ^ 8)) (entry tables 0 (word % 2 ^ 8)))))
  word_remainder word fits =
      let a = word / 2 ^ 24 in
      let b = word / 2 ^ 16 % 2 ^ 8 in
      let c = word / 2 ^ 8 % 2 ^ 8 in
      let d = word % 2 ^ 8 in
      let a_fits : a < 256 = omega arith in
      let b_fits : b < 256 = omega arith in
      let c_fits : c < 256 = omega arith in
      let d_fits : d < 256 = omega arith in
      let low : d * 2 ^ 32 < 2 ^ 40 = omega arith in
      let middle : c * 2 ^ 40 + d * 2 ^ 32 < 2 ^ 48 = omega arith in
      let high : b * 2 ^ 48 + (c * 2 ^ 40 + d * 2 ^ 32) < 2 ^ 56 = omega arith in
      let whole : a * 2 ^ 56 + (b * 2 ^ 48 + (c * 2 ^ 40 + d * 2 ^ 32)) ≡ word * 2 ^ 32 = omega arith in
      let joined : bit_xor (a * 2 ^ 56) (bit_xor (b * 2 ^ 48) (bit_xor (c * 2 ^ 40) (d * 2 ^ 32))) ≡ word * 2 ^ 32
      = ap (λ n. bit_xor (a * 2 ^ 56) (bit_xor (b * 2 ^ 48) n)) (xor_apart c 40 (d * 2 ^ 32) low)
      ∙ ap (bit_xor (a * 2 ^ 56)) (xor_apart b 48 (c * 2 ^ 40 + d * 2 ^ 32) middle)
      ∙ xor_apart a 56 (b * 2 ^ 48 + (c * 2 ^ 40 + d * 2 ^ 32)) high
      ∙ whole in
      let third : 3 < 4 = omega arith in
      let second : 2 < 4 = omega arith in
      let first : 1 < 4 = omega arith in
      let none : 0 < 4 = omega arith in
      subst (λ n. IsRemainder divisor 32 n (bit_xor (entry tables 3 a) (bit_xor (entry tables 2 b) (bit_xor (entry tables 1 c) (entry tables 0 d))))) joined
      (IsRemainder-sum divisor 32 _ _ _ _ (entry-is 3 a third a_fits)
      (IsRemainder-sum divisor 32 _ _ _ _ (entry-is 2 b second b_fits)
      (IsRemainder-sum divisor 32 _ _ _ _ (entry-is 1 c first c_fits) (entry-is 0 d none d_fits))))

  -- a word more: all that was in the register leaves it
  pub word_taken : (before register word : ℕ) → register < 2 ^ 32 → word < 2 ^ 32 → IsRemainder divisor 32 (before * 2 ^ 32) register → (sum : ℕ) → sum ≡ bit_xor register word
      → IsRemainder divisor 32 ((before * 2 ^ 32 + word) * 2 ^ 32)
      (bit_xor (get_or (get_or tables 3 []) (sum / 2 ^ 24) 0)
      (bit_xor (get_or (get_or tables 2 []) (sum / 2 ^ 16 % 2 ^ 8) 0)
      (bit_xor (get_or (get_or tables 1 []) (sum / 2 ^ 8 % 2 ^ 8) 0) (get_or (get_or tables 0 []) (sum % 2 ^ 8) 0))))
  word_taken before register word fits small is sum e =
      let sum_fits : sum < 2 ^ 32 = subst (λ n. n < 2 ^ 32) (sym e) (xor_lt 32 register word fits small) in
      let same : sum * 2 ^ 32 ≡ bit_xor (register * 2 ^ 32) (word * 2 ^ 32) = ap (λ n. n * 2 ^ 32) e ∙ sym (xor_times_power register word 32) in
      let made = bit_xor (entry tables 3 (sum / 2 ^ 24)) (bit_xor (entry tables 2 (sum / 2 ^ 16 % 2 ^ 8)) (bit_xor (entry tables 1 (sum / 2 ^ 8 % 2 ^ 8)) (entry tables 0 (sum % 2 ^ 8)))) in
      IsRemainder-more divisor 32 before 32 word 32 register made small is (subst (λ n. IsRemainder divisor 32 n made) same (word_remainder sum sum_fits))
