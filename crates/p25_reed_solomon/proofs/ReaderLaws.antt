-- The results of the decoder: the cost of a codeword is that of the errors between it and the received word, and errors that explain the syndromes
-- make a codeword.
use Rattle.std.proofs.{Common.{◌≡◌, ℕ, ◌+◌, ◌-◌, ◌*◌, ◌<◌, ◌≤◌, Bool, false, cond, List, length, take, replicate, All, refl, ap, ap₂, sym, ◌∙◌, arith}, lemmas.Bool.{cond_both}}
use Rattle.std.proofs.lemmas.List.{get_or-take, get_or-replicate, length-take, length-replicate}
use Rattle.p25_bits.specs.Distance.{distance_by}
use Rattle.p25_code.specs.Erasures.{without_erased, erased_cost}
use Rattle.p25_gf64.specs.{declared.symbol.Sym.{Sym}, Gf64.{gf64}}
use Rattle.p25_gf64.proofs.FieldLaws.{add_self, add_zero, add_twice}
use Rattle.p25_algebra.specs.{Sums.{nonzeros}, Series.{coefficient}}
use Rattle.p25_reed_solomon.specs.{Words.{IsCode, IsWord, value_of, same_symbols}, DistanceLaws.{distance-nonzeros}, Errors.{is_erased, erased_below, kept_errors, Explains}}
use Rattle.p25_reed_solomon.specs.ValueLaws.{value-power_sum, front_value-add, front_value_same}
use Rattle.p25_reed_solomon.proofs.{ErrorsLaws.{nonzeros_same, zeros_count}, CostLaws.{cost-errors}}

-- the errors between a received word and a word of the code that costs little explain the syndromes
pub difference_explains : (n k : ℕ) (received word syndromes : List Sym) (erased : List Bool) → IsCode n k → length received ≡ n → length erased ≡ n → IsWord n k word
    → ((r : ℕ) → r < n - k → coefficient gf64 syndromes r ≡ value_of n received (r + 1)) → erased_cost same_symbols (without_erased received erased) word ≤ n - k
    → Explains n (n - k) syndromes erased (λ j. gf64.add (coefficient gf64 received j) (coefficient gf64 word j))
difference_explains n k received word syndromes erased code long erasures of_code are near =
    record {
      few = omega (
        arith,
        (cost-errors received word erased (long ∙ sym of_code.long) (erasures ∙ sym long)
            ∙ ap (λ m. 2 * nonzeros gf64 m (kept_errors erased (λ j. gf64.add (coefficient gf64 received j) (coefficient gf64 word j))) + erased_below erased m) long),
      );
      sums = λ r below.
          cc (
            value-power_sum n _ (r + 1),
            front_value-add n (coefficient gf64 received) (coefficient gf64 word) (r + 1),
            of_code.vanishes (r + 1) (omega arith) (omega arith),
            add_zero gf64 (value_of n received (r + 1)),
            are r (omega arith),
          );
    }

-- the cost of the word that errors make
pub cost_of_errors : (n k : ℕ) (received word syndromes : List Sym) (erased : List Bool) (errors : ℕ → Sym)
    → length received ≡ n → length word ≡ n → length erased ≡ n → Explains n (n - k) syndromes erased errors
    → ((j : ℕ) → j < n → coefficient gf64 word j ≡ gf64.add (coefficient gf64 received j) (errors j)) → erased_cost same_symbols (without_erased received erased) word ≤ n - k
cost_of_errors n k received word syndromes erased errors long_received long erasures explains is =
    let sum : ℕ → Sym = λ j. gf64.add (coefficient gf64 received j) (coefficient gf64 word j) in
    omega (
      arith,
      (cost-errors received word erased (long_received ∙ sym long) (erasures ∙ sym long_received)
          ∙ ap (λ m. 2 * nonzeros gf64 m (kept_errors erased sum) + erased_below erased m) long_received),
      (nonzeros_same n (kept_errors erased sum) (kept_errors erased errors)
          (λ j low. ap (cond (is_erased erased j) gf64.zero) (simp (is, add_twice)))),
      explains.few,
    )

-- the cost of the received word, and of any word
pub cost_of_received : (n : ℕ) (received : List Sym) (erased : List Bool)
    → length received ≡ n → length erased ≡ n → erased_cost same_symbols (without_erased received erased) received ≡ erased_below erased n
cost_of_received n received erased long erasures =
    let sum : ℕ → Sym = λ j. gf64.add (coefficient gf64 received j) (coefficient gf64 received j) in
    omega (
      arith,
      cost-errors received received erased refl (erasures ∙ sym long) ∙ ap (λ m. 2 * nonzeros gf64 m (kept_errors erased sum) + erased_below erased m) long,
      zeros_count n (kept_errors erased sum)
          (λ j. cond_both (is_erased erased j) gf64.zero (sum j) (λ s. s ≡ gf64.zero) (λ here. refl) (λ kept. add_self gf64 (coefficient gf64 received j))),
    )

pub cost_of_erasures : (n : ℕ) (received word : List Sym) (erased : List Bool)
    → length received ≡ n → length word ≡ n → length erased ≡ n → erased_below erased n ≤ erased_cost same_symbols (without_erased received erased) word
cost_of_erasures n received word erased long_received long erasures =
    omega (arith, cost-errors, ap (erased_below erased) long_received)

-- errors that explain the syndromes change the received word into a codeword
pub corrected : (n k : ℕ) (received word syndromes : List Sym) (erased : List Bool) (errors : ℕ → Sym) → IsCode n k → length received ≡ n → length word ≡ n
    → ((r : ℕ) → r < n - k → coefficient gf64 syndromes r ≡ value_of n received (r + 1))
    → Explains n (n - k) syndromes erased errors → ((j : ℕ) → j < n → coefficient gf64 word j ≡ gf64.add (coefficient gf64 received j) (errors j))
    → IsWord n k word
corrected n k received word syndromes erased errors code long_received long are explains is =
    record {
      long = long;
      vanishes = λ i low high.
          let r = i - 1 in
          let place : r + 1 ≡ i = omega arith in
          front_value_same n (coefficient gf64 word) _ i is
          ∙ front_value-add n _ errors i
          ∙ ap₂ gf64.add (ap (value_of n received) (sym place) ∙ sym (are r (omega arith)))
          (cc (value-power_sum n errors i, place, explains.sums r (omega arith)))
          ∙ add_self gf64 _;
    }

-- as many letters changed as there are errors
pub changed_letters : (n : ℕ) (received word : List Sym) (errors : ℕ → Sym)
    → length received ≡ n → length word ≡ n → ((j : ℕ) → j < n → coefficient gf64 word j ≡ gf64.add (coefficient gf64 received j) (errors j))
    → distance_by same_symbols received word ≡ nonzeros gf64 n errors
changed_letters n received word errors long_received long is =
    cc (
      distance-nonzeros received word (long_received ∙ sym long),
      long_received,
      nonzeros_same n _ errors (λ j below. ap (gf64.add _) (is j below)
          ∙ add_twice gf64 _ (errors j)),
    )

-- a word whose syndromes are all zero vanishes at the powers of α from the first on
pub vanishes_at : (n checks : ℕ) (received : List Sym) → ((r : ℕ) → r < checks → value_of n received (r + 1) ≡ gf64.zero) → (i : ℕ) → 1 ≤ i → i ≤ checks → value_of n received i ≡ gf64.zero
vanishes_at n checks received zeros i low high =
    ap (value_of n received) (sym (omega arith)) ∙ zeros (i - 1) (omega arith)

-- a list without an erasure
pub no_erasures : (n : ℕ) → All (λ gone. gone ≡ false) (take n (replicate 63 false))
no_erasures n k d low = get_or-take n _ k d (omega (arith, length-take n (replicate 63 false)))
    ∙ get_or-replicate 63 k false d (omega (arith, length-take n (replicate 63 false), length-replicate 63 false))
