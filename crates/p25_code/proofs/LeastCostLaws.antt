-- The costs of pairs of bits. A cost is a sum over parts of a word, so that of a word of 24 bits is one over its groups of six. Bits before a word
-- whose pairs cost nothing change no cost. A word whose pairs each cost less than any other value of the pair costs less than any other list.
use Rattle.std.proofs.Common.{◌≡◌, ◌≢◌, ℕ, zero, suc, ◌+◌, ◌-◌, ◌*◌, ◌/◌, ◌%◌, ◌^◌, ◌<◌, ◌≤◌, ◌⊎◌, inl, inr, Bool, true, false, List, [], ◌∷◌, ◌++◌, length, take, drop, replicate, get_or, refl, ap, ap₂, sym, ◌∙◌, subst, arith, length-append, length-drop, mod-eq_of_lt}
use Rattle.std.proofs.{Math.Nat.{mul-le-mul_left, mul-add, pow-le-pow_right}, lemmas.Bool.{cases_lt}, lemmas.Nat.{shl_whole}}
use borrow.Rule.Slice.PartMut.{put_mid}
use Rattle.std.proofs.{Math.ListN.{drop_of_length-le}, Math.Seq.{drop-append_seam}, lemmas.List.{take-replicate, append-nil, drop-drop, get_or-drop, length-replicate, length-take-le, take-append-drop}}
use Rattle.std.specs.Bool.{beq}
use Rattle.p25_bits.specs.{Bits.{bits_of, digit_of, field_of, field_after}, Distance.{distance_of}}
use Rattle.p25_bits.proofs.BitsLaws.{length-bits_of, bits_of-add, bits_of-above, bits_of-mod, bits_of-field_of, bits_of-joined, field_of-bits_of, field_of-lt, take-bits_of}
use Rattle.p25_bits.proofs.DistanceLaws.{distance_by-append, distance_by-nil, distance_of-same, same_from_distance_of}
use Rattle.p25_bits.specs.Least.{IsLowestLeast}
use Rattle.p25_bits.proofs.LeastLaws.{lowest_least-alone}
use Rattle.p25_code.specs.Words.{IsEncoding}
use Rattle.p25_code.specs.LeastCost.{pairs_cost, information_cost, cheapest_information, IsAlone, IsCheapest, IsSpread, IsSumTable}

-- powers of two rise
pub power-le : (i j : ℕ) → i ≤ j → 2 ^ i ≤ 2 ^ j
power-le i j less = let some : 0 < 2 = omega arith in pow-le-pow_right some less

-- as many numbers as a code has informations, as a shift
pub one_shifted : (places k : ℕ) → places ≡ k → k ≤ 24 → 1 * 2 ^ places % 2 ^ 32 ≡ 2 ^ k
one_shifted places k same few =
    let one : 1 < 2 ^ 1 = omega arith in
    let whole : 1 * 2 ^ k ≡ 2 ^ k = omega arith in
    ap (λ m. 1 * 2 ^ m % 2 ^ 32) same ∙ shl_whole 1 1 k 32 one (omega arith) ∙ whole

-- two parts of a word
pub pairs_cost-append : (n : ℕ) (costs : List ℕ) (xs ys : List Bool) → length xs ≡ 2 * n
    → pairs_cost costs (xs ++ ys) ≡ pairs_cost costs xs + pairs_cost (drop (4 * n) costs) ys
unfolding pairs_cost
pairs_cost-append zero costs [] ys even = omega arith
pairs_cost-append zero costs (x ∷ xs) ys even = absurd (omega arith)
pairs_cost-append (suc n) costs [] ys even = absurd (omega arith)
pairs_cost-append (suc n) costs (x ∷ []) ys even = absurd (omega arith)
pairs_cost-append (suc n) costs (high ∷ low ∷ xs) ys even =
    let rest : length xs ≡ 2 * n = omega arith in
    let next : 4 + 4 * n ≡ 4 * suc n = omega arith in
    let behind : pairs_cost (drop (4 * n) (drop 4 costs)) ys ≡ pairs_cost (drop (4 * suc n) costs) ys
    = ap (λ cs. pairs_cost cs ys) (drop-drop (4 * n) 4 costs ∙ ap (λ m. drop m costs) next) in
    omega (arith, pairs_cost-append n (drop 4 costs) xs ys rest, behind)

-- the first two of the bits of a number, as the number of a pair
first_pair : (w v : ℕ) (high low : Bool) (bits : List Bool) → bits_of (suc (suc w)) v ≡ high ∷ low ∷ bits → 2 * digit_of high + digit_of low ≡ v / 2 ^ w % 4
unfolding field_of field_after
first_pair w v high low bits is =
    let width : suc (suc w) - 2 ≡ w = omega arith in
    let two : high ∷ low ∷ [] ≡ bits_of 2 (v / 2 ^ w)
    = sym (ap (take 2) is) ∙ take-bits_of 2 (suc (suc w)) v (omega arith) ∙ ap (λ m. bits_of 2 (v / 2 ^ m)) width in
    let number : field_of (high ∷ low ∷ []) ≡ v / 2 ^ w % 4 = ap field_of two ∙ field_of-bits_of 2 (v / 2 ^ w) in
    omega arith

-- the bits of a number, a pair at a time
pub pairs_cost-bits : (w v : ℕ) (costs : List ℕ) → pairs_cost costs (bits_of (suc (suc w)) v) ≡ get_or costs (v / 2 ^ w % 4) 0 + pairs_cost (drop 4 costs) (bits_of w v)
unfolding pairs_cost bits_of
pairs_cost-bits w v costs = ap (λ i. get_or costs i 0 + pairs_cost (drop 4 costs) (bits_of w v)) (first_pair w v _ _ (bits_of w v) refl)

-- two bits
pub pairs_cost-two : (v : ℕ) (costs : List ℕ) → v < 4 → pairs_cost costs (bits_of 2 v) ≡ get_or costs v 0
unfolding pairs_cost bits_of
pairs_cost-two v costs small =
    let value : v / 2 ^ 0 % 4 ≡ v = omega arith in
    ap (λ i. get_or costs i 0 + 0) (first_pair 0 v _ _ [] refl ∙ value) ∙ omega arith

-- no bits cost nothing
no_cost : (costs : List ℕ) (v : ℕ) → pairs_cost costs (bits_of 0 v) ≡ 0
unfolding pairs_cost bits_of
no_cost costs v = refl

-- six bits
pub pairs_cost-six : (v : ℕ) (costs : List ℕ) → pairs_cost costs (bits_of 6 v) ≡ get_or costs (v / 16 % 4) 0 + get_or costs (4 + v / 4 % 4) 0 + get_or costs (8 + v % 4) 0
pairs_cost-six v costs =
    let none : pairs_cost (drop 4 (drop 4 (drop 4 costs))) (bits_of 0 v) ≡ 0 = no_cost (drop 4 (drop 4 (drop 4 costs))) v in
    let value : v / 2 ^ 0 % 4 ≡ v % 4 = ap (λ m. m % 4) (omega arith) in
    let second : get_or (drop 4 costs) (v / 2 ^ 2 % 4) 0 ≡ get_or costs (4 + v / 4 % 4) 0 = get_or-drop 4 costs (v / 4 % 4) 0 in
    let third : get_or (drop 4 (drop 4 costs)) (v / 2 ^ 0 % 4) 0 ≡ get_or costs (8 + v % 4) 0
    = ap₂ (λ cs i. get_or cs i 0) (drop-drop 4 4 costs) value ∙ get_or-drop 8 costs (v % 4) 0 in
    omega (arith, pairs_cost-bits 4 v costs, pairs_cost-bits 2 v (drop 4 costs), pairs_cost-bits 0 v (drop 4 (drop 4 costs)), none, second, third)

-- a word of 24 bits by its groups of six
pub pairs_cost-groups : (word : ℕ) (costs : List ℕ) → pairs_cost costs (bits_of 24 word)
    ≡ pairs_cost costs (bits_of 6 (word / 2 ^ 18)) + pairs_cost (drop 12 costs) (bits_of 6 (word / 2 ^ 12))
    + pairs_cost (drop 24 costs) (bits_of 6 (word / 2 ^ 6)) + pairs_cost (drop 36 costs) (bits_of 6 word)
pairs_cost-groups word costs =
    let first : pairs_cost costs (bits_of 24 word) ≡ pairs_cost costs (bits_of 6 (word / 2 ^ 18)) + pairs_cost (drop 12 costs) (bits_of 18 word) = split 18 costs in
    let second : pairs_cost (drop 12 costs) (bits_of 18 word) ≡ pairs_cost (drop 12 costs) (bits_of 6 (word / 2 ^ 12)) + pairs_cost (drop 24 costs) (bits_of 12 word)
    = split 12 (drop 12 costs) ∙ ap (λ cs. pairs_cost (drop 12 costs) (bits_of 6 (word / 2 ^ 12)) + pairs_cost cs (bits_of 12 word)) (drop-drop 12 12 costs) in
    let third : pairs_cost (drop 24 costs) (bits_of 12 word) ≡ pairs_cost (drop 24 costs) (bits_of 6 (word / 2 ^ 6)) + pairs_cost (drop 36 costs) (bits_of 6 word)
    = split 6 (drop 24 costs) ∙ ap (λ cs. pairs_cost (drop 24 costs) (bits_of 6 (word / 2 ^ 6)) + pairs_cost cs (bits_of 6 word)) (drop-drop 12 24 costs) in
    omega arith
  where
    split : (low : ℕ) (cs : List ℕ) → pairs_cost cs (bits_of (6 + low) word) ≡ pairs_cost cs (bits_of 6 (word / 2 ^ low)) + pairs_cost (drop 12 cs) (bits_of low word)
    split low cs = ap (pairs_cost cs) (bits_of-add 6 low word) ∙ pairs_cost-append 3 cs (bits_of 6 (word / 2 ^ low)) (bits_of low word) (length-bits_of 6 (word / 2 ^ low))

-- a group by its index in the table
pub group_at : (g v : ℕ) (costs : List ℕ) → pairs_cost (drop (12 * ((64 * g + v % 64) / 64)) costs) (bits_of 6 (64 * g + v % 64)) ≡ pairs_cost (drop (12 * g) costs) (bits_of 6 v)
group_at g v costs =
    let place : (64 * g + v % 64) / 64 ≡ g = omega arith in
    let turned : 64 * g + v % 64 ≡ g * 2 ^ 6 + v % 2 ^ 6 = omega arith in
    let bits : bits_of 6 (64 * g + v % 64) ≡ bits_of 6 v = ap (bits_of 6) turned ∙ bits_of-above 6 6 g (v % 2 ^ 6) (omega arith) ∙ bits_of-mod 6 v in
    ap₂ (λ n bs. pairs_cost (drop (12 * n) costs) bs) place bits

-- pairs that cost nothing
zeros_cost : (n : ℕ) (costs : List ℕ) (xs : List Bool) → length xs ≡ 2 * n → pairs_cost (replicate (4 * n) 0 ++ costs) xs ≡ 0
unfolding pairs_cost
zeros_cost zero costs [] even = refl
zeros_cost zero costs (x ∷ xs) even = absurd (omega arith)
zeros_cost (suc n) costs [] even = absurd (omega arith)
zeros_cost (suc n) costs (x ∷ []) even = absurd (omega arith)
zeros_cost (suc n) costs (high ∷ low ∷ xs) even =
    let rest : length xs ≡ 2 * n = omega arith in
    let next : 4 * suc n ≡ suc (suc (suc (suc (4 * n)))) = omega arith in
    ap (λ m. pairs_cost (replicate m 0 ++ costs) (high ∷ low ∷ xs)) next ∙ ap₂ ◌+◌ (none high low (replicate (4 * n) 0 ++ costs)) (zeros_cost n costs xs rest)
  where
    none : (h l : Bool) (cs : List ℕ) → get_or (0 ∷ 0 ∷ 0 ∷ 0 ∷ cs) (2 * digit_of h + digit_of l) 0 ≡ 0
    none true true cs = refl
    none true false cs = refl
    none false true cs = refl
    none false false cs = refl

-- bits before a word whose pairs cost nothing
pub pairs_cost-padded : (n pairs word : ℕ) (costs : List ℕ) → n ≤ 24 → 2 * pairs ≡ n → length costs ≡ 2 * n
    → pairs_cost (replicate (48 - length costs) 0 ++ costs) (bits_of 24 word) ≡ pairs_cost costs (bits_of n word)
pairs_cost-padded n pairs word costs few even long =
    let before = 12 - pairs in
    let zeros : 48 - length costs ≡ 4 * before = omega arith in
    let width : 24 - n + n ≡ 24 = omega arith in
    let bits : bits_of 24 word ≡ bits_of (24 - n) (word / 2 ^ n) ++ bits_of n word = ap (λ m. bits_of m word) (sym width) ∙ bits_of-add (24 - n) n word in
    let front : length (bits_of (24 - n) (word / 2 ^ n)) ≡ 2 * before = length-bits_of (24 - n) (word / 2 ^ n) ∙ omega arith in
    let behind : drop (4 * before) (replicate (4 * before) 0 ++ costs) ≡ costs
    = ap (λ m. drop m (replicate (4 * before) 0 ++ costs)) (sym (length-replicate (4 * before) 0)) ∙ drop-append_seam (replicate (4 * before) 0) costs in
    ap₂ (λ m bs. pairs_cost (replicate m 0 ++ costs) bs) zeros bits
    ∙ pairs_cost-append before (replicate (4 * before) 0 ++ costs) (bits_of (24 - n) (word / 2 ^ n)) (bits_of n word) front
    ∙ ap₂ ◌+◌ (zeros_cost before costs (bits_of (24 - n) (word / 2 ^ n)) front) (ap (λ cs. pairs_cost cs (bits_of n word)) behind)
    ∙ omega arith

-- the array of these costs, after costs were copied to the end of 48 zeros
pub padded_is : (n : ℕ) (zeros ys costs : List ℕ) → zeros ≡ replicate 48 0 → n ≤ 48 → ys ≡ costs
    → put_mid (48 - n) (48 - (48 - n)) zeros ys ≡ replicate (48 - n) 0 ++ costs
padded_is n zeros ys costs are few same =
    let front : take (48 - n) zeros ≡ replicate (48 - n) 0 = ap (take (48 - n)) are ∙ take-replicate (48 - n) 48 0 (omega arith) in
    let long : length (drop (48 - n) zeros) ≤ 48 - (48 - n) = omega (arith, length-drop (48 - n) zeros, ap length are, length-replicate {A = ℕ} 48 0) in
    ap₂ ◌++◌ front (ap₂ ◌++◌ same (drop_of_length-le (drop (48 - n) zeros) long) ∙ append-nil costs)

-- a word by the table
pub table_cost : (n pairs word : ℕ) (costs sums : List ℕ) → n ≤ 24 → 2 * pairs ≡ n → length costs ≡ 2 * n → word < 2 ^ n → IsSumTable costs sums
    → get_or sums (word / 262144) 0 + get_or sums (64 + word / 4096 % 64) 0 + get_or sums (128 + word / 64 % 64) 0 + get_or sums (192 + word % 64) 0
    ≡ pairs_cost costs (bits_of n word)
table_cost n pairs word costs sums few even long fits table =
    let all = replicate (48 - length costs) 0 ++ costs in
    let below : word < 2 ^ 24 = omega (arith, fits, power-le n 24 few) in
    let high : word / 262144 ≡ 64 * 0 + word / 262144 % 64 = omega arith in
    let entry : (g v : ℕ) → g < 4 → get_or sums (64 * g + v % 64) 0 ≡ pairs_cost (drop (12 * g) all) (bits_of 6 v)
    = λ g v small. table.at (64 * g + v % 64) (omega arith) ∙ group_at g v all in
    let first : get_or sums (word / 262144) 0 ≡ pairs_cost all (bits_of 6 (word / 2 ^ 18))
    = ap (λ i. get_or sums i 0) high ∙ entry 0 (word / 262144) (omega arith) in
    omega (
      arith,
      first,
      entry 1 (word / 4096) (omega arith),
      entry 2 (word / 64) (omega arith),
      entry 3 word (omega arith),
      pairs_cost-groups word all,
      pairs_cost-padded n pairs word costs few even long,
    )

-- two lists of bits are one or they differ
pub same_or_other : (xs ys : List Bool) → length xs ≡ length ys → (xs ≡ ys) ⊎ (xs ≢ ys)
same_or_other xs ys long = elim (cases_lt 0 (distance_of xs ys)) [
  | inl apart ↦ inr (λ same. absurd (omega (arith, ap (distance_of xs) (sym same), distance_of-same xs)))
  | inr near ↦ inl (same_from_distance_of xs ys long (omega arith))
]

-- no list costs less than bits that cost less than any others
pub alone-le : (costs : List ℕ) (bits other : List Bool) → IsAlone costs bits → length other ≡ length bits → pairs_cost costs bits ≤ pairs_cost costs other
alone-le costs bits other alone long = elim (same_or_other other bits long) [
  | inl same ↦ omega (arith, ap (pairs_cost costs) same)
  | inr differ ↦ omega (arith, alone.dearer other long differ)
]

-- no bits
pub alone_none : (costs : List ℕ) → IsAlone costs (bits_of 0 0)
unfolding bits_of
alone_none costs = record { dearer = λ other long differ. absurd (differ (empty other long)) }
  where
    empty : (xs : List Bool) → length xs ≡ 0 → xs ≡ []
    empty [] long = refl
    empty (x ∷ xs) long = absurd (omega arith)

-- two parts of which each costs less than any other
alone-append : (n : ℕ) (costs : List ℕ) (xs ys : List Bool) → length xs ≡ 2 * n → IsAlone costs xs → IsAlone (drop (4 * n) costs) ys → IsAlone costs (xs ++ ys)
alone-append n costs xs ys even first second = record { dearer = dearer }
  where
    dearer : (other : List Bool) → length other ≡ length (xs ++ ys) → ¬ (other ≡ xs ++ ys) → pairs_cost costs (xs ++ ys) < pairs_cost costs other
    dearer other long differ =
        let whole : length other ≡ length xs + length ys = omega (arith, length-append xs ys) in
        let front = take (length xs) other in
        let back = drop (length xs) other in
        let fits : length xs ≤ length other = omega arith in
        let front_long : length front ≡ length xs = length-take-le (length xs) other fits in
        let back_long : length back ≡ length ys = omega (arith, length-drop (length xs) other) in
        let joined : front ++ back ≡ other = take-append-drop (length xs) other in
        let sum : pairs_cost costs other ≡ pairs_cost costs front + pairs_cost (drop (4 * n) costs) back
        = ap (pairs_cost costs) (sym joined) ∙ pairs_cost-append n costs front back (front_long ∙ even) in
        let own = pairs_cost-append n costs xs ys even in
        elim (same_or_other front xs front_long) [
          | inl same ↦
              let other_back : back ≢ ys = λ e. differ (sym joined ∙ ap₂ ◌++◌ same e) in
              omega (arith, ap (pairs_cost costs) same, second.dearer back back_long other_back)
          | inr other_front ↦ omega (arith, first.dearer front front_long other_front, alone-le (drop (4 * n) costs) ys back second back_long)
        ]

-- a pair whose value costs less than any other
alone_pair : (value : ℕ) (costs : List ℕ) → value < 4 → ((j : ℕ) → j < 4 → j ≢ value → get_or costs value 0 < get_or costs j 0) → IsAlone costs (bits_of 2 value)
alone_pair value costs small less = record { dearer = dearer }
  where
    dearer : (other : List Bool) → length other ≡ length (bits_of 2 value) → ¬ (other ≡ bits_of 2 value) → pairs_cost costs (bits_of 2 value) < pairs_cost costs other
    dearer other long differ =
        let two : length other ≡ 2 = long ∙ length-bits_of 2 value in
        let number = field_of other in
        let below : number < 4 = subst (λ m. number < 2 ^ m) two (field_of-lt other) in
        let bits : bits_of 2 number ≡ other = ap (λ m. bits_of m number) (sym two) ∙ bits_of-field_of other in
        let apart : number ≢ value = λ e. differ (sym bits ∙ ap (bits_of 2) e) in
        omega (arith, less number below apart, pairs_cost-two value costs small, pairs_cost-two number costs below, ap (pairs_cost costs) bits)

-- one pair more
pub alone-more : (i word value : ℕ) (costs : List ℕ) → value < 4 → ((j : ℕ) → j < 4 → j ≢ value → get_or (drop (4 * i) costs) value 0 < get_or (drop (4 * i) costs) j 0)
    → IsAlone costs (bits_of (2 * i) word) → IsAlone costs (bits_of (2 * (i + 1)) (4 * word + value))
alone-more i word value costs small less before =
    let width : 2 * (i + 1) ≡ 2 * i + 2 = omega arith in
    let number : 4 * word + value ≡ word * 2 ^ 2 + value = omega arith in
    let bits : bits_of (2 * (i + 1)) (4 * word + value) ≡ bits_of (2 * i) word ++ bits_of 2 value
    = ap₂ bits_of width number ∙ bits_of-joined (2 * i) 2 word value small in
    subst (IsAlone costs) (sym bits)
    (alone-append i costs (bits_of (2 * i) word) (bits_of 2 value) (length-bits_of (2 * i) word) before (alone_pair value (drop (4 * i) costs) small less))

-- the bits of the number of a pair
two_bits : (h l : Bool) → bits_of 2 (2 * digit_of h + digit_of l) ≡ h ∷ l ∷ []
unfolding bits_of
two_bits true true = refl
two_bits true false = refl
two_bits false true = refl
two_bits false false = refl

-- costs that separate pairs of bits separate words
pub spread-words : (margin n : ℕ) (costs : List ℕ) (xs ys : List Bool) → length xs ≡ 2 * n → length ys ≡ 2 * n → IsSpread margin n costs
    → 2 * (margin * distance_of xs ys) ≤ pairs_cost costs xs + pairs_cost costs ys
unfolding pairs_cost
spread-words margin zero costs [] ys long_x long_y spread = omega (arith, ap (λ m. margin * m) (distance_by-nil beq ys))
spread-words margin zero costs (x ∷ xs) ys long_x long_y spread = absurd (omega arith)
spread-words margin (suc n) costs [] ys long_x long_y spread = absurd (omega arith)
spread-words margin (suc n) costs (x ∷ []) ys long_x long_y spread = absurd (omega arith)
spread-words margin (suc n) costs (a ∷ b ∷ xs) [] long_x long_y spread = absurd (omega arith)
spread-words margin (suc n) costs (a ∷ b ∷ xs) (c ∷ []) long_x long_y spread = absurd (omega arith)
spread-words margin (suc n) costs (a ∷ b ∷ xs) (c ∷ d ∷ ys) long_x long_y spread =
    let s = 2 * digit_of a + digit_of b in
    let t = 2 * digit_of c + digit_of d in
    let small_s : s < 4 = two_lt a b in
    let small_t : t < 4 = two_lt c d in
    let first : 2 * (margin * distance_of (bits_of 2 s) (bits_of 2 t)) ≤ get_or costs s 0 + get_or costs t 0 = omega (arith, spread.apart 0 s t (omega arith) small_s small_t, from_first s, from_first t) in
    let rest = spread-words margin n (drop 4 costs) xs ys (omega arith) (omega arith) (record { apart = λ i u v inside less_u less_v. next i u v inside less_u less_v }) in
    let split : distance_of (a ∷ b ∷ xs) (c ∷ d ∷ ys) ≡ distance_of (bits_of 2 s) (bits_of 2 t) + distance_of xs ys
    = distance_by-append beq (a ∷ b ∷ []) xs (c ∷ d ∷ []) ys refl ∙ ap₂ (λ (us vs : List Bool). distance_of us vs + distance_of xs ys) (sym (two_bits a b)) (sym (two_bits c d)) in
    let product : margin * distance_of (a ∷ b ∷ xs) (c ∷ d ∷ ys) ≡ margin * distance_of (bits_of 2 s) (bits_of 2 t) + margin * distance_of xs ys
    = ap (λ m. margin * m) split ∙ mul-add margin (distance_of (bits_of 2 s) (bits_of 2 t)) (distance_of xs ys) in
    omega arith
  where
    two_lt : (h l : Bool) → 2 * digit_of h + digit_of l < 4
    two_lt true true = omega arith
    two_lt true false = omega arith
    two_lt false true = omega arith
    two_lt false false = omega arith

    from_first : (w : ℕ) → get_or costs (4 * 0 + w) 0 ≡ get_or costs w 0
    from_first w = ap (λ m. get_or costs m 0) (omega arith)

    next : (i u v : ℕ) → i < n → u < 4 → v < 4 → 2 * (margin * distance_of (bits_of 2 u) (bits_of 2 v)) ≤ get_or (drop 4 costs) (4 * i + u) 0 + get_or (drop 4 costs) (4 * i + v) 0
    next i u v inside less_u less_v =
        let place : (w : ℕ) → get_or (drop 4 costs) (4 * i + w) 0 ≡ get_or costs (4 * suc i + w) 0
        = λ w. get_or-drop 4 costs (4 * i + w) 0 ∙ ap (λ m. get_or costs m 0) (omega arith) in
        omega (arith, spread.apart (suc i) u v (omega arith) less_u less_v, place u, place v)

-- a code whose encoding is a function, and words that have one information each
module _ (IsWord : List Bool → Type 0) (n k : ℕ) (encoding : List Bool → List Bool) (encodes : (info : List Bool) → length info ≡ k → IsEncoding IsWord k info (encoding info))
    (one_word : (v w : List Bool) → IsWord v → IsWord w → take k v ≡ take k w → v ≡ w) (long : (word : List Bool) → IsWord word → length word ≡ n) (begins : k ≤ n)
    (costs : List ℕ) where
  -- the encoding of a number
  is_encoding : (info : ℕ) → IsEncoding IsWord k (bits_of k info) (encoding (bits_of k info))
  is_encoding info = encodes (bits_of k info) (length-bits_of k info)

  -- a word is the encoding of the number of its information
  word_is : (word : List Bool) → IsWord word → encoding (bits_of k (field_of (take k word))) ≡ word
  word_is word is =
      let information : bits_of k (field_of (take k word)) ≡ take k word
      = ap (λ m. bits_of m (field_of (take k word))) (sym (length-take-le k word (omega (arith, long word is)))) ∙ bits_of-field_of (take k word) in
      one_word (encoding (bits_of k (field_of (take k word)))) word (is_encoding (field_of (take k word))).word_of_set is
      ((is_encoding (field_of (take k word))).begins ∙ information)

  number_lt : (word : List Bool) → IsWord word → field_of (take k word) < 2 ^ k
  number_lt word is = subst (λ m. field_of (take k word) < 2 ^ m) (length-take-le k word (omega (arith, long word is))) (field_of-lt (take k word))

  -- the number of the information of an encoding
  number_is : (info : ℕ) → info < 2 ^ k → field_of (take k (encoding (bits_of k info))) ≡ info
  number_is info small = ap field_of (is_encoding info).begins ∙ field_of-bits_of k info ∙ mod-eq_of_lt small

  -- numbers below the bound have words of their own
  other_word : (a b : ℕ) → a < 2 ^ k → b < 2 ^ k → a ≢ b → encoding (bits_of k a) ≢ encoding (bits_of k b)
  other_word a b small_a small_b ne = λ same. ne (sym (number_is a small_a) ∙ ap (λ w. field_of (take k w)) same ∙ number_is b small_b)

  -- the word of the lowest number of least cost is the cheapest
  pub lowest_is_cheapest : (info least : ℕ) → IsLowestLeast (2 ^ k) (information_cost encoding k costs) info least → IsCheapest IsWord k costs (encoding (bits_of k info))
  unfolding information_cost
  lowest_is_cheapest info least is = record {
    word_of_set = (is_encoding info).word_of_set;
    none_less = λ other w. omega (arith, is.is, is.none_less (field_of (take k other)) (number_lt other w), ap (pairs_cost costs) (word_is other w));
    first = λ other w same. elim (cases_lt (field_of (take k other)) info) [
      | inl lower ↦ absurd (omega (arith, is.is, is.lowest (field_of (take k other)) lower, ap (pairs_cost costs) (word_is other w), same))
      | inr not_lower ↦ omega (arith, number_is info is.below, not_lower)
    ];
  }

  -- a number whose word costs less than any other list has the least cost alone
  pub alone_is_cheapest : (info : ℕ) (word : ℕ) → info < 2 ^ k → IsAlone costs (bits_of n word) → encoding (bits_of k info) ≡ bits_of n word
      → info ≡ cheapest_information encoding k costs
  unfolding cheapest_information information_cost
  alone_is_cheapest info word small alone same =
      lowest_least-alone (2 ^ k) (λ j. pairs_cost costs (encoding (bits_of k j))) info small
      (λ j below ne. subst (λ (w : List Bool). pairs_cost costs w < pairs_cost costs (encoding (bits_of k j))) (sym same)
      (alone.dearer (encoding (bits_of k j)) (long (encoding (bits_of k j)) (is_encoding j).word_of_set ∙ sym (length-bits_of n word))
      (λ e. other_word j info below small ne (e ∙ sym same))))

  -- a codeword that costs less than the margin times the least distance is the cheapest, if the costs separate pairs by the margin
  pub near_is_cheapest : (distance margin pairs : ℕ) (word sent : List Bool) → 2 * pairs ≡ n
      → ((v w : List Bool) → IsWord v → IsWord w → v ≢ w → distance ≤ distance_of v w)
      → IsCheapest IsWord k costs word → IsSpread margin pairs costs → IsWord sent → pairs_cost costs sent < margin * distance → word ≡ sent
  near_is_cheapest distance margin pairs word sent even far is spread sent_is near =
      let long_w : length word ≡ 2 * pairs = long word is.word_of_set ∙ sym even in
      let long_s : length sent ≡ 2 * pairs = long sent sent_is ∙ sym even in
      elim (same_or_other word sent (long_w ∙ sym long_s)) [
        | inl same ↦ same
        | inr differ ↦
            absurd (omega (
              arith,
              spread-words margin pairs costs word sent long_w long_s spread,
              mul-le-mul_left margin (far word sent is.word_of_set sent_is differ),
              is.none_less sent sent_is,
              near,
            ))
      ]
