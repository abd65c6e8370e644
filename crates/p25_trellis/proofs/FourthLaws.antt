-- Every fourth element of a list: which element it is, and how the elements change if one is replaced.
use Rattle.std.proofs.Common.{◌≡◌, ◌≢◌, ℕ, zero, suc, ◌+◌, ◌*◌, ◌<◌, ◌≤◌, List, [], ◌∷◌, length, get_or, set, refl, ap, sym, ◌∙◌, arith}
use Rattle.p25_trellis.specs.Interleave.{each_fourth}

-- four positions further, counted with the element that is passed
four_more : (k : ℕ) → 0 + 4 * suc k ≡ suc (3 + 4 * k)
four_more k = omega arith

-- and one further on
one_more : (wait k : ℕ) → suc wait + 4 * k ≡ suc (wait + 4 * k)
one_more wait k = omega arith

-- which element each of them is
pub get_or-each_fourth : {X : Type 0} (wait : ℕ) (xs : List X) (k : ℕ) (d : X) → get_or (each_fourth wait xs) k d ≡ get_or xs (wait + 4 * k) d
unfolding each_fourth
get_or-each_fourth wait [] k d = refl
get_or-each_fourth zero (x ∷ xs) zero d = refl
get_or-each_fourth zero (x ∷ xs) (suc k) d = cc (get_or-each_fourth 3 xs k d, four_more k)
get_or-each_fourth (suc wait) (x ∷ xs) k d = cc (get_or-each_fourth wait xs k d, one_more wait k)

-- if one of them is set, it is set among them
pub each_fourth-set_same : {X : Type 0} (wait : ℕ) (xs : List X) (k : ℕ) (x : X) → each_fourth wait (set xs (wait + 4 * k) x) ≡ set (each_fourth wait xs) k x
unfolding each_fourth
each_fourth-set_same wait [] k x = refl
each_fourth-set_same zero (y ∷ ys) zero x = refl
each_fourth-set_same zero (y ∷ ys) (suc k) x = cc (four_more k, each_fourth-set_same 3 ys k x)
each_fourth-set_same (suc wait) (y ∷ ys) k x = cc (one_more wait k, each_fourth-set_same wait ys k x)

-- if another element is set, they stay
pub each_fourth-set_other : {X : Type 0} (wait : ℕ) (xs : List X) (i : ℕ) (x : X) → ((k : ℕ) → i ≢ wait + 4 * k) → each_fourth wait (set xs i x) ≡ each_fourth wait xs
unfolding each_fourth
each_fourth-set_other wait [] i x apart = refl
each_fourth-set_other zero (y ∷ ys) zero x apart = absurd (apart 0 refl)
each_fourth-set_other zero (y ∷ ys) (suc i) x apart = cc (each_fourth-set_other 3 ys i x (λ k same. apart _ (ap suc same ∙ sym (four_more k))))
each_fourth-set_other (suc wait) (y ∷ ys) zero x apart = refl
each_fourth-set_other (suc wait) (y ∷ ys) (suc i) x apart = each_fourth-set_other wait ys i x (λ k same. apart k (simp (same, one_more)))

-- they reach to the end, and not past it
length-fourths_reach : {X : Type 0} (wait : ℕ) (xs : List X) → length xs ≤ wait + 4 * length (each_fourth wait xs)
unfolding each_fourth
length-fourths_reach wait [] = omega arith
length-fourths_reach zero (x ∷ xs) = omega (arith, length-fourths_reach 3 xs)
length-fourths_reach (suc wait) (x ∷ xs) = omega (arith, length-fourths_reach wait xs)

length-fourths_within : {X : Type 0} (wait : ℕ) (xs : List X) → wait < 4 → wait + 4 * length (each_fourth wait xs) < length xs + 4
unfolding each_fourth
length-fourths_within wait [] early = omega (arith, early)
length-fourths_within zero (x ∷ xs) early = omega (arith, length-fourths_within 3 xs)
length-fourths_within (suc wait) (x ∷ xs) early = omega (arith, length-fourths_within wait xs)

-- so the numbers of such elements among 49
pub length-fourths_of_49 : {X : Type 0} (wait count : ℕ) (xs : List X) → wait < 4 → length xs ≡ 49 → wait + 4 * count ≤ 52 → 49 ≤ wait + 4 * count
    → length (each_fourth wait xs) ≡ count
length-fourths_of_49 wait count xs early long there all = omega (arith, long, there, all, length-fourths_reach, length-fourths_within)
