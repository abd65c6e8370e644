-- The hits of codewords: their positions, their numbers of inverted bits, and the damage of a list of positions, one after the other. By recursion on
-- the positions.
use Rattle.std.proofs.Common.{◌≡◌, ℕ, zero, suc, ◌+◌, ◌-◌, ◌%◌, ◌<◌, ◌≤◌, Bool, List, [], ◌∷◌, ◌++◌, fold, map, drop, length, get_or, refl, ap, ap₂, sym, ◌∙◌, arith, mod-lt}
use Rattle.std.proofs.lemmas.{List.{drop_more}, List.Sums.{fold-append, sum_by-append}}
use Rattle.std.specs.List.{AllByRecursion as Each}
use Rattle.p25_voice_units.specs.Fixes.{wide}
use Rattle.p25_vectors.specs.{Draws.{Drawing, draw, drawn, state_after}, Damage.{Hit, IsDamage, both, damaged, inverted, inversions, word_hits}}
use Rattle.p25_vectors.proofs.DamageLaws.{word_of, IsFit}

pub below-most : (drawn most : ℕ) → drawn % (most + 1) ≤ most
below-most drawn most = let positive : 0 < most + 1 = omega arith in omega (arith, mod-lt drawn positive)

-- the positions
pub words-of : (size radius whole : ℕ) (places : List ℕ) (state : ℕ) → map word_of (word_hits size radius whole places state).0 ≡ wide size places
unfolding word_hits wide
words-of size radius whole [] state = refl
words-of size radius (suc whole) (at ∷ places) state = ap (λ words. (at, size) ∷ words) (words-of size radius whole places state)
words-of size radius zero (at ∷ places) state = ap (λ words. (at, size) ∷ words) (words-of size radius zero places (state_after 1 state))

-- the numbers of inverted bits
pub hits-fit : (size radius whole : ℕ) (places : List ℕ) (state : ℕ) → radius ≤ size → Each IsFit (word_hits size radius whole places state).0
unfolding word_hits
hits-fit size radius whole [] state fits = tt
hits-fit size radius (suc whole) (at ∷ places) state fits = (omega arith, hits-fit size radius whole places state fits)
hits-fit size radius zero (at ∷ places) state fits =
    (omega (arith, below-most (draw 0 state) radius, fits), hits-fit size radius zero places (state_after 1 state) fits)

-- What joined lists have.

pub each-joined : {X : Type 0} (P : X → Type 0) (xs ys : List X) → Each P xs → Each P ys → Each P (xs ++ ys)
each-joined P [] ys first second = second
each-joined P (x ∷ xs) ys first second = (first.0, each-joined P xs ys first.1 second)

pub each-parts : {X : Type 0} (P : X → Type 0) (xs ys : List X) → Each P (xs ++ ys) → Each P xs × Each P ys
each-parts P [] ys all = (tt, all)
each-parts P (x ∷ xs) ys all = let rest = each-parts P xs ys all.1 in ((all.0, rest.0), rest.1)

-- Damage by drawings.

-- the bits, the number of inverted bits and the state after a drawing's hits, for a loop over what is left
unfoldable pub outcome : Drawing (List Hit) → ℕ → List Bool → ℕ → List Bool × ℕ × ℕ
outcome next state bits flips = (damaged (next state).0 bits, fold (λ n hit. n + hit.2) flips (next state).0, (next state).1)

module _ (size radius : ℕ) (state : ℕ) (bits : List Bool) (flips : ℕ) where
  pub outcome-whole : (whole at : ℕ) (places : List ℕ)
      → outcome (word_hits size radius (suc whole) (at ∷ places)) state bits flips ≡ outcome (word_hits size radius whole places) state (inverted at size bits) (flips + size)
  unfolding outcome word_hits damaged
  outcome-whole whole at places = refl

  pub outcome-drawn : (at : ℕ) (places : List ℕ) → let count = draw 0 state % (radius + 1) in
      outcome (word_hits size radius 0 (at ∷ places)) state bits flips ≡ outcome (word_hits size radius 0 places) (state_after 1 state) (inverted at count bits) (flips + count)
  unfolding outcome word_hits damaged
  outcome-drawn at places = refl

pub damage-outcome : (next : Drawing (List Hit)) (size radius whole state behind flips : ℕ) (bits now : List Bool)
    → outcome (word_hits size radius whole []) behind now flips ≡ outcome next state bits 0 → IsDamage next state bits now flips behind
unfolding outcome word_hits damaged inversions
damage-outcome next size radius whole state behind flips bits now e = record { list = ap (λ t. t.0) e; flips = ap (λ t. t.1) e; state = ap (λ t. t.2) e }

pub damage-both : (first second : Drawing (List Hit)) (state middle behind flips more : ℕ) (bits between now : List Bool)
    → IsDamage first state bits between flips middle → IsDamage second middle between now more behind → IsDamage (both first second) state bits now (flips + more) behind
unfolding damaged inversions
damage-both first second state middle behind flips more bits between now one two = record {
  list =
      two.list ∙ ap₂ (λ (s : ℕ) (xs : List Bool). damaged (second s).0 xs) one.state one.list
      ∙ sym (fold-append (λ now hit. inverted hit.0 hit.2 now) bits (first state).0 (second (first state).1).0);
  flips =
      ap₂ ◌+◌ one.flips (two.flips ∙ ap (λ s. inversions (second s).0) one.state)
      ∙ sym (sum_by-append (λ hit. hit.2) (first state).0 (second (first state).1).0);
  state = two.state ∙ ap (λ s. (second s).1) one.state;
}

-- no hits
pub damage-none : (state : ℕ) (bits : List Bool) → IsDamage (drawn []) state bits bits 0 state
unfolding damaged inversions
damage-none state bits = record { list = refl; flips = refl; state = refl }

-- one codeword, of any size
pub damage-one : (at size radius state behind flips : ℕ) (bits now : List Bool) → now ≡ inverted at (draw 0 state % (radius + 1)) bits → flips ≡ draw 0 state % (radius + 1) → behind ≡ state_after 1 state
    → IsDamage (word_hits size radius 0 (at ∷ [])) state bits now flips behind
unfolding word_hits damaged inversions
damage-one at size radius state behind flips bits now list count after = record { list = list; flips = omega (arith, count); state = after }

-- The step of a loop over positions, by what is left of them.

module _ (size radius whole i state next flips total : ℕ) (places : List ℕ) (bits now : List Bool) (inside : i < length places) where
  pub left-whole : i < whole → now ≡ inverted (get_or places i 0) size bits → total ≡ flips + size → next ≡ state
      → outcome (word_hits size radius (whole - (i + 1)) (drop (i + 1) places)) next now total ≡ outcome (word_hits size radius (whole - i) (drop i places)) state bits flips
  left-whole first list count after =
      let one : whole - i ≡ suc (whole - (i + 1)) = omega arith in
      rw (list, count, after, one, drop_more places i 0 inside)
      (sym (outcome-whole size radius state bits flips (whole - (i + 1)) (get_or places i 0) (drop (i + 1) places)))

  pub left-drawn : whole ≤ i → now ≡ inverted (get_or places i 0) (draw 0 state % (radius + 1)) bits → total ≡ flips + draw 0 state % (radius + 1) → next ≡ state_after 1 state
      → outcome (word_hits size radius (whole - (i + 1)) (drop (i + 1) places)) next now total ≡ outcome (word_hits size radius (whole - i) (drop i places)) state bits flips
  left-drawn later list count after =
      let none : whole - i ≡ 0 = omega arith in
      let still : whole - (i + 1) ≡ 0 = omega arith in
      rw (list, count, after, none, still, drop_more places i 0 inside) (sym (outcome-drawn size radius state bits flips (get_or places i 0) (drop (i + 1) places)))
