-- Draws after draws: counts of draws add up.
use Rattle.std.proofs.Common.{◌≡◌, ℕ, zero, suc, ◌+◌, ◌%◌, [], ◌∷◌, ◌++◌, refl, ap, sym, ◌∙◌, arith}
use Rattle.p25_bits.specs.Numbers.{each_below}
use Rattle.p25_bits.proofs.NumbersLaws.{each_below-more, each_below-zero}
use Rattle.p25_vectors.specs.Draws.{state_behind, state_after, draw, octets_drawn}

pub state_after-none : (state : ℕ) → state_after 0 state ≡ state
unfolding state_after
state_after-none state = refl

pub state_after-add : (first more state : ℕ) → state_after more (state_after first state) ≡ state_after (first + more) state
unfolding state_after
state_after-add first zero state = let e : first ≡ first + 0 = omega arith in ap (λ n. state_after n state) e
state_after-add first (suc more) state =
    let e : suc (first + more) ≡ first + suc more = omega arith in
    ap state_behind (state_after-add first more state) ∙ ap (λ n. state_after n state) e

-- the first draw after so many others
pub draw-after : (first state : ℕ) → draw 0 (state_after first state) ≡ draw first state
unfolding draw state_after
draw-after first state = refl

-- octets drawn

pub octets_drawn-none : (state : ℕ) → octets_drawn 0 state ≡ []
unfolding octets_drawn
octets_drawn-none state = each_below-zero (λ k. draw k state % 256)

pub octets_drawn-more : (count state : ℕ) → octets_drawn (count + 1) state ≡ octets_drawn count state ++ (draw 0 (state_after count state) % 256) ∷ []
unfolding octets_drawn
octets_drawn-more count state = each_below-more count (λ k. draw k state % 256) ∙ ap (λ d. each_below count (λ k. draw k state % 256) ++ (d % 256) ∷ []) (sym (draw-after count state))
