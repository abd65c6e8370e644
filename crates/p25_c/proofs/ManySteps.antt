-- A list that a loop goes through, and a buffer that it fills with what it finds.
use Rattle.std.proofs.Common.{◌≡◌, ℕ, suc, ◌+◌, ◌<◌, ◌≤◌, List, [], ◌∷◌, ◌++◌, length, take, drop, map, get_or, slice_set, ap, sym, ◌∙◌, arith, append_assoc, add-one, length-append, length-drop}
use Rattle.std.proofs.{Math.Seq.{drop-cons, set-append_seam}, lemmas.List.{length-map, length-take-le, map-append, take_all, take_more}}
use Rattle.p25_c.specs.Many.{put_first}

-- what is left of a list begins with an element
pub left-some : {X : Type 0} (xs : List X) (i : ℕ) (x : X) (rest : List X) → drop i xs ≡ x ∷ rest → i < length xs
left-some xs i x rest is = omega (arith, length-drop i xs, ap length is)

left-same : {X : Type 0} (xs : List X) (i : ℕ) (x : X) (rest : List X) → drop i xs ≡ x ∷ rest → get_or xs i x ∷ drop (suc i) xs ≡ x ∷ rest
left-same xs i x rest is = sym (drop-cons xs i x (left-some xs i x rest is)) ∙ is

pub left-next : {X : Type 0} (xs : List X) (i : ℕ) (x : X) (rest : List X) → drop i xs ≡ x ∷ rest → drop (i + 1) xs ≡ rest
left-next {X} xs i x rest is =
    let next : drop (suc i) xs ≡ rest = ap (λ (ys : List X). drop 1 ys) (left-same xs i x rest is) in
    ap (λ (k : ℕ). drop k xs) (add-one i) ∙ next

pub left-taken : {X : Type 0} (xs : List X) (i : ℕ) (x : X) (rest : List X) → drop i xs ≡ x ∷ rest → take (i + 1) xs ≡ take i xs ++ x ∷ []
left-taken {X} xs i x rest is =
    let first : get_or xs i x ≡ x = ap (λ (ys : List X). get_or ys 0 x) (left-same xs i x rest is) in
    take_more xs i x (left-some xs i x rest is) ∙ ap (λ (y : X). take i xs ++ y ∷ []) first

-- nothing is left of it
pub left-none : {X : Type 0} (xs : List X) (i room : ℕ) → drop i xs ≡ [] → i ≤ length xs → i ≤ room → take room xs ≡ take i xs
left-none xs i room is fits few =
    let all : length xs ≡ i = omega (arith, length-drop i xs, ap length is) in
    take_all room xs (omega (arith, all)) ∙ sym (take_all i xs (omega (arith, all)))

-- one more element is written after those before it
pub put-more : {X : Type 0} (told before : List X) (i : ℕ) (y : X) → length told ≡ i → i < length before → slice_set (put_first told before) i y ≡ put_first (told ++ y ∷ []) before
put-more {X} told before i y long inside =
    let n = length told in
    let tail = drop (suc n) before in
    let end : length (told ++ y ∷ []) ≡ suc n = omega (arith, length-append told (y ∷ [])) in
    ap (λ (k : ℕ). slice_set (put_first told before) k y) (sym long)
    ∙ ap (λ (zs : List X). slice_set (told ++ zs) n y) (drop-cons before n y (omega (arith, long)))
    ∙ set-append_seam told (get_or before n y) tail y
    ∙ sym (append_assoc told (y ∷ []) tail)
    ∙ ap (λ (k : ℕ). (told ++ y ∷ []) ++ drop k before) (sym end)

pub told-more : {X Y : Type 0} (f : X → Y) (xs : List X) (before now : List Y) (i : ℕ) (x : X) (rest : List X)
    → drop i xs ≡ x ∷ rest → i < length before → now ≡ put_first (map f (take i xs)) before
    → slice_set now i (f x) ≡ put_first (map f (take (i + 1) xs)) before
told-more {X} {Y} f xs before now i x rest is inside told =
    let some = left-some xs i x rest is in
    let long : length (map f (take i xs)) ≡ i = length-map (take i xs) f ∙ length-take-le i xs (omega (arith, some)) in
    ap (λ (ys : List Y). slice_set ys i (f x)) told
    ∙ put-more (map f (take i xs)) before i (f x) long inside
    ∙ ap (λ (ys : List Y). put_first ys before) (sym (map-append f (take i xs) (x ∷ [])))
    ∙ ap (λ (ys : List X). put_first (map f ys) before) (sym (left-taken xs i x rest is))
