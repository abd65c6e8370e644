-- Steps of loops over lists: one more element taken, and one more flag set. By the laws of take and set.
use Rattle.std.proofs.Common.{◌≡◌, ℕ, suc, ◌+◌, ◌-◌, ◌<◌, Bool, false, List, [], ◌∷◌, ◌++◌, length, take, replicate, map, set, Some, ap, sym, ◌∙◌, append_assoc, arith}
use Rattle.std.proofs.{lemmas.List.{take_more, set_at, map-append, length-map, length-take-le, length-set}, lemmas.Option.{slice_get_within, get_or_from_slice_get}}
use Rattle.std.specs.Prelude.{slice_get}

-- one more element of a list
pub take_get : {X : Type 0} (xs : List X) (j : ℕ) (x : X) → slice_get xs j ≡ Some x → take (j + 1) xs ≡ take j xs ++ x ∷ []
take_get {X} xs j x e = cc (take_more xs j x (slice_get_within xs j x e), get_or_from_slice_get xs j x x e)

pub map-take_get : {X Y : Type 0} (f : X → Y) (xs : List X) (j : ℕ) (x : X) → slice_get xs j ≡ Some x → map f (take (j + 1) xs) ≡ map f (take j xs) ++ f x ∷ []
map-take_get {X} f xs j x e = cc (take_get xs j x e, map-append f (take j xs) (x ∷ []))

-- one more flag of n, after those that are set
pub flags_more : (beginning : List Bool) (i n : ℕ) (flag : Bool)
    → length beginning ≡ i → i < n → set (beginning ++ replicate (n - i) false) i flag ≡ (beginning ++ flag ∷ []) ++ replicate (n - (i + 1)) false
flags_more beginning i n flag e h =
    let more : n - i ≡ suc (n - (i + 1)) = omega arith in
    cc (set_at beginning false (replicate (n - (i + 1)) false) flag i e, append_assoc beginning (flag ∷ []) (replicate (n - (i + 1)) false))

-- a list of flags, set from its beginning on to the result of a test for each element of a list
pub flags_set : {X : Type 0} (test : X → Bool) (xs : List X) (n i : ℕ) (x : X) (before after : List Bool)
    → slice_get xs i ≡ Some x → i < n → before ≡ map test (take i xs) ++ replicate (n - i) false → after ≡ set before i (test x) →
    after ≡ map test (take (i + 1) xs) ++ replicate (n - (i + 1)) false
flags_set {X} test xs n i x before after e h b a =
    let inside : i < length xs = slice_get_within xs i x e in
    let count : length (map test (take i xs)) ≡ i = length-map (take i xs) test ∙ length-take-le i xs (omega arith) in
    cc (flags_more (map test (take i xs)) i n (test x) count h, map-take_get test xs i x e)

pub flags_length : (before after : List Bool) (i : ℕ) (flag : Bool) → after ≡ set before i flag → length after ≡ length before
flags_length before after i flag a = cc (length-set before i flag)
