-- Levels in whole groups of four: the scanned levels of joined levels, and the bits of those of whole groups.
use Rattle.std.proofs.Common.{◌≡◌, ◌≢◌, ◌+◌, ◌-◌, ◌*◌, ◌/◌, ◌%◌, ◌<◌, ◌≤◌, Bool, true, false, List, [], ◌∷◌, ◌++◌, length, take, drop, replicate, refl, ap, ap₂, sym, ◌∙◌, arith, append_assoc, append-nil, length-append, length-drop, ℤ, pos}
use Rattle.std.proofs.{Math.Seq.{take-append-add}, lemmas.List.{take-append-drop, length-take-le, length-replicate, take_all, take-append-le, drop_all}}
use Rattle.p25_bits.specs.Bits.{part}
use Rattle.p25_recording_filters.specs.SoftLevels.{filled, grouped, scanned}

-- the scanned levels of whole groups and others after them
filled-append : (beginning rest : List ℤ) → length beginning % 4 ≡ 0 → filled (beginning ++ rest) ≡ beginning ++ filled rest
unfolding filled
filled-append beginning rest whole =
    let same : (4 - length (beginning ++ rest) % 4) % 4 ≡ (4 - length rest % 4) % 4 = omega (arith, length-append beginning rest) in
    ap (λ n. (beginning ++ rest) ++ replicate n (pos 32)) same ∙ append_assoc beginning rest (replicate ((4 - length rest % 4) % 4) (pos 32))

grouped-append : (beginning rest : List ℤ) → length beginning % 4 ≡ 0 → grouped (beginning ++ rest) ≡ beginning ++ grouped rest
unfolding grouped
grouped-append beginning rest whole =
    let count : 4 * (length (beginning ++ rest) / 4) ≡ length beginning + 4 * (length rest / 4) = omega (arith, length-append beginning rest) in
    ap (λ n. take n (beginning ++ rest)) count ∙ take-append-add beginning rest (4 * (length rest / 4))

pub scanned-append : (ended : Bool) (beginning rest : List ℤ) → length beginning % 4 ≡ 0 → scanned ended (beginning ++ rest) ≡ beginning ++ scanned ended rest
scanned-append true beginning rest whole = filled-append beginning rest whole
scanned-append false beginning rest whole = grouped-append beginning rest whole

-- whole groups are scanned as they are
pub filled-whole : (levels : List ℤ) → length levels % 4 ≡ 0 → filled levels ≡ levels
unfolding filled
filled-whole levels whole =
    let none : (4 - length levels % 4) % 4 ≡ 0 = omega arith in
    ap (λ n. levels ++ replicate n (pos 32)) none ∙ append-nil levels

pub grouped-whole : (levels : List ℤ) → length levels % 4 ≡ 0 → grouped levels ≡ levels
unfolding grouped
grouped-whole levels whole = let all : length levels ≤ 4 * (length levels / 4) = omega arith in take_all (4 * (length levels / 4)) levels all

-- filled levels are whole groups
pub length-filled : (levels : List ℤ) → (length (filled levels) % 4 ≡ 0) × (length (filled levels) < length levels + 4)
unfolding filled
length-filled levels =
    let missing = (4 - length levels % 4) % 4 in
    let count = length-append levels (replicate missing (pos 32)) in
    let few = length-replicate missing (pos 32) in
    (omega (arith, count, few), omega (arith, count, few))

pub length-grouped : (levels : List ℤ) → length (grouped levels) ≡ 4 * (length levels / 4)
unfolding grouped
length-grouped levels = let there : 4 * (length levels / 4) ≤ length levels = omega arith in length-take-le (4 * (length levels / 4)) levels there

-- the levels that are not in whole groups
abbrev pub ungrouped : List ℤ → List ℤ
ungrouped levels = drop (4 * (length levels / 4)) levels

pub grouped-ungrouped : (levels : List ℤ) → grouped levels ++ ungrouped levels ≡ levels
unfolding grouped
grouped-ungrouped levels = take-append-drop (4 * (length levels / 4)) levels

-- levels and those that come: the whole groups that are there, and the scanned levels of the others
pub scanned-split : (ended : Bool) (levels new : List ℤ) → scanned ended (levels ++ new) ≡ grouped levels ++ scanned ended (ungrouped levels ++ new)
scanned-split ended levels new =
    let whole : length (grouped levels) % 4 ≡ 0 = omega (arith, length-grouped levels) in
    ap (λ (ls : List ℤ). scanned ended (ls ++ new)) (sym (grouped-ungrouped levels))
    ∙ ap (scanned ended) (append_assoc (grouped levels) (ungrouped levels) new)
    ∙ scanned-append ended (grouped levels) (ungrouped levels ++ new) whole

-- no other levels are left of whole groups
pub ungrouped-none : (levels : List ℤ) → length levels % 4 ≡ 0 → ungrouped levels ≡ []
ungrouped-none levels whole = drop_all (4 * (length levels / 4)) levels (omega arith)

-- one more level, which does or does not fill a group
pub grouped-more : (levels : List ℤ) (level : ℤ) → length (levels ++ level ∷ []) % 4 ≢ 0 → grouped (levels ++ level ∷ []) ≡ grouped levels
unfolding grouped
grouped-more levels level open_group =
    let count : length (levels ++ level ∷ []) / 4 ≡ length levels / 4 = omega (arith, length-append levels (level ∷ [])) in
    let there : 4 * (length levels / 4) ≤ length levels = omega arith in
    ap (λ n. take (4 * n) (levels ++ level ∷ [])) count ∙ take-append-le (4 * (length levels / 4)) levels (level ∷ []) there

-- the last four levels of whole groups
pub grouped-last : (levels : List ℤ) (level : ℤ) → length (levels ++ level ∷ []) % 4 ≡ 0
    → grouped (levels ++ level ∷ []) ≡ grouped levels ++ part (length (levels ++ level ∷ []) - 4) 4 (levels ++ level ∷ [])
grouped-last levels level whole =
    let all = levels ++ level ∷ [] in
    let long = length-append levels (level ∷ []) in
    let count : length all - 4 ≡ 4 * (length levels / 4) = omega (arith, long) in
    let there : 4 * (length levels / 4) ≤ length levels = omega arith in
    let last : length (drop (4 * (length levels / 4)) all) ≤ 4 = omega (arith, long, length-drop (4 * (length levels / 4)) all) in
    grouped-whole all whole
    ∙ sym (take-append-drop (4 * (length levels / 4)) all)
    ∙ ap₂ (λ (xs ys : List ℤ). xs ++ ys) (take-append-le (4 * (length levels / 4)) levels (level ∷ []) there ∙ grouped-is levels)
    (sym (take_all 4 (drop (4 * (length levels / 4)) all) last) ∙ ap (λ n. part n 4 all) (sym count))
  where
    grouped-is : (ls : List ℤ) → take (4 * (length ls / 4)) ls ≡ grouped ls
    grouped-is ls = unfold grouped in refl
