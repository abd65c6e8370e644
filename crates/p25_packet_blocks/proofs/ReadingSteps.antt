-- The steps of the decoders: numbers of the last octets by their positions, and one more block of a loop.
use Rattle.std.proofs.{Common.{◌≡◌, ℕ, suc, ◌+◌, ◌-◌, ◌*◌, ◌≤◌, List, [], ◌∷◌, ◌++◌, length, take, drop, get_or, ap, ◌∙◌, arith, add-one}, Math.Seq.{drop-cons}, lemmas.List.{drop_all}}
use Rattle.std.proofs.lemmas.Slice.{take-put_mid}
use borrow.Rule.Slice.PartMut.{put_mid}
use Rattle.p25_bits.specs.Numbers.{octets_number, number_after}

-- the octets of a list from index n on, if there are two
last_two : (octets : List ℕ) (n : ℕ) → length octets ≡ n + 2 → drop n octets ≡ get_or octets n 0 ∷ get_or octets (n + 1) 0 ∷ []
last_two octets n long =
    cc (drop-cons octets n 0 (omega arith), add-one n, drop-cons octets (n + 1) 0 (omega arith), drop_all (suc (n + 1)) octets (omega arith))

-- the number of the last two octets
pub number_of_two : (octets : List ℕ) (n : ℕ) → length octets ≡ n + 2 → octets_number (drop n octets) ≡ get_or octets n 0 * 256 + get_or octets (n + 1) 0
unfolding octets_number number_after
number_of_two octets n long = simp last_two (omega arith)

-- the number of the last four octets
pub number_of_four : (octets : List ℕ) (n : ℕ) → length octets ≡ n + 4 → octets_number (drop n octets) ≡ get_or octets n 0 * 16777216 + get_or octets (n + 1) 0 * 65536 + get_or octets
    (n + 2) 0 * 256 + get_or octets (n + 3) 0
unfolding octets_number number_after
number_of_four octets n long =
    let first : drop n octets ≡ get_or octets n 0 ∷ get_or octets (n + 1) 0 ∷ get_or octets (n + 2) 0 ∷ get_or octets (n + 3) 0 ∷ []
    = drop-cons octets n 0 (omega arith)
    ∙ ap (λ xs. get_or octets n 0 ∷ xs) (cc (add-one n, drop-cons octets (n + 1) 0 (omega arith)))
    ∙ ap (λ k. get_or octets n 0 ∷ get_or octets (n + 1) 0 ∷ drop k octets) (let next : suc (n + 1) ≡ n + 2 = omega arith in next)
    ∙ ap (λ xs. get_or octets n 0 ∷ get_or octets (n + 1) 0 ∷ xs) (last_two octets (n + 2) (omega arith))
    ∙ ap (λ k. get_or octets n 0 ∷ get_or octets (n + 1) 0 ∷ get_or octets (n + 2) 0 ∷ get_or octets k 0 ∷ []) (omega arith) in
    ap octets_number first ∙ omega arith

-- one more block of twelve octets written after those before it
pub octets_put : (octets read block : List ℕ) (j : ℕ) → 12 * j + 12 ≤ length octets → length block ≡ 12 → take (12 * j) octets ≡ read
    → take (12 * (j + 1)) (put_mid (12 * j) (12 * j + 12 - 12 * j) octets block) ≡ read ++ block
octets_put octets read block j there long so_far =
    cc (take-put_mid (12 * j) (12 * j + 12 - 12 * j) octets block (12 * (j + 1)) (omega arith) (omega arith), so_far)
