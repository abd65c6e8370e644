-- The blocks of a broken packet with some replaced: one by one after the header block, and then all as transmitted.
use Rattle.std.proofs.Common.{◌≡◌, ◌≢◌, ℕ, zero, suc, ◌+◌, ◌-◌, ◌*◌, ◌/◌, ◌<◌, ◌≤◌, ◌||◌, Bool, true, false, cond, List, [], ◌++◌, length, take, drop, get_or, set, refl, ap, ap₂, sym, ◌∙◌, arith, append_assoc, add-one, below_more, get_or-set_same, get_or-set_other, ℤ, pos}
use Rattle.std.proofs.{lemmas.Bool.{cond-true, cond-false}, lemmas.List.{take_all, take-append-drop, drop-drop}}
use Rattle.p25_bits.specs.{Bits.{part}, Numbers.{joined_below}}
use Rattle.p25_bits.proofs.{NumbersLaws.{each_below-same, each_below-list, joined_below-same, joined_below-parts}, PartLaws.{drop-is_part}}
use Rattle.p25_status.specs.{Woven.{woven, bare_of, statuses_of}, declared.fields.Field.{Field}, declared.symbols.Status.{Status}}
use Rattle.p25_status.proofs.WovenLaws.{woven-of}
use Rattle.p25_trellis.specs.Tables.{half_point, three_quarter_point}
use Rattle.p25_packet_blocks.specs.{Lengths.{packet_sent_length}, Reading.{block_bits}}
use Rattle.p25_soft.specs.{SoftPaths.{soft_block}, Softened.{block_levels, blocks_replaced, blocks_to_follow, names_all, names_block, sent_dibit, softened_block, softened_packet, softened_bare}}

-- one more level of a block
pub levels_more : (levels block : List ℤ) (j i : ℕ) (level : ℤ) → i < length block → ((k : ℕ) → k < i → get_or block k (pos 0) ≡ get_or levels (sent_dibit (154 + 98 * j + k)) (pos 0))
    → level ≡ get_or levels (154 + 98 * j + i + (154 + 98 * j + i) / 35) (pos 0) → (k : ℕ) → k < i + 1
    → get_or (set block i level) k (pos 0) ≡ get_or levels (sent_dibit (154 + 98 * j + k)) (pos 0)
unfolding sent_dibit
levels_more levels block j i level inside so_far is =
    below_more (λ k. get_or (set block i level) k (pos 0) ≡ get_or levels (154 + 98 * j + k + (154 + 98 * j + k) / 35) (pos 0)) i
    (λ k below. let other : k ≢ i = omega arith in get_or-set_other block i k level (pos 0) other ∙ so_far k below)
    (get_or-set_same block i level (pos 0) inside ∙ is)

-- all levels of a block
pub block_levels-from : (levels block : List ℤ) (j : ℕ) → length block ≡ 98 → ((k : ℕ) → k < 98 → get_or block k (pos 0) ≡ get_or levels (sent_dibit (154 + 98 * j + k)) (pos 0))
    → block ≡ block_levels levels j
unfolding block_levels
block_levels-from levels block j long all =
    let short : length block ≤ 98 = omega arith in
    let whole : 98 ≤ length block = omega arith in
    sym (take_all 98 block short)
    ∙ sym (each_below-list block (pos 0) 98 whole)
    ∙ each_below-same 98 (λ i. get_or block i (pos 0)) (λ i. get_or levels (sent_dibit (154 + 98 * j + i)) (pos 0)) all

-- the levels of a block are among those that are there
pub sent_dibit-lt : (j n most : ℕ) → j < n → sent_dibit (153 + 98 * n) < most → sent_dibit (154 + 98 * j + 97) < most
unfolding sent_dibit
sent_dibit-lt j n most before inside = omega arith

pub sent_dibit-inside : (n levels : ℕ) → packet_sent_length n ≡ 2 * levels → sent_dibit (153 + 98 * n) < levels
unfolding sent_dibit
sent_dibit-inside n levels long = omega arith

-- a block, if the packet CRC fails
pub softened_block-all : (fields : List Field) (levels : List ℤ) (bare : List Bool) (j : ℕ)
    → names_all fields ≡ true → softened_block fields levels bare j ≡ soft_block 4 half_point (block_levels levels j)
unfolding softened_block
softened_block-all fields levels bare j all =
    cond-true (names_all fields) (soft_block 4 half_point (block_levels levels j)) (cond (names_block fields j) (soft_block 8 three_quarter_point (block_levels levels j)) (block_bits bare j)) all

-- one that fails itself
pub softened_block-named : (fields : List Field) (levels : List ℤ) (bare : List Bool) (j : ℕ) → names_all fields ≡ false → names_block fields j ≡ true
    → softened_block fields levels bare j ≡ soft_block 8 three_quarter_point (block_levels levels j)
unfolding softened_block
softened_block-named fields levels bare j not_all named =
    cond-false (names_all fields) (soft_block 4 half_point (block_levels levels j)) (cond (names_block fields j) (soft_block 8 three_quarter_point (block_levels levels j)) (block_bits bare j)) not_all
    ∙ cond-true (names_block fields j) (soft_block 8 three_quarter_point (block_levels levels j)) (block_bits bare j) named

-- and one that does not
pub softened_block-kept : (fields : List Field) (levels : List ℤ) (bare : List Bool) (j : ℕ)
    → names_all fields ≡ false → names_block fields j ≡ false → softened_block fields levels bare j ≡ block_bits bare j
unfolding softened_block
softened_block-kept fields levels bare j not_all not_named =
    cond-false (names_all fields) (soft_block 4 half_point (block_levels levels j)) (cond (names_block fields j) (soft_block 8 three_quarter_point (block_levels levels j)) (block_bits bare j)) not_all
    ∙ cond-false (names_block fields j) (soft_block 8 three_quarter_point (block_levels levels j)) (block_bits bare j) not_named

pub blocks_replaced-zero : (fields : List Field) → 0 ≡ blocks_replaced fields 0
unfolding blocks_replaced
blocks_replaced-zero fields = refl

pub blocks_replaced-more : (fields : List Field) (n : ℕ) → blocks_replaced fields (n + 1) ≡ blocks_replaced fields n + cond (names_all fields || names_block fields n) 1 0
unfolding blocks_replaced
blocks_replaced-more fields n = ap (blocks_replaced fields) (add-one n)

-- the data unit with its blocks replaced, from its parts
pub softened_bare-from : (fields : List Field) (levels : List ℤ) (n count : ℕ) (bare none start blocks whole : List Bool) → none ≡ [] → start ≡ none ++ part 0 308 bare
    → blocks ≡ start ++ joined_below n (softened_block fields levels bare) → count ≡ length bare → whole ≡ blocks ++ part (308 + 196 * n) (count - (308 + 196 * n)) bare
    → whole ≡ softened_bare fields levels n bare
unfolding softened_bare
softened_bare-from fields levels n count bare none start blocks whole none_is start_is blocks_are count_is whole_is =
    let middle = joined_below n (softened_block fields levels bare) in
    let first : start ≡ take 308 bare = start_is ∙ ap (λ (xs : List Bool). xs ++ part 0 308 bare) none_is in
    let last : part (308 + 196 * n) (count - (308 + 196 * n)) bare ≡ drop (308 + 196 * n) bare
    = ap (λ c. part (308 + 196 * n) (c - (308 + 196 * n)) bare) count_is ∙ sym (drop-is_part (308 + 196 * n) bare) in
    whole_is ∙ ap₂ (λ (xs ys : List Bool). xs ++ ys) (blocks_are ∙ ap (λ (xs : List Bool). xs ++ middle) first) last

none_of_two : (a b : Bool) → ◌≡◌ {A = ℕ} (cond (a || b) 1 0) 0 → (a ≡ false) × (b ≡ false)
none_of_two false false e = (refl, refl)
none_of_two a b e = absurd (omega arith)

-- if none is replaced each block stays
blocks_kept : (fields : List Field) (levels : List ℤ) (bare : List Bool) (n : ℕ) → blocks_replaced fields n ≡ 0 → (j : ℕ) → j < n → softened_block fields levels bare j ≡ block_bits bare j
unfolding blocks_replaced
blocks_kept fields levels bare zero none j below = absurd (omega arith)
blocks_kept fields levels bare (suc n) none j below =
    let before : blocks_replaced fields n ≡ 0 = omega arith in
    let here : ◌≡◌ {A = ℕ} (cond (names_all fields || names_block fields n) 1 0) 0 = omega arith in
    let both = none_of_two (names_all fields) (names_block fields n) here in
    let more : j < n + 1 = omega arith in
    below_more (λ k. softened_block fields levels bare k ≡ block_bits bare k) n (blocks_kept fields levels bare n before) (softened_block-kept fields levels bare n both.0 both.1) j more

softened_bare-kept : (fields : List Field) (levels : List ℤ) (n : ℕ) (bare : List Bool) → blocks_replaced fields n ≡ 0 → softened_bare fields levels n bare ≡ bare
unfolding softened_bare
softened_bare-kept fields levels n bare none =
    let blocks : joined_below n (softened_block fields levels bare) ≡ take (196 * n) (drop 308 bare)
    = joined_below-same n (softened_block fields levels bare) (block_bits bare) (blocks_kept fields levels bare n none) ∙ joined_below-parts 308 196 n bare in
    let last : drop (308 + 196 * n) bare ≡ drop (196 * n) (drop 308 bare) = sym (drop-drop (196 * n) 308 bare) in
    append_assoc (take 308 bare) (joined_below n (softened_block fields levels bare)) (drop (308 + 196 * n) bare)
    ∙ ap (λ (xs : List Bool). take 308 bare ++ xs) (ap₂ (λ (xs ys : List Bool). xs ++ ys) blocks last ∙ take-append-drop (196 * n) (drop 308 bare))
    ∙ take-append-drop 308 bare

-- if none is replaced all bits stay
pub softened_packet-kept : (fields : List Field) (levels : List ℤ) (sent : List Bool) (parts : ℕ)
    → length sent ≡ 72 * parts → blocks_replaced fields (blocks_to_follow sent) ≡ 0 → softened_packet fields levels sent ≡ sent
unfolding softened_packet
softened_packet-kept fields levels sent parts long none =
    ap (λ (bare : List Bool). woven bare (statuses_of sent)) (softened_bare-kept fields levels (blocks_to_follow sent) (bare_of sent) none) ∙ woven-of parts sent long

-- the whole data unit, with its status symbols
pub softened_packet-from : (fields : List Field) (levels : List ℤ) (sent received bare softened_bits whole : List Bool) (statuses : List Status) (n : ℕ) → received ≡ sent → bare ≡ bare_of received
    → statuses ≡ statuses_of received → n ≡ blocks_to_follow sent → softened_bits ≡ softened_bare fields levels n bare → whole ≡ woven softened_bits statuses
    → whole ≡ softened_packet fields levels sent
unfolding softened_packet
softened_packet-from fields levels sent received bare softened_bits whole statuses n same bare_is statuses_are n_is bits_are whole_is =
    whole_is
    ∙ ap₂ (λ (bits : List Bool) (s : List Status). woven bits s)
    (bits_are ∙ ap₂ (λ k (xs : List Bool). softened_bare fields levels k xs) n_is (bare_is ∙ ap bare_of same))
    (statuses_are ∙ ap statuses_of same)
