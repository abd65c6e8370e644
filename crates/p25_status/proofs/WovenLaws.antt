-- Inserting and removing status symbols are inverse. By recursion on the blocks, each of 70 bits and a status symbol.
use Rattle.std.proofs.Common.{◌≡◌, ℕ, zero, suc, ◌+◌, ◌*◌, ◌/◌, ◌<◌, ◌≤◌, Bool, true, false, eqb, List, [], ◌∷◌, ◌++◌, length, take, drop, get_or, refl, ap, ap₂, sym, ◌∙◌, arith, length-append, length-drop}
use Rattle.std.proofs.{Math.Nat.{mod-eq_of_lt}, Math.Seq.{drop-cons}, lemmas.List.{take-append-drop, length-take-le, nil_from_length, get_or-drop, drop-drop, take_at, drop_at}}
use Rattle.std.specs.Int.{bit_at}
use Rattle.p25_bits.specs.Bits.{digit_of, bits_of, field_of, field_after, part}
use Rattle.p25_bits.proofs.{PartLaws.{part-take, drop_behind}, BitsLaws.{length-bits_of, field_of-bits_of}}
use Rattle.p25_status.specs.{Status.{status_number, status_from_bits, same_status}, Woven.{woven, bare_in, bare_of, statuses_in, statuses_of}, declared.symbols.Status.{Status}}

-- two bits of a number below 4 write it
two_digits : (n : ℕ) → n < 4 → 2 * digit_of (eqb (bit_at n 1) 1) + digit_of (eqb (bit_at n 0) 1) ≡ n
unfolding field_of field_after bits_of
two_digits n below = let e = field_of-bits_of 2 n ∙ mod-eq_of_lt below in omega (arith, e)

-- the two bits of a symbol give it back
pub symbol_again : (status : Status) → status_from_bits (eqb (bit_at (status_number status) 1) 1) (eqb (bit_at (status_number status) 0) 1) ≡ status
unfolding status_from_bits
symbol_again status = same_status _ status (two_digits (status_number status) status.below)

-- the symbol of two bits has those bits
pub bits_again : (high low : Bool) → bits_of 2 (status_number (status_from_bits high low)) ≡ high ∷ low ∷ []
unfolding status_from_bits bits_of
bits_again true true = refl
bits_again false true = refl
bits_again high low = refl

-- the bits of a first block are there
whole_block : {X : Type 0} (bits : List Bool) (s : X) (ss : List X) → length bits ≡ 70 * length (s ∷ ss) → length (take 70 bits) ≡ 70
whole_block bits s ss e = length-take-le 70 bits (omega arith)

rest_of_blocks : {X : Type 0} (bits : List Bool) (s : X) (ss : List X) → length bits ≡ 70 * length (s ∷ ss) → length (drop 70 bits) ≡ 70 * length ss
rest_of_blocks bits s ss e = omega (arith, length-drop 70 bits)

-- a block's 72 bits, and those after it
pub after_block : (beginning symbol rest : List Bool) → length beginning ≡ 70 → length symbol ≡ 2 → drop 72 (beginning ++ (symbol ++ rest)) ≡ rest
after_block beginning symbol rest long short = drop_behind 70 2 beginning (symbol ++ rest) long ∙ drop_at symbol rest 2 short

pub length-woven : (bits : List Bool) (statuses : List Status) → length bits ≡ 70 * length statuses → length (woven bits statuses) ≡ 72 * length statuses
unfolding woven
length-woven bits [] e = refl
length-woven bits (s ∷ ss) e =
    length-append (take 70 bits) (bits_of 2 (status_number s) ++ woven (drop 70 bits) ss)
    ∙ omega (
      arith,
      whole_block bits s ss e,
      length-append (bits_of 2 (status_number s)) (woven (drop 70 bits) ss),
      length-bits_of 2 (status_number s),
      length-woven (drop 70 bits) ss (rest_of_blocks bits s ss e),
    )

pub bare_in-woven : (bits : List Bool) (statuses : List Status) → length bits ≡ 70 * length statuses → bare_in (length statuses) (woven bits statuses) ≡ bits
unfolding woven bare_in
bare_in-woven bits [] e = sym (nil_from_length bits e)
bare_in-woven bits (s ∷ ss) e =
    let block = take 70 bits in
    let rest = woven (drop 70 bits) ss in
    let whole = whole_block bits s ss e in
    ap₂ ◌++◌
    (take_at block (bits_of 2 (status_number s) ++ rest) 70 whole)
    (ap (bare_in (length ss)) (after_block block (bits_of 2 (status_number s)) rest whole (length-bits_of 2 (status_number s))) ∙ bare_in-woven (drop 70 bits) ss (rest_of_blocks bits s ss e))
    ∙ take-append-drop 70 bits

pub statuses_in-woven : (bits : List Bool) (statuses : List Status) → length bits ≡ 70 * length statuses → statuses_in (length statuses) (woven bits statuses) ≡ statuses
unfolding woven statuses_in bits_of
statuses_in-woven bits [] e = refl
statuses_in-woven bits (s ∷ ss) e =
    let block = take 70 bits in
    let rest = woven (drop 70 bits) ss in
    let whole = whole_block bits s ss e in
    let sent = block ++ (bits_of 2 (status_number s) ++ rest) in
    let after = drop_at block (bits_of 2 (status_number s) ++ rest) 70 whole in
    let high : get_or sent 70 false ≡ eqb (bit_at (status_number s) 1) 1 = sym (get_or-drop 70 sent 0 false) ∙ ap (λ l. get_or l 0 false) after in
    let low : get_or sent 71 false ≡ eqb (bit_at (status_number s) 0) 1 = sym (get_or-drop 70 sent 1 false) ∙ ap (λ l. get_or l 1 false) after in
    ap₂ ◌∷◌
    (ap₂ status_from_bits high low ∙ symbol_again s)
    (ap (statuses_in (length ss)) (after_block block (bits_of 2 (status_number s)) rest whole (length-bits_of 2 (status_number s))) ∙ statuses_in-woven (drop 70 bits) ss (rest_of_blocks bits s ss e))

-- blocks that are counted by their length
blocks_counted : (blocks : ℕ) → 72 * blocks / 72 ≡ blocks
blocks_counted blocks = omega arith

pub bare_of-woven : (bits : List Bool) (statuses : List Status) → length bits ≡ 70 * length statuses → bare_of (woven bits statuses) ≡ bits
unfolding bare_of
bare_of-woven bits statuses e =
    let blocks = ap (λ n. n / 72) (length-woven bits statuses e) ∙ blocks_counted (length statuses) in
    ap (λ n. bare_in n (woven bits statuses)) blocks ∙ bare_in-woven bits statuses e

pub statuses_of-woven : (bits : List Bool) (statuses : List Status) → length bits ≡ 70 * length statuses → statuses_of (woven bits statuses) ≡ statuses
unfolding statuses_of
statuses_of-woven bits statuses e =
    let blocks = ap (λ n. n / 72) (length-woven bits statuses e) ∙ blocks_counted (length statuses) in
    ap (λ n. statuses_in n (woven bits statuses)) blocks ∙ statuses_in-woven bits statuses e

-- the parts of a block
block_whole : (sent : List Bool) → 72 ≤ length sent → take 70 sent ++ ((get_or sent 70 false ∷ get_or sent 71 false ∷ []) ++ drop 72 sent) ≡ sent
block_whole sent h =
    let first : 70 < length sent = omega arith in
    let second : 71 < length sent = omega arith in
    ap (λ l. take 70 sent ++ (get_or sent 70 false ∷ l)) (sym (drop-cons sent 71 false second))
    ∙ ap (λ l. take 70 sent ++ l) (sym (drop-cons sent 70 false first))
    ∙ take-append-drop 70 sent

pub woven-in : (blocks : ℕ) (sent : List Bool) → length sent ≡ 72 * blocks → woven (bare_in blocks sent) (statuses_in blocks sent) ≡ sent
unfolding woven bare_in statuses_in
woven-in zero sent e = sym (nil_from_length sent e)
woven-in (suc blocks) sent e =
    let enough : 72 ≤ length sent = omega arith in
    let whole : length (take 70 sent) ≡ 70 = length-take-le 70 sent (omega arith) in
    let left : length (drop 72 sent) ≡ 72 * blocks = omega (arith, length-drop 72 sent) in
    let high = get_or sent 70 false in
    let low = get_or sent 71 false in
    let bare = bare_in blocks (drop 72 sent) in
    ap₂ ◌++◌
    (take_at (take 70 sent) bare 70 whole)
    (
    ap₂ ◌++◌
    (bits_again high low)
    (ap (λ l. woven l (statuses_in blocks (drop 72 sent))) (drop_at (take 70 sent) bare 70 whole) ∙ woven-in blocks (drop 72 sent) left)
    )
    ∙ block_whole sent enough

-- bits that were taken apart and are woven again are as before
pub woven-of : (blocks : ℕ) (sent : List Bool) → length sent ≡ 72 * blocks → woven (bare_of sent) (statuses_of sent) ≡ sent
unfolding bare_of statuses_of
woven-of blocks sent e =
    let counted : length sent / 72 ≡ blocks = ap (λ n. n / 72) e ∙ blocks_counted blocks in
    ap (λ n. woven (bare_in n sent) (statuses_in n sent)) counted ∙ woven-in blocks sent e

pub length-bare_in : (blocks : ℕ) (sent : List Bool) → length sent ≡ 72 * blocks → length (bare_in blocks sent) ≡ 70 * blocks
unfolding bare_in
length-bare_in zero sent e = refl
length-bare_in (suc blocks) sent e =
    let left : length (drop 72 sent) ≡ 72 * blocks = omega (arith, length-drop 72 sent) in
    length-append (take 70 sent) (bare_in blocks (drop 72 sent)) ∙ omega (arith, length-take-le 70 sent (omega arith), length-bare_in blocks (drop 72 sent) left)

pub length-statuses_in : (blocks : ℕ) (sent : List Bool) → length (statuses_in blocks sent) ≡ blocks
unfolding statuses_in
length-statuses_in zero sent = refl
length-statuses_in (suc blocks) sent = ap suc (length-statuses_in blocks (drop 72 sent))

pub length-bare_of : (blocks : ℕ) (sent : List Bool) → length sent ≡ 72 * blocks → length (bare_of sent) ≡ 70 * blocks
unfolding bare_of
length-bare_of blocks sent e =
    let counted : length sent / 72 ≡ blocks = ap (λ n. n / 72) e ∙ blocks_counted blocks in
    ap (λ n. length (bare_in n sent)) counted ∙ length-bare_in blocks sent e

pub length-statuses_of : (blocks : ℕ) (sent : List Bool) → length sent ≡ 72 * blocks → length (statuses_of sent) ≡ blocks
unfolding statuses_of
length-statuses_of blocks sent e =
    let counted : length sent / 72 ≡ blocks = ap (λ n. n / 72) e ∙ blocks_counted blocks in
    length-statuses_in (length sent / 72) sent ∙ counted

-- a part of the first of two lists is that part of the list
part_of_front : (xs ys : List Bool) (from count n : ℕ) → length xs ≡ n → from + count ≤ n → part from count (xs ++ ys) ≡ part from count xs
part_of_front xs ys from count n e h = sym (part-take from count n (xs ++ ys) h) ∙ ap (part from count) (take_at xs ys n e)

part_in : (blocks i from count : ℕ) (sent : List Bool) → length sent ≡ 72 * blocks → i < blocks → from + count ≤ 70 → part (70 * i + from) count (bare_in blocks sent) ≡ part (72 * i + from) count sent
unfolding bare_in
part_in zero i from count sent e h few = absurd (omega arith)
part_in (suc blocks) zero from count sent e h few =
    let whole : length (take 70 sent) ≡ 70 = length-take-le 70 sent (omega arith) in
    let place : 0 + from ≡ from = omega arith in
    ap (λ n. part n count (take 70 sent ++ bare_in blocks (drop 72 sent))) place
    ∙ part_of_front (take 70 sent) (bare_in blocks (drop 72 sent)) from count 70 whole few
    ∙ part-take from count 70 sent few
    ∙ ap (λ n. part n count sent) (sym place)
part_in (suc blocks) (suc i) from count sent e h few =
    let whole : length (take 70 sent) ≡ 70 = length-take-le 70 sent (omega arith) in
    let left : length (drop 72 sent) ≡ 72 * blocks = omega (arith, length-drop 72 sent) in
    let place : 70 * suc i + from ≡ 70 + (70 * i + from) = omega arith in
    let sent_place : 72 + (72 * i + from) ≡ 72 * suc i + from = omega arith in
    let inside : i < blocks = omega arith in
    ap (λ n. part n count (take 70 sent ++ bare_in blocks (drop 72 sent))) place
    ∙ ap (take count) (drop_behind 70 (70 * i + from) (take 70 sent) (bare_in blocks (drop 72 sent)) whole)
    ∙ part_in blocks i from count (drop 72 sent) left inside few
    ∙ ap (take count) (drop-drop (72 * i + from) 72 sent)
    ∙ ap (λ n. part n count sent) sent_place

-- a part of one block of a data unit is a part of that transmitted block
pub part-bare_of : (blocks i from count : ℕ) (sent : List Bool)
    → length sent ≡ 72 * blocks → i < blocks → from + count ≤ 70 → part (70 * i + from) count (bare_of sent) ≡ part (72 * i + from) count sent
unfolding bare_of
part-bare_of blocks i from count sent e h few =
    let counted : length sent / 72 ≡ blocks = ap (λ n. n / 72) e ∙ blocks_counted blocks in
    ap (λ n. part (70 * i + from) count (bare_in n sent)) counted ∙ part_in blocks i from count sent e h few
