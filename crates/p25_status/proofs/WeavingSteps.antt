-- The steps of the loops over the blocks of a data unit: one block more. The blocks from a position on begin with that block.
use Rattle.std.proofs.Common.{◌≡◌, ℕ, suc, ◌+◌, ◌-◌, ◌*◌, ◌<◌, ◌≤◌, Bool, false, List, [], ◌∷◌, ◌++◌, length, take, drop, get_or, slice_get, Some, ap, ap₂, sym, ◌∙◌, arith, append_assoc}
use Rattle.std.proofs.{lemmas.Option.{slice_get_within, get_or_from_slice_get}, lemmas.List.{drop_more, drop-drop, get_or-drop}}
use Rattle.p25_bits.specs.Bits.{digit_of, bits_of, field_of, field_after, part}
use Rattle.p25_bits.proofs.PartLaws.{get_or-part}
use Rattle.p25_status.specs.{Status.{status_number, status_from_bits, same_status}, Woven.{woven, bare_in, statuses_in}, declared.symbols.Status.{Status}}

-- the blocks from block i on begin with that block
pub woven_block : (bits : List Bool) (statuses : List Status) (i : ℕ) (status : Status) → slice_get statuses i ≡ Some status
    → woven (drop (70 * i) bits) (drop i statuses) ≡ part (70 * i) 70 bits ++ (bits_of 2 (status_number status) ++ woven (drop (70 * (i + 1)) bits) (drop (i + 1) statuses))
unfolding woven
woven_block bits statuses i status h =
    let inside = slice_get_within statuses i status h in
    let next : 70 * i + 70 ≡ 70 * (i + 1) = omega arith in
    let here : drop i statuses ≡ status ∷ drop (i + 1) statuses = drop_more statuses i status inside ∙ ap (λ s. s ∷ drop (i + 1) statuses) (get_or_from_slice_get statuses i status status h) in
    ap (woven (drop (70 * i) bits)) here
    ∙ ap (λ l. part (70 * i) 70 bits ++ (bits_of 2 (status_number status) ++ woven l (drop (i + 1) statuses))) (drop-drop 70 (70 * i) bits ∙ ap (λ n. drop n bits) next)

-- no blocks are left
pub woven_none : (bits : List Bool) (statuses : List Status) → statuses ≡ [] → woven bits statuses ≡ []
unfolding woven
woven_none bits statuses none = ap (woven bits) none

pub bare_block : (blocks i : ℕ) (sent : List Bool) → i < blocks → bare_in (blocks - i) (drop (72 * i) sent) ≡ part (72 * i) 70 sent ++ bare_in (blocks - (i + 1)) (drop (72 * (i + 1)) sent)
unfolding bare_in
bare_block blocks i sent h =
    let more : blocks - i ≡ suc (blocks - (i + 1)) = omega arith in
    let next : 72 * i + 72 ≡ 72 * (i + 1) = omega arith in
    ap (λ n. bare_in n (drop (72 * i) sent)) more
    ∙ ap (λ l. part (72 * i) 70 sent ++ bare_in (blocks - (i + 1)) l) (drop-drop 72 (72 * i) sent ∙ ap (λ n. drop n sent) next)

pub statuses_block : (blocks i : ℕ) (sent : List Bool) → i < blocks
    → statuses_in (blocks - i) (drop (72 * i) sent) ≡ status_from_bits (get_or sent (72 * i + 70) false) (get_or sent (72 * i + 71) false) ∷ statuses_in (blocks - (i + 1)) (drop (72 * (i + 1)) sent)
unfolding statuses_in
statuses_block blocks i sent h =
    let more : blocks - i ≡ suc (blocks - (i + 1)) = omega arith in
    let next : 72 * i + 72 ≡ 72 * (i + 1) = omega arith in
    ap (λ n. statuses_in n (drop (72 * i) sent)) more
    ∙ ap₂ ◌∷◌
    (ap₂ status_from_bits (get_or-drop (72 * i) sent 70 false) (get_or-drop (72 * i) sent 71 false))
    (ap (statuses_in (blocks - (i + 1))) (drop-drop 72 (72 * i) sent ∙ ap (λ n. drop n sent) next))

pub bare_none : (blocks i : ℕ) (sent : List Bool) → blocks ≤ i → bare_in (blocks - i) sent ≡ []
unfolding bare_in
bare_none blocks i sent h = let none : blocks - i ≡ 0 = omega arith in ap (λ n. bare_in n sent) none

pub statuses_none : (blocks i : ℕ) (sent : List Bool) → blocks ≤ i → statuses_in (blocks - i) sent ≡ []
unfolding statuses_in
statuses_none blocks i sent h = let none : blocks - i ≡ 0 = omega arith in ap (λ n. statuses_in n sent) none

-- the bits before a block, with that block, before the blocks after it
pub woven_more : (bits : List Bool) (statuses : List Status) (i : ℕ) (status : Status) (out longer : List Bool) → slice_get statuses i ≡ Some status
    → longer ≡ (out ++ part (70 * i) 70 bits) ++ bits_of 2 (status_number status)
    → longer ++ woven (drop (70 * (i + 1)) bits) (drop (i + 1) statuses) ≡ out ++ woven (drop (70 * i) bits) (drop i statuses)
woven_more bits statuses i status out longer h is =
    let block = part (70 * i) 70 bits in
    let symbol = bits_of 2 (status_number status) in
    let rest = woven (drop (70 * (i + 1)) bits) (drop (i + 1) statuses) in
    ap (λ xs. xs ++ rest) is
    ∙ append_assoc (out ++ block) symbol rest
    ∙ append_assoc out block (symbol ++ rest)
    ∙ ap (λ xs. out ++ xs) (sym (woven_block bits statuses i status h))

-- the bits of one block more, taken apart
pub bare_more : (blocks i : ℕ) (sent out longer block : List Bool) → i < blocks → block ≡ part (72 * i) 70 sent → longer ≡ out ++ block
    → longer ++ bare_in (blocks - (i + 1)) (drop (72 * (i + 1)) sent) ≡ out ++ bare_in (blocks - i) (drop (72 * i) sent)
bare_more blocks i sent out longer block h same is =
    let rest = bare_in (blocks - (i + 1)) (drop (72 * (i + 1)) sent) in
    ap (λ xs. xs ++ rest) (is ∙ ap (λ xs. out ++ xs) same)
    ∙ append_assoc out (part (72 * i) 70 sent) rest
    ∙ ap (λ xs. out ++ xs) (sym (bare_block blocks i sent h))

-- the status symbol of one block more, taken apart
pub statuses_more : (blocks i : ℕ) (sent : List Bool) (out longer : List Status) (status : Status) → i < blocks
    → status ≡ status_from_bits (get_or sent (72 * i + 70) false) (get_or sent (72 * i + 71) false) → longer ≡ out ++ status ∷ []
    → longer ++ statuses_in (blocks - (i + 1)) (drop (72 * (i + 1)) sent) ≡ out ++ statuses_in (blocks - i) (drop (72 * i) sent)
statuses_more blocks i sent out longer status h same is =
    let rest = statuses_in (blocks - (i + 1)) (drop (72 * (i + 1)) sent) in
    ap (λ xs. xs ++ rest) (is ∙ ap (λ s. out ++ s ∷ []) same)
    ∙ append_assoc out (status_from_bits (get_or sent (72 * i + 70) false) (get_or sent (72 * i + 71) false) ∷ []) rest
    ∙ ap (λ xs. out ++ xs) (sym (statuses_block blocks i sent h))

-- two bits as a number
field_of-two : (bits : List Bool) (k : ℕ) → k + 2 ≤ length bits → field_of (part k 2 bits) ≡ 2 * digit_of (get_or bits k false) + digit_of (get_or bits (k + 1) false)
unfolding field_of field_after
field_of-two bits k there =
    let first : k < length bits = omega arith in
    let second : k + 1 < length bits = omega arith in
    ap (λ rest. field_of (take 2 rest)) (drop_more bits k false first ∙ ap (λ rest. get_or bits k false ∷ rest) (drop_more bits (k + 1) false second)) ∙ omega arith

-- the symbol of two bits that were read is the one of those bits of the part
pub status_read : (bits : List Bool) (at len from number : ℕ) (status : Status) → from + 2 ≤ len → at + len ≤ length bits → status_number status ≡ number → number ≡ field_of (part (at + from) 2 bits)
    → status ≡ status_from_bits (get_or (part at len bits) from false) (get_or (part at len bits) (from + 1) false)
unfolding status_from_bits
status_read bits at len from number status inside there is read =
    let both : at + from + 2 ≤ length bits = omega arith in
    let next : at + (from + 1) ≡ at + from + 1 = omega arith in
    let low : from < len = omega arith in
    let high : from + 1 < len = omega arith in
    same_status
    status
    _
    (is
    ∙ read
    ∙ field_of-two bits (at + from) both
    ∙ sym (ap₂ (λ x y. 2 * digit_of x + digit_of y) (get_or-part at len from bits false low) (get_or-part at len (from + 1) bits false high ∙ ap (λ k. get_or bits k false) next)))
