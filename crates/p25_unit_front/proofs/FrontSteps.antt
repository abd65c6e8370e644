-- Sync and NID as numbers and as bits: a number of two fields, and the weight of an exclusive or as a distance.
use Rattle.std.proofs.{Common.{◌≡◌, ℕ, ◌+◌, ◌*◌, ◌^◌, ◌≤◌, Bool, List, length, take, drop, ap, ap₂, sym, ◌∙◌, arith, length-drop}, lemmas.List.{length-take-le, drop-drop}}
use Rattle.p25_bits.specs.{Bits.{bits_of, field_of, part}, Distance.{distance_of}}
use Rattle.p25_bits.proofs.BitsLaws.{bits_of-field_of, field_of-append}
use Rattle.p25_status.specs.Sync.{sync_bits}
use Rattle.p25_bch_nid.specs.NidWord.{nid_word}
use Rattle.p25_unit_front.specs.Front.{identifier_bits, front_fixes_of}
use Rattle.p25_unit_front.proofs.FrontLaws.{length-identifier_bits, front_fixes_of-parts}

-- the number of an identifier is that of the bits before the status symbol, and then of those after it
pub identifier_number : (bits : List Bool) (at before behind : ℕ) → at + 114 ≤ length bits
    → before ≡ field_of (part (at + 48) 22 bits) → behind ≡ field_of (part (at + 72) 42 bits) → before * 2 ^ 42 + behind ≡ field_of (identifier_bits (drop at bits))
unfolding identifier_bits
identifier_number bits at before behind there first second =
    let rest = drop at bits in
    let left : part 48 22 rest ≡ part (at + 48) 22 bits = ap (take 22) (drop-drop 48 at bits) in
    let right : part 72 42 rest ≡ part (at + 72) 42 bits = ap (take 42) (drop-drop 72 at bits) in
    let long : length (part 72 42 rest) ≡ 42 = length-take-le 42 (drop 72 rest) (omega (arith, length-drop 72 rest, length-drop at bits)) in
    sym
    (field_of-append (part 48 22 rest) (part 72 42 rest)
    ∙ ap₂ (λ (a b : ℕ). a + b)
    (ap₂ (λ (a n : ℕ). a * 2 ^ n) (ap field_of left ∙ sym first) long)
    (ap field_of right ∙ sym second))

-- the bits of that number are the identifier's
pub identifier_bits-of : (rest : List Bool) (number : ℕ) → 114 ≤ length rest → number ≡ field_of (identifier_bits rest) → bits_of 64 number ≡ identifier_bits rest
identifier_bits-of rest number long is = ap₂ bits_of (sym (length-identifier_bits rest long)) is ∙ bits_of-field_of (identifier_bits rest)

-- the bits of a window's number are the window
pub window_bits : (bits : List Bool) (at window : ℕ) → at + 48 ≤ length bits → window ≡ field_of (part at 48 bits) → bits_of 48 window ≡ take 48 (drop at bits)
window_bits bits at window there is =
    let long : length (part at 48 bits) ≡ 48 = length-take-le 48 (drop at bits) (omega (arith, length-drop at bits)) in
    ap₂ bits_of (sym long) is ∙ bits_of-field_of (part at 48 bits)

-- the fixes of sync and NID are those of the window of the sync and those of the NID
pub front_fixes-parts : (nid : ℕ × ℕ) (bits : List Bool) (at window number sync_count nid_count : ℕ)
    → at + 114 ≤ length bits → window ≡ field_of (part at 48 bits) → number ≡ field_of (identifier_bits (drop at bits)) → sync_count ≡ distance_of (bits_of 48 window) sync_bits
    → nid_count ≡ distance_of (take 63 (bits_of 64 number)) (take 63 (nid_word nid.0 nid.1)) → sync_count + nid_count ≡ front_fixes_of nid (drop at bits)
front_fixes-parts nid bits at window number sync_count nid_count there window_is number_is sync_is nid_is =
    let rest = drop at bits in
    let long : 114 ≤ length rest = omega (arith, length-drop at bits) in
    ap₂ (λ a b. a + b)
    (sync_is ∙ ap (λ xs. distance_of xs sync_bits) (window_bits bits at window (omega arith) window_is))
    (nid_is ∙ ap (λ xs. distance_of (take 63 xs) (take 63 (nid_word nid.0 nid.1))) (identifier_bits-of rest number long number_is))
    ∙ sym (front_fixes_of-parts nid rest (omega arith))
