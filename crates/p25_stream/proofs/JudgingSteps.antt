-- The needs of the functions that test bits at each step: the windows of one number, and each result as a case of the knowledge.
use Rattle.std.proofs.Common.{◌≡◌, ℕ, zero, suc, ◌+◌, ◌-◌, ◌/◌, ◌%◌, ◌^◌, ◌<◌, ◌≤◌, inl, inr, Bool, true, false, List, length, take, drop, ap, sym, ◌∙◌, arith, append_assoc, length-drop}
use Rattle.std.proofs.{lemmas.Bool.{cases_lt}, Math.Seq.{take-length}}
use Rattle.p25_bits.specs.{Bits.{bits_of, field_of, part}, Distance.{distance_of}}
use Rattle.p25_bits.proofs.{BitsLaws.{length-bits_of, bits_of-add, bits_of-mod}, NumbersLaws.{bits_of-field}, PartLaws.{part-part, part_joined, part_left, part_right}}
use Rattle.p25_status.specs.Sync.{has_sync, sync_bits, sync_slack}
use Rattle.p25_status.proofs.SyncLaws.{has_sync-yes, has_sync-no, has_sync-take}
use Rattle.p25_stream.specs.Items.{sync_place}
use Rattle.p25_stream.proofs.SyncPlaceLaws.{sync_place-more}

-- the window of a number at an offset
pub window_of : (place count number : ℕ) → place < count → bits_of 48 (number / 2 ^ (count - 1 - place) % 2 ^ 48) ≡ part place 48 (bits_of (47 + count) number)
window_of place count number inside =
    let low = count - 1 - place in
    let high = number / 2 ^ low in
    let split : 47 + count ≡ (place + 48) + low = omega arith in
    rw (bits_of-mod 48 high, split, bits_of-add (place + 48) low number, bits_of-add place 48 high, append_assoc)
    (sym (part_joined place 48 (bits_of place (high / 2 ^ 48)) (bits_of 48 high) (bits_of low number) (length-bits_of place (high / 2 ^ 48)) (length-bits_of 48 high)))

whole_take : (bits : List Bool) → length bits ≡ 48 → take 48 bits ≡ bits
whole_take bits long = rw (← long, take-length)

-- a window with a sync, and one without
pub window-synced : (bits : List Bool) (window : ℕ) → bits_of 48 window ≡ bits → distance_of (bits_of 48 window) sync_bits ≤ sync_slack → has_sync bits ≡ true
window-synced bits window is near =
    let long : 48 ≤ length bits = omega (arith, ap length is, length-bits_of 48 window) in
    let whole : take 48 bits ≡ bits_of 48 window = whole_take bits (sym (ap length is) ∙ length-bits_of 48 window) ∙ sym is in
    has_sync-yes bits long (rw whole near)

pub window-unsynced : (bits : List Bool) (window : ℕ) → bits_of 48 window ≡ bits → (distance_of (bits_of 48 window) sync_bits ≤ sync_slack → ⊥) → has_sync bits ≡ false
window-unsynced bits window is far =
    let whole : take 48 bits ≡ bits_of 48 window = whole_take bits (sym (ap length is) ∙ length-bits_of 48 window) ∙ sym is in
    elim (cases_lt sync_slack (distance_of (take 48 bits) sync_bits)) [
      | inl more ↦ has_sync-no bits more
      | inr few ↦ absurd (far (rw whole at few))
    ]

-- the windows of a field are those of the bits that contain it
pub window_in : (bits : List Bool) (k count place number : ℕ) → k + 47 + count ≤ length bits → place < count → number ≡ field_of (part k (47 + count) bits)
    → has_sync (part place 48 (bits_of (47 + count) number)) ≡ has_sync (drop (k + place) bits)
window_in bits k count place number there inside is =
    let fits : k + (47 + count) ≤ length bits = omega arith in
    let within : place + 48 ≤ 47 + count = omega arith in
    let few : 48 ≤ length (drop (k + place) bits) = omega (arith, length-drop (k + place) bits) in
    rw (is, bits_of-field (47 + count) k bits fits, part-part k (47 + count) place 48 bits within, has_sync-take (drop (k + place) bits) 48 (omega arith) few)

-- `n` more positions without a sync
pub searched-many : (bits : List Bool) (k n : ℕ) → k + n + 47 ≤ length bits → k ≤ sync_place bits → ((place : ℕ) → place < n → has_sync (drop (k + place) bits) ≡ false) → k + n ≤ sync_place bits
searched-many bits k zero there none free = omega arith
searched-many bits k (suc n) there none free =
    let before = searched-many bits k n (omega arith) none (λ place inside. free place (omega arith)) in
    omega (arith, sync_place-more (k + n) bits (omega arith) before (free n (omega arith)))

-- the positions of a field that have none, as positions of the bits
pub places-free : (bits : List Bool) (k count free number : ℕ) → k + 47 + count ≤ length bits → free ≤ count → number ≡ field_of (part k (47 + count) bits) → k ≤ sync_place bits
    → ((place : ℕ) → place < free → has_sync (part place 48 (bits_of (47 + count) number)) ≡ false) → k + free ≤ sync_place bits
places-free bits k count zero number there few is none judged = omega arith
places-free bits k count (suc free) number there few is none judged =
    searched-many bits k (suc free) (omega arith) none (λ place inside. sym (window_in bits k count place number there (omega arith) is) ∙ judged place inside)

-- 16 positions are the first eight, and eight more
pub none-of_two_eights : (number : ℕ) → ((place : ℕ) → place < 8 → has_sync (part place 48 (bits_of 55 (number / 2 ^ 8))) ≡ false)
    → ((place : ℕ) → place < 8 → has_sync (part place 48 (bits_of 55 (number % 2 ^ 55))) ≡ false) → (place : ℕ) → place < 16 → has_sync (part place 48 (bits_of 63 number)) ≡ false
none-of_two_eights number high low place inside = elim (cases_lt place 8) [
  | inl early ↦
      let fits : place + 48 ≤ length (bits_of 55 (number / 2 ^ 8)) = omega (arith, length-bits_of 55 (number / 2 ^ 8)) in
      rw (bits_of-add 55 8 number, part_left place 48 (bits_of 55 (number / 2 ^ 8)) (bits_of 8 number) fits) (high place early)
  | inr late ↦
      let front = bits_of 8 (number / 2 ^ 55) in
      let long : length front ≡ 8 = length-bits_of 8 (number / 2 ^ 55) in
      rw (bits_of-add 8 55 number, part_right place 48 front (bits_of 55 number) (omega (arith, long)), long, ← bits_of-mod 55 number) (low (place - 8) (omega arith))
]
