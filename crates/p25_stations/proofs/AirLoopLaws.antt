-- The loops of the channel: one more position inverted, one more status symbol, one more slot. By the laws of lists by their positions.
use Rattle.std.proofs.Common.{◌≡◌, ℕ, zero, suc, ◌+◌, ◌<◌, ◌≤◌, Bool, false, ◌&&◌, List, [], ◌∷◌, ◌++◌, length, take, drop, get_or, Some, refl, ap, ap₂, sym, ◌∙◌, arith}
use Rattle.std.proofs.{lemmas.List.{take_more, drop_more}, Math.Bool.{and-false}, lemmas.Option.{get_or_from_slice_get}}
use Rattle.std.specs.Prelude.{slice_get}
use Rattle.p25_bits.specs.Bits.{flipped}
use Rattle.p25_packet_blocks.specs.{declared.block.Slot.{Slot}, declared.block.Slot.TheVariants.{Bad}}
use Rattle.p25_stations.specs.Air.{with_flips, is_true_slot, are_true_slots}

-- Flips.

pub with_flips-none : (bits : List Bool) → with_flips bits [] ≡ bits
unfolding with_flips
with_flips-none bits = refl

with_flips-push : (bits : List Bool) (flips : List ℕ) (place : ℕ) → with_flips bits (flips ++ place ∷ []) ≡ flipped (with_flips bits flips) place
unfolding with_flips
with_flips-push bits [] place = refl
with_flips-push bits (first ∷ flips) place = with_flips-push (flipped bits first) flips place

pub flipped-past : (bits : List Bool) (place : ℕ) → length bits ≤ place → flipped bits place ≡ bits
flipped-past [] place h = refl
flipped-past (bit ∷ bits) zero h = absurd (omega arith)
flipped-past (bit ∷ bits) (suc place) h = cc (flipped-past bits place (omega arith))

-- one more position
pub with_flips-more : (bits now : List Bool) (flips : List ℕ) (i place : ℕ)
    → slice_get flips i ≡ Some place → i < length flips → now ≡ with_flips bits (take i flips) → flipped now place ≡ with_flips bits (take (i + 1) flips)
with_flips-more bits now flips i place is h e =
    cc (with_flips-push bits (take i flips) place, get_or_from_slice_get flips i place 0 is, take_more flips i 0 h)

-- Slots.

are_true_slots-is : (sent heard : List Slot) (i : ℕ) → i < length sent → i < length heard
    → are_true_slots (drop i sent) (drop i heard) ≡ (is_true_slot (get_or sent i Bad) (get_or heard i Bad) && are_true_slots (drop (i + 1) sent)
    (drop (i + 1) heard))
unfolding are_true_slots
are_true_slots-is sent heard i s h = ap₂ are_true_slots (drop_more sent i Bad s) (drop_more heard i Bad h)

-- one more slot
pub are_true_slots-step : (sent heard : List Slot) (i : ℕ) (was slot : Slot) (same : Bool)
    → length sent ≡ length heard → i < length sent → slice_get sent i ≡ Some was → slice_get heard i ≡ Some slot → same ≡ is_true_slot was slot →
    are_true_slots (drop i sent) (drop i heard) ≡ (same && are_true_slots (drop (i + 1) sent) (drop (i + 1) heard))
are_true_slots-step sent heard i was slot same long h s t e =
    cc (are_true_slots-is sent heard i h (omega arith), get_or_from_slice_get sent i was Bad s, get_or_from_slice_get heard i slot Bad t)

pub are_true_slots-lengths : (sent heard : List Slot) → (length sent ≡ length heard → ⊥) → are_true_slots sent heard ≡ false
unfolding are_true_slots
are_true_slots-lengths [] [] h = absurd (h refl)
are_true_slots-lengths (was ∷ sent) (slot ∷ heard) h =
    cc (are_true_slots-lengths sent heard (λ e. h (ap suc e)), and-false (is_true_slot was slot))
are_true_slots-lengths sent heard h = refl
