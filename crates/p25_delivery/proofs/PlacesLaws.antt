-- Blocks in their entries: those that slots one after another store there, and the octets of all. By recursion on the slots and on the entries.
use Rattle.std.proofs.{Common.{◌≡◌, ℕ, suc, ◌+◌, Bool, true, false, cond, List, [], ◌∷◌, ◌++◌, length, take, Option, Some, None, refl, ap, sym, ◌∙◌, append_assoc}, lemmas.List.{append-nil}}
use Rattle.std.proofs.Math.ListN.{length-set}
use Rattle.std.specs.Prelude.{slice_get, slice_set, nat_lt}
use Rattle.p25_packet_blocks.specs.{Parts.{BlockParts}, declared.block.Slot.{Slot}, declared.block.Slot.TheVariants.{Good, Bad}}
use Rattle.p25_delivery.specs.Places.{put_block, put_slots, before_octets, all_octets}
use Rattle.p25_delivery.proofs.ListLaws.{take_get}

pub length-put_block : (places : List (Option BlockParts)) (block : BlockParts) → length (put_block places block) ≡ length places
unfolding put_block
length-put_block places block =
    elim (nat_lt block.serial (length places)) as (λ (b : Bool). length (cond b (slice_set places block.serial (Some block)) places) ≡ length places)
    [ true ↦ length-set places block.serial (Some block) | false ↦ refl ]

pub length-put_slots : (places : List (Option BlockParts)) (slots : List Slot) → length (put_slots places slots) ≡ length places
unfolding put_slots
length-put_slots places [] = refl
length-put_slots places (Bad ∷ slots) = length-put_slots places slots
length-put_slots places (Good block ∷ slots) = length-put_slots (put_block places block) slots ∙ length-put_block places block

pub put_slots-append : (places : List (Option BlockParts)) (xs ys : List Slot) → put_slots places (xs ++ ys) ≡ put_slots (put_slots places xs) ys
unfolding put_slots
put_slots-append places [] ys = refl
put_slots-append places (Bad ∷ xs) ys = put_slots-append places xs ys
put_slots-append places (Good block ∷ xs) ys = put_slots-append (put_block places block) xs ys

-- one more slot
pub put_slots-good : (places : List (Option BlockParts)) (slots : List Slot) (j : ℕ) (block : BlockParts)
    → slice_get slots j ≡ Some (Good block) → put_slots places (take (j + 1) slots) ≡ put_block (put_slots places (take j slots)) block
unfolding put_slots
put_slots-good places slots j block e = cc (take_get slots j (Good block) e, put_slots-append places (take j slots) (Good block ∷ []))

pub put_slots-bad : (places : List (Option BlockParts)) (slots : List Slot) (j : ℕ) → slice_get slots j ≡ Some Bad → put_slots places (take (j + 1) slots) ≡ put_slots places (take j slots)
unfolding put_slots
put_slots-bad places slots j e = cc (take_get slots j Bad e, put_slots-append places (take j slots) (Bad ∷ []))

-- without slots nothing is stored
pub put_slots-nil : (places : List (Option BlockParts)) → put_slots places [] ≡ places
unfolding put_slots
put_slots-nil places = refl

-- the octets of some entries before the octets of others
abbrev pub both_octets : Option (List ℕ) → Option (List ℕ) → Option (List ℕ)
both_octets None others = None
both_octets (Some octets) others = before_octets octets others

both_octets-nil : (others : Option (List ℕ)) → both_octets (Some []) others ≡ others
both_octets-nil None = refl
both_octets-nil (Some octets) = refl

both_octets-before : (first : List ℕ) (some others : Option (List ℕ)) → before_octets first (both_octets some others) ≡ both_octets (before_octets first some) others
both_octets-before first (Some octets) (Some more) = cc (append_assoc first octets more)
both_octets-before first some others = refl

pub all_octets-append : (xs ys : List (Option BlockParts)) → all_octets (xs ++ ys) ≡ both_octets (all_octets xs) (all_octets ys)
unfolding all_octets
all_octets-append [] ys = sym (both_octets-nil (all_octets ys))
all_octets-append (None ∷ xs) ys = refl
all_octets-append (Some block ∷ xs) ys = cc (all_octets-append xs ys, both_octets-before block.octets (all_octets xs) (all_octets ys))

-- one more entry that holds its block
pub all_octets-more : (places : List (Option BlockParts)) (i : ℕ) (block : BlockParts) (octets : List ℕ) → slice_get places i ≡ Some (Some block) → all_octets (take i places) ≡ Some octets →
    all_octets (take (i + 1) places) ≡ Some (octets ++ block.octets)
unfolding all_octets
all_octets-more places i block octets e f =
    cc (take_get places i (Some block) e, all_octets-append (take i places) (Some block ∷ []), append-nil block.octets)

-- no octets if an entry is empty
pub all_octets-empty : (places : List (Option BlockParts)) (i : ℕ) → slice_get places i ≡ Some None → all_octets places ≡ None
unfolding all_octets
all_octets-empty (None ∷ places) i e = refl
all_octets-empty (Some block ∷ places) (suc i) e = ap (before_octets block.octets) (all_octets-empty places i e)
all_octets-empty places i e = cc

pub all_octets-nil : all_octets [] ≡ Some []
unfolding all_octets
all_octets-nil = refl
