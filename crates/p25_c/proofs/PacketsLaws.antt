-- Packets as numbers and octets: the bits that are taken, and the blocks that are held.
use Rattle.std.proofs.Common.{◌≡◌, ◌≢◌, ℕ, zero, suc, ◌+◌, ◌-◌, ◌*◌, ◌/◌, ◌%◌, ◌<◌, ◌≤◌, Bool, true, false, cond, List, [], ◌∷◌, ◌++◌, length, take, drop, min, Option, Some, None, refl, sym, ap, subst, ◌∙◌, arith, add-one, inl, inr, length-append}
use Rattle.std.proofs.{lemmas.Bool.{cases_lt, cond-false, cond-true}, lemmas.List.{drop_min, get_or_append_left, take_min}, Math.Seq.{get_or-append_seam}}
use Rattle.std.specs.{Prelude.{slice_index_or}, Option.{option_map}}
use Rattle.p25_bits.specs.Bits.{octet_bits}
use Rattle.p25_packet_blocks.specs.{Whole.{AreGood}, declared.block.Block.{Block}, declared.block.Slot.{Slot}, declared.block.Slot.TheVariants.{Good, Bad}}
use Rattle.p25_c.specs.{Packets.{is_sendable_at, slot_held, slots_held, unit_bits}, declared.packets.PacketParts.{PacketParts}}

-- the bits that are taken
pub bits-taken : (bit : ℕ) (octets there : List ℕ) (held left : List Bool) → there ≡ drop (min (bit / 8) (length octets)) octets
    → held ≡ octet_bits (take (min 3241 (length there)) there) → left ≡ drop (min (bit % 8) (length held)) held → left ≡ unit_bits bit octets
bits-taken bit octets there held left is_there is_held is_left =
    is_left
    ∙ drop_min (bit % 8) held
    ∙ ap (drop (bit % 8)) (is_held ∙ ap octet_bits (take_min 3241 there))
    ∙ ap (λ (xs : List ℕ). drop (bit % 8) (octet_bits (take 3241 xs))) (is_there ∙ drop_min (bit / 8) octets)

-- one more block that can be sent, and one that cannot
pub slots-more : (n : ℕ) (parts : PacketParts) (slots : List Slot) → is_sendable_at parts n ≡ true → slots_held n parts ≡ Some slots
    → slots_held (n + 1) parts ≡ Some (slots ++ slot_held parts n ∷ [])
unfolding slots_held
slots-more n parts slots can held =
    rw add-one (cond-true _ (option_map (λ (xs : List Slot). xs ++ slot_held parts n ∷ []) (slots_held n parts)) None can
    ∙ ap (option_map (λ (xs : List Slot). xs ++ slot_held parts n ∷ [])) held)

slots-stop : (n : ℕ) (parts : PacketParts) → is_sendable_at parts n ≡ false → slots_held (suc n) parts ≡ None
unfolding slots_held
slots-stop n parts cannot = cond-false _ (option_map (λ (xs : List Slot). xs ++ slot_held parts n ∷ []) (slots_held n parts)) None cannot

slots-none : (n : ℕ) (parts : PacketParts) → slots_held n parts ≡ None → slots_held (suc n) parts ≡ None
unfolding slots_held
slots-none n parts none =
    let more : Option (List Slot) → Option (List Slot) = option_map (λ (xs : List Slot). xs ++ slot_held parts n ∷ []) in
    elim (is_sendable_at parts n) as (λ (b : Bool). cond b (more (slots_held n parts)) None ≡ None) [ true ↦ ap more none | false ↦ refl ]

slots-above : (k n : ℕ) (parts : PacketParts) → slots_held (suc n) parts ≡ None → slots_held (k + suc n) parts ≡ None
slots-above zero n parts none =
    let same : suc n ≡ 0 + suc n = omega arith in
    subst (λ (m : ℕ). slots_held m parts ≡ None) same none
slots-above (suc k) n parts none =
    let same : suc (k + suc n) ≡ suc k + suc n = omega arith in
    subst (λ (m : ℕ). slots_held m parts ≡ None) same (slots-none (k + suc n) parts (slots-above k n parts none))

-- if a block before n cannot be sent, none are held
pub slots-refused : (n j : ℕ) (parts : PacketParts) → j < n → is_sendable_at parts j ≡ false → slots_held n parts ≡ None
slots-refused n j parts below cannot =
    let same : (n - suc j) + suc j ≡ n = omega (arith, below) in
    subst (λ (m : ℕ). slots_held m parts ≡ None) same (slots-above (n - suc j) j parts (slots-stop j parts cannot))

-- a good block more
good-bad : (block : Block) → Good block ≢ Bad
good-bad block same = cc

pub good-more : (slots : List Slot) (block : Block) → AreGood slots → AreGood (slots ++ Good block ∷ [])
good-more slots block held = record {
  at =
      λ j inside bad.
      elim (cases_lt j (length slots)) [
        | inl below ↦ held.at j below (sym (get_or_append_left slots (Good block ∷ []) Bad j below) ∙ bad)
        | inr above ↦
            let last : j ≡ length slots = omega (arith, inside, above, length-append slots (Good block ∷ [])) in
            good-bad block (sym (get_or-append_seam slots (Good block) [] Bad) ∙ ap (λ (i : ℕ). slice_index_or (slots ++ Good block ∷ []) i Bad) (sym last) ∙ bad)
      ];
}

-- before the first block
pub slots-zero : (parts : PacketParts) → slots_held 0 parts ≡ Some []
unfolding slots_held
slots-zero parts = refl

none-inside : (j : ℕ) → j < 0 → ⊥
none-inside j below = omega (arith, below)

pub good-none : AreGood []
good-none = record { at = λ j inside bad. none-inside j inside }
