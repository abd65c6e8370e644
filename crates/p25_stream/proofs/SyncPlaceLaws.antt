-- The least position with a sync: by recursion on the bits, and by the number of positions that are known to have none.
use Rattle.std.proofs.Common.{◌≡◌, ℕ, zero, suc, ◌+◌, ◌<◌, ◌≤◌, inl, inr, Bool, true, false, List, [], ◌∷◌, ◌++◌, length, drop, refl, ap, sym, ◌∙◌, arith, length-drop}
use Rattle.std.proofs.lemmas.Bool.{cases_Bool, cond-true, cond-false}
use Rattle.p25_status.specs.Sync.{has_sync}
use Rattle.p25_status.proofs.SyncLaws.{has_sync-short, has_sync-length, has_sync-append}
use Rattle.p25_stream.specs.Items.{sync_place}

-- a first position with a sync, and one without
pub sync_place-here : (bit : Bool) (bits : List Bool) → has_sync (bit ∷ bits) ≡ true → sync_place (bit ∷ bits) ≡ 0
unfolding sync_place
sync_place-here bit bits yes' = cond-true (has_sync (bit ∷ bits)) 0 (suc (sync_place bits)) yes'

pub sync_place-later : (bit : Bool) (bits : List Bool) → has_sync (bit ∷ bits) ≡ false → sync_place (bit ∷ bits) ≡ suc (sync_place bits)
unfolding sync_place
sync_place-later bit bits no' = cond-false (has_sync (bit ∷ bits)) 0 (suc (sync_place bits)) no'

pub sync_place-nil : sync_place [] ≡ 0
unfolding sync_place
sync_place-nil = refl

-- it is among the bits, or at their end
pub sync_place-le : (bits : List Bool) → sync_place bits ≤ length bits
sync_place-le [] = omega (arith, sync_place-nil)
sync_place-le (bit ∷ bits) =
    elim (cases_Bool (has_sync (bit ∷ bits))) [
      | inl yes' ↦ omega (arith, sync_place-here bit bits yes')
      | inr no' ↦ omega (arith, sync_place-later bit bits no', sync_place-le bits)
    ]

-- bits that begin with a sync
pub sync_place-synced : (bits : List Bool) → has_sync bits ≡ true → sync_place bits ≡ 0
sync_place-synced [] yes' = sync_place-nil
sync_place-synced (bit ∷ bits) yes' = sync_place-here bit bits yes'

-- if some positions have none, the bits after them decide the least position that has one
pub sync_place-from : (count : ℕ) (bits : List Bool) → count ≤ sync_place bits → sync_place bits ≡ count + sync_place (drop count bits)
sync_place-from zero bits few = omega arith
sync_place-from (suc count) [] few = absurd (omega (arith, sync_place-nil))
sync_place-from (suc count) (bit ∷ bits) few =
    elim (cases_Bool (has_sync (bit ∷ bits))) [
      | inl yes' ↦ absurd (omega (arith, sync_place-here bit bits yes'))
      | inr no' ↦
          let later = sync_place-later bit bits no' in
          omega (arith, later, sync_place-from count bits (omega (arith, later)))
    ]

-- one more position without one
pub sync_place-more : (count : ℕ) (bits : List Bool) → count < length bits → count ≤ sync_place bits → has_sync (drop count bits) ≡ false → count + 1 ≤ sync_place bits
sync_place-more count bits inside few no' =
    let from = sync_place-from count bits few in
    omega (arith, from, some (drop count bits) (omega (arith, length-drop count bits)) no')
  where
    some : (rest : List Bool) → 0 < length rest → has_sync rest ≡ false → 0 < sync_place rest
    some [] long no' = absurd (omega arith)
    some (bit ∷ rest) long no' = omega (arith, sync_place-later bit rest no')

-- the least position has a sync if it is among the bits, and no position before it has one
pub has_sync-at_place : (bits : List Bool) → sync_place bits < length bits → has_sync (drop (sync_place bits) bits) ≡ true
has_sync-at_place bits inside =
    let rest = drop (sync_place bits) bits in
    let none : sync_place rest ≡ 0 = omega (arith, sync_place-from (sync_place bits) bits (omega arith)) in
    elim (cases_Bool (has_sync rest)) [
      | inl yes' ↦ yes'
      | inr no' ↦ absurd (omega (arith, none, sync_place-more 0 rest (omega (arith, length-drop (sync_place bits) bits)) (omega arith) no'))
    ]

pub has_sync-before : (bits : List Bool) (place : ℕ) → place < sync_place bits → has_sync (drop place bits) ≡ false
has_sync-before bits place before =
    elim (cases_Bool (has_sync (drop place bits))) [
      | inl yes' ↦ absurd (omega (arith, sync_place-from place bits (omega arith), sync_place-synced (drop place bits) yes'))
      | inr no' ↦ no'
    ]

-- the bits from the least position on begin with one, or there are none
pub sync_place-left : (bits : List Bool) → sync_place (drop (sync_place bits) bits) ≡ 0
sync_place-left bits = omega (arith, sync_place-from (sync_place bits) bits (omega arith))

-- bits that begin with no sync have none at their first position
pub sync_place-unsynced : (bits : List Bool) → 0 < length bits → has_sync bits ≡ false → 0 < sync_place bits
sync_place-unsynced bits some no' = omega (arith, sync_place-more 0 bits some (omega arith) no')

-- fewer bits than a sync
pub sync_place-short : (bits : List Bool) → length bits < 48 → sync_place bits ≡ length bits
sync_place-short [] short = sync_place-nil
sync_place-short (bit ∷ bits) short = sync_place-later bit bits (has_sync-short (bit ∷ bits) short) ∙ ap suc (sync_place-short bits (omega arith))

-- if no position that can be judged has one, none has
pub sync_place-all : (clear : ℕ) (bits : List Bool) → clear ≤ sync_place bits → length bits < clear + 48 → sync_place bits ≡ length bits
sync_place-all clear bits few short =
    let from = sync_place-from clear bits few in
    omega (arith, from, sync_place-le bits, length-drop clear bits, sync_place-short (drop clear bits) (omega (arith, length-drop clear bits)))

-- the least position with a sync, once its 48 bits are there, is the least if more bits follow
pub sync_place-append : (bits more : List Bool) → sync_place bits + 48 ≤ length bits → sync_place (bits ++ more) ≡ sync_place bits
sync_place-append [] more enough = absurd (omega arith)
sync_place-append (bit ∷ bits) more enough =
    elim (cases_Bool (has_sync (bit ∷ bits))) [
      | inl yes' ↦
          let long = has_sync-length (bit ∷ bits) yes' in
          sync_place-here bit (bits ++ more) (has_sync-append (bit ∷ bits) more long ∙ yes') ∙ sym (sync_place-here bit bits yes')
      | inr no' ↦
          let later = sync_place-later bit bits no' in
          let long : 48 ≤ length (bit ∷ bits) = omega arith in
          sync_place-later bit (bits ++ more) (has_sync-append (bit ∷ bits) more long ∙ no') ∙ ap suc (sync_place-append bits more (omega (arith, later))) ∙ sym later
    ]

-- positions without a sync, once the 48 bits of each are there, have none if more bits follow
pub sync_place-append_far : (count : ℕ) (bits more : List Bool) → count + 47 ≤ length bits → count ≤ sync_place bits → count ≤ sync_place (bits ++ more)
sync_place-append_far zero bits more enough far = omega arith
sync_place-append_far (suc count) [] more enough far = absurd (omega arith)
sync_place-append_far (suc count) (bit ∷ bits) more enough far =
    elim (cases_Bool (has_sync (bit ∷ bits))) [
      | inl yes' ↦ absurd (omega (arith, sync_place-here bit bits yes'))
      | inr no' ↦
          let later = sync_place-later bit bits no' in
          let long : 48 ≤ length (bit ∷ bits) = omega arith in
          omega (arith, sync_place-later bit (bits ++ more) (has_sync-append (bit ∷ bits) more long ∙ no'), sync_place-append_far count bits more (omega arith) (omega (arith, later)))
    ]
