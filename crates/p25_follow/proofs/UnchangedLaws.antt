-- If no stretch follows a data unit, all bits are unchanged, and if sync and NID are written, so is all else of the data unit. Along the items, and
-- by splitting lists at known lengths.
use Rattle.std.proofs.Common.{◌≡◌, ℕ, ◌≤◌, Bool, true, false, inl, inr, ◌⊎◌, List, [], ◌∷◌, ◌++◌, length, take, drop, Option, Some, None, refl, arith, append_assoc, append-nil, length-append, length-drop}
use Rattle.std.proofs.lemmas.List.{drop_at, length-take-le, take-append-drop}
use Rattle.std.specs.Option.{is_none}
use Rattle.p25_bits.specs.Bits.{part}
use Rattle.p25_bits.proofs.PartLaws.{part_joined}
use Rattle.p25_unit_front.specs.Front.{unit_front}
use Rattle.p25_unit_front.proofs.FrontLaws.{length-unit_front}
use Rattle.p25_units.specs.declared.item.Item.{Item}
use Rattle.p25_stream.specs.Items.{items_of}
use Rattle.p25_follow.specs.{Chains.{chain_by, with_front}, Followed.{follow_of, followed_by, has_no_stretch, is_rest, unit_name}}
use Rattle.p25_follow.proofs.{ChainLaws.{chain_by-nil, chain_by-none}, FollowingLaws.{along-items, followed-end, followed-rest, followed-unit}, StepLaws.{and_left-true, and_right-true}}

-- ---- the bits of a data unit whose sync and NID are written

module _ (name : ℕ × ℕ) (bits : List Bool) (long : 114 ≤ length bits) where
  first_long : length (take 70 (unit_front name.0 name.1)) ≡ 70
  first_long = length-take-le 70 (unit_front name.0 name.1) (omega (arith, length-unit_front name.0 name.1))

  symbol_long : length (part 70 2 bits) ≡ 2
  symbol_long = length-take-le 2 (drop 70 bits) (omega (arith, length-drop 70 bits))

  pub symbol-stays : part 70 2 (with_front name bits) ≡ part 70 2 bits
  unfolding with_front
  symbol-stays =
      let front = unit_front name.0 name.1 in
      part_joined 70 2 (take 70 front) (part 70 2 bits) (drop 70 front ++ drop 114 bits) first_long symbol_long

  pub rest-stays : drop 114 (with_front name bits) ≡ drop 114 bits
  unfolding with_front
  rest-stays =
      let front = unit_front name.0 name.1 in
      let first = take 70 front ++ (part 70 2 bits ++ drop 70 front) in
      let place : length first ≡ 114 = rw (length-append, length-append) (omega (arith, first_long, symbol_long, length-drop 70 front, length-unit_front name.0 name.1)) in
      rw (← append_assoc (part 70 2 bits), ← append_assoc (take 70 front)) (drop_at first (drop 114 bits) 114 place)

-- ---- a recording without a stretch after a data unit

abbrev Untouched : Option (ℕ × ℕ) → List Bool → Type 0
Untouched before stretch = (before ≡ None) ⊎ (stretch ≡ [])

chain-untouched : (before : Option (ℕ × ℕ)) (stretch : List Bool) (end : Option (ℕ × ℕ)) → Untouched before stretch → chain_by true before stretch end ≡ stretch
chain-untouched before stretch end (inl none) = rw (none, chain_by-none)
chain-untouched before stretch end (inr none) = rw (none, chain_by-nil)

none-is : (before : Option (ℕ × ℕ)) → is_none before ≡ true → before ≡ None
none-is None is = refl
none-is (Some name) is = absurd (cc)

no_stretch-rest : (before : Option (ℕ × ℕ)) (item : Item) (items : List Item) → is_rest item ≡ true → has_no_stretch before (item ∷ items) ≡ true
    → (before ≡ None) × (has_no_stretch before items ≡ true)
unfolding has_no_stretch
no_stretch-rest before item items rest is =
    let both = rw rest at is in
    (none-is before (and_left-true (is_none before) (has_no_stretch before items) both), and_right-true (is_none before) (has_no_stretch before items) both)

no_stretch-unit : (before : Option (ℕ × ℕ)) (item : Item) (items : List Item) → is_rest item ≡ false → has_no_stretch before (item ∷ items) ≡ true → has_no_stretch (unit_name item) items ≡ true
unfolding has_no_stretch
no_stretch-unit before item items unit is = rw unit at is

followed-untouched : (at : ℕ) (before : Option (ℕ × ℕ)) (stretch bits : List Bool) → Untouched before stretch → has_no_stretch before (items_of at bits) ≡ true
    → followed_by true before stretch (items_of at bits) bits ≡ stretch ++ bits
followed-untouched =
    along-items (λ at before stretch items bits. Untouched before stretch → has_no_stretch before items ≡ true → followed_by true before stretch items bits ≡ stretch ++ bits)
    (λ at before stretch untouched is. rw (followed-end, chain-untouched before stretch None untouched, append-nil))
    (λ at before stretch item items bits starts rest later untouched is.
    let parts = no_stretch-rest before item items rest is in
    rw (followed-rest true before stretch item items bits rest, later (inl parts.0) parts.1, append_assoc, take-append-drop))
    (λ at before stretch item items bits starts unit later untouched is.
    rw (followed-unit true before stretch item items bits unit, chain-untouched before stretch (unit_name item) untouched, later (inr refl) (no_stretch-unit before item items unit is), take-append-drop))

pub follow-untouched : (bits : List Bool) → has_no_stretch None (items_of 0 bits) ≡ true → follow_of bits ≡ bits
unfolding follow_of
follow-untouched bits = followed-untouched 0 None [] bits (inl refl)
