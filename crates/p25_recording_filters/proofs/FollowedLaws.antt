-- The octets that are written when an item arrives: those that the bits before its own fill, and then its own.
use Rattle.std.proofs.Common.{◌≡◌, ℕ, ◌+◌, ◌*◌, ◌/◌, ◌≤◌, Bool, true, false, List, [], ◌++◌, length, drop, arith, append_assoc, append-nil, length-append, length-drop}
use Rattle.std.proofs.lemmas.List.{drop-append-le, drop-drop}
use Rattle.p25_units.specs.{Units.{whole_octets}, declared.item.Item.{Item}}
use Rattle.p25_follow.specs.{Followed.{is_rest}, Following.{written_item}}
use Rattle.p25_recording_filters.specs.Commands.{unfilled}
use Rattle.p25_recording_filters.proofs.OctetsLaws.{whole_octets-append}

own-rest : (item : Item) (raw : List Bool) → is_rest item ≡ true → written_item item raw ≡ []
unfolding written_item
own-rest item raw rest = rw rest

own-unit : (item : Item) (raw : List Bool) → is_rest item ≡ false → written_item item raw ≡ raw
unfolding written_item
own-unit item raw unit = rw unit

-- the last bits of joined bits
unfilled-append : (bits rest : List Bool) → unfilled (unfilled bits ++ rest) ≡ unfilled (bits ++ rest)
unfilled-append bits rest =
    let m = length bits / 8 in
    let left = drop (8 * m) bits ++ rest in
    let fits : 8 * m ≤ length bits = omega arith in
    let all : 8 * m + 8 * (length left / 8) ≡ 8 * (length (bits ++ rest) / 8)
    = omega (arith, length-append bits rest, length-append (drop (8 * m) bits) rest, length-drop (8 * m) bits) in
    rw (← all, ← drop-drop, drop-append-le (8 * m) bits rest fits)

module _ (kept bits raw : List Bool) (item : Item) where
  -- of an item of a stretch
  pub joined-rest : is_rest item ≡ true → kept ++ bits ≡ kept ++ (bits ++ written_item item raw)
  joined-rest rest = rw (own-rest item raw rest, append-nil)

  joined-unit : is_rest item ≡ false → (kept ++ bits) ++ raw ≡ kept ++ (bits ++ written_item item raw)
  joined-unit unit = rw (own-unit item raw unit, append_assoc)

  -- of another
  pub piece-unit : (between : List Bool) (first out : List ℕ) → is_rest item ≡ false → first ≡ whole_octets (kept ++ bits) → between ≡ unfilled (kept ++ bits)
      → out ≡ first ++ whole_octets (between ++ raw) → out ≡ whole_octets (kept ++ (bits ++ written_item item raw))
  piece-unit between first out unit first_is between_is is = rw (is, first_is, between_is, whole_octets-append (kept ++ bits) raw, joined-unit unit)

  pub kept-unit : (between now : List Bool) → is_rest item ≡ false → between ≡ unfilled (kept ++ bits) → now ≡ unfilled (between ++ raw) → now ≡ unfilled (kept ++ (bits ++ written_item item raw))
  kept-unit between now unit between_is is = rw (is, between_is, unfilled-append (kept ++ bits) raw, joined-unit unit)
