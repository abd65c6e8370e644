-- Fixes position by position: one inner word more is one run of bits more in both lists, and their distances add up.
use Rattle.std.proofs.Common.{◌≡◌, ℕ, suc, ◌+◌, ◌*◌, ◌<◌, ◌≤◌, Bool, List, [], ◌∷◌, ◌++◌, length, take, get_or, All, refl, ap, ap₂, sym, ◌∙◌, arith, zero-add, length-append}
use Rattle.std.proofs.{Math.Nat.{mul-le-mul_left, mul-le-mul_right, mul_comm}, lemmas.List.{append-nil, length-take-le, take_all, take_more}, lemmas.List.Concat.{flat_map-append}, lemmas.List.Elements.{All-take}}
use Rattle.std.specs.{Bool.{beq}}
use Rattle.p25_bits.specs.{Bits.{part}, Distance.{distance_of}}
use Rattle.p25_bits.proofs.{DistanceLaws.{distance_by-append, distance_by-le, distance_by-nil}, NumbersLaws.{joined_below-more, joined_below-same}}
use Rattle.p25_bits.proofs.PartLaws.{length-part, part_add, part_left, part_last}
use Rattle.p25_code.specs.Words.{Encodes}
use Rattle.p25_gf64.specs.declared.symbol.Sym.{Sym}
use Rattle.p25_link.specs.Symbols.{symbol_bits}
use Rattle.p25_coded_fields.specs.{Layouts.{field_bits}, Fixes.{inner_bits, field_fixes_of}}
use Rattle.p25_coded_fields.proofs.{FieldLaws.{length-field_bits}, SymbolsLaws.{one_more, room_at}}

-- if an inner word has information there are few
pub few_places : (each n : ℕ) → 0 < each → n * each ≤ 36 → n ≤ 36
few_places each n some short = let one : 1 ≤ each = omega arith in omega (arith, mul-le-mul_left n one)

-- the symbols of one group more
pub front_more : (each i : ℕ) (symbols : List Sym) → take (each * i) symbols ++ part (each * i) each symbols ≡ take (each * (i + 1)) symbols
front_more each i symbols = cc (zero-add (each * i), part_add 0 (each * i) each symbols, one_more each i)

-- the first positions are within the bits, since all are
pub there_before : (size len i : ℕ) (places : List ℕ) → All (λ at. at + size ≤ len) places → All (λ at. at + size ≤ len) (take i places)
there_before size len i places there = All-take (λ at. at + size ≤ len) i places there

-- at most as many bits differ as an inner word has
pub word_most : (size at most : ℕ) (bits sent : List Bool) → size ≤ most → at + size ≤ length bits → distance_of (part at size bits) sent ≤ most
word_most size at most bits sent small there = omega (arith, distance_by-le, length-part)

-- the inner words that were received have their bits
length-inner_bits : (size : ℕ) (places : List ℕ) (bits : List Bool) → All (λ at. at + size ≤ length bits) places → length (inner_bits size places bits) ≡ size * length places
unfolding inner_bits
length-inner_bits size [] bits there = omega arith
length-inner_bits size (at ∷ places) bits there =
    rw (length-append, length-part at size bits (there 0 at (omega arith)), length-inner_bits size places bits (λ i d inside. there (suc i) d (omega arith)))
    (omega (arith, one_more size))

module _ (encoding : List Bool → List Bool) (size each : ℕ) where
  -- one inner word more
  field_bits-more : (i : ℕ) (beginning xs : List Sym) → length beginning ≡ each * i → length xs ≡ each
      → field_bits encoding each (i + 1) (beginning ++ xs) ≡ field_bits encoding each i beginning ++ encoding (symbol_bits xs)
  unfolding field_bits
  field_bits-more i beginning xs long long_xs =
      joined_below-more i _
      ∙ ap₂ (λ us vs. us ++ vs)
      (joined_below-same i _ _
      (λ j inside. rw (part_left (each * j) each beginning xs (room_at each j i (length beginning) inside (sym long))) refl))
      (rw (part_last) refl)

  -- before the first position there are none
  pub fixes_none : (symbols : List Sym) (bits : List Bool) → field_fixes_of encoding size each [] symbols bits ≡ 0
  unfolding field_fixes_of inner_bits
  fixes_none symbols bits = distance_by-nil beq (field_bits encoding each 0 symbols)

  -- at most as many as the inner words have bits
  pub fixes_most : (most : ℕ) (places : List ℕ) (symbols : List Sym) (bits : List Bool)
      → size ≤ most → All (λ at. at + size ≤ length bits) places → field_fixes_of encoding size each places symbols bits ≤ most * length places
  unfolding field_fixes_of
  fixes_most most places symbols bits small there =
      omega (
        arith,
        distance_by-le,
        length-inner_bits,
        mul-le-mul_right (length places) small,
      )

  -- after the last position
  pub all_fixes : (group i : ℕ) (places : List ℕ) (symbols : List Sym) (bits : List Bool)
      → each ≡ group → length places ≤ i → i ≤ length places → length places * group ≡ length symbols
      → field_fixes_of encoding size each (take i places) (take (each * i) symbols) bits ≡ field_fixes_of encoding size group places symbols bits
  all_fixes group i places symbols bits same past most covers =
      let here : i ≡ length places = omega arith in
      rw (take_all, same, here, take_all (group * length places) symbols (omega (arith, mul_comm group))) refl

  -- one more position
  pub fixes_more : {IsWord : List Bool → Type 0} {k : ℕ} (long : (word : List Bool) → IsWord word → length word ≡ size) → Encodes IsWord k encoding
      → (places : List ℕ) (at : ℕ) (beginning xs : List Sym) (bits : List Bool)
      → 6 * each ≡ k → All (λ at. at + size ≤ length bits) places → length beginning ≡ each * length places → length xs ≡ each
      → field_fixes_of encoding size each (places ++ at ∷ []) (beginning ++ xs) bits
      ≡ field_fixes_of encoding size each places beginning bits + distance_of (part at size bits) (encoding (symbol_bits xs))
  unfolding field_fixes_of inner_bits
  fixes_more long encodes places at beginning xs bits sixes there long_front long_xs =
      rw (
        length-append,
        field_bits-more,
        flat_map-append,
        append-nil,
      ) (distance_by-append beq (inner_bits size places bits) (part at size bits) (field_bits encoding each (length places) beginning) _
      (length-inner_bits size places bits there ∙ sym (length-field_bits long encoding encodes each (length places) beginning sixes (sym long_front))))

  -- one more position of a list
  pub fixes_next : {IsWord : List Bool → Type 0} {k : ℕ} (long : (word : List Bool) → IsWord word → length word ≡ size) → Encodes IsWord k encoding
      → (i : ℕ) (places : List ℕ) (symbols : List Sym) (bits : List Bool) → 6 * each ≡ k → All (λ at. at + size ≤ length bits) places → i < length places → each * i + each ≤ length symbols
      → field_fixes_of encoding size each (take (i + 1) places) (take (each * (i + 1)) symbols) bits
      ≡ field_fixes_of encoding size each (take i places) (take (each * i) symbols) bits + distance_of (part (get_or places i 0) size bits) (encoding (symbol_bits (part (each * i) each symbols)))
  fixes_next long encodes i places symbols bits sixes there inside fits =
      rw (take_more places i 0 inside, ← front_more)
      (fixes_more long encodes (take i places) (get_or places i 0) (take (each * i) symbols) (part (each * i) each symbols) bits sixes
      (there_before size (length bits) i places there) (rw (length-take-le i places (omega arith)) (length-take-le (each * i) symbols (omega arith))) (length-part (each * i) each symbols fits))
