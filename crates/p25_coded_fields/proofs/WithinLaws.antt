-- A field within the correction radius of its codes decodes to the transmitted one: the outer code finds the transmitted codeword. The older measure counts inner words with more bit errors than their correction radius as erased, and
-- allows no higher cost. An inner word within that radius costs nothing, and an erased one two for each symbol.
use Rattle.std.proofs.Common.{◌≡◌, ℕ, suc, ◌+◌, ◌*◌, ◌≤◌, inl, inr, Bool, cond, nat_le, List, [], ◌∷◌, length, take, map, Option, Some, None, option_map, All, sum_by, refl, ap, ◌∙◌, arith, length-append}
use Rattle.std.proofs.{lemmas.Bool.{cases_lt, le-leb, lt-leb, eq-eqb}, lemmas.List.{length-map, length-replicate}, lemmas.List.Sums.{sum_by-cons}}
use Rattle.std.specs.List.{flat_map}
use Rattle.p25_bits.specs.{Bits.{part}, Distance.{distance_of}}
use Rattle.p25_bits.proofs.{DistanceLaws.{distance_by-same, distance_of-same}, PartLaws.{length-part}}
use Rattle.p25_code.specs.Erasures.{erased_cost}
use Rattle.p25_code.proofs.ErasedLaws.{erased_cost-append, erased_cost-le, erased_cost-letters}
use Rattle.p25_gf64.specs.{declared.symbol.Sym.{Sym}, Symbol.{number}}
use Rattle.p25_reed_solomon.specs.Words.{same_symbols}
use Rattle.p25_link.specs.Symbols.{symbols_in}
use Rattle.p25_link.proofs.SymbolsLaws.{length-symbols_in}
use Rattle.p25_coded_fields.specs.{Layouts.{Layout, symbols_or_erasures, received_in, outer_word_of, field_reading_of, sent_in}, Within.{HasField, IsFieldNear, lost_symbols, HasCodes}}
use Rattle.p25_coded_fields.proofs.{ReadLaws.{symbols_or_erasures-some, symbols_or_erasures-none}, SymbolsLaws.{one_more}}

-- an inner word has as many symbols or erasures as it carries
pub length-symbols_or_erasures : (each : ℕ) (word : Option (List Bool)) → length (symbols_or_erasures each word) ≡ each
length-symbols_or_erasures each (Some word) = rw (symbols_or_erasures-some, length-map) (length-symbols_in each word)
length-symbols_or_erasures each None = rw (symbols_or_erasures-none each) (length-replicate each None)

-- lists of one length, one for each position
length-pieces : {X : Type 0} (each : ℕ) (f : ℕ → List X) (places : List ℕ) → ((at : ℕ) → length (f at) ≡ each) → length (flat_map f places) ≡ each * length places
length-pieces each f [] long = omega arith
length-pieces each f (at ∷ places) long =
    rw (length-append, long at, length-pieces each f places long) (omega (arith, one_more))

pub length-received_in : (layout : Layout) (bits : List Bool) → length (received_in layout bits) ≡ layout.each * length layout.places
unfolding received_in
length-received_in layout bits =
    length-pieces layout.each _ layout.places
    (λ at. length-symbols_or_erasures layout.each _)

-- the decoding of a field whose outer word is decoded
pub field_reading_of-some : (layout : Layout) (bits : List Bool) (word : List Sym) → outer_word_of layout bits ≡ Some word → field_reading_of layout bits ≡ Some (take layout.information word)
unfolding field_reading_of
field_reading_of-some layout bits word is = rw is

-- and of one whose outer word is not
pub field_reading_of-none : (layout : Layout) (bits : List Bool) → outer_word_of layout bits ≡ None → field_reading_of layout bits ≡ None
unfolding field_reading_of
field_reading_of-none layout bits is = rw is

module _ {IsInnerWord : List Bool → Type 0} {inner_radius : ℕ}
    {IsOuterWord : List Sym → Type 0} {checks : ℕ} {layout : Layout} (codes : HasCodes IsInnerWord inner_radius IsOuterWord checks layout) where
  -- a field within the correction radius decodes to the transmitted information
  pub field_within : (info : List Sym) (sent received : List Bool)
      → HasField IsInnerWord IsOuterWord layout info sent → IsFieldNear checks layout sent received → field_reading_of layout received ≡ Some info
  unfolding outer_word_of
  field_within info sent received has is =
      field_reading_of-some layout received (sent_in layout sent) (codes.outer _ (sent_in layout sent) (length-received_in layout received) has.outer is.near)
      ∙ ap Some has.begins

-- undamaged bits have no such symbols
pub lost_symbols-itself : (radius : ℕ) (layout : Layout) (bits : List Bool) → lost_symbols radius layout bits bits ≡ 0
unfolding lost_symbols
lost_symbols-itself radius layout bits = none layout.places
  where
    lost : ℕ → ℕ
    lost at = cond (nat_le (distance_of (part at layout.size bits) (part at layout.size bits)) radius) 0 layout.each

    none : (places : List ℕ) → sum_by lost places ≡ 0
    none [] = refl
    none (at ∷ places) = rw (sum_by-cons, distance_of-same, le-leb 0 radius (omega arith)) (omega (arith, none places))

-- a word costs nothing for the letters that it has
erased_cost-itself : (word : List Sym) → erased_cost same_symbols (map Some word) word ≡ 0
erased_cost-itself word =
    rw (erased_cost-letters, distance_by-same same_symbols (λ x. eq-eqb (number x) (number x) refl) word) refl

module _ {IsInnerWord : List Bool → Type 0} {inner_radius : ℕ}
    {IsOuterWord : List Sym → Type 0} {checks : ℕ} {layout : Layout} (codes : HasCodes IsInnerWord inner_radius IsOuterWord checks layout) where
  -- the symbols or erasures of a received inner word, and the number of its symbols if it has too many bit errors
  abbrev given : List Bool → List (Option Sym)
  given bits = symbols_or_erasures layout.each (layout.inner_reading bits)

  abbrev lost : List Bool → List Bool → ℕ
  lost sent received = cond (nat_le (distance_of received sent) inner_radius) 0 layout.each

  even : (sent received : List Bool) → length (given received) ≡ length (symbols_in layout.each sent)
  even sent received = rw (length-symbols_or_erasures, length-symbols_in) refl

  -- an inner word within the correction radius costs nothing, and any other at most two for each symbol
  piece_cost : (sent received : List Bool) → length received ≡ layout.size → IsInnerWord sent
      → erased_cost same_symbols (given received) (symbols_in layout.each sent) ≤ 2 * lost sent received
  piece_cost sent received long is =
      elim (cases_lt inner_radius (distance_of received sent)) [
        | inl far ↦
            rw (lt-leb)
            (omega (
              arith,
              erased_cost-le same_symbols (given received) (symbols_in layout.each sent) (even sent received),
              length-symbols_or_erasures,
            ))
        | inr near ↦
            rw (codes.inner received sent long is near, symbols_or_erasures-some layout.each sent) (omega (arith, erased_cost-itself))
      ]

  -- so do the words at some positions
  pieces_cost : (sent received : List Bool) (places : List ℕ) → All (λ at. IsInnerWord (part at layout.size sent)) places → All (λ at. at + layout.size ≤ length received) places
      → erased_cost same_symbols (flat_map (λ at. given (part at layout.size received)) places) (flat_map (λ at. symbols_in layout.each (part at layout.size sent)) places)
      ≤ 2 * sum_by (λ at. lost (part at layout.size sent) (part at layout.size received)) places
  pieces_cost sent received [] words there = omega (arith, erased_cost-itself [])
  pieces_cost sent received (at ∷ places) words there =
      let here : at + layout.size ≤ length received = there 0 at (omega arith) in
      omega (
        arith,
        piece_cost (part at layout.size sent) (part at layout.size received) (length-part at layout.size received here) (words 0 at (omega arith)),
        pieces_cost sent received places (λ k d h. words (suc k) d (omega arith)) (λ k d h. there (suc k) d (omega arith)),
        erased_cost-append same_symbols (given (part at layout.size received)) (flat_map (λ at. given (part at layout.size received)) places)
            (symbols_in layout.each (part at layout.size sent)) (flat_map (λ at. symbols_in layout.each (part at layout.size sent)) places)
            (even (part at layout.size sent) (part at layout.size received)),
        sum_by-cons (λ at. lost (part at layout.size sent) (part at layout.size received)) at places,
      )

  -- bits that the older measure allows cost no more than the outer code corrects
  pub near_from_lost : (info : List Sym) (sent received : List Bool) → HasField IsInnerWord IsOuterWord layout info sent → All (λ at. at + layout.size ≤ length received) layout.places
      → 2 * lost_symbols inner_radius layout sent received ≤ checks → IsFieldNear checks layout sent received
  unfolding received_in sent_in lost_symbols
  near_from_lost info sent received has there few = record { near = omega (arith, pieces_cost sent received, few) }

  -- a word that was received without damage costs nothing
  pub near_itself : (info : List Sym) (sent : List Bool) → HasField IsInnerWord IsOuterWord layout info sent
      → All (λ at. at + layout.size ≤ length sent) layout.places → IsFieldNear checks layout sent sent
  near_itself info sent has there = near_from_lost info sent sent has there (omega (arith, lost_symbols-itself))
