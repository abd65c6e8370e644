-- A field is present if the inner words of its symbols are at its positions. Joined over the positions, the symbols with which the words begin are
-- the groups of symbols joined, and these are all of them. The bits of an encoded field have the words a step apart.
use Rattle.std.proofs.{Common.{◌≡◌, ℕ, zero, suc, ◌+◌, ◌*◌, ◌<◌, ◌≤◌, Bool, List, [], ◌∷◌, length, take, get_or, All, refl, ap, sym, ◌∙◌, subst, arith}, Math.Nat.{mul-suc}}
use Rattle.std.proofs.{lemmas.List.{append-nil, take_all, take_more}, lemmas.List.Concat.{flat_map-append}}
use Rattle.std.specs.List.{flat_map}
use Rattle.p25_bits.specs.{Bits.{part}, Numbers.{joined_below}}
use Rattle.p25_bits.proofs.{PartLaws.{length-part}, NumbersLaws.{joined_below-zero, joined_below-suc, joined_below-same, joined_below-parts, length-joined_below, part-joined_below}}
use Rattle.p25_code.specs.Words.{Encodes, IsEncoding}
use Rattle.p25_gf64.specs.declared.symbol.Sym.{Sym}
use Rattle.p25_link.specs.Symbols.{symbols_in, symbol_bits}
use Rattle.p25_link.proofs.SymbolsLaws.{length-symbol_bits, length-symbols_in, symbol_bits-symbols_in, symbols_in-symbol_bits}
use Rattle.p25_coded_fields.specs.{Layouts.{Layout, places_from, sent_in, field_bits}, Within.{HasField}}
use Rattle.p25_coded_fields.proofs.SymbolsLaws.{room_at, symbols_in-take}

-- positions a step apart
pub length-places_from : (at step count : ℕ) → length (places_from at step count) ≡ count
unfolding places_from
length-places_from at step zero = refl
length-places_from at step (suc count) = ap suc (length-places_from (at + step) step count)

pub get_or-places_from : (at step count i d : ℕ) → i < count → get_or (places_from at step count) i d ≡ at + step * i
unfolding places_from
get_or-places_from at step zero i d inside = absurd (omega arith)
get_or-places_from at step (suc count) zero d inside = omega arith
get_or-places_from at step (suc count) (suc i) d inside = omega (arith, get_or-places_from (at + step) step count, mul-suc)

-- the results for all elements of a list, joined, by index
flat_map_by_place : {X Y : Type 0} (f : X → List Y) (xs : List X) (d : X) (n : ℕ) → n ≤ length xs → flat_map f (take n xs) ≡ joined_below n (λ i. f (get_or xs i d))
flat_map_by_place f xs d zero inside = sym (joined_below-zero _)
flat_map_by_place f xs d (suc n) inside =
    let one : suc n ≡ n + 1 = omega arith in
    rw (
      joined_below-suc n _,
      one,
      take_more xs n d (omega arith),
      flat_map-append,
      append-nil _,
      flat_map_by_place f xs d n (omega arith),
    ) refl

-- the results for all elements
pub flat_map_places : {X Y : Type 0} (f : X → List Y) (xs : List X) (d : X) → flat_map f xs ≡ joined_below (length xs) (λ i. f (get_or xs i d))
flat_map_places f xs d =
    let every : length xs ≤ length xs = omega arith in rw (take_all) at (flat_map_by_place f xs d _ every)

-- the symbols that a word begins with whose information are their bits
encoding_symbols : {IsWord : List Bool → Type 0} (k each : ℕ) (symbols : List Sym) (word : List Bool)
    → 6 * each ≡ k → length symbols ≡ each → k ≤ length word → IsEncoding IsWord k (symbol_bits symbols) word → symbols_in each word ≡ symbols
encoding_symbols k each symbols word sixes long fits is =
    rw (← symbols_in-take each k word (omega arith) (omega arith), is.begins) (symbols_in-symbol_bits each symbols long)

module _ {IsInnerWord : List Bool → Type 0} {IsOuterWord : List Sym → Type 0} where
  -- bits have a field if the words of its symbols are at its positions
  pub field_there : (layout : Layout) (k : ℕ) (symbols : List Sym) (sent : List Bool) → 6 * layout.each ≡ k → k ≤ layout.size → layout.each * length layout.places ≡ length symbols
      → All (λ at. at + layout.size ≤ length sent) layout.places → IsOuterWord symbols
      → ((i d : ℕ) → i < length layout.places → IsEncoding IsInnerWord k (symbol_bits (part (layout.each * i) layout.each symbols)) (part (get_or layout.places i d) layout.size sent))
      → HasField IsInnerWord IsOuterWord layout (take layout.information symbols) sent
  unfolding sent_in
  field_there layout k symbols sent sixes fits covers there outer words = record {
    inner = λ i d inside. (words i d inside).word_of_set;
    outer = subst IsOuterWord (sym same) outer;
    begins = ap (take layout.information) same;
  }
    where
      places : List ℕ
      places = layout.places

      each : ℕ
      each = layout.each

      group : (i : ℕ) → i < length places → symbols_in each (part (get_or places i 0) layout.size sent) ≡ part (each * i) each symbols
      group i inside =
          let long = length-part (get_or places i 0) layout.size sent (there i 0 inside) in
          encoding_symbols {IsWord = IsInnerWord} k each (part (each * i) each symbols) (part (get_or places i 0) layout.size sent) sixes
          (length-part (each * i) each symbols (room_at each i (length places) (length symbols) inside covers)) (omega arith) (words i 0 inside)

      same : flat_map (λ at. symbols_in each (part at layout.size sent)) places ≡ symbols
      same =
          let all : length symbols ≤ each * length places = omega arith in
          flat_map_places (λ at. symbols_in each (part at layout.size sent)) places 0
          ∙ joined_below-same (length places) (λ i. symbols_in each (part (get_or places i 0) layout.size sent)) (λ i. part (0 + each * i) each symbols)
          (λ i inside. let same_place : each * i ≡ 0 + each * i = omega arith in rw same_place at (group i inside))
          ∙ joined_below-parts 0 each (length places) symbols
          ∙ take_all (each * length places) symbols all

-- the bits of symbols, by positions
module _ {IsWord : List Bool → Type 0} {size k : ℕ} (long : (word : List Bool) → IsWord word → length word ≡ size) (encoding : List Bool → List Bool) (encodes : Encodes IsWord k encoding) where
  -- the inner word of a group
  pub field_word : (each count : ℕ) (symbols : List Sym) → 6 * each ≡ k → each * count ≡ length symbols → (i : ℕ) → i < count
      → IsEncoding IsWord k (symbol_bits (part (each * i) each symbols)) (encoding (symbol_bits (part (each * i) each symbols)))
  field_word each count symbols sixes covers i inside =
      let group = part (each * i) each symbols in
      encodes (symbol_bits group) (rw (length-symbol_bits group, length-part (each * i) each symbols (room_at each i count (length symbols) inside covers)) sixes)

  -- each is as long as the others
  field_word-long : (each count : ℕ) (symbols : List Sym) → 6 * each ≡ k → each * count ≡ length symbols → (i : ℕ) → i < count → length (encoding (symbol_bits (part (each * i) each symbols))) ≡ size
  field_word-long each count symbols sixes covers i inside = long _ (field_word each count symbols sixes covers i inside).word_of_set

  pub length-field_bits : (each count : ℕ) (symbols : List Sym) → 6 * each ≡ k → each * count ≡ length symbols → length (field_bits encoding each count symbols) ≡ size * count
  unfolding field_bits
  length-field_bits each count symbols sixes covers = length-joined_below size count _ (field_word-long each count symbols sixes covers)

  pub part-field_bits : (each count : ℕ) (symbols : List Sym) → 6 * each ≡ k → each * count ≡ length symbols → (i : ℕ) → i < count
      → part (size * i) size (field_bits encoding each count symbols) ≡ encoding (symbol_bits (part (each * i) each symbols))
  unfolding field_bits
  part-field_bits each count symbols sixes covers i inside =
      part-joined_below size count _ i (field_word-long each count symbols sixes covers) inside

-- the symbols of a word are a group
field_group : (layout : Layout) (sent : List Bool) (i : ℕ) → i < length layout.places
    → symbols_in layout.each (part (get_or layout.places i 0) layout.size sent) ≡ part (layout.each * i) layout.each (sent_in layout sent)
unfolding sent_in
field_group layout sent i inside =
    rw (flat_map_places _ layout.places 0)
    (sym (part-joined_below layout.each _ _ i (λ j low. length-symbols_in layout.each (part _ layout.size sent)) inside))

-- so a word begins with the bits of its group
pub field_word_there : {IsInnerWord : List Bool → Type 0} {IsOuterWord : List Sym → Type 0} (layout : Layout) (k : ℕ) (info : List Sym) (sent : List Bool) → 6 * layout.each ≡ k → k ≤ layout.size
    → All (λ at. at + layout.size ≤ length sent) layout.places → HasField IsInnerWord IsOuterWord layout info sent
    → (i : ℕ) → i < length layout.places → IsEncoding IsInnerWord k (symbol_bits (part (layout.each * i) layout.each (sent_in layout sent))) (part (get_or layout.places i 0) layout.size sent)
field_word_there layout k info sent sixes fits there has i inside =
    record {
      word_of_set = has.inner i 0 inside;
      begins = rw (← field_group layout sent i inside, symbol_bits-symbols_in layout.each (part (get_or layout.places i 0) layout.size sent) (omega (arith, (length-part _ layout.size sent (there i 0 inside)), sixes, fits)), sixes) refl;
    }
