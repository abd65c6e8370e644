-- The rule by positions: a bit is two positions later for each whole 70 bits before it. By recursion on the status symbols, one block each.
use Rattle.std.proofs.Common.{◌≡◌, ℕ, zero, suc, ◌+◌, ◌-◌, ◌*◌, ◌/◌, ◌<◌, inl, inr, Bool, List, [], ◌∷◌, ◌++◌, length, take, drop, slice_get, Some, refl, ap, sym, ◌∙◌, arith, length-drop, get_or}
use Rattle.std.proofs.{lemmas.Option.{unwrap_or-slice_get}, Math.Nat.{div-eq_of_lt}, lemmas.Bool.{cases_lt}}
use Rattle.std.proofs.lemmas.List.{take-append-drop, length-take-le, drop-drop, get_or-take, get_or-drop, same_lists, take_at, drop_at}
use Rattle.std.specs.Option.{unwrap_or}
use Rattle.p25_bits.proofs.{PartLaws.{slice_get-front, slice_get-drop}, BitsLaws.{length-bits_of}}
use Rattle.p25_bits.specs.Bits.{bits_of, part}
use Rattle.p25_status.specs.{Status.{status_number}, Woven.{woven, StandsByPlaces}, declared.symbols.Status.{Status}}
use Rattle.p25_status.proofs.WovenLaws.{length-woven, after_block}

-- a bit of the first 70 keeps its position
first_block : (bits rest : List Bool) (u : ℕ) → u < 70 → length (take 70 bits) ≡ 70 → slice_get (take 70 bits ++ rest) u ≡ slice_get bits u
first_block bits rest u low whole =
    let inside : u < length (take 70 bits) = omega arith in
    slice_get-front (take 70 bits) rest u inside
    ∙ sym (slice_get-front (take 70 bits) (drop 70 bits) u inside)
    ∙ ap (λ l. slice_get l u) (take-append-drop 70 bits)

pub bare_places : (bits : List Bool) (statuses : List Status) → length bits ≡ 70 * length statuses → (u : ℕ) → u < length bits → slice_get (woven bits statuses) (u + 2 * (u / 70)) ≡ slice_get bits u
unfolding woven
bare_places bits [] e u h = absurd (omega arith)
bare_places bits (s ∷ ss) e u h =
    let whole : length (take 70 bits) ≡ 70 = length-take-le 70 bits (omega arith) in
    let left : length (drop 70 bits) ≡ 70 * length ss = omega (arith, length-drop 70 bits) in
    let symbol = bits_of 2 (status_number s) in
    let rest = woven (drop 70 bits) ss in
    let sent = take 70 bits ++ (symbol ++ rest) in
    elim (cases_lt u 70) [
      | inl low ↦
          let here : u + 2 * (u / 70) ≡ u = omega (arith, div-eq_of_lt low) in
          ap (slice_get sent) here ∙ first_block bits (symbol ++ rest) u low whole
      | inr high ↦
          let inside : u - 70 < length (drop 70 bits) = omega (arith, length-drop 70 bits) in
          let place : u + 2 * (u / 70) ≡ 72 + ((u - 70) + 2 * ((u - 70) / 70)) = omega arith in
          let back_again : 70 + (u - 70) ≡ u = omega arith in
          ap (slice_get sent) place
          ∙ sym (slice_get-drop 72 sent ((u - 70) + 2 * ((u - 70) / 70)))
          ∙ ap (λ l. slice_get l ((u - 70) + 2 * ((u - 70) / 70))) (after_block (take 70 bits) symbol rest whole (length-bits_of 2 (status_number s)))
          ∙ bare_places (drop 70 bits) ss left (u - 70) inside
          ∙ slice_get-drop 70 bits (u - 70)
          ∙ ap (slice_get bits) back_again
    ]

pub symbol_places : (bits : List Bool) (statuses : List Status) → length bits ≡ 70 * length statuses
    → (i : ℕ) (status : Status) → slice_get statuses i ≡ Some status → part (72 * i + 70) 2 (woven bits statuses) ≡ bits_of 2 (status_number status)
unfolding woven
symbol_places bits [] e i status h = cc
symbol_places bits (s ∷ ss) e zero status h =
    let whole : length (take 70 bits) ≡ 70 = length-take-le 70 bits (omega arith) in
    let same : s ≡ status = cc in
    ap (take 2) (drop_at (take 70 bits) (bits_of 2 (status_number s) ++ woven (drop 70 bits) ss) 70 whole)
    ∙ take_at (bits_of 2 (status_number s)) (woven (drop 70 bits) ss) 2 (length-bits_of 2 (status_number s))
    ∙ ap (λ t. bits_of 2 (status_number t)) same
symbol_places bits (s ∷ ss) e (suc i) status h =
    let whole : length (take 70 bits) ≡ 70 = length-take-le 70 bits (omega arith) in
    let left : length (drop 70 bits) ≡ 70 * length ss = omega (arith, length-drop 70 bits) in
    let symbol = bits_of 2 (status_number s) in
    let rest = woven (drop 70 bits) ss in
    let sent = take 70 bits ++ (symbol ++ rest) in
    let place : 72 * suc i + 70 ≡ 72 + (72 * i + 70) = omega arith in
    ap (λ n. take 2 (drop n sent)) place
    ∙ ap (take 2) (sym (drop-drop (72 * i + 70) 72 sent))
    ∙ ap (λ l. take 2 (drop (72 * i + 70) l)) (after_block (take 70 bits) symbol rest whole (length-bits_of 2 (status_number s)))
    ∙ symbol_places (drop 70 bits) ss left i status h

-- woven bits are as in the rule
pub woven-places : (bits : List Bool) (statuses : List Status) → length bits ≡ 70 * length statuses → StandsByPlaces bits statuses (woven bits statuses)
woven-places bits statuses e =
    record { places = length-woven bits statuses e; bare = bare_places bits statuses e; symbols = symbol_places bits statuses e }

-- an element at an index within a list
element : {X : Type 0} (xs : List X) (i : ℕ) → i < length xs → (x : X) × (slice_get xs i ≡ Some x)
element [] i h = absurd (omega arith)
element (x ∷ xs) zero h = (x, refl)
element (x ∷ xs) (suc i) h = element xs i (omega arith)

-- lists that agree in a part agree at its indices
same_in_part : (a b : List Bool) (at k : ℕ) (d : Bool) → k < 2 → part at 2 a ≡ part at 2 b → get_or a (at + k) d ≡ get_or b (at + k) d
same_in_part a b at k d h same =
    sym (get_or-drop at a k d)
    ∙ sym (get_or-take 2 (drop at a) k d h)
    ∙ ap (λ l. get_or l k d) same
    ∙ get_or-take 2 (drop at b) k d h
    ∙ get_or-drop at b k d

-- two lists by the rule agree at each index
same_place : (bits : List Bool) (statuses : List Status) (a b : List Bool) → length bits ≡ 70 * length statuses → StandsByPlaces bits statuses a → StandsByPlaces bits statuses b
    → (p : ℕ) (d : Bool) → p < length a → get_or a p d ≡ get_or b p d
same_place bits statuses a b e first second p d h =
    let block = p / 72 in
    let inside : p < 72 * length statuses = omega (arith, first.places) in
    elim (cases_lt (p - 72 * block) 70) [
      | inl low ↦
          let u = p - 2 * block in
          let of_block : u / 70 ≡ block = omega arith in
          let place : u + 2 * (u / 70) ≡ p = omega arith in
          let there : u < length bits = omega arith in
          let same = first.bare u there ∙ sym (second.bare u there) in
          sym (unwrap_or-slice_get a p d)
          ∙ ap (λ n. unwrap_or (slice_get a n) d) (sym place)
          ∙ ap (λ o. unwrap_or o d) same
          ∙ ap (λ n. unwrap_or (slice_get b n) d) place
          ∙ unwrap_or-slice_get b p d
      | inr high ↦
          let k = p - 72 * block - 70 in
          let few : k < 2 = omega arith in
          let place : 72 * block + 70 + k ≡ p = omega arith in
          let there : block < length statuses = omega arith in
          let symbol = element statuses block there in
          let same = first.symbols block symbol.0 symbol.1 ∙ sym (second.symbols block symbol.0 symbol.1) in
          ap (λ n. get_or a n d) (sym place) ∙ same_in_part a b (72 * block + 70) k d few same ∙ ap (λ n. get_or b n d) place
    ]

-- there is one list by the rule
pub StandsByPlaces-unique : (bits : List Bool) (statuses : List Status) (a b : List Bool) → length bits ≡ 70 * length statuses → StandsByPlaces bits statuses a → StandsByPlaces bits statuses b → a ≡ b
StandsByPlaces-unique bits statuses a b e first second =
    same_lists a b (first.places ∙ sym second.places) (same_place bits statuses a b e first second)
