-- The segments between ends: their number, their positions, and one more at the end. By recursion on the ends.
use Rattle.std.proofs.Common.{◌≡◌, ℕ, zero, suc, ◌+◌, ◌<◌, ◌≤◌, List, [], ◌∷◌, ◌++◌, length, get_or, drop, Some, refl, ap, ap₂, sym, ◌∙◌, arith, length-append}
use Rattle.std.proofs.{Math.Nat.{add-mul, div-lt_iff_lt-mul, mod-lt}, lemmas.Nat.{div-add-mod'}, lemmas.List.{drop_at, take-append-le}, lemmas.Slice.{between_is, between_to_end}}
use Rattle.std.specs.{Prelude.{◌*◌, ◌/◌, ◌%◌, slice_get, slice_range, vec_len}, Global.{Vec}}
use Rattle.p25_messages.specs.MessageList.{pieces_between, start_before, AreEnds}

pub length-pieces_between : (start : ℕ) (ends octets : List ℕ) → length (pieces_between start ends octets) ≡ length ends
unfolding pieces_between
length-pieces_between start [] octets = refl
length-pieces_between start (end ∷ ends) octets = ap suc (length-pieces_between end ends octets)

-- the segment at an index
pub pieces_between-at : (start : ℕ) (ends octets : List ℕ) (i : ℕ) → i < length ends
    → slice_get (pieces_between start ends octets) i ≡ Some (slice_range octets (start_before start ends i) (start_before start ends (suc i)))
unfolding pieces_between start_before
pieces_between-at start [] octets i h = absurd (omega arith)
pieces_between-at start (end ∷ ends) octets zero h = refl
pieces_between-at start (end ∷ ends) octets (suc i) h = pieces_between-at end ends octets i (omega arith)

-- a segment begins at or before its end, which is at or before the end of all
pub start_before-ascends : (start : ℕ) (ends : List ℕ) (count i : ℕ) → AreEnds start ends count → i < length ends → start_before start ends i ≤ start_before start ends (suc i)
unfolding start_before AreEnds
start_before-ascends start [] count i are h = absurd (omega arith)
start_before-ascends start (end ∷ ends) count zero are h = are.0
start_before-ascends start (end ∷ ends) count (suc i) are h = start_before-ascends end ends count i are.1 (omega arith)

pub start_before-most : (start : ℕ) (ends : List ℕ) (count i : ℕ) → AreEnds start ends count → i ≤ length ends → start_before start ends i ≤ count
unfolding start_before AreEnds
start_before-most start [] count zero are h = omega arith
start_before-most start [] count (suc i) are h = absurd (omega arith)
start_before-most start (end ∷ ends) count zero are h = let later = start_before-most end ends count zero are.1 (omega arith) in omega arith
start_before-most start (end ∷ ends) count (suc i) are h = start_before-most end ends count i are.1 (omega arith)

-- the start after a segment is its end
pub start_before-suc : (start : ℕ) (ends : List ℕ) (i : ℕ) → i < length ends → start_before start ends (suc i) ≡ get_or ends i 0
unfolding start_before
start_before-suc start [] i h = absurd (omega arith)
start_before-suc start (end ∷ ends) zero h = refl
start_before-suc start (end ∷ ends) (suc i) h = start_before-suc end ends i (omega arith)

-- one more end, after some more octets
pub AreEnds-push : (start : ℕ) (ends : List ℕ) (count more : ℕ) → AreEnds start ends count → AreEnds start (ends ++ (count + more) ∷ []) (count + more)
unfolding AreEnds
AreEnds-push start [] count more are = (omega arith, refl)
AreEnds-push start (end ∷ ends) count more are = (are.0, AreEnds-push end ends count more are.1)

-- a part of the first of two lists, and all of the second
part-append : (octets more : List ℕ) (start end : ℕ) → end ≤ length octets → slice_range (octets ++ more) start end ≡ slice_range octets start end
part-append octets more start end h = between_is (octets ++ more) start end ∙ ap (λ (xs : List ℕ). drop start xs) (take-append-le end octets more h) ∙ sym (between_is octets start end)

part-second : (octets more : List ℕ) (start : ℕ) → start ≡ length octets → slice_range (octets ++ more) start (length octets + length more) ≡ more
part-second octets more start e =
    between_to_end (octets ++ more) start (length octets + length more) (omega (arith, length-append octets more)) ∙ drop_at octets more start (sym e)

-- one more segment: the octets after all others
pub pieces_between-push : (start : ℕ) (ends octets more : List ℕ) → AreEnds start ends (length octets)
    → pieces_between start (ends ++ (length octets + length more) ∷ []) (octets ++ more) ≡ pieces_between start ends octets ++ more ∷ []
unfolding pieces_between AreEnds start_before
pieces_between-push start [] octets more are = ap (λ (piece : List ℕ). piece ∷ []) (part-second octets more start are)
pieces_between-push start (end ∷ ends) octets more are =
    ap₂ (λ (piece : List ℕ) (rest : List (List ℕ)). piece ∷ rest) (part-append octets more start end
    (start_before-most end ends (length octets) zero are.1 (omega arith))) (pieces_between-push end ends octets more are.1)

-- as many messages as ends, wherever the ends are held
pub length-list : (ends octets held : List ℕ) (list : List (List ℕ)) → pieces_between 0 ends octets ≡ list → held ≡ ends → length list ≡ length held
length-list ends octets held list e f = ap length (sym e) ∙ length-pieces_between 0 ends octets ∙ ap length (sym f)

-- a segment of a list, and its range among the octets
pub record IsPiece (octets : List ℕ) (list : List (List ℕ)) (i start end : ℕ) : Type 0 where
  pub ordered : start ≤ end
  pub within : end ≤ length octets
  pub piece : slice_get list i ≡ Some (slice_range octets start end)

-- each message is such a segment, wherever the ends and the octets are held
pub IsPiece-at : (all : Vec ℕ) (octets ends held : List ℕ) (list : List (List ℕ)) (i start end : ℕ)
    → AreEnds 0 ends (vec_len all) → pieces_between 0 ends all.items ≡ list → octets ≡ all.items → held ≡ ends → i < length list →
    start ≡ start_before 0 held i → end ≡ start_before 0 held (i + 1) → IsPiece octets list i start end
IsPiece-at all octets ends held list i start end are e o f h s t =
    let count : vec_len all ≡ length octets = all.ok.0 ∙ ap length (sym o) in
    let ascend : AreEnds 0 held (length octets) = rw (f, ← count) are in
    let pieces : pieces_between 0 held octets ≡ list = rw (f, o) e in
    let below : i < length held = omega (arith, length-list ends all.items held list e f) in
    let next : i + 1 ≡ suc i = omega arith in
    let to : end ≡ start_before 0 held (suc i) = t ∙ ap (start_before 0 held) next in
    record {
      ordered = omega (arith, s, to, start_before-ascends 0 held (length octets) i ascend below);
      within = omega (arith, to, start_before-most 0 held (length octets) (suc i) ascend (omega arith));
      piece =
          ap (λ (xs : List (List ℕ)). slice_get xs i) (sym pieces) ∙ pieces_between-at 0 held octets i below ∙ ap₂ (λ (a b : ℕ). Some (slice_range octets a b)) (sym s) (sym to);
    }

-- at most `most` octets take the capacity of at most one message
pub room-less : (most before after : ℕ) → 0 < most → before ≤ after + most → before / most ≤ after / most + 1
room-less most before after some few =
    let whole : after / most * most + after % most ≡ after = div-add-mod' after most in
    let two : (after / most + 2) * most ≡ after / most * most + 2 * most = add-mul (after / most) 2 most in
    let bound : before < (after / most + 2) * most = omega (arith, whole, two, mod-lt after some) in
    omega (arith, (div-lt_iff_lt-mul some).1 bound)
