-- A buffer into which a text is written, with a zero after it, and one that is too small.
use Rattle.std.proofs.Common.{pos, Ok, ◌≡◌, ℕ, suc, ◌<◌, List, [], ◌∷◌, ◌++◌, length, drop, get_or, slice_set, ap, sym, ◌∙◌, arith, append_assoc, length-append}
use Rattle.std.proofs.{Math.Seq.{drop-cons, set-append_seam}, lemmas.Bool.{cond-false, cond_below, lt-leb}}
use Rattle.p25_c.specs.Rooms.{IsWriting, no_room, text_left, written}

pub text_left-room : (text room front : List ℕ) → front ≡ text → length text < length room → slice_set (front ++ drop (length text) room) (length text) 0 ≡ text_left text room
text_left-room text room front is inside =
    let n = length text in
    let tail = drop (suc n) room in
    let end : length (text ++ 0 ∷ []) ≡ suc n = omega (arith, length-append text (0 ∷ [])) in
    ap (λ (zs : List ℕ). slice_set (zs ++ drop n room) n 0) is
    ∙ ap (λ (zs : List ℕ). slice_set (text ++ zs) n 0) (drop-cons room n 0 inside)
    ∙ set-append_seam text (get_or room n 0) tail 0
    ∙ sym (append_assoc text (0 ∷ []) tail)
    ∙ ap (λ (k : ℕ). (text ++ 0 ∷ []) ++ drop k room) (sym end)
    ∙ cond_below n (length room) (written (text ++ 0 ∷ []) room) room inside

-- octets for which a buffer is too small
pub writing-none : (octets room : List ℕ) (count : ℕ) → length octets ≡ count → length room < count → IsWriting (Ok octets) room room no_room
writing-none octets room count long few =
    let lacks = lt-leb (length octets) (length room) (omega (arith, long)) in
    record {
      answer_is = sym (cond-false _ (pos (length octets)) no_room lacks);
      left_is = sym (cond-false _ (written octets room) room lacks);
    }
