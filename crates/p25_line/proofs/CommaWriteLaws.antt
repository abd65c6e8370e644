-- A list with commas that is written entry by entry, as a loop does it: each entry but the first follows a comma.
use Rattle.std.proofs.Common.{◌≡◌, ℕ, ◌+◌, ◌<◌, List, [], ◌∷◌, ◌++◌, length, take, map, slice_get, Some, refl, arith, append-nil, append_assoc, length-take}
use Rattle.std.proofs.{lemmas.List.{length-map, take_more, map_push}, lemmas.Option.{slice_get_within, get_or_from_slice_get}}
use Rattle.std.specs.List.{join_with_byte}
use Rattle.p25_line.specs.CommaLists.{comma_text}

-- one element more, as it was read
pub take-read : {X : Type 0} (xs : List X) (i : ℕ) (x : X) → slice_get xs i ≡ Some x → take (i + 1) xs ≡ take i xs ++ x ∷ []
take-read xs i x read = cc (take_more xs i x (slice_get_within xs i x read), get_or_from_slice_get xs i x x read)

-- a joined list with one part more
join-push : (separator : ℕ) (first : List ℕ) (parts : List (List ℕ)) (part : List ℕ)
    → join_with_byte separator ((first ∷ parts) ++ part ∷ []) ≡ join_with_byte separator (first ∷ parts) ++ separator ∷ part
join-push separator first [] part = refl
join-push separator first (next ∷ parts) part =
    cc (join-push separator next parts part, append_assoc first (separator ∷ join_with_byte separator (next ∷ parts)) (separator ∷ part))

pub join-more : (separator : ℕ) (parts : List (List ℕ)) (part : List ℕ) → 0 < length parts
    → join_with_byte separator (parts ++ part ∷ []) ≡ join_with_byte separator parts ++ separator ∷ part
join-more separator [] part some = absurd (omega arith)
join-more separator (first ∷ parts) part some = join-push separator first parts part

module _ {X : Type 0} (text : X → List ℕ) where
  pub comma_text-none : (entries : List X) → comma_text text (take 0 entries) ≡ []
  unfolding comma_text
  comma_text-none entries = refl

  comma_text-first : (entries : List X) (entry : X) → slice_get entries 0 ≡ Some entry → comma_text text (take (0 + 1) entries) ≡ text entry
  unfolding comma_text
  comma_text-first entries entry read = cc (take-read entries 0 entry read)

  comma_text-more : (entries : List X) (i : ℕ) (entry : X) → 0 < i → slice_get entries i ≡ Some entry
      → comma_text text (take (i + 1) entries) ≡ comma_text text (take i entries) ++ 44 ∷ text entry
  unfolding comma_text
  comma_text-more entries i entry some read =
      let within = slice_get_within entries i entry read in
      cc (
        take-read entries i entry read,
        map_push text (take i entries) entry,
        join-more 44 (map text (take i entries)) (text entry) (omega (arith, length-map (take i entries) text, length-take i entries)),
      )

  -- the first entry after a text
  pub first-entry : (entries : List X) (i : ℕ) (entry : X) (start out new : List ℕ) → i ≡ 0 → slice_get entries i ≡ Some entry
      → out ≡ start ++ comma_text text (take i entries) → new ≡ out ++ text entry → new ≡ start ++ comma_text text (take (i + 1) entries)
  first-entry entries i entry start out new none read before after =
      let at_first : slice_get entries 0 ≡ Some entry = cc (none, read) in
      cc (after, before, none, comma_text-none entries, append-nil start, comma_text-first entries entry at_first)

  -- a comma and the next entry after a text
  pub next-entry : (entries : List X) (i : ℕ) (entry : X) (start out new : List ℕ) → 0 < i → slice_get entries i ≡ Some entry
      → out ≡ start ++ comma_text text (take i entries) → new ≡ (out ++ 44 ∷ []) ++ text entry → new ≡ start ++ comma_text text (take (i + 1) entries)
  next-entry entries i entry start out new some read before after =
      rw (after, append_assoc, before, append_assoc, ← comma_text-more)
