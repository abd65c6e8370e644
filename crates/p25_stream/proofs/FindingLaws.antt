-- Octets that are taken from a position on until the first item is known: the bits held and those left are the bits from there on, so the first item
-- of those held is the first of all.
use Rattle.std.proofs.Common.{◌≡◌, ℕ, ◌+◌, ◌-◌, ◌*◌, ◌/◌, ◌%◌, ◌<◌, ◌≤◌, Bool, true, false, ◌||◌, inl, inr, List, [], ◌∷◌, ◌++◌, length, take, drop, get_or, ap, ◌∙◌, arith, append_assoc, append-nil, length-append, length-take, add-one}
use Rattle.std.proofs.{Math.Seq.{drop-cons, take-add}, lemmas.Bool.{cases_Bool}, lemmas.List.{drop-append-le, drop_all, take-append-drop, take_rest}}
use Rattle.p25_bits.specs.Bits.{bits_of, octet_bits}
use Rattle.p25_bits.proofs.{BitsLaws.{length-bits_of, length-octet_bits, octet_bits-append, octet_bits-cons, octet_bits-nil}, PartLaws.{drop_behind}}
use Rattle.p25_units.specs.Items.{covered}
use Rattle.p25_stream.specs.{Judgements.{IsJudged, is_settled}, Finding.{IsFilled, IsFirst}, Items.{first_item, items_by}, declared.judged.Judged.{Judged}}
use Rattle.p25_stream.proofs.{JudgementsLaws.{IsJudged-decided}, ItemsLaws.{covered-first_item, decided-some, items_by-decided, items_by-more, items_by-nil, items_by-none}}

pub put-none : (held : List Bool) (octets : List ℕ) → held ≡ held ++ octet_bits (take 0 octets)
put-none held octets = rw (octet_bits-nil, append-nil)

pub put-more : (before held later : List Bool) (octets : List ℕ) (taken count : ℕ) → held ≡ before ++ octet_bits (take taken octets)
    → later ≡ held ++ octet_bits (take count (take (length octets - taken) (drop taken octets))) → later ≡ before ++ octet_bits (take (taken + count) octets)
put-more before held later octets taken count was is =
    rw (is, take_rest, was, append_assoc, ← octet_bits-append, ← take-add)

-- the bits held and the bits left are all bits
pub filled : (before held : List Bool) (octets : List ℕ) (taken : ℕ) (judged : Judged) → held ≡ before ++ octet_bits (take taken octets)
    → IsJudged judged held → (is_settled judged ≡ false → length octets ≤ taken) → IsFilled before (octet_bits octets) held judged
filled before held octets taken judged is known all = record {
  more = octet_bits (drop taken octets);
  joined = rw (is, append_assoc, ← octet_bits-append, take-append-drop);
  known = known;
  all = λ open'. rw (drop_all taken octets (all open'), octet_bits-nil);
}

-- an item of a position is the first of the items there, if more bits do not matter or do not come
first-is : (ended : Bool) (place : ℕ) (bits : List Bool) → 0 < length bits → items_by ended place bits
    ≡ first_item place bits ∷ items_by ended (place + covered (first_item place bits)) (drop (covered (first_item place bits)) bits)
    → IsFirst ended place bits (first_item place bits)
first-is ended place bits some is = record { items = is; there = (covered-first_item place bits some).1 }

module _ (ended : Bool) (place : ℕ) (before rest held : List Bool) (judged : Judged) (is : IsFilled before rest held judged) where
  -- if all bits are held, or the first item is known, it is that of the bits held
  pub first-ended : 0 < length held → ended ≡ true → is_settled judged ≡ false → IsFirst ended place (before ++ rest) (first_item place held)
  first-ended some goes open' =
      rw (is.joined, is.all open', append-nil) (first-is ended place held some (items_by-more ended place held some (rw goes)))

  pub first-known : 0 < length held → is_settled judged ≡ true → IsFirst ended place (before ++ rest) (first_item place held)
  first-known some known =
      let item = first_item place held in
      let decided = IsJudged-decided judged held is.known ∙ known in
      let fits = (covered-first_item place held some).1 in
      rw is.joined (record {
        items = rw (items_by-decided ended place held is.more decided, drop-append-le (covered item) held is.more fits);
        there = omega (arith, fits, length-append held is.more);
      })

  pub first-found : 0 < length held → (ended || is_settled judged) ≡ true → IsFirst ended place (before ++ rest) (first_item place held)
  first-found some goes =
      elim (cases_Bool (is_settled judged)) [
        | inl known ↦ first-known some known
        | inr open' ↦ elim (cases_Bool ended) [
          | inl yes' ↦ first-ended some yes' open'
          | inr no' ↦ absurd (let two = rw (no', open') at goes in cc)
        ]
      ]

  -- and if it is not known and more bits may come, there is none
  pub none-found : ended ≡ false → is_settled judged ≡ false → items_by ended place (before ++ rest) ≡ []
  none-found goes open' =
      rw (is.joined, is.all open', append-nil) (items_by-none ended place held (rw (goes, IsJudged-decided judged held is.known, open')))

-- as many bits are held as one octet has from the position on, or more
pub held-some : (before rest held : List Bool) (judged : Judged) → IsFilled before rest held judged → 0 < length before → 0 < length held
held-some before rest [] judged is some =
    elim (cases_Bool (is_settled judged)) [
      | inr open' ↦ let none : before ++ rest ≡ [] = is.joined ∙ is.all open' in absurd (omega (arith, ap length none, length-append before rest))
      | inl known ↦ absurd (omega (arith, decided-some [] (IsJudged-decided judged [] is.known ∙ known)))
    ]
held-some before rest (bit ∷ held) judged is some = omega arith

-- the bits from a position on are those of its octet from there on, and those of the octets after it
pub bits-at : (octets : List ℕ) (at : ℕ) (before : List Bool) → at / 8 < length octets → before ≡ drop (at % 8) (bits_of 8 (get_or octets (at / 8) 0))
    → drop at (octet_bits octets) ≡ before ++ octet_bits (take (length octets - (at / 8 + 1)) (drop (at / 8 + 1) octets))
bits-at octets at before inside is =
    let first = at / 8 in
    let octet = get_or octets first 0 in
    let behind = octet_bits (drop (first + 1) octets) in
    let front = octet_bits (take first octets) in
    let long : length front ≡ 8 * first = omega (arith, length-octet_bits (take first octets), length-take first octets) in
    let within : at % 8 ≤ length (bits_of 8 octet) = omega (arith, length-bits_of 8 octet) in
    let at_is : at ≡ 8 * first + at % 8 = omega arith in
    let later : drop first octets ≡ octet ∷ drop (first + 1) octets = rw add-one (drop-cons octets first 0 inside) in
    let whole : octet_bits octets ≡ front ++ (bits_of 8 octet ++ behind) = rw (← octet_bits-cons, ← later, ← octet_bits-append, take-append-drop) in
    rw (whole, is, take_rest octets (first + 1), ← drop-append-le (at % 8) (bits_of 8 octet) behind within, ← drop_behind (8 * first) (at % 8) front (bits_of 8 octet ++ behind) long, ← at_is)

-- there are none from their end on
pub none-at_end : (ended : Bool) (place at : ℕ) (octets : List ℕ) → 8 * length octets ≤ at → items_by ended place (drop at (octet_bits octets)) ≡ []
none-at_end ended place at octets end =
    let long : length (octet_bits octets) ≤ at = omega (arith, length-octet_bits octets) in
    rw (drop_all at (octet_bits octets) long, items_by-nil)
