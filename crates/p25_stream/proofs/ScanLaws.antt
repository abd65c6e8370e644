-- The items that a scanner can return: those of the bits that it holds and of any bits that come later.
use Rattle.std.proofs.Common.{◌≡◌, ◌↔◌, ℕ, ◌+◌, ◌<◌, ◌≤◌, inl, inr, Bool, true, false, not, ◌||◌, List, [], ◌∷◌, ◌++◌, length, take, drop, refl, ap, sym, ◌∙◌, arith, append-nil}
use Rattle.std.proofs.{lemmas.Bool.{cases_Bool, not-true}, lemmas.List.{nil_from_length}}
use Rattle.std.specs.Prelude.{IsTrue}
use Rattle.p25_units.specs.{Items.{covered}, declared.item.Item.{Item}}
use Rattle.p25_stream.specs.{Items.{first_item, is_decided, items_by}, Scan.{Scan, given, Gave}, Judgements.{IsJudged, is_settled}, declared.judged.Judged.{Judged}}
use Rattle.p25_stream.proofs.ItemsLaws.{covered-first_item, items_by-nil, items_by-more, items_by-none, items_by-first, items_by-decided, decided-some}
use Rattle.p25_stream.proofs.JudgementsLaws.{IsJudged-decided, IsJudged-few}

-- some bits have items only if the stream has ended or the first is decided
pub items_by-some : (ended : Bool) (at : ℕ) (bits : List Bool) → (items_by ended at bits ≡ [] → ⊥) → (0 < length bits) × ((ended || is_decided bits) ≡ true)
items_by-some ended at [] some = absurd (some (items_by-nil ended at))
items_by-some ended at (bit ∷ bits) some =
    elim (cases_Bool (ended || is_decided (bit ∷ bits))) [
      | inl goes ↦ (omega arith, goes)
      | inr stops ↦ absurd (some (items_by-none ended at (bit ∷ bits) stops))
    ]

pub items_by-any : (ended : Bool) (at : ℕ) (bits : List Bool) → 0 < length bits → (ended || is_decided bits) ≡ true → items_by ended at bits ≡ [] → ⊥
items_by-any ended at bits some goes none = let two = sym none ∙ items_by-more ended at bits some goes in cc

-- a finished scanner is drained if it holds nothing, and another if the first item is not known
pub drained-finished : (place : ℕ) (held : List Bool) → (length held ≡ 0) ↔ (items_by true place held ≡ [])
drained-finished place [] = (λ none. items_by-nil true place, λ none. refl)
drained-finished place (bit ∷ held) = (λ none. absurd (omega arith), λ none. absurd (items_by-any true place (bit ∷ held) (omega arith) refl none))

pub drained-going : (judged : Judged) (place : ℕ) (held : List Bool) → IsJudged judged held → (is_settled judged ≡ false) ↔ (items_by false place held ≡ [])
drained-going judged place held is =
    let decided = IsJudged-decided judged held is in (
      λ open'. items_by-none false place held (decided ∙ open'),
      λ none. elim (cases_Bool (is_settled judged)) [
        | inr open' ↦ open'
        | inl known ↦ absurd (items_by-any false place held (decided-some held (decided ∙ known)) (decided ∙ known) none)
      ],
    )

-- a drained scanner that goes on holds few bits
pub drained-open : (judged : Judged) (scan told : Scan) → scan ≡ told → given told ≡ [] → told.finished ≡ false → IsJudged judged scan.held → is_settled judged ≡ false
drained-open judged scan told same none going is =
    (drained-going judged scan.place scan.held is).1
    (rw same (rw going at none))

pub drained-few : (judged : Judged) (scan told : Scan) → scan ≡ told → given told ≡ [] → told.finished ≡ false → IsJudged judged scan.held → length scan.held < 25920
drained-few judged scan told same none going is = IsJudged-few judged scan.held is (drained-open judged scan told same none going is)

-- the first item given, with the bits that it covers
pub gave-first : (scan now : Scan) (item : Item) (raw : List Bool) → (given scan ≡ [] → ⊥) → item ≡ first_item scan.place scan.held
    → raw ≡ take (covered item) scan.held → now.held ≡ drop (covered item) scan.held → now.place ≡ scan.place + covered item → now.finished ≡ scan.finished
    → Gave scan item raw now
gave-first scan now item raw some is raw_bits left place same =
    let goes = items_by-some scan.finished scan.place scan.held some in
    let fits = covered-first_item scan.place scan.held goes.0 in
    record {
      items = rw (place, left, same, items_by-more scan.finished scan.place scan.held goes.0 goes.1, is);
      some = rw is fits.0;
      there = rw is fits.1;
      raw_bits = raw_bits;
      left = left;
      place = place;
      same = same;
    }

-- it is the first whatever bits come later
gave-ended : (ended finished : Bool) (at : ℕ) (held more : List Bool) (item : Item) (items : List Item) → items_by finished at held ≡ item ∷ items
    → (finished ≡ true → (ended ≡ true) × (more ≡ []))
    → items_by ended at (held ++ more) ≡ item ∷ items_by ended (at + covered item) (drop (covered item) held ++ more)
gave-ended ended true at held more item items is goes =
    let none = goes refl in
    rw (none.1, append-nil, append-nil, none.0, is, (items_by-first true at held item items is).2)
gave-ended ended false at held more item items is goes =
    let parts = items_by-first false at held item items is in
    rw (items_by-decided ended at held more (items_by-some false at held (λ none. let two = sym none ∙ is in cc)).1, parts.1)

pub gave-items : (before now : Scan) (item : Item) (raw : List Bool) (ended : Bool) (more : List Bool) → Gave before item raw now → (before.finished ≡ true → (ended ≡ true) × (more ≡ []))
    → items_by ended before.place (before.held ++ more) ≡ item ∷ items_by ended now.place (now.held ++ more)
gave-items before now item raw ended more gave goes =
    rw (gave.place, gave.left) (gave-ended ended before.finished before.place before.held more item (given now) gave.items goes)

-- whether a scanner is drained, as it returns
pub drained-when-finished : (scan : Scan) (empty : Bool) → scan.finished ≡ true → IsTrue empty ↔ (scan.held ≡ []) → IsTrue empty ↔ (given scan ≡ [])
drained-when-finished scan empty ended held =
    let is = drained-finished scan.place scan.held in (
      λ none. rw ended (is.0 (ap length (held.0 none))),
      λ none. held.1 (nil_from_length scan.held (is.1 (rw ended at none))),
    )

pub drained-when-going : (judged : Judged) (scan : Scan) (known : Bool)
    → scan.finished ≡ false → IsJudged judged scan.held → known ≡ is_settled judged → IsTrue (not known) ↔ (given scan ≡ [])
drained-when-going judged scan known going is same =
    let open' = drained-going judged scan.place scan.held is in (
      λ none. rw going (open'.0 (sym same ∙ not-true known none)),
      λ none. ap not (same ∙ open'.1 (rw going at none)),
    )

-- the bits that the first item covers are held
pub next-fits : (scan : Scan) (item : Item) → (given scan ≡ [] → ⊥) → item ≡ first_item scan.place scan.held → covered item ≤ length scan.held
next-fits scan item some is =
    let goes = items_by-some scan.finished scan.place scan.held some in
    rw is (covered-first_item scan.place scan.held goes.0).1

-- the next item and its bits, once a scanner holds these no longer
pub gave-next : (scan set now : Scan) (item : Item) (raw : List Bool) (count : ℕ) → (given scan ≡ [] → ⊥) → item ≡ first_item scan.place scan.held → set ≡ scan → count ≡ covered item
    → raw ≡ take count set.held → now ≡ record set { place = set.place + count; held = drop count set.held } → Gave scan item raw now
gave-next scan set now item raw count some is same long bits left =
    gave-first scan now item raw some is (rw (long, same) at bits) (rw (left, same, long)) (rw (left, same, long)) (rw (left, same))
