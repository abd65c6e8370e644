-- The output of a follower for items is the output for their bits: the decided part comes first, by induction on the items.
use Rattle.std.proofs.Common.{◌≡◌, ℕ, zero, suc, ◌+◌, ◌<◌, ◌≤◌, Bool, true, false, cond, inl, inr, List, [], ◌∷◌, ◌++◌, length, take, drop, Option, Some, None, refl, sym, ◌∙◌, arith, append_assoc, append-nil, length-drop}
use Rattle.std.proofs.lemmas.Bool.{cases_Bool, cases_lt}
use Rattle.p25_units.specs.{Items.{covered}, declared.item.Item.{Item}}
use Rattle.p25_stream.specs.Items.{first_item, items_of}
use Rattle.p25_stream.proofs.ItemsLaws.{items_by-first, items_by-more}
use Rattle.p25_follow.specs.{Chains.{chain_by, settled_of}, Followed.{followed_by, is_rest, unit_name}}
use Rattle.p25_follow.specs.{Following.{Follow, IsFollow, behind_item, follow, left_of, written_before, written_by, written_end, written_item}, Expected.{kind_length}, Steps.{step_of}}
use Rattle.p25_follow.proofs.{StepLaws.{step_of-there}, ChainLaws.{chain-settles, chain_by-none, chain_by-waits, left_of-none, left_of-step, left_of-stop, left_of-waits}}

-- the parts of the output
pub followed-end : (ended : Bool) (before : Option (ℕ × ℕ)) (stretch : List Bool) (bits : List Bool) → followed_by ended before stretch [] bits ≡ chain_by ended before stretch None
unfolding followed_by
followed-end ended before stretch bits = refl

pub followed-rest : (ended : Bool) (before : Option (ℕ × ℕ)) (stretch : List Bool) (item : Item) (items : List Item) (bits : List Bool) → is_rest item ≡ true
    → followed_by ended before stretch (item ∷ items) bits ≡ followed_by ended before (stretch ++ take (covered item) bits) items (drop (covered item) bits)
unfolding followed_by
followed-rest ended before stretch item items bits rest = rw rest

pub followed-unit : (ended : Bool) (before : Option (ℕ × ℕ)) (stretch : List Bool) (item : Item) (items : List Item) (bits : List Bool) → is_rest item ≡ false
    → followed_by ended before stretch (item ∷ items) bits
    ≡ chain_by true before stretch (unit_name item) ++ (take (covered item) bits ++ followed_by ended (unit_name item) [] items (drop (covered item) bits))
unfolding followed_by
followed-unit ended before stretch item items bits unit = rw unit

-- some items are those of some bits, and begin with an item
pub record Starts (at : ℕ) (bits : List Bool) (item : Item) (items : List Item) : Type 0 where
  pub first : first_item at bits ≡ item
  pub behind : items_of (at + covered item) (drop (covered item) bits) ≡ items
  pub all : items_of at bits ≡ item ∷ items
  pub some : 0 < covered item
  pub there : covered item ≤ length bits

pub starts-of : (at : ℕ) (bits : List Bool) (item : Item) (items : List Item) → items_of at bits ≡ item ∷ items → Starts at bits item items
starts-of at bits item items is =
    let parts = items_by-first true at bits item items is in
    record { first = sym parts.1; behind = sym parts.2; all = is; some = parts.3; there = parts.4 }

-- a property that holds at the end, and that each item carries back, holds for a stretch that has begun and the items after it
module _ (P : ℕ → Option (ℕ × ℕ) → List Bool → List Item → List Bool → Type 0) (end : (at : ℕ) (before : Option (ℕ × ℕ)) (stretch : List Bool) → P at before stretch [] [])
    (rest : (at : ℕ) (before : Option (ℕ × ℕ)) (stretch : List Bool) (item : Item) (items : List Item) (bits : List Bool) → Starts at bits item items → is_rest item ≡ true
    → P (at + covered item) before (stretch ++ take (covered item) bits) items (drop (covered item) bits) → P at before stretch (item ∷ items) bits)
    (unit : (at : ℕ) (before : Option (ℕ × ℕ)) (stretch : List Bool) (item : Item) (items : List Item) (bits : List Bool) → Starts at bits item items → is_rest item ≡ false
    → P (at + covered item) (unit_name item) [] items (drop (covered item) bits) → P at before stretch (item ∷ items) bits) where
  along-in : (n at : ℕ) (before : Option (ℕ × ℕ)) (stretch bits : List Bool) (items : List Item) → length bits ≤ n → items_of at bits ≡ items → P at before stretch items bits
  along-in n at before stretch [] [] few is = end at before stretch
  along-in n at before stretch (bit ∷ bits) [] few is = absurd (let two = sym is ∙ items_by-more true at (bit ∷ bits) (omega arith) refl in cc)
  along-in zero at before stretch bits (item ∷ items) few is = let starts = starts-of at bits item items is in absurd (omega arith)
  along-in (suc n) at before stretch bits (item ∷ items) few is =
      let starts = starts-of at bits item items is in
      let left = drop (covered item) bits in
      let fewer : length left ≤ n = omega (arith, length-drop (covered item) bits) in
      elim (cases_Bool (is_rest item)) [
        | inl none ↦ rest at before stretch item items bits starts none (along-in n (at + covered item) before (stretch ++ take (covered item) bits) left items fewer starts.behind)
        | inr some ↦ unit at before stretch item items bits starts some (along-in n (at + covered item) (unit_name item) [] left items fewer starts.behind)
      ]

  pub along-items : (at : ℕ) (before : Option (ℕ × ℕ)) (stretch bits : List Bool) → P at before stretch (items_of at bits) bits
  along-items at before stretch bits = along-in (length bits) at before stretch bits (items_of at bits) (omega arith) refl

-- the decided output for a stretch comes first, whatever bits and items follow
pub followed-settles : (ended : Bool) (before : Option (ℕ × ℕ)) (stretch more : List Bool) (items : List Item) (bits : List Bool)
    → followed_by ended before (stretch ++ more) items bits ≡ settled_of before stretch ++ followed_by ended (left_of before stretch).before ((left_of before stretch).stretch ++ more) items bits
followed-settles ended before stretch more [] bits = rw (followed-end, chain-settles, followed-end)
followed-settles ended before stretch more (item ∷ items) bits =
    elim (cases_Bool (is_rest item)) [
      | inl is ↦ rw (followed-rest, append_assoc, followed-settles ended before stretch (more ++ take (covered item) bits) items (drop (covered item) bits), followed-rest, append_assoc)
      | inr is ↦ rw (followed-unit, chain-settles, append_assoc, followed-unit)
    ]

-- ---- the bits that are kept

kept-none : IsFollow (follow None [])
kept-none = record { few = omega arith; none = λ same. refl }

kept-some : (before : ℕ × ℕ) (bits : List Bool) → length bits < 6912 → IsFollow (follow (Some before) bits)
kept-some before bits few = record { few = few; none = λ same. absurd (cc) }

kept-long : (n : ℕ) (before : ℕ × ℕ) (bits : List Bool) → 6912 ≤ length bits → length bits ≤ suc n → (kind : Option ℕ) → step_of before bits None ≡ kind
    → ((name : ℕ × ℕ) (left : List Bool) → length left ≤ n → IsFollow (left_of (Some name) left)) → IsFollow (left_of (Some before) bits)
kept-long n before bits long few None is later = rw (left_of-stop before bits long is) kept-none
kept-long n before bits long few (Some kind) is later =
    let there = step_of-there before bits None kind is in
    rw (left_of-step before bits kind long is)
    (later (before.0, kind) (drop (kind_length kind) bits) (omega (arith, length-drop (kind_length kind) bits, there.few, there.there)))

kept-in : (n : ℕ) (before : ℕ × ℕ) (bits : List Bool) → length bits ≤ n → IsFollow (left_of (Some before) bits)
kept-in zero before bits few = rw (left_of-waits before bits (omega arith)) (kept-some before bits (omega arith))
kept-in (suc n) before bits few =
    elim (cases_lt (length bits) 6912) [
      | inl short ↦ rw (left_of-waits before bits short) (kept-some before bits short)
      | inr long ↦ kept-long n before bits long few (step_of before bits None) refl (λ name left fewer. kept-in n name left fewer)
    ]

pub IsFollow-left : (before : Option (ℕ × ℕ)) (bits : List Bool) → IsFollow (left_of before bits)
IsFollow-left None bits = rw left_of-none kept-none
IsFollow-left (Some before) bits = kept-in (length bits) before bits (omega arith)

nothing_settled : (before : Option (ℕ × ℕ)) (stretch : List Bool) → IsFollow (follow before stretch) → settled_of before stretch ≡ []
nothing_settled None stretch kept = chain_by-none false stretch None ∙ kept.none refl
nothing_settled (Some before) stretch kept = chain_by-waits before stretch None kept.few

-- ---- the output for an item

pub IsFollow-behind : (kept : Follow) (item : Item) (raw : List Bool) → IsFollow (behind_item kept item raw)
unfolding behind_item
IsFollow-behind kept item raw =
    elim (is_rest item) as (λ b. IsFollow (cond b (left_of kept.before (kept.stretch ++ raw)) (follow (unit_name item) []))) [
      | true ↦ IsFollow-left kept.before (kept.stretch ++ raw)
      | false ↦ record { few = omega arith; none = λ same. refl }
    ]

behind-rest : (kept : Follow) (item : Item) (raw : List Bool) → is_rest item ≡ true → behind_item kept item raw ≡ left_of kept.before (kept.stretch ++ raw)
unfolding behind_item
behind-rest kept item raw is = rw is

behind-unit : (kept : Follow) (item : Item) (raw : List Bool) → is_rest item ≡ false → behind_item kept item raw ≡ follow (unit_name item) []
unfolding behind_item
behind-unit kept item raw is = rw is

before-rest : (kept : Follow) (item : Item) (raw : List Bool) → is_rest item ≡ true → written_before kept item raw ++ written_item item raw ≡ settled_of kept.before (kept.stretch ++ raw)
unfolding written_before written_item
before-rest kept item raw is = rw (is, append-nil)

before-unit : (kept : Follow) (item : Item) (raw : List Bool) → is_rest item ≡ false
    → written_before kept item raw ++ written_item item raw ≡ chain_by true kept.before kept.stretch (unit_name item) ++ raw
unfolding written_before written_item
before-unit kept item raw is = rw is

written-more : (ended : Bool) (kept : Follow) (item : Item) (items : List Item) (bits : List Bool)
    → written_by ended kept (item ∷ items) bits
    ≡ (written_before kept item (take (covered item) bits) ++ written_item item (take (covered item) bits))
    ++ written_by ended (behind_item kept item (take (covered item) bits)) items (drop (covered item) bits)
unfolding written_by
written-more ended kept item items bits = rw append_assoc

written-none : (ended : Bool) (kept : Follow) (bits : List Bool) → IsFollow kept → written_by ended kept [] bits ≡ chain_by ended kept.before kept.stretch None
unfolding written_by written_end
written-none true kept bits is = refl
written-none false kept bits is = sym (nothing_settled kept.before kept.stretch is)

-- the output of a follower with its invariant is the output by the definition
pub written-follows : (ended : Bool) (kept : Follow) (items : List Item) (bits : List Bool) → IsFollow kept → written_by ended kept items bits ≡ followed_by ended kept.before kept.stretch items bits
written-follows ended kept [] bits is = rw (written-none ended kept bits is, followed-end)
written-follows ended kept (item ∷ items) bits is =
    let raw = take (covered item) bits in
    let rest = drop (covered item) bits in
    let later = written-follows ended (behind_item kept item raw) items rest (IsFollow-behind kept item raw) in
    elim (cases_Bool (is_rest item)) [
      | inl none ↦
          let settles = followed-settles ended kept.before (kept.stretch ++ raw) [] items rest in
          rw (written-more, before-rest, followed-rest, later, behind-rest) (sym (rw (append-nil, append-nil) at settles))
      | inr unit ↦ rw (written-more, before-unit, followed-unit, later, behind-unit, append_assoc)
    ]
