-- One pass over the items writes the decided stretches: the decided output for a stretch comes first, whatever items come after it.
use Rattle.std.proofs.Common.{◌≡◌, ℕ, zero, suc, ◌+◌, ◌-◌, ◌<◌, ◌≤◌, Bool, true, false, inl, inr, List, [], ◌∷◌, ◌++◌, length, take, drop, Option, Some, None, refl, ap, ap₂, sym, subst, ◌∙◌, arith, append_assoc, append-nil, length-append, length-drop}
use Rattle.std.proofs.lemmas.{Bool.{cases_Bool, cases_lt}, List.{length-take-le}}
use Rattle.p25_units.specs.{Items.{covered}, declared.item.Item.{Item}}
use Rattle.p25_stream.specs.Items.{items_of}
use Rattle.p25_follow.specs.{Chains.{settled_of}, Expected.{kind_length}, Followed.{is_rest, unit_name}, Following.{Follow, behind_item, follow, fresh_follow, left_of}, Steps.{step_of}}
use Rattle.p25_follow.proofs.{AfterUnitLaws.{Sound, none-sound, some-sound, sound-some, unit-sound}, ChainLaws.{left_of-none, left_of-step, left_of-stop, left_of-waits}}
use Rattle.p25_follow.proofs.{FollowingLaws.{starts-of}, StepLaws.{step_of-there}}
use Rattle.p25_decide.specs.{DecidedFollowing.{before_item, changed_by, own_item, settled_over}, DecidedStretches.{chain_over, stretches_over}}
use Rattle.p25_decide.proofs.{OverLaws.{over-end, over-rest, over-unit}, SettledLaws.{chain-over-settles, length-settled}}

-- the name that is kept has an access code of 12 bits

left-sound-long : (n : ℕ) (before : ℕ × ℕ) (bits : List Bool) → 6912 ≤ length bits → length bits ≤ suc n → Sound (Some before) → (kind : Option ℕ) → step_of before bits None ≡ kind
    → ((name : ℕ × ℕ) (left : List Bool) → length left ≤ n → Sound (Some name) → Sound (left_of (Some name) left).before) → Sound (left_of (Some before) bits).before
left-sound-long n before bits long few sound None is later = rw (left_of-stop before bits long is) none-sound
left-sound-long n before bits long few sound (Some kind) is later =
    let there = step_of-there before bits None kind is in
    rw (left_of-step before bits kind long is)
    (later (before.0, kind) (drop (kind_length kind) bits) (omega (arith, length-drop (kind_length kind) bits, there.few, there.there)) (some-sound (before.0, kind) (sound-some before sound)))

left-sound-in : (n : ℕ) (before : Option (ℕ × ℕ)) (bits : List Bool) → length bits ≤ n → Sound before → Sound (left_of before bits).before
left-sound-in n None bits few sound = rw left_of-none none-sound
left-sound-in zero (Some before) bits few sound = let short : length bits < 6912 = omega arith in rw (left_of-waits before bits short) sound
left-sound-in (suc n) (Some before) bits few sound =
    elim (cases_lt (length bits) 6912) [
      | inl short ↦ rw (left_of-waits before bits short) sound
      | inr long ↦ left-sound-long n before bits long few sound (step_of before bits None) refl (λ name left fewer known. left-sound-in n (Some name) left fewer known)
    ]

left-sound : (before : Option (ℕ × ℕ)) (bits : List Bool) → Sound before → Sound (left_of before bits).before
left-sound before bits sound = left-sound-in (length bits) before bits (omega arith) sound

-- the decided output for a stretch comes first
stretches-settles : (change : Item → List Bool → List Bool) (at : ℕ) (before : Option (ℕ × ℕ)) (bits more : List Bool) (items : List Item) (tail : List Bool) → Sound before
    → stretches_over change at before (bits ++ more) items tail
    ≡ settled_over change at before bits ++ stretches_over change (at + length (settled_of before bits)) (left_of before bits).before ((left_of before bits).stretch ++ more) items tail
stretches-settles change at before bits more [] tail sound =
    let left = left_of before bits in
    over-end change at before (bits ++ more) tail
    ∙ chain-over-settles change at before bits more None sound
    ∙ ap (λ (xs : List Bool). settled_over change at before bits ++ xs) (sym (over-end change (at + length (settled_of before bits)) left.before (left.stretch ++ more) tail))
stretches-settles change at before bits more (item ∷ items) tail sound =
    let left = left_of before bits in
    let first = settled_over change at before bits in
    let next = at + length (settled_of before bits) in
    let raw = take (covered item) tail in
    let rest = drop (covered item) tail in
    elim (cases_Bool (is_rest item)) [
      | inl is ↦
          over-rest change at before (bits ++ more) item items tail is
          ∙ ap (λ (xs : List Bool). stretches_over change at before xs items rest) (append_assoc bits more raw)
          ∙ stretches-settles change at before bits (more ++ raw) items rest sound
          ∙ ap (λ (xs : List Bool). first ++ xs)
          (ap (λ (xs : List Bool). stretches_over change next left.before xs items rest) (sym (append_assoc left.stretch more raw)) ∙ sym (over-rest change next left.before (left.stretch ++ more) item items tail is))
      | inr is ↦
          let position : at + length (bits ++ more) ≡ next + length (left.stretch ++ more)
          = omega (arith, length-append bits more, length-append left.stretch more, length-settled before bits) in
          let chain = chain_over change next left.before (left.stretch ++ more) (unit_name item) in
          let after : ℕ → List Bool = λ p. change item raw ++ stretches_over change (p + covered item) (unit_name item) [] items rest in
          over-unit change at before (bits ++ more) item items tail is
          ∙ ap₂ (λ (xs : List Bool) p. xs ++ after p) (chain-over-settles change at before bits more (unit_name item) sound) position
          ∙ append_assoc first chain (after (next + length (left.stretch ++ more)))
          ∙ ap (λ (xs : List Bool). first ++ xs) (sym (over-unit change next left.before (left.stretch ++ more) item items tail is))
    ]

-- an item of a stretch, and a unit
changed-rest : (change : Item → List Bool → List Bool) (at : ℕ) (kept : Follow) (item : Item) (items : List Item) (bits : List Bool) → is_rest item ≡ true
    → changed_by change true at kept (item ∷ items) bits
    ≡ settled_over change at kept.before (kept.stretch ++ take (covered item) bits)
    ++ changed_by change true (at + length (kept.stretch ++ take (covered item) bits) - length (left_of kept.before (kept.stretch ++ take (covered item) bits)).stretch)
    (left_of kept.before (kept.stretch ++ take (covered item) bits)) items (drop (covered item) bits)
unfolding changed_by before_item own_item behind_item
changed-rest change at kept item items bits is = rw is refl

changed-unit : (change : Item → List Bool → List Bool) (at : ℕ) (kept : Follow) (item : Item) (items : List Item) (bits : List Bool) → is_rest item ≡ false
    → changed_by change true at kept (item ∷ items) bits
    ≡ chain_over change at kept.before kept.stretch (unit_name item)
    ++ (change item (take (covered item) bits)
    ++ changed_by change true (at + length (kept.stretch ++ take (covered item) bits) - 0) (follow (unit_name item) []) items (drop (covered item) bits))
unfolding changed_by before_item own_item behind_item
changed-unit change at kept item items bits is = rw is refl

-- one pass writes the decided stretches
changed-follows : (change : Item → List Bool → List Bool) (place at : ℕ) (kept : Follow) (items : List Item) (bits : List Bool) → items_of place bits ≡ items → Sound kept.before
    → changed_by change true at kept items bits ≡ stretches_over change at kept.before kept.stretch items bits
unfolding changed_by
changed-follows change place at kept [] bits is sound = sym (over-end change at kept.before kept.stretch bits)
changed-follows change place at kept (item ∷ items) bits is sound =
    let starts = starts-of place bits item items is in
    let raw = take (covered item) bits in
    let rest = drop (covered item) bits in
    let all = kept.stretch ++ raw in
    let left = left_of kept.before all in
    elim (cases_Bool (is_rest item)) [
      | inl none ↦
          let position : at + length all - length left.stretch ≡ at + length (settled_of kept.before all) = omega (arith, length-settled kept.before all) in
          changed-rest change at kept item items bits none
          ∙ ap (λ (xs : List Bool). settled_over change at kept.before all ++ xs)
          (
          changed-follows change (place + covered item) (at + length all - length left.stretch) left items rest starts.behind (left-sound kept.before all sound)
          ∙ ap₂ (λ p (xs : List Bool). stretches_over change p left.before xs items rest) position (sym (append-nil left.stretch))
          )
          ∙ sym (stretches-settles change at kept.before all [] items rest sound)
          ∙ ap (λ (xs : List Bool). stretches_over change at kept.before xs items rest) (append-nil all)
          ∙ sym (over-rest change at kept.before kept.stretch item items bits none)
      | inr unit ↦
          let position : at + length all - 0 ≡ at + length kept.stretch + covered item = omega (arith, length-append kept.stretch raw, length-take-le (covered item) bits starts.there) in
          let known = subst (λ i. Sound (unit_name i)) starts.first (unit-sound place bits) in
          changed-unit change at kept item items bits unit
          ∙ ap (λ (xs : List Bool). chain_over change at kept.before kept.stretch (unit_name item) ++ (change item raw ++ xs))
          (
          changed-follows change (place + covered item) (at + length all - 0) (follow (unit_name item) []) items rest starts.behind known
          ∙ ap (λ p. stretches_over change p (unit_name item) [] items rest) position
          )
          ∙ sym (over-unit change at kept.before kept.stretch item items bits unit)
    ]

pub changed-all : (change : Item → List Bool → List Bool) (bits : List Bool)
    → changed_by change true 0 fresh_follow (items_of 0 bits) bits ≡ stretches_over change 0 None [] (items_of 0 bits) bits
changed-all change bits = changed-follows change 0 0 fresh_follow (items_of 0 bits) bits refl none-sound
