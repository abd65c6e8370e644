-- The output differs from the recording only in bits of sync and NID, of data units for which they are written, which lie in stretches. Position by
-- position, along the data units of a chain and along the items.
use Rattle.std.proofs.Common.{◌≡◌, ℕ, ◌+◌, ◌-◌, ◌<◌, ◌≤◌, Bool, true, false, inl, inr, ◌⊎◌, List, [], ◌∷◌, ◌++◌, length, take, drop, Option, Some, None, refl, sym, ap, ◌∙◌, arith, append_assoc, append-nil, length-append}
use Rattle.std.proofs.{lemmas.Bool.{cases_lt}, lemmas.List.{length-take-le, take-append-drop}, Math.ListN.{drop_of_length-le}, Math.Nat.{zero-add}}
use Rattle.p25_bits.specs.Bits.{part}
use Rattle.p25_bits.proofs.PartLaws.{part-drop, part-part, part-take, part_left, part_right}
use Rattle.p25_units.specs.{Items.{covered, place_of, unit_item_of}, declared.item.Item.{Item}}
use Rattle.p25_units.proofs.ItemsLaws.{place_of-unit_item_of}
use Rattle.p25_follow.specs.{Chains.{chain_by, with_front}, Expected.{kind_length}, Followed.{follow_of, followed_by, is_rest, unit_name}}
use Rattle.p25_follow.specs.{FollowedUnits.{IsFrontBit, IsInStretch, fronts_by, written_units}, RecordingLaws.{FrontBitsAlone}, Steps.{step_of}}
use Rattle.p25_follow.proofs.{ChainLaws.{along-chain, chain-stop, chain_by-step}, FollowingLaws.{Starts, along-items, followed-end, followed-rest, followed-unit}, LengthLaws.{length-chain_of, length-with_front}}
use Rattle.p25_follow.proofs.{StepLaws.{step_of-there}, UnchangedLaws.{rest-stays, symbol-stays}, WrittenUnitsLaws.{written-step}}

-- ---- the bits of a data unit whose sync and NID are written

abbrev InFront : ℕ → Type 0
InFront i = (i < 70) ⊎ ((72 ≤ i) × (i < 114))

front-point : (i : ℕ) (name : ℕ × ℕ) (bits : List Bool) → 114 ≤ length bits → (part i 1 (with_front name bits) ≡ part i 1 bits) ⊎ InFront i
front-point i name bits long =
    let unit = with_front name bits in
    elim (cases_lt i 70) [
      | inl first ↦ inr (inl first)
      | inr symbol ↦ elim (cases_lt i 72) [
        | inl within ↦
            let j = i - 70 in
            let split : 70 + j ≡ i = omega (arith, symbol) in
            let at_part = λ (xs : List Bool). rw split at (part-part 70 2 j 1 xs (omega (arith, within, symbol))) in
            inl (sym (at_part unit) ∙ ap (part j 1) (symbol-stays name bits long) ∙ at_part bits)
        | inr second ↦ elim (cases_lt i 114) [
          | inl before ↦ inr (inr (second, before))
          | inr behind ↦
              let j = i - 114 in
              let split : 114 + j ≡ i = omega (arith, behind) in
              let at_rest = λ (xs : List Bool). rw split at (part-drop j 1 114 xs) in
              inl (sym (at_rest unit) ∙ ap (part j 1) (rest-stays name bits long) ∙ at_rest bits)
        ]
      ]
    ]

front-here : (at i : ℕ) (unit : Item) (units : List Item) → place_of unit ≡ at → InFront i → IsFrontBit (at + i) (unit ∷ units)
unfolding IsFrontBit
front-here at i unit units is (inl first) = inl (omega (arith, is), inl (omega (arith, is, first)))
front-here at i unit units is (inr second) = inl (omega (arith, is), inr (omega (arith, is, second.0), omega (arith, is, second.1)))

front-later : (place : ℕ) (unit : Item) (units : List Item) → IsFrontBit place units → IsFrontBit place (unit ∷ units)
unfolding IsFrontBit
front-later place unit units is = inr is

front-left : (place : ℕ) (units more : List Item) → IsFrontBit place units → IsFrontBit place (units ++ more)
unfolding IsFrontBit
front-left place [] more is = absurd is
front-left place (unit ∷ units) more (inl here) = inl here
front-left place (unit ∷ units) more (inr later) = inr (front-left place units more later)

front-right : (place : ℕ) (units more : List Item) → IsFrontBit place more → IsFrontBit place (units ++ more)
front-right place [] more is = is
front-right place (unit ∷ units) more is = front-later place unit (units ++ more) (front-right place units more is)

-- ---- the bits of a stretch

abbrev ChainPoint : ℕ → ℕ → Option (ℕ × ℕ) → List Bool → Option (ℕ × ℕ) → Type 0
ChainPoint at i before stretch end = (part i 1 (chain_by true before stretch end) ≡ part i 1 stretch) ⊎ IsFrontBit (at + i) (written_units at before stretch end)

chain-step-point : (at i : ℕ) (before : ℕ × ℕ) (stretch : List Bool) (end : Option (ℕ × ℕ)) (kind : ℕ) → step_of before stretch end ≡ Some kind
    → ((j : ℕ) → ChainPoint (at + kind_length kind) j (Some (before.0, kind)) (drop (kind_length kind) stretch) end) → ChainPoint at i (Some before) stretch end
chain-step-point at i before stretch end kind is later =
    let there = step_of-there before stretch end kind is in
    let count = kind_length kind in
    let name : ℕ × ℕ = (before.0, kind) in
    let raw = take count stretch in
    let raw_long : length raw ≡ count = length-take-le count stretch there.there in
    let enough : 114 ≤ length raw = omega (arith, raw_long, there.few) in
    let unit = with_front name raw in
    let unit_long : length unit ≡ count = length-with_front name raw enough ∙ raw_long in
    let next = chain_by true (Some name) (drop count stretch) end in
    let item = unit_item_of at unit in
    let more = written_units (at + count) (Some name) (drop count stretch) end in
    rw (chain_by-step true before stretch end kind refl is, written-step at before stretch end kind is)
    (elim (cases_lt i count) [
      | inl first ↦ elim (front-point i name raw enough) [
        | inl same ↦ inl (part_left i 1 unit next (omega (arith, first, unit_long)) ∙ same ∙ part-take i 1 count stretch (omega (arith, first)))
        | inr front ↦ inr (front-here at i item more (place_of-unit_item_of at unit) front)
      ]
      | inr behind ↦
          let j = i - count in
          let split : count + j ≡ i = omega (arith, behind) in
          let moved : at + count + j ≡ at + i = omega (arith, behind) in
          elim (later j) [
            | inl same ↦ inl (rw unit_long at (part_right i 1 unit next (omega (arith, behind, unit_long))) ∙ same ∙ rw split at (part-drop j 1 count stretch))
            | inr front ↦ inr (front-later (at + i) item more (rw moved at front))
          ]
    ])

chain-point : (end : Option (ℕ × ℕ)) (at : ℕ) (before : Option (ℕ × ℕ)) (stretch : List Bool) (i : ℕ) → ChainPoint at i before stretch end
chain-point end =
    along-chain end (λ at before stretch. (i : ℕ) → ChainPoint at i before stretch end) (λ at before stretch stops i. inl (rw (chain-stop before stretch end stops)))
    (λ at before stretch kind is later i. chain-step-point at i before stretch end kind is later)

-- ---- the bits of a stretch that has begun, and of the items after it

pub fronts-end : (at : ℕ) (before : Option (ℕ × ℕ)) (stretch bits : List Bool) → fronts_by at before stretch [] bits ≡ written_units at before stretch None
unfolding fronts_by
fronts-end at before stretch bits = refl

pub fronts-rest : (at : ℕ) (before : Option (ℕ × ℕ)) (stretch : List Bool) (item : Item) (items : List Item) (bits : List Bool) → is_rest item ≡ true
    → fronts_by at before stretch (item ∷ items) bits ≡ fronts_by at before (stretch ++ take (covered item) bits) items (drop (covered item) bits)
unfolding fronts_by
fronts-rest at before stretch item items bits rest = rw rest

pub fronts-unit : (at : ℕ) (before : Option (ℕ × ℕ)) (stretch : List Bool) (item : Item) (items : List Item) (bits : List Bool) → is_rest item ≡ false
    → fronts_by at before stretch (item ∷ items) bits
    ≡ written_units at before stretch (unit_name item) ++ fronts_by (at + length stretch + covered item) (unit_name item) [] items (drop (covered item) bits)
unfolding fronts_by
fronts-unit at before stretch item items bits unit = rw unit

in-here : (place at : ℕ) (item : Item) (items : List Item) → is_rest item ≡ true → at ≤ place → place < at + covered item → IsInStretch place at (item ∷ items)
unfolding IsInStretch
in-here place at item items rest from before = inl (rest, from, before)

in-later : (place at : ℕ) (item : Item) (items : List Item) → IsInStretch place (at + covered item) items → IsInStretch place at (item ∷ items)
unfolding IsInStretch
in-later place at item items later = inr later

-- the bit at a position is the same, or it is a bit of sync or NID, in the stretch or in one after it
abbrev Where : ℕ → ℕ → List Bool → List Item → ℕ → Type 0
Where at place stretch items i = (i < length stretch) ⊎ IsInStretch (at + i) place items

abbrev Point : ℕ → ℕ → Option (ℕ × ℕ) → List Bool → List Item → List Bool → ℕ → Type 0
Point at place before stretch items bits i =
    (part i 1 (followed_by true before stretch items bits) ≡ part i 1 (stretch ++ bits)) ⊎ (IsFrontBit (at + i) (fronts_by at before stretch items bits) × Where at place stretch items i)

part-none : (i : ℕ) (bits : List Bool) → length bits ≤ i → part i 1 bits ≡ []
part-none i bits behind = ap (take 1) (drop_of_length-le bits behind)

point-end : (at place i : ℕ) (before : Option (ℕ × ℕ)) (stretch : List Bool) → Point at place before stretch [] [] i
point-end at place i before stretch =
    rw (followed-end, fronts-end, append-nil)
    (elim (cases_lt i (length stretch)) [
      | inr behind ↦ inl (part-none i (chain_by true before stretch None) (omega (arith, behind, length-chain_of before stretch None)) ∙ sym (part-none i stretch behind))
      | inl within ↦ elim (chain-point None at before stretch i) [
        | inl same ↦ inl same
        | inr front ↦ inr (front, inl within)
      ]
    ])

where-rest : (at place i : ℕ) (stretch raw : List Bool) (item : Item) (items : List Item) → at + length stretch ≡ place → length raw ≡ covered item → is_rest item ≡ true
    → Where at (place + covered item) (stretch ++ raw) items i → Where at place stretch (item ∷ items) i
where-rest at place i stretch raw item items is_place raw_long rest (inl within) =
    elim (cases_lt i (length stretch)) [
      | inl first ↦ inl first
      | inr behind ↦ inr (in-here (at + i) place item items rest (omega (arith, behind, is_place)) (omega (arith, within, is_place, raw_long, length-append stretch raw)))
    ]
where-rest at place i stretch raw item items is_place raw_long rest (inr later) = inr (in-later (at + i) place item items later)

abbrev Points : ℕ → Option (ℕ × ℕ) → List Bool → List Item → List Bool → Type 0
Points place before stretch items bits = (at i : ℕ) → at + length stretch ≡ place → Point at place before stretch items bits i

point-rest : (place : ℕ) (before : Option (ℕ × ℕ)) (stretch : List Bool) (item : Item) (items : List Item) (bits : List Bool) → Starts place bits item items → is_rest item ≡ true
    → Points (place + covered item) before (stretch ++ take (covered item) bits) items (drop (covered item) bits) → Points place before stretch (item ∷ items) bits
point-rest place before stretch item items bits starts rest later at i is_place =
    let raw = take (covered item) bits in
    let raw_long = length-take-le (covered item) bits starts.there in
    rw (followed-rest true before stretch item items bits rest, fronts-rest at before stretch item items bits rest)
    (elim (later at i (omega (arith, is_place, length-append stretch raw, raw_long))) [
      | inl same ↦ inl (rw (append_assoc stretch raw, take-append-drop) at same)
      | inr found ↦ inr (found.0, where-rest at place i stretch raw item items is_place raw_long rest found.1)
    ])

where-unit : (at place i k : ℕ) (stretch : List Bool) (item : Item) (items : List Item) → place + covered item + k ≡ at + i
    → Where (place + covered item) (place + covered item) [] items k → Where at place stretch (item ∷ items) i
where-unit at place i k stretch item items same (inl none) = absurd (omega (arith, none))
where-unit at place i k stretch item items same (inr later) = inr (in-later (at + i) place item items (rw same at later))

point-unit : (place : ℕ) (before : Option (ℕ × ℕ)) (stretch : List Bool) (item : Item) (items : List Item) (bits : List Bool) → Starts place bits item items → is_rest item ≡ false
    → Points (place + covered item) (unit_name item) [] items (drop (covered item) bits) → Points place before stretch (item ∷ items) bits
point-unit place before stretch item items bits starts unit later at i is_place =
    let name = unit_name item in
    let count = covered item in
    let raw = take count bits in
    let next = followed_by true name [] items (drop count bits) in
    let chain = chain_by true before stretch name in
    let chain_long = length-chain_of before stretch name in
    let raw_long = length-take-le count bits starts.there in
    let fronts = written_units at before stretch name in
    let more = fronts_by (place + count) name [] items (drop count bits) in
    rw (followed-unit true before stretch item items bits unit, fronts-unit at before stretch item items bits unit, is_place)
    (elim (cases_lt i (length stretch)) [
      | inl first ↦
          let own = part_left i 1 chain (raw ++ next) (omega (arith, first, chain_long)) in
          elim (chain-point name at before stretch i) [
            | inl same ↦ inl (own ∙ same ∙ sym (part_left i 1 stretch bits (omega (arith, first))))
            | inr front ↦ inr (front-left (at + i) fronts more front, inl first)
          ]
      | inr behind ↦
          let j = i - length stretch in
          let own = rw chain_long at (part_right i 1 chain (raw ++ next) (omega (arith, behind, chain_long))) in
          let here = sym (part_right i 1 stretch bits behind) in
          elim (cases_lt j count) [
            | inl within ↦ inl (own ∙ part_left j 1 raw next (omega (arith, within, raw_long)) ∙ part-take j 1 count bits (omega (arith, within)) ∙ here)
            | inr after ↦
                let k = j - count in
                let split : count + k ≡ j = omega (arith, after) in
                let moved : place + count + k ≡ at + i = omega (arith, is_place, after, behind) in
                elim (later (place + count) k (omega arith)) [
                  | inl same ↦ inl (own ∙ rw raw_long at (part_right j 1 raw next (omega (arith, after, raw_long))) ∙ same ∙ rw split at (part-drop k 1 count bits) ∙ here)
                  | inr found ↦ inr (front-right (at + i) fronts more (rw moved at found.0), where-unit at place i k stretch item items moved found.1)
                ]
          ]
    ])

pub front-bits : FrontBitsAlone
unfolding follow_of
front-bits bits place =
    elim (along-items Points (λ p before stretch at i is_place. point-end at p i before stretch) point-rest point-unit 0 None [] bits 0 place (omega arith)) [
      | inl same ↦ inl same
      | inr found ↦ elim found.1 [
        | inl none ↦ absurd (omega (arith, none))
        | inr within ↦ inr (rw zero-add at found.0, rw zero-add at within)
      ]
    ]
