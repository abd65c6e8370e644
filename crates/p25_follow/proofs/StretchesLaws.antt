-- The output for a recording, stretch by stretch: the bits of a data unit unchanged, and those of a stretch after it as its chain. By induction on
-- the items before them.
use Rattle.std.proofs.Common.{◌≡◌, ℕ, ◌+◌, ◌≤◌, Bool, true, false, inl, inr, List, [], ◌∷◌, ◌++◌, length, take, drop, Option, None, sym, ◌∙◌, add_assoc, arith, append_assoc, append-nil, length-append, length-drop}
use Rattle.std.proofs.{lemmas.Bool.{cases_Bool}, lemmas.List.{drop-drop, length-take-le}, lemmas.List.Sums.{sum_by-cons}, Math.Nat.{zero-add}, Math.Seq.{take-add}}
use Rattle.p25_bits.proofs.PartLaws.{part_joined}
use Rattle.p25_units.specs.{Items.{covered}, declared.item.Item.{Item}}
use Rattle.p25_stream.specs.Items.{items_of}
use Rattle.p25_stream.proofs.{ItemLaws.{item-among}, WrittenLaws.{items-there}}
use Rattle.p25_follow.specs.{Chains.{chain_by}, Followed.{follow_of, followed_by, is_rest, unit_name}, FollowedUnits.{end_name}, RecordingLaws.{StretchByStretch}}
use Rattle.p25_follow.specs.StretchLaws.{all_rest, begins_rest, bits_in}
use Rattle.p25_follow.proofs.{FollowingLaws.{followed-end, followed-rest, followed-unit}, LengthLaws.{length-chain_of}, StepLaws.{and_left-true, and_right-true}}

-- the output before a data unit is as long as the bits before it, and the bits of the data unit follow
record IsFrom (before : Option (ℕ × ℕ)) (stretch : List Bool) (first : List Item) (unit : Item) (items : List Item) (bits : List Bool) : Type 0 where
  front : List Bool
  long : length front ≡ length stretch + bits_in first
  joined : followed_by true before stretch (first ++ (unit ∷ items)) bits
      ≡ front ++ (take (covered unit) (drop (bits_in first) bits) ++ followed_by true (unit_name unit) [] items (drop (bits_in first + covered unit) bits))

from-unit : (before : Option (ℕ × ℕ)) (stretch : List Bool) (first : List Item) (unit : Item) (items : List Item) (bits : List Bool) → is_rest unit ≡ false → bits_in first ≤ length bits
    → IsFrom before stretch first unit items bits
from-unit before stretch [] unit items bits is fits = record {
  front = chain_by true before stretch (unit_name unit);
  long = omega (arith, length-chain_of before stretch (unit_name unit));
  joined = rw (followed-unit true before stretch unit items bits is, zero-add);
}
from-unit before stretch (item ∷ first) unit items bits is fits =
    let c = covered item in
    let raw = take c bits in
    let more = sum_by-cons covered item first in
    let raw_long : length raw ≡ c = length-take-le c bits (omega arith) in
    let later = λ (name : Option (ℕ × ℕ)) (begun : List Bool). from-unit name begun first unit items (drop c bits) is (omega (arith, length-drop c bits)) in
    elim (cases_Bool (is_rest item)) [
      | inl rest ↦
          let behind = later before (stretch ++ raw) in
          record {
            front = behind.front;
            long = omega (arith, behind.long, length-append stretch raw);
            joined = rw (followed-rest true before stretch item (first ++ (unit ∷ items)) bits rest) (simp (more, add_assoc) (rw (drop-drop, drop-drop) at behind.joined));
          }
      | inr no' ↦
          let chain = chain_by true before stretch (unit_name item) in
          let behind = later (unit_name item) [] in
          record {
            front = chain ++ (raw ++ behind.front);
            long = omega (arith, behind.long, length-append chain (raw ++ behind.front), length-append raw behind.front, length-chain_of before stretch (unit_name item));
            joined = rw (followed-unit true before stretch item (first ++ (unit ∷ items)) bits no', behind.joined, append_assoc, append_assoc) (simp (more, add_assoc, drop-drop));
          }
    ]

-- the output for a stretch that has begun, and then more
record IsOf (before : Option (ℕ × ℕ)) (begun : List Bool) (stretch after : List Item) (bits : List Bool) : Type 0 where
  more : List Bool
  joined : followed_by true before begun (stretch ++ after) bits ≡ chain_by true before (begun ++ take (bits_in stretch) bits) (end_name after) ++ more

of-stretch : (before : Option (ℕ × ℕ)) (begun : List Bool) (stretch after : List Item) (bits : List Bool) → all_rest stretch ≡ true → begins_rest after ≡ false → IsOf before begun stretch after bits
unfolding all_rest
of-stretch before begun [] [] bits all no' = record { more = []; joined = rw (followed-end, append-nil, append-nil) }
of-stretch before begun [] (item ∷ items) bits all no' = record {
  more = take (covered item) bits ++ followed_by true (unit_name item) [] items (drop (covered item) bits);
  joined = rw (append-nil, followed-unit true before begun item items bits no');
}
of-stretch before begun (item ∷ stretch) after bits all no' =
    let rest : is_rest item ≡ true = and_left-true (is_rest item) (all_rest stretch) all in
    let later = of-stretch before (begun ++ take (covered item) bits) stretch after (drop (covered item) bits) (and_right-true (is_rest item) (all_rest stretch) all) no' in
    record {
      more = later.more;
      joined = rw (followed-rest true before begun item (stretch ++ after) bits rest, sum_by-cons covered item stretch, take-add, ← append_assoc begun) later.joined;
    }

pub by-stretches : StretchByStretch
unfolding follow_of
by-stretches bits first unit stretch after is is_unit all no' =
    let count = covered unit in
    let at = bits_in first in
    let n = bits_in stretch in
    let there = item-among true 0 bits first unit (stretch ++ after) is in
    let from = from-unit None [] first unit (stretch ++ after) bits is_unit (items-there first (unit ∷ (stretch ++ after)) true 0 bits is) in
    let left = drop (at + count) bits in
    let of = of-stretch (unit_name unit) [] stretch after left all no' in
    let raw = take count (drop at bits) in
    let chain = chain_by true (unit_name unit) (take n left) (end_name after) in
    let raw_long : length raw ≡ count = length-take-le count (drop at bits) there.4 in
    let fits : n ≤ length left = rw drop-drop at (items-there stretch after true (0 + at + count) (drop count (drop at bits)) (sym there.2)) in
    let out : followed_by true None [] (items_of 0 bits) bits ≡ (from.front ++ raw) ++ (chain ++ of.more) = rw (is, from.joined, of.joined, append_assoc) in (
      rw (out, append_assoc) (part_joined at count from.front raw (chain ++ of.more) (omega (arith, from.long)) raw_long),
      rw out (part_joined (at + count) n (from.front ++ raw) chain of.more (omega (arith, from.long, length-append from.front raw, raw_long))
          (length-chain_of (unit_name unit) (take n left) (end_name after) ∙ length-take-le n left fits)),
    )
