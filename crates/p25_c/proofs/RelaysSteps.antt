-- The positions of the items that calls find, and how many bits they cover.
use Rattle.std.proofs.Common.{◌≡◌, ℕ, ℤ, pos, ◌+◌, ◌-◌, ◌*◌, ◌^◌, ◌≤◌, Bool, true, List, [], length, drop, Option, Some, None, Ok, refl, subst, sym, arith, length-drop}
use Rattle.std.proofs.lemmas.Bool.{cond-true, le-leb, leb-true}
use Rattle.std.specs.Cmp.{first_so, second_so}
use Rattle.p25_bits.specs.Bits.{octet_bits}
use Rattle.p25_bits.proofs.BitsLaws.{length-octet_bits}
use Rattle.p25_units.proofs.{ItemsLaws.{covered-unit_item_of}, NeedsLaws.{need_of-few, need_of-there}}
use Rattle.p25_units.specs.{Items.{covered}, declared.item.Item.{Item}}
use Rattle.p25_follow.proofs.FitLaws.{fit-first}
use Rattle.p25_follow.specs.Relayed.{IsFitItem}
use Rattle.p25_stream.proofs.ItemsLaws.{first_item-cases, items_by-first}
use Rattle.p25_stream.specs.{Finding.{IsFirst}, Items.{first_item}}
use Rattle.p25_status.specs.declared.symbols.Status.{Status}
use Rattle.p25_c.specs.{Items.{is_inside}, Places.{outside}, Relays.{asked_relayed}, Rooms.{IsWriting, no_room, written}}

-- a position is one of the octets that are given
pub record IsPlaced (begin from count : ℕ) : Type 0 where
  pub order : begin ≤ from
  pub there : from ≤ begin + 8 * count
  pub near : from ≤ 2 ^ 59

pub placed-of : (begin from count : ℕ) → is_inside begin from count ≡ true → IsPlaced begin from count
placed-of begin from count yes' =
    let order = first_so _ _ yes' in
    record {
      order = leb-true begin from (second_so _ _ (first_so _ _ order));
      there = leb-true from (begin + 8 * count) (second_so _ _ order);
      near = leb-true from (2 ^ 59) (second_so _ _ yes');
    }

-- a first item covers no more bits than the longest unit has
pub covered-few : (at : ℕ) (bits : List Bool) → covered (first_item at bits) ≤ 25920
covered-few at bits =
    first_item-cases (λ item. covered item ≤ 25920) at bits
    (λ no'. omega arith)
    (λ count yes' is. let few = need_of-few bits count is in omega (arith, few.0, few.1))
    (λ count yes' is. let there = need_of-there bits count is in omega (arith, covered-unit_item_of at bits count is, there.1))
    (λ field yes' is. omega arith)

-- an item that was found at a position of octets
pub record IsFoundAt (begin from : ℕ) (octets : List ℕ) (item : Item) : Type 0 where
  pub fits : IsFitItem item
  pub few : covered item ≤ 25920
  pub there : from - begin + covered item ≤ 8 * length octets
  pub near : from - begin ≤ 2 ^ 59

pub found-at : (begin from : ℕ) (octets : List ℕ) (item : Item) → is_inside begin from (length octets) ≡ true
    → IsFirst true from (drop (from - begin) (octet_bits octets)) item → IsFoundAt begin from octets item
found-at begin from octets item yes' first =
    let placed = placed-of begin from (length octets) yes' in
    let bits = drop (from - begin) (octet_bits octets) in
    let begins = items_by-first true from bits item _ first.items in
    record {
      fits = subst IsFitItem (sym begins.1) (fit-first from bits);
      few = subst (λ (i : Item). covered i ≤ 25920) (sym begins.1) (covered-few from bits);
      there = omega (arith, first.there, length-drop (from - begin) (octet_bits octets), length-octet_bits octets, placed.order, placed.there);
      near = omega (arith, placed.near);
    }

-- nothing is written if a call may not look for an item, and no octet if no item is left
pub relay-outside : (nac : ℕ) (status : Status) (asked : Option (List Item)) (bits : List Bool) (room : List ℕ) → asked ≡ None
    → IsWriting (asked_relayed nac status asked bits) room room outside
relay-outside nac status asked bits room none =
    subst (λ (a : Option (List Item)). IsWriting (asked_relayed nac status a bits) room room outside) (sym none) (record { answer_is = refl; left_is = refl })

pub relay-none : (nac : ℕ) (status : Status) (asked : Option (List Item)) (bits : List Bool) (room : List ℕ) → asked ≡ Some []
    → IsWriting (asked_relayed nac status asked bits) room room (pos 0)
relay-none nac status asked bits room none =
    let fits = le-leb 0 (length room) (omega arith) in
    let nothing : IsWriting (Ok []) room room (pos 0) = record {
      answer_is = sym (cond-true _ (pos 0) no_room fits);
      left_is = sym (cond-true _ (written [] room) room fits);
    } in
    subst (λ (a : Option (List Item)). IsWriting (asked_relayed nac status a bits) room room (pos 0)) (sym none) nothing
