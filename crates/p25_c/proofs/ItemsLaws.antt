-- The items that are asked for, by whether they may be.
use Rattle.std.proofs.{Common.{◌≡◌, ℕ, ◌-◌, Bool, true, false, cond, List, length, drop, Some, None, ap}, lemmas.Option.{cond_some}}
use Rattle.p25_bits.specs.Bits.{octet_bits}
use Rattle.p25_stream.specs.Items.{items_by}
use Rattle.p25_units.specs.declared.item.Item.{Item}
use Rattle.p25_c.specs.Items.{is_inside, items_asked}

pub items_asked-outside : (ended : Bool) (begin from : ℕ) (octets : List ℕ) → is_inside begin from (length octets) ≡ false → items_asked ended begin from octets ≡ None
unfolding items_asked
items_asked-outside ended begin from octets no' =
    ap (λ (b : Bool). cond b (Some (items_by ended from (drop (from - begin) (octet_bits octets)))) None) no'

pub items_asked-inside : (ended : Bool) (begin from : ℕ) (octets : List ℕ) (items : List Item) → is_inside begin from (length octets) ≡ true
    → items_by ended from (drop (from - begin) (octet_bits octets)) ≡ items → items_asked ended begin from octets ≡ Some items
unfolding items_asked
items_asked-inside ended begin from octets items yes' is =
    let first : items_asked ended begin from octets ≡ Some (items_by ended from (drop (from - begin) (octet_bits octets)))
    = ap (λ (b : Bool). cond b (Some (items_by ended from (drop (from - begin) (octet_bits octets)))) None) yes' in
    cc

pub items_asked-some : (ended : Bool) (begin from : ℕ) (octets : List ℕ) (items : List Item) → items_asked ended begin from octets ≡ Some items
    → (is_inside begin from (length octets) ≡ true) × (items_by ended from (drop (from - begin) (octet_bits octets)) ≡ items)
unfolding items_asked
items_asked-some ended begin from octets items is = cond_some (is_inside begin from (length octets)) (items_by ended from (drop (from - begin) (octet_bits octets))) items is
