-- The bits of octets from any bit on.
use Rattle.std.proofs.Common.{◌≡◌, ℕ, ℤ, ◌+◌, ◌-◌, ◌*◌, ◌/◌, ◌%◌, ◌≤◌, Bool, List, length, take, drop, Option, None, refl, ap, subst, sym, ◌∙◌, arith, length-drop}
use Rattle.p25_bits.specs.{Bits.{octet_bits, part}, Numbers.{number_bits}}
use Rattle.p25_units.specs.declared.item.Item.{Item}
use Rattle.p25_c.specs.{Places.{asked_changed, outside}, Rooms.{IsWriting}}
use Rattle.p25_bits.proofs.{NumbersLaws.{drop-number_bits, number_bits-octets, take-number_bits}, PartLaws.{part-drop, part-take}}

-- so many bits from a bit on, of the octets from the one with that bit on
pub cut-bits : (octets : List ℕ) (at count last : ℕ) → at + count ≤ 8 * last → at / 8 ≤ last → last ≤ length octets
    → part (at % 8) count (number_bits 8 (take (last - at / 8) (drop (at / 8) octets))) ≡ part at count (octet_bits octets)
cut-bits octets at count last within order there =
    let first = at / 8 in
    let n = last - first in
    let numbers = number_bits 8 octets in
    let whole : 8 * first + at % 8 ≡ at = omega arith in
    let few : n ≤ length (drop first octets) = omega (arith, length-drop first octets) in
    let fits : at % 8 + count ≤ 8 * n = omega (arith, whole) in
    ap (part (at % 8) count) (sym (take-number_bits 8 n (drop first octets) few))
    ∙ part-take (at % 8) count (8 * n) (number_bits 8 (drop first octets)) fits
    ∙ ap (part (at % 8) count) (sym (drop-number_bits 8 first octets (omega (arith, there, order))))
    ∙ part-drop (at % 8) count (8 * first) numbers
    ∙ ap (λ (k : ℕ). part k count numbers) whole
    ∙ ap (part at count) (number_bits-octets octets)

-- nothing is written of what may not be asked for
pub outside-writing : (change : Item → List Bool → List Bool) (asked : Option (List Item)) (bits : List Bool) (room : List ℕ) → asked ≡ None
    → IsWriting (asked_changed change asked bits) room room outside
outside-writing change asked bits room none =
    subst (λ (a : Option (List Item)). IsWriting (asked_changed change a bits) room room outside) (sym none) (record { answer_is = refl; left_is = refl })
