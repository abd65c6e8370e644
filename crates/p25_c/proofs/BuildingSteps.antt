-- What is written under a network access code (NAC) and with a status symbol, by their numbers; and units at the beginning of octets.
use Rattle.std.proofs.Common.{◌≡◌, ℕ, ℤ, pos, ◌+◌, ◌*◌, ◌<◌, ◌&&◌, inl, inr, Bool, true, List, [], length, Result, Option, Some, refl, ap, subst, sym, ◌∙◌, arith, to_z, of_z, w32}
use Rattle.std.proofs.lemmas.{Bool.{le-leb}, Int.{to_z-of_z}}
use Rattle.p25_bits.specs.Bits.{octet_bits}
use Rattle.p25_status.specs.{Status.{same_status, status_number}, declared.symbols.Status.{Status}}
use Rattle.p25_stream.specs.{Items.{items_of}, Repeats.{bridged, repaired}}
use Rattle.p25_units.specs.declared.item.Item.{Item}
use Rattle.p25_c.specs.{Building.{IsRefused, IsWritingUnder, unit_bridged, unit_repaired, wrong_nac, wrong_status}, Items.{is_inside, items_asked}, Places.{asked_changed, bridged_at, repaired_at}}
use Rattle.p25_c.specs.Rooms.{IsWriting}
use Rattle.p25_c.proofs.ItemsLaws.{items_asked-inside}
use mir.Val.{SFits}

-- ---- numbers of 32 bits

-- the number that another call returns is passed on as it is
pub writing-told : (what : Result (List ℕ) ℤ) (room left : List ℕ) (answer : ℤ) → SFits w32 answer → IsWriting what room left answer
    → IsWriting what room left (to_z w32 (of_z w32 answer))
writing-told what room left answer fits written = subst (IsWriting what room left) (sym (to_z-of_z w32 answer fits)) written

pub told-back : (answer : ℤ) {told : ℤ} → SFits w32 answer → to_z w32 (of_z w32 answer) ≡ told → answer ≡ told
told-back answer fits same = sym (to_z-of_z w32 answer fits) ∙ same

-- ---- under two numbers

-- with the symbol of its number
pub under-sent : (nac status : ℕ) (symbol : Status) (what : Status → Result (List ℕ) ℤ) (room left : List ℕ) (answer : ℤ) → SFits w32 answer
    → (nac < 4096) × (status_number symbol ≡ status) → IsWriting (what symbol) room left answer → IsWritingUnder nac status what room left (to_z w32 (of_z w32 answer))
under-sent nac status symbol what room left answer fits sent written = record {
  strange_code = λ above. absurd (omega (arith, above, sent.0));
  strange_symbol = λ few above. absurd (omega (arith, above, sent.1, symbol.below));
  sent = λ few other number. subst (λ (s : Status). IsWriting (what s) room left (to_z w32 (of_z w32 answer))) (same_status symbol other (sent.1 ∙ sym number))
      (writing-told (what symbol) room left answer fits written);
}

-- one of the two is too large
refused-by : (nac status : ℕ) (what : Status → Result (List ℕ) ℤ) (room : List ℕ) (answer : ℤ) → IsRefused nac status answer → IsWritingUnder nac status what room room answer
refused-by nac status what room answer (inl code) = record {
  strange_code = λ above. record { answer_is = code.1; left_is = refl };
  strange_symbol = λ few above. absurd (omega (arith, few, code.0));
  sent = λ few symbol number. absurd (omega (arith, few, code.0));
}
refused-by nac status what room answer (inr sign) = record {
  strange_code = λ above. absurd (omega (arith, above, sign.0));
  strange_symbol = λ few above. record { answer_is = sign.2; left_is = refl };
  sent = λ few symbol number. absurd (omega (arith, sign.1, number, symbol.below));
}

-- the number has 32 bits
refused-same : (nac status : ℕ) (answer : ℤ) → IsRefused nac status answer → to_z w32 (of_z w32 answer) ≡ answer
refused-same nac status answer (inl code) = subst (λ (z : ℤ). to_z w32 (of_z w32 z) ≡ z) (sym code.1) refl
refused-same nac status answer (inr sign) = subst (λ (z : ℤ). to_z w32 (of_z w32 z) ≡ z) (sym sign.2) refl

pub under-refused : (nac status : ℕ) (what : Status → Result (List ℕ) ℤ) (room : List ℕ) (answer : ℤ) → IsRefused nac status answer
    → IsWritingUnder nac status what room room (to_z w32 (of_z w32 answer))
under-refused nac status what room answer refused =
    subst (IsWritingUnder nac status what room room) (sym (refused-same nac status answer refused)) (refused-by nac status what room answer refused)

-- then no number of octets is answered
not-counted : (nac status count : ℕ) (answer : ℤ) → IsRefused nac status answer → answer ≡ pos count → ⊥
not-counted nac status count answer (inl code) same =
    let two : wrong_nac ≡ pos count = sym code.1 ∙ same in
    cc two
not-counted nac status count answer (inr sign) same =
    let two : wrong_status ≡ pos count = sym sign.2 ∙ same in
    cc two

pub refused-none : (nac status count : ℕ) (answer : ℤ) → IsRefused nac status answer → to_z w32 (of_z w32 answer) ≡ pos count → ⊥
refused-none nac status count answer refused same = not-counted nac status count answer refused (sym (refused-same nac status answer refused) ∙ same)

-- the same is written of what is the same
pub under-as : (nac status : ℕ) (what other : Status → Result (List ℕ) ℤ) (room left : List ℕ) (answer : ℤ) → SFits w32 answer → ((symbol : Status) → what symbol ≡ other symbol)
    → IsWritingUnder nac status what room left answer → IsWritingUnder nac status other room left (to_z w32 (of_z w32 answer))
under-as nac status what other room left answer fits same written = record {
  strange_code = λ above. writing-told _ room left answer fits (written.strange_code above);
  strange_symbol = λ few above. writing-told _ room left answer fits (written.strange_symbol few above);
  sent = λ few symbol number. writing-told _ room left answer fits (subst (λ (r : Result (List ℕ) ℤ). IsWriting r room left answer) (same symbol) (written.sent few symbol number));
}

-- ---- from the first bit on

-- the items there may always be asked for
inside-first : (count : ℕ) → is_inside 0 0 count ≡ true
inside-first count = ap (λ (b : Bool). b && true) (le-leb 0 (0 + 8 * count) (omega arith))

asked-first : (octets : List ℕ) → items_asked true 0 0 octets ≡ Some (items_of 0 (octet_bits octets))
asked-first octets = items_asked-inside true 0 0 octets (items_of 0 (octet_bits octets)) (inside-first (length octets)) refl

pub repaired-first : (octets : List ℕ) → repaired_at 0 0 octets ≡ unit_repaired octets
repaired-first octets = ap (λ (asked : Option (List Item)). asked_changed repaired asked (octet_bits octets)) (asked-first octets)

pub bridged-first : (nac : ℕ) (octets : List ℕ) (status : Status) → bridged_at nac status 0 0 octets ≡ unit_bridged nac status octets
bridged-first nac octets status =
    ap (λ (asked : Option (List Item)). asked_changed (λ (item : Item) (raw : List Bool). bridged nac status item []) asked (octet_bits octets)) (asked-first octets)
