-- The detection before decoding, with whether the NID is correctable, gives the detection. A correctable NID is that of a type that may follow only
-- if the nearest of them is within 11 bits.
use Rattle.std.proofs.Common.{◌≡◌, ℕ, ◌<◌, ◌≤◌, Bool, true, false, cond, ◌&&◌, inl, inr, List, [], ◌∷◌, length, take, Option, Some, None, refl, sym, ◌∙◌, arith}
use Rattle.std.proofs.{lemmas.Bool.{and_from, cases_Bool, cases_lt, eq-eqb, eqb-true, le-leb, le-ltb, lt-leb, lt-ltb, or_right}, lemmas.List.{length-take-le}}
use Rattle.std.specs.{Prelude.{nat_eq, nat_lt}, List.{list_any}}
use Rattle.p25_bch_nid.proofs.NidWordLaws.{nid_reading_of-near}
use Rattle.p25_unit_front.specs.Front.{identifier_bits, identifier_of}
use Rattle.p25_unit_front.proofs.FrontLaws.{identifier_of-near, identifier_of-take}
use Rattle.p25_follow.specs.{declared.told.Look.{Look}, declared.told.Near.{Near}, declared.told.Told.TheVariants.{Expected, Other, Nothing}, Expected.{expected_after, is_expected}}
use Rattle.p25_follow.specs.{Looks.{is_read, told_by_look}, Told.{name_errors_of, nearer_kind, nearest_kind, told_name, told_near, told_nearest, told_of}}
use Rattle.p25_follow.proofs.{KindLaws.{Each, IsKind, expected-kinds, is_expected-all}, ToldLaws.{and_both, nearest-all, read-told, unread-told}}

-- ---- whether an identifier reads

pub is_read-short : (bits : List Bool) → length bits < 114 → is_read bits ≡ false
unfolding is_read
is_read-short bits short = rw (lt-leb 114 (length bits) short)

pub is_read-some : (bits : List Bool) (name : ℕ × ℕ) → 114 ≤ length bits → identifier_of bits ≡ Some name → is_read bits ≡ true
unfolding is_read
is_read-some bits name long is = rw (le-leb 114 (length bits) long, is)

pub is_read-none : (bits : List Bool) → 114 ≤ length bits → identifier_of bits ≡ None → is_read bits ≡ false
unfolding is_read
is_read-none bits long is = rw (le-leb 114 (length bits) long, is)

-- ---- the detection by a look

by_look-clear : (look : Look) (reads : Bool) → look.clear ≡ true → told_by_look look reads ≡ look.told
unfolding told_by_look
by_look-clear look true clear = rw clear
by_look-clear look false clear = refl

by_look-unread : (look : Look) (reads : Bool) → reads ≡ false → told_by_look look reads ≡ look.told
unfolding told_by_look
by_look-unread look true is = absurd (cc)
by_look-unread look false is = refl

by_look-read : (look : Look) (reads : Bool) → look.clear ≡ false → reads ≡ true → told_by_look look reads ≡ Other
unfolding told_by_look
by_look-read look true unclear is = rw unclear
by_look-read look false unclear is = absurd (cc)

-- the detection, by whether the NID is correctable
pub told-clear : (look : Look) (bits : List Bool) → look.clear ≡ true → look.told ≡ told_by_look look (is_read bits)
told-clear look bits clear = sym (by_look-clear look (is_read bits) clear)

pub told-unread : (look : Look) (bits : List Bool) → is_read bits ≡ false → look.told ≡ told_by_look look (is_read bits)
told-unread look bits is = sym (by_look-unread look (is_read bits) is)

pub told-read : (look : Look) (bits : List Bool) → look.clear ≡ false → is_read bits ≡ true → Other ≡ told_by_look look (is_read bits)
told-read look bits unclear is = sym (by_look-read look (is_read bits) unclear is)

-- ---- a look that is not the whole detection

name-other : (before name : ℕ × ℕ) → (before.0 ≡ name.0 → is_expected before.1 name.1 ≡ true → ⊥) → told_name before name ≡ Other
unfolding told_name
name-other before name never =
    elim (cases_Bool (nat_eq before.0 name.0 && is_expected before.1 name.1)) [
      | inr no' ↦ rw no'
      | inl yes' ↦ absurd (let both = and_both (nat_eq before.0 name.0) (is_expected before.1 name.1) yes' in never (eqb-true before.0 name.0 both.0) both.1)
    ]

look-by : (before : ℕ × ℕ) (bits : List Bool) (look : Look) (read : Option (ℕ × ℕ)) → 114 ≤ length bits → look.clear ≡ false
    → ((name : ℕ × ℕ) → identifier_of bits ≡ Some name → told_name before name ≡ Other)
    → told_nearest before.0 (take 114 bits) (expected_after before.1) ≡ look.told → identifier_of bits ≡ read → told_of before bits ≡ told_by_look look (is_read bits)
look-by before bits look None long unclear other tells is = rw (unread-told before bits long is, tells) (told-unread look bits (is_read-none bits long is))
look-by before bits look (Some name) long unclear other tells is = rw (read-told before bits name long is, other name is) (told-read look bits unclear (is_read-some bits name long is))

-- if no type may follow
pub look-no_kinds : (before : ℕ × ℕ) (bits : List Bool) (look : Look) → 114 ≤ length bits → expected_after before.1 ≡ [] → look.told ≡ Nothing → look.clear ≡ false
    → told_of before bits ≡ told_by_look look (is_read bits)
unfolding told_nearest is_expected
look-no_kinds before bits look long none tells unclear =
    look-by before bits look (identifier_of bits) long unclear
    (λ name is. name-other before name (λ same may. absurd (let never = rw none at may in cc)))
    (rw (none, tells)) refl

-- ---- the nearest type

nearer-first : (nac : ℕ) (bits : List Bool) (kind next : ℕ) → name_errors_of (nac, nearer_kind nac bits kind next) bits ≤ name_errors_of (nac, kind) bits
unfolding nearer_kind
nearer-first nac bits kind next =
    elim (cases_lt (name_errors_of (nac, next) bits) (name_errors_of (nac, kind) bits)) [
      | inl less ↦ rw (lt-ltb (name_errors_of (nac, next) bits) (name_errors_of (nac, kind) bits) less) (omega arith)
      | inr more ↦ rw (le-ltb (name_errors_of (nac, next) bits) (name_errors_of (nac, kind) bits) more) (omega arith)
    ]

nearer-next : (nac : ℕ) (bits : List Bool) (kind next : ℕ) → name_errors_of (nac, nearer_kind nac bits kind next) bits ≤ name_errors_of (nac, next) bits
unfolding nearer_kind
nearer-next nac bits kind next =
    elim (cases_lt (name_errors_of (nac, next) bits) (name_errors_of (nac, kind) bits)) [
      | inl less ↦ rw (lt-ltb (name_errors_of (nac, next) bits) (name_errors_of (nac, kind) bits) less) (omega arith)
      | inr more ↦ rw (le-ltb (name_errors_of (nac, next) bits) (name_errors_of (nac, kind) bits) more) (omega arith)
    ]

nearest-first : (nac : ℕ) (bits : List Bool) (kind : ℕ) (kinds : List ℕ) → name_errors_of (nac, nearest_kind nac bits kind kinds) bits ≤ name_errors_of (nac, kind) bits
unfolding nearest_kind
nearest-first nac bits kind [] = omega arith
nearest-first nac bits kind (next ∷ kinds) = omega (arith, nearest-first nac bits (nearer_kind nac bits kind next) kinds, nearer-first nac bits kind next)

nearest-each : (nac : ℕ) (bits : List Bool) (kind : ℕ) (kinds : List ℕ)
    → Each (λ (other : ℕ). name_errors_of (nac, nearest_kind nac bits kind kinds) bits ≤ name_errors_of (nac, other) bits) kinds
unfolding nearest_kind
nearest-each nac bits kind [] = tt
nearest-each nac bits kind (next ∷ kinds) =
    (omega (arith, nearest-first nac bits (nearer_kind nac bits kind next) kinds, nearer-next nac bits kind next), nearest-each nac bits (nearer_kind nac bits kind next) kinds)

name-near : (name : ℕ × ℕ) (bits : List Bool) → identifier_of bits ≡ Some name → name_errors_of name (take 114 bits) ≤ 11
unfolding identifier_of name_errors_of
name-near name bits is = nid_reading_of-near (identifier_bits (take 114 bits)) name (identifier_of-take 114 bits (omega arith) ∙ is)

-- the nearer one of two that are known
pub nearer-known : (nac : ℕ) (bits : List Bool) (first next near : Near) → first.wrong ≡ name_errors_of (nac, first.kind) bits → next.wrong ≡ name_errors_of (nac, next.kind) bits
    → near ≡ cond (nat_lt next.wrong first.wrong) next first → (near.kind ≡ nearer_kind nac bits first.kind next.kind) × (near.wrong ≡ name_errors_of (nac, near.kind) bits)
unfolding nearer_kind
nearer-known nac bits first next near is_first is_next is = (
  rw (is, ← is_next, ← is_first) (elim (nat_lt next.wrong first.wrong) as (λ (b : Bool). (cond b next first).kind ≡ cond b next.kind first.kind) [ true ↦ refl | false ↦ refl ]),
  rw is (elim (nat_lt next.wrong first.wrong) as (λ (b : Bool). (cond b next first).wrong ≡ name_errors_of (nac, (cond b next first).kind) bits) [ true ↦ is_next | false ↦ is_first ]),
)

any-first : (kind : ℕ) (kinds : List ℕ) → list_any (λ next. nat_eq next kind) (kind ∷ kinds) ≡ true
any-first kind kinds = rw (eq-eqb kind kind refl)

-- a look if some types may follow
module _ (before : ℕ × ℕ) (bits : List Bool) (look : Look) (first kind : ℕ) (long : 114 ≤ length bits) (list : expected_after before.1 ≡ first ∷ 0xF ∷ 0x3 ∷ [])
    (nearest : kind ≡ nearest_kind before.0 (take 114 bits) first (0xF ∷ 0x3 ∷ [])) where
  least : Each (λ (other : ℕ). name_errors_of (before.0, kind) (take 114 bits) ≤ name_errors_of (before.0, other) (take 114 bits)) (expected_after before.1)
  least =
      let front = take 114 bits in
      let kinds = 0xF ∷ 0x3 ∷ [] in
      rw (nearest, list) (nearest-first before.0 front first kinds, nearest-each before.0 front first kinds)

  -- the nearest is not so near that it would read
  pub look-far : 11 < name_errors_of (before.0, kind) (take 114 bits) → look.told ≡ told_near before.0 (take 114 bits) kind → look.clear ≡ false
      → told_of before bits ≡ told_by_look look (is_read bits)
  unfolding told_nearest
  look-far far tells unclear =
      look-by before bits look (identifier_of bits) long unclear
      (λ name is. name-other before name (λ same may.
      let close : name_errors_of (name.0, name.1) (take 114 bits) ≤ 11 = name-near name bits is in
      let here : name_errors_of (before.0, name.1) (take 114 bits) ≤ 11 = rw same close in
      let farther = is_expected-all (λ (other : ℕ). name_errors_of (before.0, kind) (take 114 bits) ≤ name_errors_of (before.0, other) (take 114 bits)) before.1 name.1 least may in
      absurd (omega (arith, far, here, farther))))
      (rw (list, ← nearest, tells)) refl

  may_come : (other : ℕ) → list_any (λ next. nat_eq next other) (first ∷ 0xF ∷ 0x3 ∷ []) ≡ true → is_expected before.1 other ≡ true
  unfolding is_expected
  may_come other among = rw list among

  known : is_expected before.1 kind ≡ true
  known =
      rw nearest
      (nearest-all (λ (k : ℕ). is_expected before.1 k ≡ true) before.0 (take 114 bits) first (0xF ∷ 0x3 ∷ []) (may_come first (any-first first (0xF ∷ 0x3 ∷ [])))
      (may_come 0xF (or_right (nat_eq first 0xF) true refl), (may_come 0x3 (or_right (nat_eq first 0x3) true refl), tt)))

  -- the nearest reads
  pub look-near : before.0 < 4096 → name_errors_of (before.0, kind) (take 114 bits) ≤ 11 → look.told ≡ Expected kind → look.clear ≡ true → told_of before bits ≡ told_by_look look (is_read bits)
  unfolding told_name name_errors_of
  look-near nac_fits near tells clear =
      let fits : IsKind kind = is_expected-all IsKind before.1 kind (expected-kinds before.1) known in
      let front = take 114 bits in
      let front_long : 114 ≤ length front = omega (arith, length-take-le 114 bits long) in
      rw (
        read-told before bits (before.0, kind) long (sym (identifier_of-take 114 bits (omega arith)) ∙ identifier_of-near before.0 kind front nac_fits (omega (arith, fits.fits)) front_long near),
        and_from (nat_eq before.0 before.0) (is_expected before.1 kind) (eq-eqb before.0 before.0 refl) known,
        ← tells,
      ) (told-clear look bits clear)
