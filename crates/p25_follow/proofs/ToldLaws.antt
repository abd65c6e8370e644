-- The detection depends on the first 114 bits alone, and a detected type is an expected one. By the cases of the NID.
use Rattle.std.proofs.Common.{◌≡◌, ℕ, ◌+◌, ◌<◌, ◌≤◌, Bool, true, false, cond, ◌&&◌, inl, inr, List, [], ◌∷◌, ◌++◌, length, take, Option, Some, None, refl, sym, subst, ◌∙◌, arith, length-append}
use Rattle.std.proofs.{lemmas.Bool.{cases_Bool, cases_lt, eqb-true, le-ltb, lt-ltb}, lemmas.List.{take-append-le, take-take}}
use Rattle.std.specs.Prelude.{nat_eq, nat_le, nat_lt}
use Rattle.p25_unit_front.specs.Front.{front_fixes_of, identifier_of}
use Rattle.p25_unit_front.proofs.FrontLaws.{front_fixes_of-parts, identifier_bits-take, identifier_of-take}
use Rattle.p25_follow.specs.{declared.told.Told.TheVariants.{Expected, Nothing}, Expected.{expected_after, is_expected}}
use Rattle.p25_follow.specs.Told.{name_errors_of, nearer_kind, nearest_kind, sync_errors_of, told_by, told_name, told_near, told_nearest, told_of}
use Rattle.p25_follow.proofs.KindLaws.{Each, is_expected-all}

-- with fewer than 114 bits nothing is detected
pub told_of-short : (before : ℕ × ℕ) (bits : List Bool) → length bits < 114 → told_of before bits ≡ Nothing
unfolding told_of
told_of-short before bits short = rw (lt-ltb (length bits) 114 short)

pub told_of-long : (before : ℕ × ℕ) (bits : List Bool) → 114 ≤ length bits → told_of before bits ≡ told_by before (take 114 bits) (identifier_of (take 114 bits))
unfolding told_of
told_of-long before bits long = rw (le-ltb (length bits) 114 long)

-- a correctable NID decides the detection: its type, or that no such data unit is there
pub read-told : (before : ℕ × ℕ) (bits : List Bool) (name : ℕ × ℕ) → 114 ≤ length bits → identifier_of bits ≡ Some name → told_of before bits ≡ told_name before name
unfolding told_by
read-told before bits name long reads = rw (told_of-long before bits long, identifier_of-take 114 bits (omega arith), reads)

pub unread-told : (before : ℕ × ℕ) (bits : List Bool) → 114 ≤ length bits → identifier_of bits ≡ None → told_of before bits ≡ told_nearest before.0 (take 114 bits) (expected_after before.1)
unfolding told_by
unread-told before bits long none = rw (told_of-long before bits long, identifier_of-take 114 bits (omega arith), none)

-- bits that come later change nothing
pub told_of-append : (before : ℕ × ℕ) (bits more : List Bool) → 114 ≤ length bits → told_of before (bits ++ more) ≡ told_of before bits
told_of-append before bits more long =
    rw (told_of-long before (bits ++ more) (omega (arith, length-append bits more)), told_of-long before bits long, take-append-le 114 bits more long)

-- the bit errors of sync and NID are those of the sync and those of the NID
pub errors-parts : (name : ℕ × ℕ) (bits : List Bool) → 114 ≤ length bits → front_fixes_of name bits ≡ sync_errors_of (take 114 bits) + name_errors_of name (take 114 bits)
unfolding sync_errors_of name_errors_of
errors-parts name bits long =
    rw (front_fixes_of-parts name bits (omega arith), take-take 48 114 bits (omega arith), identifier_bits-take 114 bits (omega arith))

-- ---- a detected type is expected

pub and_both : (a b : Bool) → (a && b) ≡ true → (a ≡ true) × (b ≡ true)
and_both true b is = (refl, is)
and_both false b is = absurd (cc)

nearer-all : (P : ℕ → Type 0) (nac : ℕ) (bits : List Bool) (kind next : ℕ) → P kind → P next → P (nearer_kind nac bits kind next)
unfolding nearer_kind
nearer-all P nac bits kind next first second =
    elim (nat_lt (name_errors_of (nac, next) bits) (name_errors_of (nac, kind) bits)) as (λ b. P (cond b next kind)) [ true ↦ second | false ↦ first ]

pub nearest-all : (P : ℕ → Type 0) (nac : ℕ) (bits : List Bool) (kind : ℕ) (kinds : List ℕ) → P kind → Each P kinds → P (nearest_kind nac bits kind kinds)
unfolding nearest_kind
nearest-all P nac bits kind [] first all = first
nearest-all P nac bits kind (next ∷ kinds) first all =
    nearest-all P nac bits (nearer_kind nac bits kind next) kinds (nearer-all P nac bits kind next first all.0) all.1

near-told : (nac : ℕ) (bits : List Bool) (kind told : ℕ) → told_near nac bits kind ≡ Expected told → kind ≡ told
unfolding told_near
near-told nac bits kind told =
    elim (nat_le (name_errors_of (nac, kind) bits) 16 && nat_le (sync_errors_of bits + name_errors_of (nac, kind) bits) 30)
    as (λ b. cond b (Expected kind) Nothing ≡ Expected told → kind ≡ told) [ true ↦ λ is. cc | false ↦ λ is. absurd (cc) ]

nearest-told : (P : ℕ → Type 0) (nac : ℕ) (bits : List Bool) (kinds : List ℕ) (told : ℕ) → Each P kinds → told_nearest nac bits kinds ≡ Expected told → P told
unfolding told_nearest
nearest-told P nac bits [] told all is = absurd (cc)
nearest-told P nac bits (kind ∷ kinds) told all is =
    subst P (near-told nac bits (nearest_kind nac bits kind kinds) told is) (nearest-all P nac bits kind kinds all.0 all.1)

pub name-told : (before name : ℕ × ℕ) (told : ℕ) → told_name before name ≡ Expected told → (is_expected before.1 told ≡ true) × (name ≡ (before.0, told))
unfolding told_name
name-told before name told =
    elim (cases_Bool (nat_eq before.0 name.0 && is_expected before.1 name.1)) [
      | inr no' ↦ λ is. absurd (let none = rw no' at is in cc)
      | inl yes' ↦ λ is.
          let some = rw yes' at is in
          let same : name.1 ≡ told = cc in
          let both = and_both (nat_eq before.0 name.0) (is_expected before.1 name.1) yes' in
          (rw same at both.1, rw (eqb-true before.0 name.0 both.0, ← same))
    ]

pub by-told : (P : ℕ → Type 0) (before : ℕ × ℕ) (bits : List Bool) (read : Option (ℕ × ℕ)) (told : ℕ) → Each P (expected_after before.1) → told_by before bits read ≡ Expected told → P told
unfolding told_by
by-told P before bits None told all is = nearest-told P before.0 bits (expected_after before.1) told all is
by-told P before bits (Some name) told all is = is_expected-all P before.1 told all (name-told before name told is).0

pub told_of-expected : (P : ℕ → Type 0) (before : ℕ × ℕ) (bits : List Bool) (kind : ℕ) → Each P (expected_after before.1) → told_of before bits ≡ Expected kind → (114 ≤ length bits) × P kind
told_of-expected P before bits kind all is =
    elim (cases_lt (length bits) 114) [
      | inl short ↦ absurd (let none : Nothing ≡ Expected kind = sym (told_of-short before bits short) ∙ is in cc)
      | inr long ↦ (long, by-told P before (take 114 bits) (identifier_of (take 114 bits)) kind all (sym (told_of-long before bits long) ∙ is))
    ]
