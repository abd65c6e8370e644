-- The detection for a sync and NID that are written: a correctable NID is the one that is written, and a data unit that may follow and whose NID
-- decodes to its own is written.
use Rattle.std.proofs.Common.{◌≡◌, ℕ, ◌<◌, ◌≤◌, Bool, true, false, cond, ◌&&◌, inl, inr, List, length, Option, Some, None, refl, sym, subst, ◌∙◌, arith}
use Rattle.std.proofs.lemmas.Bool.{and_from, cases_Bool, eq-eqb, ltb-true}
use Rattle.std.specs.{Prelude.{nat_eq, nat_lt}, Option.{option_or}}
use Rattle.p25_unit_front.specs.Front.{identifier_of}
use Rattle.p25_unit_front.proofs.FrontLaws.{identifier_of-near}
use Rattle.p25_follow.specs.{declared.told.Told.TheVariants.{Expected, Other}, Expected.{is_expected, kind_length, next_link}, Steps.{fits_of, is_sure, step_of}}
use Rattle.p25_follow.specs.Told.{is_nothing, name_errors_of, told_name, told_of}
use Rattle.p25_follow.proofs.{StepLaws.{and_left-true, and_right-true, fits_kind, fits_of-kind, sure-long}, ToldLaws.{name-told, read-told}}

name-something : (before name : ℕ × ℕ) → is_nothing (told_name before name) ≡ false
unfolding told_name
name-something before name =
    elim (nat_eq before.0 name.0 && is_expected before.1 name.1) as (λ b. is_nothing (cond b (Expected name.1) Other) ≡ false) [ true ↦ refl | false ↦ refl ]

-- a step over an identifier that reads is that identifier's
reads-by : (before : ℕ × ℕ) (bits : List Bool) (end : Option (ℕ × ℕ)) (kind : ℕ) (name : ℕ × ℕ) (fits : Option ℕ) → identifier_of bits ≡ Some name → fits_of before bits ≡ fits
    → option_or fits (cond (nat_lt 0 (length bits) && is_nothing (told_of before bits) && is_sure 3 before bits end) (next_link before.1) None) ≡ Some kind → name ≡ (before.0, kind)
reads-by before bits end kind name (Some other) reads fits is =
    let there = fits_of-kind before bits other fits in
    let same : other ≡ kind = cc in
    subst (λ (k : ℕ). name ≡ (before.0, k)) same
    (name-told before name other (sym (read-told before bits name (omega (arith, there.there, there.is_kind.few)) reads) ∙ there.told)).1
reads-by before bits end kind name None reads fits is =
    let some = nat_lt 0 (length bits) in
    let nothing = is_nothing (told_of before bits) in
    let sure = is_sure 3 before bits end in
    elim (cases_Bool (some && nothing && sure)) [
      | inr no' ↦ absurd (let none = rw no' at is in cc)
      | inl yes' ↦
          let first = and_left-true (some && nothing) sure yes' in
          let long = sure-long 3 before bits end (ltb-true 0 (length bits) (and_left-true some nothing first)) fits (and_right-true (some && nothing) sure yes') in
          absurd (let wrong = rw (read-told before bits name (omega arith) reads, name-something before name) at (and_right-true some nothing first) in cc)
    ]

pub step-reads : (before : ℕ × ℕ) (bits : List Bool) (end : Option (ℕ × ℕ)) (kind : ℕ) (name : ℕ × ℕ) → step_of before bits end ≡ Some kind → identifier_of bits ≡ Some name → name ≡ (before.0, kind)
unfolding step_of
step-reads before bits end kind name is reads = reads-by before bits end kind name (fits_of before bits) reads refl is

-- a step is made over a data unit that may follow, and whose identifier lies within 11 bits of its own
pub step-near : (nac before kind : ℕ) (bits : List Bool) (end : Option (ℕ × ℕ)) → nac < 4096 → kind < 16 → is_expected before kind ≡ true → 114 ≤ kind_length kind → kind_length kind ≤ length bits
    → name_errors_of (nac, kind) bits ≤ 11 → step_of (nac, before) bits end ≡ Some kind
unfolding step_of fits_of told_name name_errors_of
step-near nac before kind bits end nac_fits kind_fits may long there near =
    let enough : 114 ≤ length bits = omega arith in
    let told : told_of (nac, before) bits ≡ Expected kind
    = rw (
      read-told (nac, before) bits (nac, kind) enough (identifier_of-near nac kind bits nac_fits kind_fits enough near),
      and_from (nat_eq nac nac) (is_expected before kind) (eq-eqb nac nac refl) may,
    ) in
    rw (told, fits_kind bits kind there)
