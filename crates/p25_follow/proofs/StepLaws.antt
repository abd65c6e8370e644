-- A step examines no more bits than its reach: bits after them change nothing, nor does the end. By the links, with the detection from the first 114
-- bits.
use Rattle.std.proofs.Common.{◌≡◌, ℕ, zero, suc, ◌+◌, ◌-◌, ◌*◌, ◌<◌, ◌≤◌, Bool, true, false, cond, ◌&&◌, ◌||◌, inl, inr, List, [], ◌++◌, length, drop, Option, Some, None, refl, subst, arith, append-nil, length-append, length-drop}
use Rattle.std.proofs.{lemmas.Bool.{cases_lt, le-leb, leb-true, lt-leb, lt-ltb, ltb-true}, lemmas.List.{drop-append-le, drop-drop}}
use Rattle.std.specs.{Prelude.{nat_le, nat_lt}, Option.{is_some, option_or}}
use Rattle.p25_follow.specs.{declared.told.Told.{Told}, declared.told.Told.TheVariants.{Expected, Other, Nothing}, Expected.{kind_length, next_link}}
use Rattle.p25_follow.specs.{Steps.{fits_by, fits_of, is_sure, step_of, true_of}, Told.{is_nothing, told_of}}
use Rattle.p25_follow.proofs.{KindLaws.{IsKind, expected-kinds, link-kinds}, ToldLaws.{told_of-append, told_of-expected, told_of-short}}

-- ---- a detection that fits

pub fits_kind : (bits : List Bool) (kind : ℕ) → kind_length kind ≤ length bits → fits_by bits (Expected kind) ≡ Some kind
unfolding fits_by
fits_kind bits kind long = rw (le-leb (kind_length kind) (length bits) long)

-- a type that fits is a detected type, and the bits of such a data unit are there
pub record FitsThere (before : ℕ × ℕ) (bits : List Bool) (kind : ℕ) : Type 0 where
  pub told : told_of before bits ≡ Expected kind
  pub there : kind_length kind ≤ length bits
  pub is_kind : IsKind kind

by-fits : (before : ℕ × ℕ) (bits : List Bool) (told : Told) (kind : ℕ) → told_of before bits ≡ told → fits_by bits told ≡ Some kind → FitsThere before bits kind
unfolding fits_by
by-fits before bits (Expected other) kind is fits =
    elim (cases_lt (length bits) (kind_length other)) [
      | inl short ↦ absurd (let none = rw (lt-leb (kind_length other) (length bits) short) at fits in cc)
      | inr long ↦
          let some = rw (le-leb (kind_length other) (length bits) long) at fits in
          let same : other ≡ kind = cc in
          subst (FitsThere before bits) same record { told = is; there = long; is_kind = (told_of-expected IsKind before bits other (expected-kinds before.1) is).1 }
    ]
by-fits before bits Other kind is fits = absurd (cc)
by-fits before bits Nothing kind is fits = absurd (cc)

pub fits_of-kind : (before : ℕ × ℕ) (bits : List Bool) (kind : ℕ) → fits_of before bits ≡ Some kind → FitsThere before bits kind
unfolding fits_of
fits_of-kind before bits kind fits = by-fits before bits (told_of before bits) kind refl fits

-- with the bits of a logical link data unit there, more bits do not change whether a detection fits
by-long : (before : ℕ × ℕ) (bits more : List Bool) (told : Told) → 1728 ≤ length bits → told_of before bits ≡ told → fits_by (bits ++ more) told ≡ fits_by bits told
unfolding fits_by
by-long before bits more (Expected kind) long is =
    let most = (told_of-expected IsKind before bits kind (expected-kinds before.1) is).1.most in
    rw (fits_kind (bits ++ more) kind (omega (arith, length-append bits more)), fits_kind bits kind (omega arith))
by-long before bits more Other long is = refl
by-long before bits more Nothing long is = refl

pub fits_of-append : (before : ℕ × ℕ) (bits more : List Bool) → 1728 ≤ length bits → fits_of before (bits ++ more) ≡ fits_of before bits
unfolding fits_of
fits_of-append before bits more long = rw (told_of-append before bits more (omega arith)) (by-long before bits more (told_of before bits) long refl)

-- ---- certain alignments

some_bits : (bits : List Bool) → 0 < length bits → nat_lt 0 (length bits) ≡ true
some_bits bits some = lt-ltb 0 (length bits) some

true_of-same : (f g : ℕ → Bool) (kind : Option ℕ) → ((k : ℕ) → f k ≡ g k) → true_of f kind ≡ true_of g kind
true_of-same f g None same = refl
true_of-same f g (Some kind) same = same kind

abbrev link_on : ℕ → ℕ × ℕ → List Bool → Option (ℕ × ℕ) → Bool
link_on links before bits end =
    is_nothing (told_of before bits) && nat_le 1728 (length bits) && true_of (λ kind. is_sure links (before.0, kind) (drop 1728 bits) end) (next_link before.1)

pub is_sure-zero : (before : ℕ × ℕ) (bits : List Bool) (end : Option (ℕ × ℕ)) → 0 < length bits → is_sure 0 before bits end ≡ is_some (fits_of before bits)
unfolding is_sure
is_sure-zero before bits end some = rw (some_bits bits some)

pub is_sure-suc : (links : ℕ) (before : ℕ × ℕ) (bits : List Bool) (end : Option (ℕ × ℕ)) → 0 < length bits
    → is_sure (suc links) before bits end ≡ (is_some (fits_of before bits) || link_on links before bits end)
unfolding is_sure
is_sure-suc links before bits end some = rw (some_bits bits some)

pub is_sure-append : (links : ℕ) (before : ℕ × ℕ) (bits more : List Bool) (end other : Option (ℕ × ℕ)) → 1728 * (links + 1) ≤ length bits
    → is_sure links before (bits ++ more) end ≡ is_sure links before bits other
is_sure-append zero before bits more end other long =
    rw (is_sure-zero before (bits ++ more) end (omega (arith, length-append bits more)), is_sure-zero before bits other (omega arith), fits_of-append before bits more (omega arith))
is_sure-append (suc links) before bits more end other long =
    let enough : 1728 ≤ length bits = omega arith in
    let rest : (kind : ℕ) → is_sure links (before.0, kind) (drop 1728 (bits ++ more)) end ≡ is_sure links (before.0, kind) (drop 1728 bits) other
    = λ kind. rw (drop-append-le 1728 bits more enough) (is_sure-append links (before.0, kind) (drop 1728 bits) more end other (omega (arith, length-drop 1728 bits))) in
    rw (
      is_sure-suc links before (bits ++ more) end (omega (arith, length-append bits more)),
      is_sure-suc links before bits other (omega arith),
      fits_of-append before bits more enough,
      told_of-append before bits more (omega arith),
      le-leb 1728 (length (bits ++ more)) (omega (arith, length-append bits more)),
      le-leb 1728 (length bits) enough,
      true_of-same (λ kind. is_sure links (before.0, kind) (drop 1728 (bits ++ more)) end) (λ kind. is_sure links (before.0, kind) (drop 1728 bits) other) (next_link before.1) rest,
    )

-- ---- a step

pub step_of-append : (before : ℕ × ℕ) (bits more : List Bool) (end other : Option (ℕ × ℕ)) → 6912 ≤ length bits → step_of before (bits ++ more) end ≡ step_of before bits other
unfolding step_of
step_of-append before bits more end other long =
    rw (
      fits_of-append before bits more (omega arith),
      some_bits (bits ++ more) (omega (arith, length-append bits more)),
      some_bits bits (omega arith),
      told_of-append before bits more (omega arith),
      is_sure-append 3 before bits more end other (omega arith),
    )

-- the end does not matter if all bits that a step examines are there
pub step_of-end : (before : ℕ × ℕ) (bits : List Bool) (end : Option (ℕ × ℕ)) → 6912 ≤ length bits → step_of before bits end ≡ step_of before bits None
step_of-end before bits end long = rw append-nil at (step_of-append before bits [] end None long)

-- no step begins without bits
pub step_of-nil : (before : ℕ × ℕ) (end : Option (ℕ × ℕ)) → step_of before [] end ≡ None
unfolding step_of fits_of fits_by
step_of-nil before end = rw (told_of-short before [] (omega arith))

-- ---- the bits of the data unit of a step are there

pub record IsStep (bits : List Bool) (kind : ℕ) : Type 0 where
  pub there : kind_length kind ≤ length bits
  pub few : 144 ≤ kind_length kind
  pub most : kind_length kind ≤ 1728
  pub fits : kind ≤ 15

pub and_left-true : (a b : Bool) → (a && b) ≡ true → a ≡ true
and_left-true true b is = refl
and_left-true false b is = absurd (cc)

pub and_right-true : (a b : Bool) → (a && b) ≡ true → b ≡ true
and_right-true true b is = is
and_right-true false b is = absurd (cc)

pub sure-long : (links : ℕ) (before : ℕ × ℕ) (bits : List Bool) (end : Option (ℕ × ℕ)) → 0 < length bits → fits_of before bits ≡ None → is_sure links before bits end ≡ true → 1728 ≤ length bits
sure-long zero before bits end some none sure =
    absurd (let no' = rw (is_sure-zero before bits end some, none) at sure in cc)
sure-long (suc links) before bits end some none sure =
    let on = rw (is_sure-suc links before bits end some, none) at sure in
    leb-true 1728 (length bits) (and_right-true (is_nothing (told_of before bits)) (nat_le 1728 (length bits)) (and_left-true _ _ on))

linked : (before : ℕ × ℕ) (bits : List Bool) (end : Option (ℕ × ℕ)) (kind : ℕ) (ready : Bool) → (ready ≡ true → 1728 ≤ length bits)
    → cond ready (next_link before.1) None ≡ Some kind → IsStep bits kind
linked before bits end kind true long is =
    let link = link-kinds before.1 kind is in
    let there = long refl in
    record { there = omega (arith, link.long); few = omega (arith, link.long); most = omega (arith, link.long); fits = link.fits }
linked before bits end kind false long is = absurd (cc)

step-by : (before : ℕ × ℕ) (bits : List Bool) (end : Option (ℕ × ℕ)) (kind : ℕ) (fits : Option ℕ) → fits_of before bits ≡ fits
    → option_or fits (cond (nat_lt 0 (length bits) && is_nothing (told_of before bits) && is_sure 3 before bits end) (next_link before.1) None) ≡ Some kind → IsStep bits kind
step-by before bits end kind (Some other) fits is =
    let told = fits_of-kind before bits other fits in
    let same : other ≡ kind = cc in
    subst (IsStep bits) same record { there = told.there; few = told.is_kind.few; most = told.is_kind.most; fits = told.is_kind.fits }
step-by before bits end kind None fits is =
    let first = nat_lt 0 (length bits) && is_nothing (told_of before bits) in
    linked before bits end kind (first && is_sure 3 before bits end)
    (λ ready.
    sure-long 3 before bits end
    (ltb-true 0 (length bits) (and_left-true (nat_lt 0 (length bits)) (is_nothing (told_of before bits)) (and_left-true first (is_sure 3 before bits end) ready))) fits
    (and_right-true first (is_sure 3 before bits end) ready)) is

pub step_of-there : (before : ℕ × ℕ) (bits : List Bool) (end : Option (ℕ × ℕ)) (kind : ℕ) → step_of before bits end ≡ Some kind → IsStep bits kind
unfolding step_of
step_of-there before bits end kind is = step-by before bits end kind (fits_of before bits) refl is
