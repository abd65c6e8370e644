-- A step, and certainty, by the detection before decoding: if a data unit fits it the NID decides, and if nothing is detected the links do.
use Rattle.std.proofs.Common.{◌≡◌, ℕ, zero, suc, ◌-◌, ◌<◌, ◌≤◌, Bool, true, false, cond, ◌&&◌, ◌||◌, List, [], length, drop, Option, Some, None, refl, ◌∙◌, arith}
use Rattle.std.proofs.lemmas.Bool.{le-leb, lt-leb, lt-ltb}
use Rattle.std.specs.{Prelude.{nat_le}, Option.{is_some, option_or}}
use Rattle.p25_follow.specs.{declared.told.Look.{Look}, declared.told.Told.{Told}, declared.told.Told.TheVariants.{Expected, Other, Nothing}, Expected.{next_link}, Looks.{is_read, told_by_look}}
use Rattle.p25_follow.specs.{Steps.{fits_by, fits_of, is_end, is_sure, step_of, true_of}, Told.{is_nothing, told_of}}
use Rattle.p25_follow.proofs.StepLaws.{and_left-true, is_sure-suc, is_sure-zero}

-- ---- a look and the detection

fit-something : (bits : List Bool) (told : Told) (kind : ℕ) → fits_by bits told ≡ Some kind → is_nothing told ≡ false
unfolding fits_by
fit-something bits (Expected other) kind is = refl
fit-something bits Other kind is = refl
fit-something bits Nothing kind is = absurd (cc)

look-something : (look : Look) (reads : Bool) → is_nothing look.told ≡ false → is_nothing (told_by_look look reads) ≡ false
unfolding told_by_look
look-something look false is = is
look-something look true is = elim look.clear as (λ (b : Bool). is_nothing (cond b look.told Other) ≡ false) [ true ↦ is | false ↦ refl ]

look-unfit : (bits : List Bool) (look : Look) (reads : Bool) → fits_by bits look.told ≡ None → fits_by bits (told_by_look look reads) ≡ None
unfolding told_by_look fits_by
look-unfit bits look false is = is
look-unfit bits look true is = elim look.clear as (λ (b : Bool). fits_by bits (cond b look.told Other) ≡ None) [ true ↦ is | false ↦ refl ]

-- ---- tests that fail

pub none-from_test : (o : Option ℕ) → is_some o ≡ false → o ≡ None
none-from_test None is = refl
none-from_test (Some kind) is = absurd (cc)

pub some-from_test : (o : Option ℕ) → is_some o ≡ true → (kind : ℕ) × (o ≡ Some kind)
some-from_test None is = absurd (cc)
some-from_test (Some kind) is = (kind, refl)

or-none : (o : Option ℕ) → option_or o None ≡ o
or-none None = refl
or-none (Some kind) = refl

or-false : (a : Bool) → (a || false) ≡ a
or-false true = refl
or-false false = refl

and-false : (a : Bool) → (a && false) ≡ false
and-false true = refl
and-false false = refl

and-true : (a : Bool) → (a && true) ≡ a
and-true true = refl
and-true false = refl

-- if no bits are left the end decides
pub sure-end : (links : ℕ) (before : ℕ × ℕ) (end : Option (ℕ × ℕ)) → is_sure links before [] end ≡ is_end before end
unfolding is_sure
sure-end zero before end = refl
sure-end (suc links) before end = refl

-- ---- at a position with a look

module _ (before : ℕ × ℕ) (bits : List Bool) (end : Option (ℕ × ℕ)) (look : Look) (some : 0 < length bits) (is : told_of before bits ≡ told_by_look look (is_read bits)) where
  fits-by : fits_of before bits ≡ fits_by bits (told_by_look look (is_read bits))
  unfolding fits_of
  fits-by = rw is

  something : is_nothing look.told ≡ false → is_nothing (told_of before bits) ≡ false
  something told = rw is (look-something look (is_read bits) told)

  unfit : fits_by bits look.told ≡ None → fits_of before bits ≡ None
  unfit none = fits-by ∙ look-unfit bits look (is_read bits) none

  -- if a look detects something the links do not matter
  step-something : is_nothing look.told ≡ false → step_of before bits end ≡ fits_of before bits
  unfolding step_of
  step-something told = rw (something told, and-false, or-none)

  sure-something : (links : ℕ) → is_nothing look.told ≡ false → is_sure links before bits end ≡ is_some (fits_of before bits)
  sure-something zero told = is_sure-zero before bits end some
  sure-something (suc links) told = rw (is_sure-suc links before bits end some, something told, or-false)

  -- a data unit that fits, unless its NID decodes to another
  pub step-fit : (told : Told) (answer : Option ℕ) → is_some (fits_by bits look.told) ≡ true → told ≡ told_by_look look (is_read bits) → answer ≡ fits_by bits told → answer ≡ step_of before bits end
  step-fit told answer test is_told is_answer =
      let fit = some-from_test (fits_by bits look.told) test in
      rw (is_answer, is_told, step-something (fit-something bits look.told fit.0 fit.1), fits-by)

  pub sure-fit : (links : ℕ) (told : Told) (answer : Option ℕ) → is_some (fits_by bits look.told) ≡ true → told ≡ told_by_look look (is_read bits) → answer ≡ fits_by bits told
      → is_some answer ≡ is_sure links before bits end
  sure-fit links told answer test is_told is_answer =
      let fit = some-from_test (fits_by bits look.told) test in
      rw (is_answer, is_told, sure-something links (fit-something bits look.told fit.0 fit.1), fits-by)

  -- a data unit that does not fit
  pub step-unfit : is_some (fits_by bits look.told) ≡ false → is_nothing look.told ≡ false → None ≡ step_of before bits end
  step-unfit test told = rw (step-something told, unfit (none-from_test (fits_by bits look.told) test))

  pub sure-unfit : (links : ℕ) → is_some (fits_by bits look.told) ≡ false → is_nothing look.told ≡ false → false ≡ is_sure links before bits end
  sure-unfit links test told = rw (sure-something links told, unfit (none-from_test (fits_by bits look.told) test))

  -- ---- if nothing is detected

  abbrev after : ℕ → Bool
  after links = true_of (λ kind. is_sure links (before.0, kind) (drop 1728 bits) end) (next_link before.1)

  sure-by : (links : ℕ) → fits_of before bits ≡ None → is_sure (suc links) before bits end ≡ (is_nothing (told_of before bits) && nat_le 1728 (length bits) && after links)
  sure-by links none = rw (is_sure-suc links before bits end some, none)

  pub sure-no_links : is_some (fits_by bits look.told) ≡ false → false ≡ is_sure 0 before bits end
  sure-no_links test = rw (is_sure-zero before bits end some, unfit (none-from_test (fits_by bits look.told) test))

  sure-not : (links : ℕ) → fits_of before bits ≡ None → after links ≡ false → false ≡ is_sure (suc links) before bits end
  sure-not links none ends = rw (sure-by links none, ends, and-false)

  pub sure-short : (links : ℕ) → is_some (fits_by bits look.told) ≡ false → length bits < 1728 → false ≡ is_sure links before bits end
  sure-short zero test short = sure-no_links test
  sure-short (suc links) test short = rw (sure-by links (unfit (none-from_test (fits_by bits look.told) test)), lt-leb 1728 (length bits) short, and-false)

  pub sure-unlinked : (links : ℕ) → is_some (fits_by bits look.told) ≡ false → next_link before.1 ≡ None → false ≡ is_sure links before bits end
  sure-unlinked zero test none = sure-no_links test
  sure-unlinked (suc links) test none = sure-not links (unfit (none-from_test (fits_by bits look.told) test)) (rw none)

  after-is : (links kind : ℕ) (next : ℕ × ℕ) (later : Bool) → next_link before.1 ≡ Some kind → next ≡ (before.0, kind) → later ≡ is_sure links next (drop 1728 bits) end → after links ≡ later
  after-is links kind next later link same is_later = rw (link, is_later, same)

  pub sure-not_after : (links kind : ℕ) (next : ℕ × ℕ) (later : Bool) → 0 < links → is_some (fits_by bits look.told) ≡ false → next_link before.1 ≡ Some kind → next ≡ (before.0, kind)
      → later ≡ is_sure (links - 1) next (drop 1728 bits) end → later ≡ false → false ≡ is_sure links before bits end
  sure-not_after zero kind next later more test link same is_later ends = absurd (omega arith)
  sure-not_after (suc links) kind next later more test link same is_later ends =
      let less : suc links - 1 ≡ links = omega arith in
      sure-not links (unfit (none-from_test (fits_by bits look.told) test))
      (after-is links kind next later link same (rw less at is_later) ∙ ends)

  pub sure-after : (links kind : ℕ) (next : ℕ × ℕ) (later : Bool) (told : Told) (answer : Bool) → 0 < links → is_some (fits_by bits look.told) ≡ false → 1728 ≤ length bits
      → next_link before.1 ≡ Some kind → next ≡ (before.0, kind) → later ≡ is_sure (links - 1) next (drop 1728 bits) end → later ≡ true → told ≡ told_by_look look (is_read bits)
      → answer ≡ is_nothing told
      → answer ≡ is_sure links before bits end
  sure-after zero kind next later told answer more test long link same is_later goes is_told is_answer = absurd (omega arith)
  sure-after (suc links) kind next later told answer more test long link same is_later goes is_told is_answer =
      let less : suc links - 1 ≡ links = omega arith in
      rw (
        is_answer,
        is_told,
        ← is,
        sure-by links (unfit (none-from_test (fits_by bits look.told) test)),
        le-leb 1728 (length bits) long,
        after-is links kind next later link same (rw less at is_later),
        goes,
        and-true,
        and-true,
      )

  -- a step over a link is one that is sure
  pub step-sure : (answer : Option ℕ) → is_some (fits_by bits look.told) ≡ false → is_sure 3 before bits end ≡ true → answer ≡ next_link before.1 → answer ≡ step_of before bits end
  unfolding step_of
  step-sure answer test sure link =
      let none = unfit (none-from_test (fits_by bits look.told) test) in
      let nothing = is_nothing (told_of before bits) in
      let all = rw (sure-by 2 none) at sure in
      let told : nothing ≡ true = and_left-true nothing (nat_le 1728 (length bits)) (and_left-true (nothing && nat_le 1728 (length bits)) (after 2) all) in
      rw (link, none, lt-ltb 0 (length bits) some, told, sure)

  pub step-unsure : is_some (fits_by bits look.told) ≡ false → is_sure 3 before bits end ≡ false → None ≡ step_of before bits end
  unfolding step_of
  step-unsure test unsure =
      let none = unfit (none-from_test (fits_by bits look.told) test) in
      rw (none, unsure, and-false)
