-- The knowledge of a scanner determines the first item and whether it is decided, and stays true as bits arrive.
use Rattle.std.proofs.Common.{◌≡◌, ℕ, ◌+◌, ◌-◌, ◌<◌, ◌≤◌, inl, inr, Bool, true, false, min, List, ◌++◌, length, drop, ap, sym, ◌∙◌, subst, arith, length-append}
use Rattle.std.proofs.lemmas.Bool.{cases_Bool, cases_lt, le-leb, lt-leb, leb-true, ltb-true}
use Rattle.p25_status.specs.{Sync.{has_sync}, declared.fields.Field.{Field}}
use Rattle.p25_status.proofs.SyncLaws.{has_sync-length, has_sync-append}
use Rattle.p25_units.specs.{Needs.{need_of}, declared.begun.Begun.{Begun}, declared.needs.Need.TheVariants.{More, Length, NoLength}}
use Rattle.p25_units.proofs.{NeedsLaws.{need_of-few, need_of-waits}, BegunLaws.{IsBegun-append}}
use Rattle.p25_stream.specs.{Items.{sync_place, gap_of, gap_known, is_decided}, Judgements.{Needs, HasNoUnit, IsSearched, IsKnownGap, is_settled, waits, IsJudged, WasJudged}}
use Rattle.p25_stream.specs.{declared.judged.Judged.{Judged}, declared.judged.Judged.TheVariants.{Searching, Waiting, Gap, Ready, NoUnit}}
use Rattle.p25_stream.proofs.{SyncPlaceLaws.{sync_place-synced, sync_place-all, sync_place-from, sync_place-append_far}, ItemsLaws.{is_decided-gap, is_decided-synced}}

-- bits that were searched begin with no sync, and have none
pub searched-none : (bits : List Bool) (clear : ℕ) → IsSearched bits clear → has_sync bits ≡ false
searched-none bits clear is =
    elim (cases_Bool (has_sync bits)) [
      | inr no' ↦ no'
      | inl yes' ↦ absurd (omega (arith, is.all, is.none, has_sync-length bits yes', sync_place-synced bits yes'))
    ]

pub searched-all : (bits : List Bool) (clear : ℕ) → IsSearched bits clear → sync_place bits ≡ length bits
searched-all bits clear is = sync_place-all clear bits is.none (omega (arith, is.all))

-- whether the first item is decided
searched-open : (bits : List Bool) (clear : ℕ) → IsSearched bits clear → is_decided bits ≡ false
searched-open bits clear is =
    is_decided-gap bits (searched-none bits clear is)
    ∙ lt-leb (min (gap_of bits + 48) (4096 + 47)) (length bits) (omega (arith, searched-all bits clear is, is.all, is.few))

pub IsJudged-decided : (judged : Judged) (bits : List Bool) → IsJudged judged bits → is_decided bits ≡ is_settled judged
unfolding IsJudged
IsJudged-decided (Searching clear) bits is = searched-open bits clear is
IsJudged-decided (Waiting count begun) bits is = is_decided-synced bits (More count) is.synced is.needs
IsJudged-decided (Gap count) bits is = is_decided-gap bits is.unsynced ∙ ap (λ n. gap_known n (length bits)) (sym is.is) ∙ is.known
IsJudged-decided (Ready count begun) bits is = is_decided-synced bits (Length count) is.synced is.needs
IsJudged-decided (NoUnit field) bits is = is_decided-synced bits (NoLength field) is.synced is.needs

-- if it is not, few bits are held
pub IsJudged-few : (judged : Judged) (bits : List Bool) → IsJudged judged bits → is_settled judged ≡ false → length bits < 25920
unfolding IsJudged
IsJudged-few (Searching clear) bits is open' = omega (arith, is.all, is.few)
IsJudged-few (Waiting count begun) bits is open' = let few = need_of-few bits count is.needs in omega (arith, few.0, few.1)
IsJudged-few judged bits is open' = absurd (cc)

-- each case, made
pub judged-searching : (bits : List Bool) (clear : ℕ) → clear < 4096 → clear ≡ length bits - 47 → clear ≤ sync_place bits → IsJudged (Searching clear) bits
unfolding IsJudged
judged-searching bits clear few all none = record { few = few; all = all; none = none }

pub judged-gap : (bits : List Bool) (count : ℕ) → IsKnownGap bits count → IsJudged (Gap count) bits
unfolding IsJudged
judged-gap bits count is = is

pub judged-waiting : (bits : List Bool) (count : ℕ) (begun : Begun) → Needs bits (More count) begun → IsJudged (Waiting count begun) bits
unfolding IsJudged
judged-waiting bits count begun is = is

pub judged-ready : (bits : List Bool) (count : ℕ) (begun : Begun) → Needs bits (Length count) begun → IsJudged (Ready count begun) bits
unfolding IsJudged
judged-ready bits count begun is = is

pub judged-no_unit : (bits : List Bool) (field : Field) → has_sync bits ≡ true → need_of bits ≡ NoLength field → IsJudged (NoUnit field) bits
unfolding IsJudged
judged-no_unit bits field yes' is = record { synced = yes'; needs = is }

-- and each case, used
pub was-searching : (judged : Judged) (bits : List Bool) (clear : ℕ) → IsJudged judged bits → judged ≡ Searching clear → IsSearched bits clear
unfolding IsJudged
was-searching judged bits clear is same = subst (λ (b : Judged). IsJudged b bits) same is

pub was-waiting : (judged : Judged) (bits : List Bool) (count : ℕ) (begun : Begun) → IsJudged judged bits → judged ≡ Waiting count begun → Needs bits (More count) begun
unfolding IsJudged
was-waiting judged bits count begun is same = subst (λ (b : Judged). IsJudged b bits) same is

pub was-gap : (judged : Judged) (bits : List Bool) (count : ℕ) → IsJudged judged bits → judged ≡ Gap count → IsKnownGap bits count
unfolding IsJudged
was-gap judged bits count is same = subst (λ (b : Judged). IsJudged b bits) same is

pub was-ready : (judged : Judged) (bits : List Bool) (count : ℕ) (begun : Begun) → IsJudged judged bits → judged ≡ Ready count begun → Needs bits (Length count) begun
unfolding IsJudged
was-ready judged bits count begun is same = subst (λ (b : Judged). IsJudged b bits) same is

pub was-no_unit : (judged : Judged) (bits : List Bool) (field : Field) → IsJudged judged bits → judged ≡ NoUnit field → HasNoUnit bits (NoLength field)
unfolding IsJudged
was-no_unit judged bits field is same = subst (λ (b : Judged). IsJudged b bits) same is

-- positions that were searched have no sync if more bits follow
pub searched-more : (bits more : List Bool) (clear : ℕ) → IsSearched bits clear → (clear ≤ sync_place (bits ++ more)) × (clear ≤ length (bits ++ more) - 47)
searched-more bits more clear is =
    elim (cases_lt clear 1) [
      | inl none ↦ (omega arith, omega arith)
      | inr some ↦ (
        sync_place-append_far clear bits more (omega (arith, is.all)) is.none,
        omega (arith, is.all, length-append bits more),
      )
    ]

-- bits that are waited for are waited for until they are there
pub waits-more : (bits more : List Bool) (count : ℕ) (begun : Begun) → Needs bits (More count) begun → length (bits ++ more) < count → Needs (bits ++ more) (More count) begun
waits-more bits more count begun is short = record {
  synced = has_sync-append bits more (has_sync-length bits is.synced) ∙ is.synced;
  needs = need_of-waits bits more count is.synced is.needs short;
  read = IsBegun-append begun bits more is.read;
}

-- if the bits are too few for more to be known, the knowledge stays
searching-stays : (bits more : List Bool) (clear : ℕ) → IsSearched bits clear → length (bits ++ more) - 47 ≤ clear → IsSearched (bits ++ more) clear
searching-stays bits more clear is few = record {
  few = is.few;
  all = omega (arith, is.all, length-append bits more);
  none = (searched-more bits more clear is).0;
}

pub waits-stays : (judged : Judged) (bits more : List Bool) → IsJudged judged bits → waits judged (length (bits ++ more)) ≡ true → IsJudged judged (bits ++ more)
unfolding IsJudged
waits-stays (Searching clear) bits more is few = searching-stays bits more clear is (leb-true (length (bits ++ more) - 47) clear few)
waits-stays (Waiting count begun) bits more is few = waits-more bits more count begun is (ltb-true (length (bits ++ more)) count few)
waits-stays judged bits more is few = absurd (cc)

pub was-stays : (judged : Judged) (bits : List Bool) → WasJudged judged bits → waits judged (length bits) ≡ true → IsJudged judged bits
was-stays judged bits was few =
    subst (λ (xs : List Bool). IsJudged judged xs) (sym was.is)
    (waits-stays judged was.before was.more was.known (ap (λ (xs : List Bool). waits judged (length xs)) (sym was.is) ∙ few))

-- the bits that a gap covers are known by the first position after them with a sync, or by their number
pub gap-before_sync : (bits : List Bool) (k : ℕ) → 0 < k → k < 4096 → k ≤ sync_place bits → k + 48 ≤ length bits → has_sync (drop k bits) ≡ true → IsKnownGap bits k
gap-before_sync bits k some few none there yes' =
    let place : sync_place bits ≡ k = omega (arith, sync_place-from k bits none, sync_place-synced (drop k bits) yes') in
    record {
      unsynced = unsynced bits k some place;
      is = omega (arith, place);
      known = le-leb (min (k + 48) (4096 + 47)) (length bits) (omega arith);
    }
  where
    unsynced : (bits : List Bool) (k : ℕ) → 0 < k → sync_place bits ≡ k → has_sync bits ≡ false
    unsynced bits k some place =
        elim (cases_Bool (has_sync bits)) [ inr no' ↦ no' | inl yes' ↦ absurd (omega (arith, place, sync_place-synced bits yes')) ]

pub gap-full : (bits : List Bool) → 4096 ≤ sync_place bits → 4096 ≤ length bits - 47 → IsKnownGap bits 4096
gap-full bits none there = record {
  unsynced = elim (cases_Bool (has_sync bits)) [ inr no' ↦ no' | inl yes' ↦ absurd (omega (arith, none, sync_place-synced bits yes')) ];
  is = omega arith;
  known = le-leb (min (4096 + 48) (4096 + 47)) (length bits) (omega arith);
}
