-- The data unit with which bits begin, after a data unit with a name. The bits reach to an end: the name of the data unit after them, or none.
use Rattle.std.specs.Prelude.{ℕ, zero, suc, Bool, false, ◌&&◌, ◌||◌, if◌then◌else◌, ◌==◌, nat_le, nat_lt, List, length, drop, Option, Some, None}
use Rattle.std.specs.Option.{is_some, option_or}
use Rattle.p25_follow.specs.{declared.told.Told.{Told}, declared.told.Told.TheVariants.{Expected}}
use Rattle.p25_follow.specs.{Expected.{is_expected, kind_length, next_link}, Told.{is_nothing, told_of}}

-- the number of transmitted bits of a logical link data unit (LDU1 or LDU2)
abbrev pub link_length : ℕ
link_length = 1728

-- a detected type, if the bits of such a data unit are there
unfoldable pub fits_by : List Bool → Told → Option ℕ
fits_by bits (Expected kind) = if nat_le (kind_length kind) (length bits) then Some kind else None
fits_by bits told = None

unfoldable pub fits_of : ℕ × ℕ → List Bool → Option ℕ
fits_of before bits = fits_by bits (told_of before bits)

-- bits end at a data unit that may follow one with a name
unfoldable pub is_end : ℕ × ℕ → Option (ℕ × ℕ) → Bool
is_end before None = false
is_end before (Some end) = before.0 == end.0 && is_expected before.1 end.1

-- there is a kind, and the test holds of it
abbrev pub true_of : (ℕ → Bool) → Option ℕ → Bool
true_of test None = false
true_of test (Some kind) = test kind

-- it is certain that data units lie end to end after a data unit with a name, over at most a given number of logical link data units without a
-- detection: if no bits are left the data unit after them may follow, or a detected data unit fits, or after one link it is certain again
unfoldable pub is_sure : ℕ → ℕ × ℕ → List Bool → Option (ℕ × ℕ) → Bool
is_sure zero before bits end = if nat_lt 0 (length bits) then is_some (fits_of before bits) else is_end before end
is_sure (suc links) before bits end =
    if nat_lt 0 (length bits) then
    is_some (fits_of before bits)
    || (is_nothing (told_of before bits) && nat_le link_length (length bits)
    && true_of (λ kind. is_sure links (before.0, kind) (drop link_length bits) end) (next_link before.1))
    else is_end before end

-- the type of the data unit with which bits begin: the one that is detected and fits, or the next logical link data unit, if nothing is detected and
-- with it, over at most three links, the alignment is certain
unfoldable pub step_of : ℕ × ℕ → List Bool → Option (ℕ × ℕ) → Option ℕ
step_of before bits end =
    option_or (fits_of before bits)
    (if nat_lt 0 (length bits) && is_nothing (told_of before bits) && is_sure 3 before bits end then next_link before.1 else None)
