-- The steps of the loops of flags: one more octet or flag, by the laws of lists that grow at their end.
use Rattle.std.proofs.{Common.{◌≡◌, ℕ, ◌+◌, ◌*◌, ◌<◌, Bool, false, List, [], ◌∷◌, ◌++◌, length, take, set, slice_get, Some, append_assoc}, lemmas.List.{take_more, take_more_set}}
use Rattle.std.proofs.lemmas.Option.{get_or_from_slice_get}
use Rattle.p25_bits.specs.{Bits.{field_of, part}, Numbers.{octets_from}}
use Rattle.p25_bits.proofs.NumbersLaws.{numbers_from-more}

-- one more octet read from bits
pub octets_from_more : (octets : List ℕ) (n value : ℕ) (bits : List Bool) → value ≡ field_of (part (8 * n) 8 bits) → (octets ++ octets_from n bits) ++ value ∷ [] ≡ octets ++ octets_from (n + 1) bits
octets_from_more octets n value bits is =
    simp (append_assoc, is, numbers_from-more)

-- one more flag set to a bit
pub same_flags_more : (flags bits : List Bool) (i : ℕ) (bit : Bool) → i < length flags → i < length bits → slice_get bits i ≡ Some bit → take i flags ≡ take i bits
    → take (i + 1) (set flags i bit) ≡ take (i + 1) bits
same_flags_more flags bits i bit inside there is so_far =
    cc (take_more_set flags i bit inside, so_far, get_or_from_slice_get bits i bit false is, take_more bits i false there)
