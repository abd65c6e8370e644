-- The bits of the first octet that arrives.
use Rattle.std.proofs.Common.{◌≡◌, ℕ, ◌<◌, Bool, List, [], ◌∷◌, ◌++◌, length, take, get_or, ap, sym, ◌∙◌, arith, append-nil}
use Rattle.p25_bits.specs.Bits.{bits_of, octet_bits}
use Rattle.p25_bits.proofs.BitsLaws.{octet_bits-cons, octet_bits-nil}

-- the bits of the first octet
pub bits_of-first : (octets : List ℕ) → 0 < length octets → bits_of 8 (get_or octets 0 0) ≡ octet_bits (take 1 octets)
bits_of-first [] some = absurd (omega arith)
bits_of-first (octet ∷ octets) some =
    sym (octet_bits-cons octet [] ∙ ap (λ (zs : List Bool). bits_of 8 octet ++ zs) octet_bits-nil ∙ append-nil (bits_of 8 octet))
