-- The 64 transmitted bits of a network identifier (NID), as a list.
use Rattle.std.specs.Prelude.{◌≡◌, ℕ, ◌/◌, ◌^◌, Bool, true, false, ◌==◌, ◌||◌, if◌then◌else◌, List, [], ◌∷◌, ◌++◌, length, take, refl}
use Rattle.std.proofs.{Common.{ap, ap₂, sym, ◌∙◌, arith, length-append}, lemmas.List.{take_at}}
use Rattle.p25_bits.specs.Bits.{bits_of, digit_of}
use Rattle.p25_bits.proofs.BitsLaws.{length-bits_of, bits_of-add, field_of-bits_of, field_of-one, same_from_field_of}
use Rattle.p25_code.specs.Words.{IsEncoding}
use Rattle.p25_bch_nid.specs.{Duids.{duid_ldu1, duid_ldu2}, Nid.{parity_of, IsSent}, Bch63.{IsBch63}, Bch63Laws.{encoded, IsEncoding-encoded, one_word}}

-- the 64 bits of a network identifier (NID): the codeword that begins with NAC and DUID, and P
unfoldable pub nid_word : ℕ → ℕ → List Bool
nid_word nac duid = encoded (bits_of 12 nac ++ bits_of 4 duid) ++ (parity_of duid == 1) ∷ []

parity-digit : (b : Bool) → digit_of ((if b then 1 else 0) == 1) ≡ (if b then 1 else 0)
parity-digit true = refl
parity-digit false = refl

-- it is the transmitted list
pub nid_word-sent : (nac duid bits : ℕ) → IsSent nac duid bits → IsEncoding IsBch63 16 (bits_of 12 nac ++ bits_of 4 duid) (take 63 (bits_of 64 bits))
    → bits_of 64 bits ≡ nid_word nac duid
unfolding nid_word
nid_word-sent nac duid bits sent word =
    let info = bits_of 12 nac ++ bits_of 4 duid in
    let long : length info ≡ 16 = omega (arith, length-append (bits_of 12 nac) (bits_of 4 duid), length-bits_of 12 nac, length-bits_of 4 duid) in
    let encoding = IsEncoding-encoded info long in
    let cut = bits_of-add 63 1 bits in
    let beginning : take 63 (bits_of 64 bits) ≡ bits_of 63 (bits / 2 ^ 1)
    = ap (λ (xs : List Bool). take 63 xs) cut ∙ take_at (bits_of 63 (bits / 2 ^ 1)) (bits_of 1 bits) 63 (length-bits_of 63 (bits / 2 ^ 1)) in
    let same = one_word (take 63 (bits_of 64 bits)) (encoded info) word.word_of_set encoding.word_of_set (word.begins ∙ sym encoding.begins) in
    let last
    = same_from_field_of (bits_of 1 bits) ((parity_of duid == 1) ∷ []) (length-bits_of 1 bits)
    (field_of-bits_of 1 bits ∙ sent.parity ∙ sym (parity-digit (duid == duid_ldu1 || duid == duid_ldu2)) ∙ sym (field_of-one (parity_of duid == 1))) in
    cut ∙ ap₂ (λ (xs ys : List Bool). xs ++ ys) (sym beginning ∙ same) last
