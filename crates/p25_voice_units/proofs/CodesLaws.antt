-- The low speed data (LSD) codewords are determined by their information. And the sizes of the outer codes.
use Rattle.std.proofs.Common.{◌≡◌, Bool, List, length, refl, sym, ◌∙◌, lit≤, lit<}
use Rattle.p25_code.specs.Words.{IsEncoding}
use Rattle.p25_hamming.specs.{Lsd16.{IsLsd16, lsd16_word}, Lsd16Laws.{lsd16_code}}
use Rattle.p25_reed_solomon.specs.Words.{IsCode}

-- no other word has the octet
pub lsd16_only : (info word : List Bool) → length info ≡ 8 → IsEncoding IsLsd16 8 info word → word ≡ lsd16_word info
lsd16_only info word long is =
    let made = lsd16_code.is.encodes info long in
    lsd16_code.is.laws.one_word word (lsd16_word info) is.word_of_set made.word_of_set (is.begins ∙ sym made.begins)

-- the sizes of the outer codes
pub header_code : IsCode 36 20
header_code = record { places = lit≤ tt; some = lit≤ tt; shorter = lit< tt; even = refl; few = lit≤ tt }

pub link_code : IsCode 24 12
link_code = record { places = lit≤ tt; some = lit≤ tt; shorter = lit< tt; even = refl; few = lit≤ tt }

pub sync_code : IsCode 24 16
sync_code = record { places = lit≤ tt; some = lit≤ tt; shorter = lit< tt; even = refl; few = lit≤ tt }
