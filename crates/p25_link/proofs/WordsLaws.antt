-- The conversions between words and symbols are inverse: each is shown for the bits between them, field by field.
use Rattle.std.proofs.{Common.{◌≡◌, ℕ, ◌+◌, ◌*◌, ◌^◌, ◌<◌, ◌≤◌, Bool, List, ◌++◌, length, ap, ap₂, sym, ◌∙◌, arith, length-append}, Math.Nat.{mod-eq_of_lt}}
use Rattle.p25_bits.specs.{Bits.{bits_of, field_of, octet_bits, part}, Numbers.{octets_from}}
use Rattle.p25_bits.proofs.BitsLaws.{length-bits_of, field_of-bits_of}
use Rattle.p25_bits.proofs.NumbersLaws.{number_bits-octets, length-number_bits, numbers_from-number_bits, number_bits-numbers_from, numbers_from-append, bits_of-field}
use Rattle.p25_bits.proofs.PartLaws.{part_add, part_left, part_last, part_whole}
use Rattle.p25_gf64.specs.declared.symbol.Sym.{Sym}
use Rattle.p25_link.specs.{declared.link_control.LinkControl.{LinkControl}, declared.encryption.EncryptionSync.{EncryptionSync}, declared.encryption.HeaderWord.{HeaderWord}}
use Rattle.p25_link.specs.Symbols.{symbols_in, symbol_bits}
use Rattle.p25_link.specs.Words.{link_word_bits, sync_word_bits, header_word_bits, link_of_bits, sync_of_bits, header_of_bits, link_symbols, sync_symbols, header_symbols, link_of_symbols, sync_of_symbols, header_of_symbols, AreNineOctets, AreSymbolsOf, IsLinkControl, IsEncryptionSync, IsHeaderWord, IsWordOf}
use Rattle.p25_link.proofs.SymbolsLaws.{length-symbols_in, length-symbol_bits, symbol_bits-all, symbols_in-symbol_bits}

-- nine octets have 72 bits
length-nine : (octets : List ℕ) → AreNineOctets octets → length (octet_bits octets) ≡ 72
length-nine octets nine =
    sym (ap length (number_bits-octets octets)) ∙ length-number_bits 8 octets ∙ ap (λ n. 8 * n) nine.long

-- which write them
nine_back : (octets : List ℕ) → AreNineOctets octets → octets_from 9 (octet_bits octets) ≡ octets
nine_back octets nine =
    ap₂ octets_from (sym nine.long) (sym (number_bits-octets octets)) ∙ numbers_from-number_bits 8 octets nine.small

-- whatever bits follow
nine_kept : (before behind : List Bool) → 72 ≤ length before → octets_from 9 (before ++ behind) ≡ octets_from 9 before
nine_kept before behind there = numbers_from-append 8 9 before behind there

-- nine octets that bits write have those bits
nine_bits : (bits : List Bool) → 72 ≤ length bits → octet_bits (octets_from 9 bits) ≡ part 0 72 bits
nine_bits bits there = sym (number_bits-octets (octets_from 9 bits)) ∙ number_bits-numbers_from 8 9 bits there

-- the last number
last_back : (at width number : ℕ) (before : List Bool) → length before ≡ at → number < 2 ^ width → field_of (part at width (before ++ bits_of width number)) ≡ number
last_back at width number before long fits =
    ap field_of (part_last at width before (bits_of width number) long (length-bits_of width number)) ∙ field_of-bits_of width number ∙ mod-eq_of_lt fits

-- a number before others
field_kept : (at width : ℕ) (before behind : List Bool) → at + width ≤ length before → field_of (part at width (before ++ behind)) ≡ field_of (part at width before)
field_kept at width before behind there = ap field_of (part_left at width before behind there)

-- one more number after bits
longer : (before : List Bool) (at width number : ℕ) → length before ≡ at → length (before ++ bits_of width number) ≡ at + width
longer before at width number long = length-append before (bits_of width number) ∙ ap₂ ◌+◌ long (length-bits_of width number)

-- the bits up to an offset, and the number after them
joined : (bits before : List Bool) (at width : ℕ) → before ≡ part 0 at bits → at + width ≤ length bits → before ++ bits_of width (field_of (part at width bits)) ≡ part 0 (at + width) bits
joined bits before at width is there =
    let behind : 0 + at ≡ at = omega arith in
    ap₂ ◌++◌ is (bits_of-field width at bits there ∙ ap (λ n. part n width bits) (sym behind)) ∙ part_add 0 at width bits

-- words and their symbols are inverse to each other, and each word has `count` symbols
pub record UndoEachOther {W : Type 0} (symbols_of : W → List Sym) (of_symbols : List Sym → W) (Keeps : W → Type 0) (count : ℕ) : Type 0 where
  pub back : (word : W) → Keeps word → of_symbols (symbols_of word) ≡ word
  pub symbols_back : (symbols : List Sym) → length symbols ≡ count → symbols_of (of_symbols symbols) ≡ symbols
  pub count_of : (word : W) → length (symbols_of word) ≡ count

-- if words and their bits are
undone_by_bits : {W : Type 0} (bits_in : W → List Bool) (of_bits : List Bool → W) (Keeps : W → Type 0) (count : ℕ)
    → ((word : W) → Keeps word → length (bits_in word) ≡ 6 * count) → ((word : W) → Keeps word → of_bits (bits_in word) ≡ word)
    → ((bits : List Bool) → length bits ≡ 6 * count → bits_in (of_bits bits) ≡ bits)
    → UndoEachOther (λ word. symbols_in count (bits_in word)) (λ symbols. of_bits (symbol_bits symbols)) Keeps count
undone_by_bits bits_in of_bits Keeps count many word_back bits_back = record {
  back = λ word keeps. ap of_bits (symbol_bits-all count (bits_in word) (many word keeps)) ∙ word_back word keeps;
  symbols_back = λ symbols long.
      ap (symbols_in count) (bits_back (symbol_bits symbols) (length-symbol_bits symbols ∙ ap (λ n. 6 * n) long)) ∙ symbols_in-symbol_bits count symbols long;
  count_of = λ word. length-symbols_in count (bits_in word);
}

-- the symbols of a word that were made, and the word of symbols
module _ {W : Type 0} (symbols_of : W → List Sym) (of_symbols : List Sym → W) (Keeps : W → Type 0) (count : ℕ) (laws : UndoEachOther symbols_of of_symbols Keeps count) where
  pub made_symbols : (word : W) (symbols : List Sym) → Keeps word → symbols ≡ symbols_of word → AreSymbolsOf symbols_of of_symbols Keeps count word symbols
  made_symbols word symbols keeps is = record {
    value = is;
    len = ap length is ∙ laws.count_of word;
    back = ap of_symbols is ∙ laws.back word keeps;
    sound = keeps;
  }

  pub made_word : (symbols : List Sym) (word : W) → length symbols ≡ count → word ≡ of_symbols symbols → IsWordOf symbols_of of_symbols symbols word
  made_word symbols word long is = record { value = is; back = ap symbols_of is ∙ laws.symbols_back symbols long }

-- link control and its bits
pub length-link_word_bits : (link : LinkControl) → IsLinkControl link → length (link_word_bits link) ≡ 72
unfolding link_word_bits
length-link_word_bits link keeps = length-nine link.0 keeps.octets

link_of_its_bits : (link : LinkControl) → IsLinkControl link → link_of_bits (link_word_bits link) ≡ link
unfolding link_of_bits link_word_bits
link_of_its_bits link keeps = ap (λ octets. record { 0 = octets }) (nine_back link.0 keeps.octets)

bits_of_their_link : (bits : List Bool) → length bits ≡ 72 → link_word_bits (link_of_bits bits) ≡ bits
unfolding link_of_bits link_word_bits
bits_of_their_link bits long = nine_bits bits (omega (arith, long)) ∙ part_whole 72 bits long

pub link_words : UndoEachOther link_symbols link_of_symbols IsLinkControl 12
unfolding link_symbols link_of_symbols
link_words = undone_by_bits link_word_bits link_of_bits IsLinkControl 12 length-link_word_bits link_of_its_bits bits_of_their_link

-- encryption sync of the same fields is the same
pub same_sync : (a b : EncryptionSync) → a.mi ≡ b.mi → a.algid ≡ b.algid → a.kid ≡ b.kid → a ≡ b
same_sync a b mi algid kid =
    let made : List ℕ → ℕ → ℕ → EncryptionSync = λ octets m n. record { mi = octets; algid = m; kid = n } in
    ap (λ octets. made octets a.algid a.kid) mi ∙ ap₂ (made b.mi) algid kid

-- encryption sync and its bits
pub length-sync_word_bits : (sync : EncryptionSync) → IsEncryptionSync sync → length (sync_word_bits sync) ≡ 96
unfolding sync_word_bits
length-sync_word_bits sync keeps =
    let octets = octet_bits sync.mi in
    longer (octets ++ bits_of 8 sync.algid) 80 16 sync.kid (longer octets 72 8 sync.algid (length-nine sync.mi keeps.mi))

sync_of_its_bits : (sync : EncryptionSync) → IsEncryptionSync sync → sync_of_bits (sync_word_bits sync) ≡ sync
unfolding sync_of_bits sync_word_bits
sync_of_its_bits sync keeps =
    let octets = octet_bits sync.mi in
    let first = octets ++ bits_of 8 sync.algid in
    let nine : length octets ≡ 72 = length-nine sync.mi keeps.mi in
    let ten : length first ≡ 80 = longer octets 72 8 sync.algid nine in
    let bits = first ++ bits_of 16 sync.kid in
    let mi : octets_from 9 bits ≡ sync.mi
    = nine_kept first (bits_of 16 sync.kid) (omega (arith, ten)) ∙ nine_kept octets (bits_of 8 sync.algid) (omega (arith, nine)) ∙ nine_back sync.mi keeps.mi in
    let algid : field_of (part 72 8 bits) ≡ sync.algid
    = field_kept 72 8 first (bits_of 16 sync.kid) (omega (arith, ten)) ∙ last_back 72 8 sync.algid octets nine keeps.algid in
    let kid : field_of (part 80 16 bits) ≡ sync.kid = last_back 80 16 sync.kid first ten keeps.kid in
    same_sync _ sync mi algid kid

bits_of_their_sync : (bits : List Bool) → length bits ≡ 96 → sync_word_bits (sync_of_bits bits) ≡ bits
unfolding sync_of_bits sync_word_bits
bits_of_their_sync bits long =
    let octets = octet_bits (octets_from 9 bits) in
    let first = octets ++ bits_of 8 (field_of (part 72 8 bits)) in
    joined bits first 80 16 (joined bits octets 72 8 (nine_bits bits (omega (arith, long))) (omega (arith, long))) (omega (arith, long)) ∙ part_whole 96 bits long

pub sync_words : UndoEachOther sync_symbols sync_of_symbols IsEncryptionSync 16
unfolding sync_symbols sync_of_symbols
sync_words = undone_by_bits sync_word_bits sync_of_bits IsEncryptionSync 16 length-sync_word_bits sync_of_its_bits bits_of_their_sync

-- header words of the same fields are the same
pub same_header : (a b : HeaderWord) → a.mi ≡ b.mi → a.mfid ≡ b.mfid → a.algid ≡ b.algid → a.kid ≡ b.kid → a.tgid ≡ b.tgid → a ≡ b
same_header a b mi mfid algid kid tgid =
    let made : List ℕ → ℕ → ℕ → ℕ → ℕ → HeaderWord = λ octets l m n o. record { mi = octets; mfid = l; algid = m; kid = n; tgid = o } in
    ap (λ octets. made octets a.mfid a.algid a.kid a.tgid) mi ∙ ap₂ (λ l m. made b.mi l m a.kid a.tgid) mfid algid ∙ ap₂ (made b.mi b.mfid b.algid) kid tgid

-- the header word and its bits
pub length-header_word_bits : (word : HeaderWord) → IsHeaderWord word → length (header_word_bits word) ≡ 120
unfolding header_word_bits
length-header_word_bits word keeps =
    let octets = octet_bits word.mi in
    let first = octets ++ bits_of 8 word.mfid in
    let second = first ++ bits_of 8 word.algid in
    let third = second ++ bits_of 16 word.kid in
    longer third 104 16 word.tgid (longer second 88 16 word.kid (longer first 80 8 word.algid (longer octets 72 8 word.mfid (length-nine word.mi keeps.mi))))

header_of_its_bits : (word : HeaderWord) → IsHeaderWord word → header_of_bits (header_word_bits word) ≡ word
unfolding header_of_bits header_word_bits
header_of_its_bits word keeps =
    let octets = octet_bits word.mi in
    let first = octets ++ bits_of 8 word.mfid in
    let second = first ++ bits_of 8 word.algid in
    let third = second ++ bits_of 16 word.kid in
    let bits = third ++ bits_of 16 word.tgid in
    let nine : length octets ≡ 72 = length-nine word.mi keeps.mi in
    let ten : length first ≡ 80 = longer octets 72 8 word.mfid nine in
    let eleven : length second ≡ 88 = longer first 80 8 word.algid ten in
    let thirteen : length third ≡ 104 = longer second 88 16 word.kid eleven in
    let mi : octets_from 9 bits ≡ word.mi
    = nine_kept third (bits_of 16 word.tgid) (omega (arith, thirteen))
    ∙ nine_kept second (bits_of 16 word.kid) (omega (arith, eleven))
    ∙ nine_kept first (bits_of 8 word.algid) (omega (arith, ten))
    ∙ nine_kept octets (bits_of 8 word.mfid) (omega (arith, nine))
    ∙ nine_back word.mi keeps.mi in
    let mfid : field_of (part 72 8 bits) ≡ word.mfid
    = field_kept 72 8 third (bits_of 16 word.tgid) (omega (arith, thirteen))
    ∙ field_kept 72 8 second (bits_of 16 word.kid) (omega (arith, eleven))
    ∙ field_kept 72 8 first (bits_of 8 word.algid) (omega (arith, ten))
    ∙ last_back 72 8 word.mfid octets nine keeps.mfid in
    let algid : field_of (part 80 8 bits) ≡ word.algid
    = field_kept 80 8 third (bits_of 16 word.tgid) (omega (arith, thirteen))
    ∙ field_kept 80 8 second (bits_of 16 word.kid) (omega (arith, eleven))
    ∙ last_back 80 8 word.algid first ten keeps.algid in
    let kid : field_of (part 88 16 bits) ≡ word.kid
    = field_kept 88 16 third (bits_of 16 word.tgid) (omega (arith, thirteen)) ∙ last_back 88 16 word.kid second eleven keeps.kid in
    let tgid : field_of (part 104 16 bits) ≡ word.tgid = last_back 104 16 word.tgid third thirteen keeps.tgid in
    same_header _ word mi mfid algid kid tgid

bits_of_their_header : (bits : List Bool) → length bits ≡ 120 → header_word_bits (header_of_bits bits) ≡ bits
unfolding header_of_bits header_word_bits
bits_of_their_header bits long =
    let octets = octet_bits (octets_from 9 bits) in
    let first = octets ++ bits_of 8 (field_of (part 72 8 bits)) in
    let second = first ++ bits_of 8 (field_of (part 80 8 bits)) in
    let third = second ++ bits_of 16 (field_of (part 88 16 bits)) in
    let nine = nine_bits bits (omega (arith, long)) in
    let ten = joined bits octets 72 8 nine (omega (arith, long)) in
    let eleven = joined bits first 80 8 ten (omega (arith, long)) in
    let thirteen = joined bits second 88 16 eleven (omega (arith, long)) in
    joined bits third 104 16 thirteen (omega (arith, long)) ∙ part_whole 120 bits long

pub header_words : UndoEachOther header_symbols header_of_symbols IsHeaderWord 20
unfolding header_symbols header_of_symbols
header_words = undone_by_bits header_word_bits header_of_bits IsHeaderWord 20 length-header_word_bits header_of_its_bits bits_of_their_header
