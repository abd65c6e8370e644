-- The words of voice units as bits, by their fields in order, and as symbols of six bits: link control (LC), encryption sync (ES)
-- and the header word of an HDU.
use Rattle.std.specs.Prelude.{◌≡◌, ℕ, ◌<◌, ◌^◌, Bool, List, ◌++◌, length, All}
use Rattle.p25_bits.specs.{Bits.{bits_of, field_of, octet_bits, part}, Numbers.{octets_from}}
use Rattle.p25_gf64.specs.declared.symbol.Sym.{Sym}
use Rattle.p25_link.specs.{declared.link_control.LinkControl.{LinkControl}, declared.encryption.EncryptionSync.{EncryptionSync}}
use Rattle.p25_link.specs.{declared.encryption.HeaderWord.{HeaderWord}, Symbols.{symbols_in, symbol_bits}}

-- the 72 bits of link control (LC): its nine octets
unfoldable pub link_word_bits : LinkControl → List Bool
link_word_bits link = octet_bits link.0

-- the 96 bits of encryption sync (ES): MI 72, ALGID 8, KID 16
unfoldable pub sync_word_bits : EncryptionSync → List Bool
sync_word_bits sync = octet_bits sync.mi ++ bits_of 8 sync.algid ++ bits_of 16 sync.kid

-- the 120 bits of the header word of an HDU: MI 72, MFID 8, ALGID 8, KID 16, TGID 16
unfoldable pub header_word_bits : HeaderWord → List Bool
header_word_bits word = octet_bits word.mi ++ bits_of 8 word.mfid ++ bits_of 8 word.algid ++ bits_of 16 word.kid ++ bits_of 16 word.tgid

-- the link control (LC) of 72 bits
unfoldable pub link_of_bits : List Bool → LinkControl
link_of_bits bits = record { 0 = octets_from 9 bits }

-- the encryption sync (ES) of 96 bits
unfoldable pub sync_of_bits : List Bool → EncryptionSync
sync_of_bits bits = record { mi = octets_from 9 bits; algid = field_of (part 72 8 bits); kid = field_of (part 80 16 bits) }

-- the header word of an HDU, of 120 bits
unfoldable pub header_of_bits : List Bool → HeaderWord
header_of_bits bits = record {
  mi = octets_from 9 bits;
  mfid = field_of (part 72 8 bits);
  algid = field_of (part 80 8 bits);
  kid = field_of (part 88 16 bits);
  tgid = field_of (part 104 16 bits);
}

-- the symbols of link control (LC)
unfoldable pub link_symbols : LinkControl → List Sym
link_symbols link = symbols_in 12 (link_word_bits link)

-- the symbols of encryption sync (ES)
unfoldable pub sync_symbols : EncryptionSync → List Sym
sync_symbols sync = symbols_in 16 (sync_word_bits sync)

-- the symbols of the header word of an HDU
unfoldable pub header_symbols : HeaderWord → List Sym
header_symbols word = symbols_in 20 (header_word_bits word)

-- the link control (LC) of symbols
unfoldable pub link_of_symbols : List Sym → LinkControl
link_of_symbols symbols = link_of_bits (symbol_bits symbols)

-- the encryption sync (ES) of symbols
unfoldable pub sync_of_symbols : List Sym → EncryptionSync
sync_of_symbols symbols = sync_of_bits (symbol_bits symbols)

-- the header word of an HDU, of symbols
unfoldable pub header_of_symbols : List Sym → HeaderWord
header_of_symbols symbols = header_of_bits (symbol_bits symbols)

-- nine octets
pub record AreNineOctets (octets : List ℕ) : Type 0 where
  pub long : length octets ≡ 9
  pub small : All (λ octet. octet < 256) octets

-- the invariant of link control (LC)
pub record IsLinkControl (link : LinkControl) : Type 0 where
  pub octets : AreNineOctets link.0

-- the invariant of encryption sync (ES)
pub record IsEncryptionSync (sync : EncryptionSync) : Type 0 where
  pub mi : AreNineOctets sync.mi
  pub algid : sync.algid < 2 ^ 8
  pub kid : sync.kid < 2 ^ 16

-- the invariant of the header word of an HDU
pub record IsHeaderWord (word : HeaderWord) : Type 0 where
  pub mi : AreNineOctets word.mi
  pub mfid : word.mfid < 2 ^ 8
  pub algid : word.algid < 2 ^ 8
  pub kid : word.kid < 2 ^ 16
  pub tgid : word.tgid < 2 ^ 16

-- the laws of the symbols of a word: there are `count` of them, the word is determined by them, and each part of the word fits its bits
pub record AreSymbolsOf {W : Type 0} (symbols_of : W → List Sym) (of_symbols : List Sym → W) (Keeps : W → Type 0)
    (count : ℕ) (word : W) (symbols : List Sym) : Type 0 where
  pub value : symbols ≡ symbols_of word
  pub len : length symbols ≡ count
  pub back : of_symbols symbols ≡ word
  pub sound : Keeps word

-- a word is the word of symbols, and they are its symbols
pub record IsWordOf {W : Type 0} (symbols_of : W → List Sym) (of_symbols : List Sym → W) (symbols : List Sym) (word : W) : Type 0 where
  pub value : word ≡ of_symbols symbols
  pub back : symbols_of word ≡ symbols
