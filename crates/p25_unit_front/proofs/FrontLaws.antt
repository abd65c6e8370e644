-- The laws of a data unit's sync and NID: its two parts, their form by positions, and their positions in a transmitted data unit. Each law splits
-- lists at known lengths.
use Rattle.std.proofs.Common.{◌≡◌, ◌↔◌, ◌<◌, Option, Some, ℕ, ◌+◌, ◌*◌, ◌≤◌, Bool, List, ◌++◌, length, take, drop, ap, ap₂, sym, ◌∙◌, subst, arith, length-append, length-drop, length-take}
use Rattle.std.proofs.{Math.Seq.{take-add, take-append-add, take-length}, lemmas.List.{length-take-le, take-append-drop, drop-drop, take-append-le, take-take, take_at, drop_at}}
use Rattle.p25_bits.specs.{Bits.{bits_of, field_of, part}, Distance.{distance_of}}
use Rattle.p25_bits.proofs.{NumbersLaws.{field-lt}, PartLaws.{part-take}, DistanceLaws.{distance_of-same, distance_by-append, distance_by-le}}
use Rattle.std.specs.Bool.{beq}
use Rattle.p25_code.specs.Words.{IsEncoding}
use Rattle.p25_status.specs.{Sync.{sync_bits}, Woven.{bare_of}}
use Rattle.p25_status.proofs.{SyncLaws.{length-sync_bits}, WovenLaws.{part-bare_of}}
use Rattle.p25_bch_nid.specs.{Bch63.{IsBch63}, Bch63Laws.{one_word}, NidReading.{IsNidFound, IsNidReading, nid_reading_of}, NidWord.{nid_word}}
use Rattle.p25_bch_nid.proofs.{NidReadingLaws.{IsNidReading-nid_reading_of, nid_reading_of-word}, NidWordLaws.{drop-nid_word, IsEncoding-nid_word, length-nid_word, identifier_of_word-encoding}}
use Rattle.p25_unit_front.specs.Front.{unit_front, IsFront, identifier_bits, identifier_of, front_of, front_fixes_of}

-- the parts of sync and NID
pub take-unit_front : (nac duid : ℕ) → take 48 (unit_front nac duid) ≡ sync_bits
unfolding unit_front
take-unit_front nac duid = take_at sync_bits (nid_word nac duid) 48 length-sync_bits

pub drop-unit_front : (nac duid : ℕ) → drop 48 (unit_front nac duid) ≡ nid_word nac duid
unfolding unit_front
drop-unit_front nac duid = drop_at sync_bits (nid_word nac duid) 48 length-sync_bits

pub length-unit_front : (nac duid : ℕ) → length (unit_front nac duid) ≡ 112
unfolding unit_front
length-unit_front nac duid = length-append sync_bits (nid_word nac duid) ∙ omega (arith, length-sync_bits, length-nid_word nac duid)

-- sync and NID without the last bit
pub unit_front-111 : (nac duid : ℕ) → take 111 (unit_front nac duid) ≡ sync_bits ++ take 63 (nid_word nac duid)
unfolding unit_front
unit_front-111 nac duid =
    let place : 111 ≡ length sync_bits + 63 = omega (arith, length-sync_bits) in
    ap (λ n. take n (sync_bits ++ nid_word nac duid)) place ∙ take-append-add sync_bits (nid_word nac duid) 63

-- sync and NID have their form
pub IsFront-unit_front : (nac duid : ℕ) → IsFront nac duid (unit_front nac duid)
IsFront-unit_front nac duid = record {
  long = length-unit_front nac duid;
  sync = take-unit_front nac duid;
  word = subst (λ (w : List Bool). IsEncoding IsBch63 16 (bits_of 12 nac ++ bits_of 4 duid) (take 63 w)) (sym (drop-unit_front nac duid)) (IsEncoding-nid_word nac duid);
  parity =
      ap (take 1) (sym (drop-drop 63 48 (unit_front nac duid)) ∙ ap (drop 63) (drop-unit_front nac duid) ∙ drop-nid_word nac duid);
}

-- 112 bits in four parts
parts_of : (bits : List Bool) → length bits ≡ 112 → bits ≡ take 48 bits ++ (part 48 63 bits ++ part 111 1 bits)
parts_of bits long =
    let last : length (drop 111 bits) ≡ 1 = omega (arith, length-drop 111 bits) in
    let tail : drop 63 (drop 48 bits) ≡ part 111 1 bits = drop-drop 63 48 bits ∙ sym (ap (λ n. take n (drop 111 bits)) (sym last) ∙ take-length (drop 111 bits)) in
    sym (take-append-drop 48 bits)
    ∙ ap (λ (xs : List Bool). take 48 bits ++ xs) (sym (take-append-drop 63 (drop 48 bits)) ∙ ap (λ (xs : List Bool). part 48 63 bits ++ xs) tail)

-- the only bits of the form are sync and NID
pub unit_front-only : (nac duid : ℕ) (bits : List Bool) → IsFront nac duid bits → bits ≡ unit_front nac duid
unit_front-only nac duid bits is =
    let here = IsFront-unit_front nac duid in
    let word = one_word (part 48 63 bits) (part 48 63 (unit_front nac duid)) is.word.word_of_set here.word.word_of_set (is.word.begins ∙ sym here.word.begins) in
    parts_of bits is.long
    ∙ ap₂ (λ (xs ys : List Bool). xs ++ ys) (is.sync ∙ sym here.sync) (ap₂ (λ (xs ys : List Bool). xs ++ ys) word (is.parity ∙ sym here.parity))
    ∙ sym (parts_of (unit_front nac duid) here.long)

pub IsFront-iff : (nac duid : ℕ) (bits : List Bool) → IsFront nac duid bits ↔ (bits ≡ unit_front nac duid)
IsFront-iff nac duid bits = (unit_front-only nac duid bits, λ same. subst (λ (xs : List Bool). IsFront nac duid xs) (sym same) (IsFront-unit_front nac duid))

-- the identifier of a transmitted data unit has 64 bits
pub length-identifier_bits : (sent : List Bool) → 114 ≤ length sent → length (identifier_bits sent) ≡ 64
unfolding identifier_bits
length-identifier_bits sent long =
    length-append (part 48 22 sent) (part 72 42 sent)
    ∙ omega (arith, length-take-le 22 (drop 48 sent) (omega (arith, length-drop 48 sent)), length-take-le 42 (drop 72 sent) (omega (arith, length-drop 72 sent)))

-- it depends on the first 114 bits alone
pub identifier_bits-take : (count : ℕ) (sent : List Bool) → 114 ≤ count → identifier_bits (take count sent) ≡ identifier_bits sent
unfolding identifier_bits
identifier_bits-take count sent long = ap₂ (λ (xs ys : List Bool). xs ++ ys) (part-take 48 22 count sent (omega arith)) (part-take 72 42 count sent (omega arith))

pub identifier_of-take : (count : ℕ) (sent : List Bool) → 114 ≤ count → identifier_of (take count sent) ≡ identifier_of sent
unfolding identifier_of
identifier_of-take count sent long = ap nid_reading_of (identifier_bits-take count sent long)

pub identifier_of-append : (sent more : List Bool) → 114 ≤ length sent → identifier_of (sent ++ more) ≡ identifier_of sent
identifier_of-append sent more long =
    sym (identifier_of-take 114 (sent ++ more) (omega arith)) ∙ ap identifier_of (take-append-le 114 sent more long) ∙ identifier_of-take 114 sent (omega arith)

-- sync and NID of a transmitted data unit without the last bit
pub front_of-111 : (sent : List Bool) → 48 ≤ length sent → take 111 (front_of sent) ≡ take 48 sent ++ take 63 (identifier_bits sent)
unfolding front_of
front_of-111 sent long =
    let place : 111 ≡ length (take 48 sent) + 63 = omega (arith, length-take-le 48 sent long) in
    ap (λ n. take n (take 48 sent ++ identifier_bits sent)) place ∙ take-append-add (take 48 sent) (identifier_bits sent) 63

-- the fixes of sync and NID are those of the sync and those of the NID
pub front_fixes_of-parts : (nid : ℕ × ℕ) (sent : List Bool) → 48 ≤ length sent
    → front_fixes_of nid sent ≡ distance_of (take 48 sent) sync_bits + distance_of (take 63 (identifier_bits sent)) (take 63 (nid_word nid.0 nid.1))
unfolding front_fixes_of
front_fixes_of-parts nid sent long =
    ap₂ (λ (xs ys : List Bool). distance_of xs ys) (front_of-111 sent long) (unit_front-111 nid.0 nid.1)
    ∙ distance_by-append beq (take 48 sent) (take 63 (identifier_bits sent)) sync_bits (take 63 (nid_word nid.0 nid.1)) (length-take-le 48 sent long ∙ sym length-sync_bits)

-- if sync and NID are the transmitted ones there are none
pub front_fixes_of-none : (nid : ℕ × ℕ) (sent : List Bool) → front_of sent ≡ unit_front nid.0 nid.1 → front_fixes_of nid sent ≡ 0
unfolding front_fixes_of
front_fixes_of-none nid sent same = ap (λ (xs : List Bool). distance_of (take 111 xs) (take 111 (unit_front nid.0 nid.1))) same ∙ distance_of-same (take 111 (unit_front nid.0 nid.1))

-- sync and NID of a transmitted data unit are those of its bits without status symbols
pub front_of-bare_of : (blocks : ℕ) (sent : List Bool) → 2 ≤ blocks → length sent ≡ 72 * blocks → take 112 (bare_of sent) ≡ front_of sent
unfolding front_of identifier_bits
front_of-bare_of blocks sent two long =
    let bare = bare_of sent in
    take-add 48 64 bare
    ∙ ap₂ (λ (xs ys : List Bool). xs ++ ys)
    (part-bare_of blocks 0 0 48 sent long (omega arith) (omega arith))
    (take-add 22 42 (drop 48 bare)
    ∙ ap₂ (λ (xs ys : List Bool). xs ++ ys)
    (part-bare_of blocks 0 48 22 sent long (omega arith) (omega arith))
    (ap (take 42) (drop-drop 22 48 bare) ∙ part-bare_of blocks 1 0 42 sent long (omega arith) (omega arith)))

-- a data unit whose sync and NID are those transmitted for an identifier has the sync and that identifier
pub front_of-sync : (nac duid : ℕ) (sent : List Bool) → 48 ≤ length sent → front_of sent ≡ unit_front nac duid → take 48 sent ≡ sync_bits
unfolding front_of
front_of-sync nac duid sent long same =
    sym (take_at (take 48 sent) (identifier_bits sent) 48 (length-take-le 48 sent long)) ∙ ap (take 48) same ∙ take-unit_front nac duid

pub front_of-identifier : (nac duid : ℕ) (sent : List Bool) → 48 ≤ length sent → front_of sent ≡ unit_front nac duid → identifier_bits sent ≡ nid_word nac duid
unfolding front_of
front_of-identifier nac duid sent long same =
    sym (drop_at (take 48 sent) (identifier_bits sent) 48 (length-take-le 48 sent long)) ∙ ap (drop 48) same ∙ drop-unit_front nac duid

-- a decoded identifier has 12 and 4 bits
pub identifier_of-fits : (sent : List Bool) (nid : ℕ × ℕ) → identifier_of sent ≡ Some nid → (nid.0 < 4096) × (nid.1 < 16)
unfolding identifier_of IsNidReading
identifier_of-fits sent nid is =
    let found : IsNidFound (take 63 (identifier_bits sent)) nid = subst (λ (r : Option (ℕ × ℕ)). IsNidReading (identifier_bits sent) r) is (IsNidReading-nid_reading_of (identifier_bits sent)) in
    let nac : nid.0 ≡ field_of (part 0 12 found.word) = ap (λ n. n.0) found.begins in
    let duid : nid.1 ≡ field_of (part 12 4 found.word) = ap (λ n. n.1) found.begins in
    (omega (arith, nac, field-lt 12 0 found.word), omega (arith, duid, field-lt 4 12 found.word))

-- if a codeword lies within 11 bits, the decoding is its identifier
pub identifier_of-near : (nac duid : ℕ) (sent : List Bool) → nac < 4096
    → duid < 16 → 114 ≤ length sent → distance_of (take 63 (identifier_bits sent)) (take 63 (nid_word nac duid)) ≤ 11 → identifier_of sent ≡ Some (nac, duid)
unfolding identifier_of
identifier_of-near nac duid sent nac_fits duid_fits long near =
    let word = take 63 (nid_word nac duid) in
    let encoding = IsEncoding-nid_word nac duid in
    nid_reading_of-word (identifier_bits sent) word (omega (arith, length-identifier_bits sent long)) encoding.word_of_set near
    ∙ ap Some (identifier_of_word-encoding nac duid word nac_fits duid_fits encoding)

-- the fixes of sync and NID depend on the first 114 bits alone
pub front_fixes_of-take : (nid : ℕ × ℕ) (count : ℕ) (sent : List Bool) → 114 ≤ count → front_fixes_of nid (take count sent) ≡ front_fixes_of nid sent
unfolding front_fixes_of front_of
front_fixes_of-take nid count sent long =
    ap (λ (xs : List Bool). distance_of (take 111 xs) (take 111 (unit_front nid.0 nid.1)))
    (ap₂ (λ (xs ys : List Bool). xs ++ ys) (take-take 48 count sent (omega arith)) (identifier_bits-take count sent long))

pub front_fixes_of-append : (nid : ℕ × ℕ) (sent more : List Bool) → 114 ≤ length sent → front_fixes_of nid (sent ++ more) ≡ front_fixes_of nid sent
front_fixes_of-append nid sent more long =
    sym (front_fixes_of-take nid 114 (sent ++ more) (omega arith)) ∙ ap (front_fixes_of nid) (take-append-le 114 sent more long) ∙ front_fixes_of-take nid 114 sent (omega arith)

-- there are at most 111
pub front_fixes_of-le : (nid : ℕ × ℕ) (sent : List Bool) → front_fixes_of nid sent ≤ 111
unfolding front_fixes_of
front_fixes_of-le nid sent = omega (arith, distance_by-le beq (take 111 (front_of sent)) (take 111 (unit_front nid.0 nid.1)), length-take 111 (front_of sent))
