-- The needs of the bits from a position on: the laws of one type of data unit at a time, joined after the decoding of the NID. An added type has to
-- meet `IsHead` and nothing else.
use Rattle.std.proofs.Common.{◌≡◌, ◌≢◌, ℕ, ◌%◌, ◌<◌, ◌≤◌, inl, inr, Bool, true, false, cond, eqb, ltb, List, ◌++◌, length, Option, Some, None, Result, Ok, Err, refl, ap, sym, ◌∙◌, subst, arith, length-append}
use Rattle.std.proofs.lemmas.Bool.{cases_Bool, cases_eq, cases_lt, lt-ltb, le-ltb, ne_eqb, cond-true, cond-false}
use Rattle.p25_status.specs.{Sync.{has_sync}, declared.fields.Field.{Field}, declared.fields.Field.TheVariants.{Nid, Duid}}
use Rattle.p25_status.proofs.SyncLaws.{has_sync-length, has_sync-append}
use Rattle.p25_unit_front.specs.Front.{identifier_of}
use Rattle.p25_unit_front.proofs.FrontLaws.{identifier_of-append}
use Rattle.p25_voice_units.specs.Lengths.{voice_length_of}
use Rattle.p25_packet_blocks.specs.{declared.head.PacketHead.{PacketHead}, Heads.{head_blocks}, Lengths.{packet_sent_length}, UnitReading.{sent_head_of}}
use Rattle.p25_packet_blocks.proofs.{HeadLaws.{head_blocks-lt}, UnitLaws.{sent_head_of-append}}
use Rattle.p25_units.specs.{Units.{sent_length}, Needs.{length_need, voice_need, head_need, packet_need, kind_need, identified_need, synced_need, need_of, is_known}, declared.needs.Need.{Need}}
use Rattle.p25_units.specs.declared.needs.Need.TheVariants.{NoSync, More, Length, NoLength}
use Rattle.p25_units.proofs.UnitsLaws.{IsSentLength, IsSentLength-voice}

-- the need after an identifier, by a rule for the bits that are there
pub record IsHead (head : List Bool → Need) : Type 0 where
  pub seen : (bits : List Bool) → head bits ≡ NoSync → ⊥
  pub few : (bits : List Bool) (count : ℕ) → head bits ≡ More count → (length bits < count) × (count ≤ 25920)
  pub there : (bits : List Bool) (count : ℕ) → head bits ≡ Length count → (72 < count) × (count ≤ 25920) × (count % 72 ≡ 0) × (count ≤ length bits)
  pub stays : (bits more : List Bool) → is_known (head bits) ≡ true → head (bits ++ more) ≡ head bits
  pub waits : (bits more : List Bool) (count : ℕ) → head bits ≡ More count → length (bits ++ more) < count → head (bits ++ more) ≡ More count

-- a rule that says the same
pub IsHead-same : (head other : List Bool → Need) → ((bits : List Bool) → other bits ≡ head bits) → IsHead head → IsHead other
IsHead-same head other same is = record {
  seen = λ bits e. is.seen bits (sym (same bits) ∙ e);
  few = λ bits count e. is.few bits count (sym (same bits) ∙ e);
  there = λ bits count e. is.there bits count (sym (same bits) ∙ e);
  stays = λ bits more known. same (bits ++ more) ∙ is.stays bits more (ap is_known (sym (same bits)) ∙ known) ∙ sym (same bits);
  waits = λ bits more count e short. same (bits ++ more) ∙ is.waits bits more count (sym (same bits) ∙ e) short;
}

-- no data unit
pub IsHead-none : (field : Field) → IsHead (λ bits. NoLength field)
IsHead-none field = record {
  seen = λ bits e. cc;
  few = λ bits count e. absurd (cc);
  there = λ bits count e. absurd (cc);
  stays = λ bits more known. refl;
  waits = λ bits more count e short. absurd (cc);
}

-- a data unit of a known length
pub length_need-more : (count have : ℕ) → have < count → length_need count have ≡ More count
unfolding length_need
length_need-more count have short = cond-true (ltb have count) (More count) (Length count) (lt-ltb have count short)

pub length_need-there : (count have : ℕ) → count ≤ have → length_need count have ≡ Length count
unfolding length_need
length_need-there count have enough = cond-false (ltb have count) (More count) (Length count) (le-ltb have count enough)

pub length_need-cases : (P : Need → Type 0) (count have : ℕ) → (have < count → P (More count)) → (count ≤ have → P (Length count)) → P (length_need count have)
length_need-cases P count have more there =
    elim (cases_lt have count) [
      | inl short ↦ subst P (sym (length_need-more count have short)) (more short)
      | inr enough ↦ subst P (sym (length_need-there count have enough)) (there enough)
    ]

pub IsHead-length : (count : ℕ) → 72 < count → count ≤ 25920 → count % 72 ≡ 0 → IsHead (λ bits. length_need count (length bits))
IsHead-length count some most whole = record {
  seen = λ bits. length_need-cases (λ need. need ≡ NoSync → ⊥) count (length bits) (λ short e. cc) (λ enough e. cc);
  few = λ bits n. length_need-cases (λ need. need ≡ More n → (length bits < n) × (n ≤ 25920)) count
      (length bits) (λ short e. let same : count ≡ n = cc in (omega arith, omega arith)) (λ enough e. absurd (cc));
  there = λ bits n. length_need-cases (λ need. need ≡ Length n → (72 < n) × (n ≤ 25920) × (n % 72 ≡ 0) × (n ≤ length bits)) count (length bits)
      (λ short e. absurd (cc))
      (λ enough e. let same : count ≡ n = cc in (omega arith, omega arith, ap (λ m. m % 72) (sym same) ∙ whole, omega arith));
  stays = λ bits more. length_need-cases (λ need. is_known need ≡ true → length_need count (length (bits ++ more)) ≡ need) count (length bits)
      (λ short known. absurd (cc))
      (λ enough known. length_need-there count (length (bits ++ more)) (omega (arith, length-append bits more)));
  waits = λ bits more n. length_need-cases (λ need. need ≡ More n → length (bits ++ more) < n → length_need count (length (bits ++ more)) ≡ More n) count (length bits)
      (λ short e few. let same : count ≡ n = cc in length_need-more count (length (bits ++ more)) (omega arith) ∙ ap More same)
      (λ enough e few. absurd (cc));
}

-- a number of bits first, and then by a rule that depends on these
IsHead-after : (n : ℕ) (head : List Bool → Need) (rule : List Bool → List Bool → Need) → n ≤ 25920 → ((bits : List Bool) → length bits < n → head bits ≡ More n)
    → ((bits : List Bool) → n ≤ length bits → head bits ≡ rule bits bits)
    → ((bits : List Bool) → IsHead (rule bits)) → ((bits more all : List Bool) → n ≤ length bits → rule (bits ++ more) all ≡ rule bits all) → IsHead head
IsHead-after n head rule most short long is same = record {
  seen = λ bits. cases (λ need. need ≡ NoSync → ⊥) bits (λ few e. cc) (λ enough. (is bits).seen bits);
  few = λ bits count. cases (λ need. need ≡ More count → (length bits < count) × (count ≤ 25920)) bits
      (λ few e. let known : n ≡ count = cc in (omega arith, omega arith))
      (λ enough. (is bits).few bits count);
  there = λ bits count. cases (λ need. need ≡ Length count → (72 < count) × (count ≤ 25920) × (count % 72 ≡ 0) × (count ≤ length bits)) bits
      (λ few e. absurd (cc))
      (λ enough. (is bits).there bits count);
  stays = λ bits more. cases (λ need. is_known need ≡ true → head (bits ++ more) ≡ need) bits (λ few known. absurd (cc)) (λ enough known. longer bits more enough ∙ (is bits).stays bits more known);
  waits = λ bits more count. cases (λ need. need ≡ More count → length (bits ++ more) < count → head (bits ++ more) ≡ More count) bits
      (λ few e fits. let known : n ≡ count = cc in short (bits ++ more) (omega arith) ∙ ap More known)
      (λ enough e fits. longer bits more enough ∙ (is bits).waits bits more count e fits);
}
  where
    cases : (P : Need → Type 0) (bits : List Bool) → (length bits < n → P (More n)) → (n ≤ length bits → P (rule bits bits)) → P (head bits)
    cases P bits of_short of_long = elim (cases_lt (length bits) n) [
      | inl few ↦ subst P (sym (short bits few)) (of_short few)
      | inr enough ↦ subst P (sym (long bits enough)) (of_long enough)
    ]

    longer : (bits more : List Bool) → n ≤ length bits → head (bits ++ more) ≡ rule bits (bits ++ more)
    longer bits more enough = long (bits ++ more) (omega (arith, length-append bits more)) ∙ same bits more (bits ++ more) enough

-- a voice data unit
pub voice_need-none : (have : ℕ) → voice_need None have ≡ NoLength Duid
unfolding voice_need
voice_need-none have = refl

pub voice_need-some : (bare have : ℕ) → voice_need (Some bare) have ≡ length_need (sent_length bare) have
unfolding voice_need
voice_need-some bare have = refl

IsHead-voice : (found : Option ℕ) → ((bare : ℕ) → found ≡ Some bare → IsSentLength bare) → IsHead (λ bits. voice_need found (length bits))
unfolding voice_need
IsHead-voice None lengths = IsHead-none Duid
IsHead-voice (Some bare) lengths =
    let is = lengths bare refl in IsHead-length (sent_length bare) (omega (arith, is.sent, is.least)) (omega (arith, is.sent, is.most)) (omega (arith, is.sent))

-- a packet whose header was decoded, or fails
pub head_need-bad : (field : Field) (have : ℕ) → head_need (Err field) have ≡ NoLength field
unfolding head_need
head_need-bad field have = refl

pub head_need-good : (head : PacketHead) (have : ℕ) → head_need (Ok head) have ≡ length_need (packet_sent_length (head_blocks head)) have
unfolding head_need
head_need-good head have = refl

IsHead-head : (reading : Result PacketHead Field) → IsHead (λ bits. head_need reading (length bits))
unfolding head_need
IsHead-head (Err field) = IsHead-none field
IsHead-head (Ok head) = IsHead-length (packet_sent_length (head_blocks head)) (omega arith) (omega (arith, head_blocks-lt head)) (omega arith)

-- a packet
pub packet_need-short : (bits : List Bool) → length bits < 316 → packet_need bits ≡ More 316
unfolding packet_need
packet_need-short bits short = cond-true (ltb (length bits) 316) (More 316) (head_need (sent_head_of bits) (length bits)) (lt-ltb (length bits) 316 short)

pub packet_need-long : (bits : List Bool) → 316 ≤ length bits → packet_need bits ≡ head_need (sent_head_of bits) (length bits)
unfolding packet_need
packet_need-long bits long = cond-false (ltb (length bits) 316) (More 316) (head_need (sent_head_of bits) (length bits)) (le-ltb (length bits) 316 long)

IsHead-packet : IsHead packet_need
IsHead-packet =
    IsHead-after 316 packet_need (λ bits all. head_need (sent_head_of bits) (length all)) (omega arith) packet_need-short packet_need-long (λ bits. IsHead-head (sent_head_of bits))
    (λ bits more all long. ap (λ reading. head_need reading (length all)) (sent_head_of-append bits more long))

-- the data unit of a DUID
pub kind_need-packet : (bits : List Bool) → kind_need 0xC bits ≡ packet_need bits
unfolding kind_need
kind_need-packet bits = refl

pub kind_need-unpacked : (duid : ℕ) (bits : List Bool) → duid ≢ 0xC → kind_need duid bits ≡ voice_need (voice_length_of duid) (length bits)
unfolding kind_need
kind_need-unpacked duid bits other = cond-false (eqb duid 0xC) (packet_need bits) (voice_need (voice_length_of duid) (length bits)) (ne_eqb duid 0xC other)

pub IsHead-kind : (duid : ℕ) → IsHead (kind_need duid)
IsHead-kind duid =
    elim (cases_eq duid 0xC) [
      | inl is ↦ subst (λ d. IsHead (kind_need d)) (sym is) (IsHead-same packet_need (kind_need 0xC) kind_need-packet IsHead-packet)
      | inr other ↦ IsHead-same (λ bits. voice_need (voice_length_of duid) (length bits))
          (kind_need duid) (λ bits. kind_need-unpacked duid bits other) (IsHead-voice (voice_length_of duid) (IsSentLength-voice duid))
    ]

-- a voice data unit has another DUID than a packet
no_voice : voice_length_of 0xC ≡ None
unfolding voice_length_of
no_voice = refl

pub voice-other : (duid bare : ℕ) → voice_length_of duid ≡ Some bare → duid ≢ 0xC
voice-other duid bare is packet = let two : None ≡ Some bare = sym no_voice ∙ ap voice_length_of (sym packet) ∙ is in absurd (cc)

pub kind_need-voice : (duid bare : ℕ) (bits : List Bool) → voice_length_of duid ≡ Some bare → kind_need duid bits ≡ length_need (sent_length bare) (length bits)
kind_need-voice duid bare bits is = kind_need-unpacked duid bits (voice-other duid bare is) ∙ ap (λ found. voice_need found (length bits)) is ∙ voice_need-some bare (length bits)

-- after an identifier, or none
pub identified_need-none : (bits : List Bool) → identified_need None bits ≡ NoLength Nid
unfolding identified_need
identified_need-none bits = refl

pub identified_need-some : (nid : ℕ × ℕ) (bits : List Bool) → identified_need (Some nid) bits ≡ kind_need nid.1 bits
unfolding identified_need
identified_need-some nid bits = refl

IsHead-identified : (read : Option (ℕ × ℕ)) → IsHead (identified_need read)
IsHead-identified None = IsHead-same (λ bits. NoLength Nid) (identified_need None) identified_need-none (IsHead-none Nid)
IsHead-identified (Some nid) = IsHead-same (kind_need nid.1) (identified_need (Some nid)) (identified_need-some nid) (IsHead-kind nid.1)

-- at a sync
pub synced_need-short : (bits : List Bool) → length bits < 114 → synced_need bits ≡ More 114
unfolding synced_need
synced_need-short bits short = cond-true (ltb (length bits) 114) (More 114) (identified_need (identifier_of bits) bits) (lt-ltb (length bits) 114 short)

pub synced_need-long : (bits : List Bool) → 114 ≤ length bits → synced_need bits ≡ identified_need (identifier_of bits) bits
unfolding synced_need
synced_need-long bits long = cond-false (ltb (length bits) 114) (More 114) (identified_need (identifier_of bits) bits) (le-ltb (length bits) 114 long)

pub synced_need-read : (bits : List Bool) (read : Option (ℕ × ℕ)) → 114 ≤ length bits → identifier_of bits ≡ read → synced_need bits ≡ identified_need read bits
synced_need-read bits read long is = synced_need-long bits long ∙ ap (λ r. identified_need r bits) is

IsHead-synced : IsHead synced_need
IsHead-synced =
    IsHead-after 114 synced_need (λ bits. identified_need (identifier_of bits)) (omega arith) synced_need-short synced_need-long (λ bits. IsHead-identified (identifier_of bits))
    (λ bits more all long. ap (λ read. identified_need read all) (identifier_of-append bits more long))

-- at any position
pub need_of-short : (bits : List Bool) → length bits < 48 → need_of bits ≡ More 48
unfolding need_of
need_of-short bits short = cond-true (ltb (length bits) 48) (More 48) (cond (has_sync bits) (synced_need bits) NoSync) (lt-ltb (length bits) 48 short)

need_of-long : (bits : List Bool) → 48 ≤ length bits → need_of bits ≡ cond (has_sync bits) (synced_need bits) NoSync
unfolding need_of
need_of-long bits long = cond-false (ltb (length bits) 48) (More 48) (cond (has_sync bits) (synced_need bits) NoSync) (le-ltb (length bits) 48 long)

pub need_of-unsynced : (bits : List Bool) → 48 ≤ length bits → has_sync bits ≡ false → need_of bits ≡ NoSync
need_of-unsynced bits long no' = need_of-long bits long ∙ cond-false (has_sync bits) (synced_need bits) NoSync no'

pub need_of-synced : (bits : List Bool) → has_sync bits ≡ true → need_of bits ≡ synced_need bits
need_of-synced bits yes' = need_of-long bits (has_sync-length bits yes') ∙ cond-true (has_sync bits) (synced_need bits) NoSync yes'

-- the need, by cases
need_of-cases : (P : Need → Type 0) (bits : List Bool) → (length bits < 48 → P (More 48)) → P NoSync → (has_sync bits ≡ true → P (synced_need bits)) → P (need_of bits)
need_of-cases P bits short unsynced synced =
    elim (cases_lt (length bits) 48) [
      | inl few ↦ subst P (sym (need_of-short bits few)) (short few)
      | inr enough ↦ elim (cases_Bool (has_sync bits)) [
        | inr no' ↦ subst P (sym (need_of-unsynced bits enough no')) unsynced
        | inl yes' ↦ subst P (sym (need_of-synced bits yes')) (synced yes')
      ]
    ]

-- the laws for a scanner
pub need_of-few : (bits : List Bool) (count : ℕ) → need_of bits ≡ More count → (length bits < count) × (count ≤ 25920)
need_of-few bits count =
    need_of-cases (λ need. need ≡ More count → (length bits < count) × (count ≤ 25920)) bits
    (λ few e. let same : 48 ≡ count = cc in (omega arith, omega arith))
    (λ e. absurd (cc))
    (λ yes'. IsHead-synced.few bits count)

pub need_of-there : (bits : List Bool) (count : ℕ) → need_of bits ≡ Length count → (72 < count) × (count ≤ 25920) × (count % 72 ≡ 0) × (count ≤ length bits)
need_of-there bits count =
    need_of-cases (λ need. need ≡ Length count → (72 < count) × (count ≤ 25920) × (count % 72 ≡ 0) × (count ≤ length bits)) bits
    (λ few e. absurd (cc))
    (λ e. absurd (cc))
    (λ yes'. IsHead-synced.there bits count)

pub need_of-seen : (bits : List Bool) → has_sync bits ≡ true → need_of bits ≡ NoSync → ⊥
need_of-seen bits yes' e = IsHead-synced.seen bits (sym (need_of-synced bits yes') ∙ e)

-- more bits after a sync
synced-append : (bits more : List Bool) → has_sync bits ≡ true → need_of (bits ++ more) ≡ synced_need (bits ++ more)
synced-append bits more yes' = need_of-synced (bits ++ more) (has_sync-append bits more (has_sync-length bits yes') ∙ yes')

pub need_of-stays : (bits more : List Bool) → has_sync bits ≡ true → is_known (need_of bits) ≡ true → need_of (bits ++ more) ≡ need_of bits
need_of-stays bits more yes' known =
    let here = need_of-synced bits yes' in
    synced-append bits more yes' ∙ IsHead-synced.stays bits more (ap is_known (sym here) ∙ known) ∙ sym here

pub need_of-waits : (bits more : List Bool) (count : ℕ) → has_sync bits ≡ true → need_of bits ≡ More count → length (bits ++ more) < count → need_of (bits ++ more) ≡ More count
need_of-waits bits more count yes' e short = synced-append bits more yes' ∙ IsHead-synced.waits bits more count (sym (need_of-synced bits yes') ∙ e) short

-- a data unit whose length is known has an identifier
pub record IsIdentified (bits : List Bool) (count : ℕ) : Type 0 where
  pub long : 114 ≤ length bits
  pub nid : ℕ × ℕ
  pub read : identifier_of bits ≡ Some nid
  pub kind : kind_need nid.1 bits ≡ Length count

identified_in : (bits : List Bool) (count : ℕ) (read : Option (ℕ × ℕ)) → 114 ≤ length bits → identifier_of bits ≡ read → identified_need read bits ≡ Length count → IsIdentified bits count
identified_in bits count None long is e = let two : NoLength Nid ≡ Length count = sym (identified_need-none bits) ∙ e in absurd (cc)
identified_in bits count (Some nid) long is e = record { long = long; nid = nid; read = is; kind = sym (identified_need-some nid bits) ∙ e }

pub IsIdentified-from : (bits : List Bool) (count : ℕ) → need_of bits ≡ Length count → IsIdentified bits count
IsIdentified-from bits count =
    need_of-cases (λ need. need ≡ Length count → IsIdentified bits count) bits (λ few e. absurd (cc)) (λ e. absurd (cc)) (λ yes' e. elim (cases_lt (length bits) 114) [
      | inl few ↦ let two : More 114 ≡ Length count = sym (synced_need-short bits few) ∙ e in absurd (cc)
      | inr long ↦ identified_in bits count (identifier_of bits) long refl (sym (synced_need-long bits long) ∙ e)
    ])
