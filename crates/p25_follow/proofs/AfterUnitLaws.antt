-- After a data unit of fewer than 316 bits nothing is expected, because it is a TDU or a data unit that is cut. So the 316 bits from the beginning of
-- a data unit on are unchanged. By induction on the items.
use Rattle.std.proofs.Common.{◌≡◌, ◌≢◌, ℕ, ◌+◌, ◌<◌, ◌≤◌, Bool, true, false, cond, ◌&&◌, inl, inr, List, [], ◌++◌, length, take, drop, Option, Some, None, Result, Ok, Err, refl, sym, ap, subst, ◌∙◌, arith, append_assoc, append-nil, length-append}
use Rattle.std.proofs.{lemmas.Bool.{cases_eq, cases_lt, ne_eqb}, lemmas.List.{length-take-le, take-append-drop, take-append-le}}
use Rattle.std.specs.{Prelude.{nat_eq, nat_lt}, Option.{option_or}}
use Rattle.p25_status.specs.declared.fields.Field.{Field}
use Rattle.p25_unit_front.proofs.FrontLaws.{identifier_of-fits, identifier_of-take}
use Rattle.p25_voice_units.specs.Lengths.{voice_length_of}
use Rattle.p25_packet_blocks.specs.{declared.head.PacketHead.{PacketHead}, Heads.{head_blocks}, Lengths.{packet_sent_length}, UnitReading.{sent_head_of}}
use Rattle.p25_units.specs.{Items.{covered, unit_item_of}, Needs.{head_need, kind_need, length_need, voice_need}, Units.{sent_length}}
use Rattle.p25_units.specs.declared.needs.Need.TheVariants.{Length, More, NoLength}
use Rattle.p25_units.proofs.ItemsLaws.{covered-unit_item_of}
use Rattle.p25_units.proofs.NeedsLaws.{IsIdentified-from, head_need-bad, head_need-good, kind_need-packet, kind_need-unpacked, length_need-cases, need_of-there, packet_need-long, packet_need-short, voice_need-none, voice_need-some}
use Rattle.p25_stream.specs.Items.{first_item, items_of}
use Rattle.p25_stream.proofs.ItemsLaws.{covered-first_item, first_item-cases}
use Rattle.p25_follow.specs.{Chains.{chain_by}, Expected.{expected_after, next_link}, Followed.{followed_by, is_rest, unit_name}, Steps.{fits_of, is_sure, step_of}, Told.{is_nothing, told_of}}
use Rattle.p25_follow.proofs.{AlikeLaws.{Agree, agree-append, agree-less}, ChainLaws.{chain_by-none, chain_by-stop}, FollowingLaws.{along-items, followed-end, followed-rest, followed-unit}, FoundLaws.{found-unit}}
use Rattle.p25_follow.proofs.{KindLaws.{Each}, StepLaws.{fits_of-kind}, ToldLaws.{told_of-expected}}

-- ---- the data units of fewer than 316 bits

voice-by : (a b c d e : Bool) (bare : ℕ) → b ≡ false
    → cond a (Some 770) (cond b (Some 140) (cond c (Some 1680) (cond d (Some 1680) (cond e (Some 420) None)))) ≡ Some bare → 420 ≤ bare
voice-by true b c d e bare other is = let same : 770 ≡ bare = cc in omega arith
voice-by false true c d e bare other is = absurd (cc)
voice-by false false true d e bare other is = let same : 1680 ≡ bare = cc in omega arith
voice-by false false false true e bare other is = let same : 1680 ≡ bare = cc in omega arith
voice-by false false false false true bare other is = let same : 420 ≡ bare = cc in omega arith
voice-by false false false false false bare other is = absurd (cc)

voice-long : (kind bare : ℕ) → kind ≢ 0x3 → voice_length_of kind ≡ Some bare → 420 ≤ bare
unfolding voice_length_of
voice-long kind bare other is =
    voice-by (nat_eq kind 0x0) (nat_eq kind 0x3) (nat_eq kind 0x5) (nat_eq kind 0xA) (nat_eq kind 0xF) bare (ne_eqb kind 0x3 other) is

length-there : (count have n : ℕ) → length_need count have ≡ Length n → n ≡ count
length-there count have n =
    length_need-cases (λ need. need ≡ Length n → n ≡ count) count have
    (λ short is. absurd (cc))
    (λ long is. let same : count ≡ n = cc in sym same)

voice-there : (found : Option ℕ) (have count : ℕ) → ((bare : ℕ) → found ≡ Some bare → 420 ≤ bare) → voice_need found have ≡ Length count → 432 ≤ count
voice-there None have count long is = absurd (let wrong : NoLength _ ≡ Length count = sym (voice_need-none have) ∙ is in cc)
voice-there (Some bare) have count long is =
    let same = length-there (sent_length bare) have count (sym (voice_need-some bare have) ∙ is) in
    omega (arith, same, long bare refl)

head-there : (reading : Result PacketHead Field) (have count : ℕ) → head_need reading have ≡ Length count → 316 ≤ count
head-there (Err field) have count is = absurd (let wrong : NoLength field ≡ Length count = sym (head_need-bad field have) ∙ is in cc)
head-there (Ok head) have count is =
    let same = length-there (packet_sent_length (head_blocks head)) have count (sym (head_need-good head have) ∙ is) in
    omega (arith, same)

packet-there : (bits : List Bool) (count : ℕ) → kind_need 0xC bits ≡ Length count → 316 ≤ count
packet-there bits count is =
    elim (cases_lt (length bits) 316) [
      | inl short ↦ absurd (let wrong : More 316 ≡ Length count = sym (kind_need-packet bits ∙ packet_need-short bits short) ∙ is in cc)
      | inr long ↦ head-there (sent_head_of bits) (length bits) count (sym (kind_need-packet bits ∙ packet_need-long bits long) ∙ is)
    ]

kind-there : (kind count : ℕ) (bits : List Bool) → kind_need kind bits ≡ Length count → count < 316 → kind ≡ 0x3
kind-there kind count bits is few =
    elim (cases_eq kind 0x3) [
      | inl three ↦ three
      | inr other ↦ elim (cases_eq kind 0xC) [
        | inl packet ↦ absurd (omega (arith, few, packet-there bits count (ap (λ (k : ℕ). kind_need k bits) (sym packet) ∙ is)))
        | inr unpacked ↦ absurd (omega (arith, few, voice-there (voice_length_of kind) (length bits) count (λ bare. voice-long kind bare other) (sym (kind_need-unpacked kind bits unpacked) ∙ is)))
      ]
    ]

-- ---- if nothing is expected nothing is written

pub record IsQuiet (kind : ℕ) : Type 0 where
  pub none : expected_after kind ≡ []
  pub no_link : next_link kind ≡ None

pub Quiet : Option (ℕ × ℕ) → Type 0
Quiet None = Unit {0}
Quiet (Some before) = IsQuiet before.1

quiet-3 : IsQuiet 0x3
unfolding expected_after next_link
quiet-3 = record { none = refl; no_link = refl }

quiet-by : (before : ℕ × ℕ) (bits : List Bool) (kind : ℕ) (fits : Option ℕ) (ready : Bool) → IsQuiet before.1 → fits_of before bits ≡ fits
    → option_or fits (cond ready (next_link before.1) None) ≡ Some kind → ⊥
quiet-by before bits kind (Some other) ready quiet fits is =
    (told_of-expected (λ k. ⊥) before bits other (subst (Each (λ k. ⊥)) (sym quiet.none) tt) (fits_of-kind before bits other fits).told).1
quiet-by before bits kind None true quiet fits is = let wrong : None ≡ Some kind = sym quiet.no_link ∙ is in cc
quiet-by before bits kind None false quiet fits is = cc

quiet-step : (before : ℕ × ℕ) (bits : List Bool) (end : Option (ℕ × ℕ)) (kind : ℕ) → IsQuiet before.1 → step_of before bits end ≡ Some kind → ⊥
unfolding step_of
quiet-step before bits end kind quiet is =
    quiet-by before bits kind (fits_of before bits) (nat_lt 0 (length bits) && is_nothing (told_of before bits) && is_sure 3 before bits end) quiet refl is

quiet-stepped : (before : ℕ × ℕ) (bits : List Bool) (end : Option (ℕ × ℕ)) (kind : Option ℕ) → IsQuiet before.1 → step_of before bits end ≡ kind → chain_by true (Some before) bits end ≡ bits
quiet-stepped before bits end None quiet is = chain_by-stop true before bits end refl is
quiet-stepped before bits end (Some kind) quiet is = absurd (quiet-step before bits end kind quiet is)

chain-quiet : (before : Option (ℕ × ℕ)) (bits : List Bool) (end : Option (ℕ × ℕ)) → Quiet before → chain_by true before bits end ≡ bits
unfolding Quiet
chain-quiet None bits end quiet = chain_by-none true bits end
chain-quiet (Some before) bits end quiet = quiet-stepped before bits end (step_of before bits end) quiet refl

-- ---- a data unit and its name

quiet-named : (name : Option (ℕ × ℕ)) (nid : ℕ × ℕ) → name ≡ Some nid → nid.1 ≡ 0x3 → Quiet name
unfolding Quiet
quiet-named name nid is three = subst Quiet (sym is) (subst IsQuiet (sym three) quiet-3)

-- a data unit of fewer than 316 bits is a TDU, or cut
pub short-quiet : (at : ℕ) (bits : List Bool) → is_rest (first_item at bits) ≡ false → covered (first_item at bits) < 316 → Quiet (unit_name (first_item at bits))
unfolding Quiet
short-quiet at bits =
    first_item-cases (λ item. is_rest item ≡ false → covered item < 316 → Quiet (unit_name item)) at bits
    (λ no' unit few. absurd (cc))
    (λ count yes' need unit few. tt)
    (λ count yes' need unit few.
    let known = IsIdentified-from bits count need in
    let there = need_of-there bits count need in
    let enough : 114 ≤ count = omega (arith, there.0, there.2) in
    let found = found-unit at known.nid (take count bits) (identifier_of-take count bits enough ∙ known.read) in
    quiet-named (unit_name (unit_item_of at (take count bits))) known.nid found.name_is
    (kind-there known.nid.1 count bits known.kind (omega (arith, few, covered-unit_item_of at bits count need))))
    (λ field yes' need unit few. absurd (cc))

-- the network access code (NAC) of a name has 12 bits
pub Sound : Option (ℕ × ℕ) → Type 0
Sound None = Unit {0}
Sound (Some name) = name.0 < 4096

pub sound-some : (name : ℕ × ℕ) → Sound (Some name) → name.0 < 4096
unfolding Sound
sound-some name sound = sound

pub some-sound : (name : ℕ × ℕ) → name.0 < 4096 → Sound (Some name)
unfolding Sound
some-sound name fits = fits

pub none-sound : Sound None
unfolding Sound
none-sound = tt

pub unit-sound : (at : ℕ) (bits : List Bool) → Sound (unit_name (first_item at bits))
unit-sound at bits =
    first_item-cases (λ item. Sound (unit_name item)) at bits
    (λ no'. none-sound)
    (λ count yes' need. none-sound)
    (λ count yes' need.
    let known = IsIdentified-from bits count need in
    let there = need_of-there bits count need in
    let enough : 114 ≤ count = omega (arith, there.0, there.2) in
    let reads = identifier_of-take count bits enough ∙ known.read in
    subst Sound (sym (found-unit at known.nid (take count bits) reads).name_is) (some-sound known.nid (identifier_of-fits (take count bits) known.nid reads).0))
    (λ field yes' need. none-sound)

-- ---- the output from the beginning of a data unit on

pub agree-unit : (at : ℕ) (bits later : List Bool) → 0 < length bits → is_rest (first_item at bits) ≡ false
    → (Quiet (unit_name (first_item at bits)) → Agree 316 (drop (covered (first_item at bits)) bits) later)
    → Agree 316 bits (take (covered (first_item at bits)) bits ++ later)
agree-unit at bits later some unit quiet =
    let count = covered (first_item at bits) in
    let raw = take count bits in
    let rest = drop count bits in
    let raw_long : length raw ≡ count = length-take-le count bits (covered-first_item at bits some).1 in
    ap (take 316) (sym (take-append-drop count bits))
    ∙ elim (cases_lt count 316) [
      | inl few ↦ agree-less 316 (length raw + 316) (raw ++ rest) (raw ++ later) (omega arith) (agree-append 316 raw rest later (quiet (short-quiet at bits unit few)))
      | inr long ↦ take-append-le 316 raw rest (omega (arith, long, raw_long)) ∙ sym (take-append-le 316 raw later (omega (arith, long, raw_long)))
    ]

agree-quiet : (place : ℕ) (before : Option (ℕ × ℕ)) (stretch bits : List Bool) → Quiet before
    → Agree (length stretch + 316) (stretch ++ bits) (followed_by true before stretch (items_of place bits) bits)
agree-quiet =
    along-items (λ place before stretch items bits. Quiet before → Agree (length stretch + 316) (stretch ++ bits) (followed_by true before stretch items bits))
    (λ place before stretch quiet. rw (followed-end, chain-quiet before stretch None quiet, append-nil))
    (λ place before stretch item items bits starts rest later quiet.
    let raw = take (covered item) bits in
    let left = drop (covered item) bits in
    rw (followed-rest true before stretch item items bits rest)
    (rw (append_assoc stretch raw left, take-append-drop) at (agree-less (length stretch + 316) (length (stretch ++ raw) + 316) ((stretch ++ raw) ++ left)
    (followed_by true before (stretch ++ raw) items left) (omega (arith, length-append stretch raw)) (later quiet))))
    (λ place before stretch item items bits starts unit later quiet.
    rw (followed-unit true before stretch item items bits unit, chain-quiet before stretch (unit_name item) quiet)
    (agree-append 316 stretch bits (take (covered item) bits ++ followed_by true (unit_name item) [] items (drop (covered item) bits))
    (rw starts.first at (agree-unit place bits (followed_by true (unit_name item) [] items (drop (covered item) bits)) (omega (arith, starts.some, starts.there)) (rw starts.first unit)
    (rw starts.first later)))))

-- from the beginning of a data unit on, the first 316 bits of the output are those of the input
pub agree-after : (at : ℕ) (bits : List Bool) → 0 < length bits → is_rest (first_item at bits) ≡ false
    → Agree 316 bits (take (covered (first_item at bits)) bits
    ++ followed_by true (unit_name (first_item at bits)) [] (items_of (at + covered (first_item at bits)) (drop (covered (first_item at bits)) bits)) (drop (covered (first_item at bits)) bits))
agree-after at bits some unit =
    let item = first_item at bits in
    let count = covered item in
    let left = drop count bits in
    agree-unit at bits (followed_by true (unit_name item) [] (items_of (at + count) left) left) some unit
    (λ quiet. agree-quiet (at + count) (unit_name item) [] left quiet)
