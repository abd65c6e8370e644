-- Streams: what their numbers say, and the bits that are left.
use Rattle.std.proofs.Common.{◌≡◌, ℕ, suc, min, subst, ◌+◌, ◌-◌, ◌*◌, ◌/◌, ◌%◌, ◌^◌, ◌<◌, ◌≤◌, Bool, true, List, ◌++◌, length, take, drop, ap, ap₂, sym, ◌∙◌, arith, append-nil, append_assoc, length-append, length-drop}
use Rattle.std.proofs.{lemmas.Bool.{and_from, eq-eqb, eqb-true, le-leb, leb-true}, lemmas.List.{drop-append-le, length-take, length-take-le, take_at, take_min}}
use Rattle.std.specs.Cmp.{first_so, second_so}
use Rattle.p25_bits.specs.Bits.{bits_of, octet_bits}
use Rattle.p25_bits.proofs.{BitsLaws.{bits_of-zero, length-octet_bits, octet_bits-append}, PartLaws.{drop_behind, part_add}}
use Rattle.p25_c.specs.{Streams.{HasSameBits, HasTaken, bits_left, is_stream, stream_room}, declared.stream.Stream.{Stream}}

-- what the numbers of a stream say
pub record Fits (stream : Stream) : Type 0 where
  pub few : stream.held ≤ 8168
  pub dibits : stream.dibits ≤ 3
  pub waiting : stream.waiting < 2 ^ (2 * stream.dibits)
  pub whole : stream.begin % 8 ≡ 0
  pub order : stream.begin ≤ stream.from
  pub there : stream.from ≤ stream.begin + 8 * stream.held
  pub most : stream.from ≤ 2 ^ 59

pub fits-of : (stream : Stream) → is_stream stream ≡ true → Fits stream
fits-of stream yes' =
    let front = first_so _ _ yes' in
    let inside = second_so _ _ yes' in
    let order = first_so _ _ inside in
    let after = first_so _ _ order in
    record {
      few = leb-true stream.held 8168 (first_so _ _ (first_so _ _ front));
      dibits = leb-true stream.dibits 3 (second_so _ _ (first_so _ _ front));
      waiting = leb-true (suc stream.waiting) (2 ^ (2 * stream.dibits)) (second_so _ _ front);
      whole = eqb-true (stream.begin % 8) 0 (first_so _ _ after);
      order = leb-true stream.begin stream.from (second_so _ _ after);
      there = leb-true stream.from (stream.begin + 8 * stream.held) (second_so _ _ order);
      most = leb-true stream.from (2 ^ 59) (second_so _ _ inside);
    }

pub stream-of : (stream : Stream) → Fits stream → is_stream stream ≡ true
stream-of stream fits =
    and_from _ _
    (and_from _ _ (and_from _ _ (le-leb stream.held 8168 fits.few) (le-leb stream.dibits 3 fits.dibits)) (le-leb (suc stream.waiting) (2 ^ (2 * stream.dibits)) fits.waiting))
    (and_from _ _
    (and_from _ _ (and_from _ _ (eq-eqb (stream.begin % 8) 0 fits.whole) (le-leb stream.begin stream.from fits.order)) (le-leb stream.from (stream.begin + 8 * stream.held) fits.there))
    (le-leb stream.from (2 ^ 59) fits.most))

-- bits are left after octets that are dropped
pub let-go-bits : (octets front : List ℕ) (held past more : ℕ) (behind : List Bool) → past ≤ held → held ≤ length octets
    → front ≡ take (held - past) (drop past octets) → drop (8 * past + more) (octet_bits (take held octets) ++ behind) ≡ drop more (octet_bits front ++ behind)
let-go-bits octets front held past more behind order there is =
    let gone = take past octets in
    let both : past + (held - past) ≡ held = omega (arith, order) in
    let nothing : 0 + past ≡ past = omega arith in
    let whole : gone ++ take (held - past) (drop past octets) ≡ take (past + (held - past)) octets
    = ap (λ (k : ℕ). gone ++ take (held - past) (drop k octets)) (sym nothing) ∙ part_add 0 past (held - past) octets in
    let joined : gone ++ front ≡ take held octets = ap (λ (zs : List ℕ). gone ++ zs) is ∙ whole ∙ ap (λ (k : ℕ). take k octets) both in
    let long : length (octet_bits gone) ≡ 8 * past = length-octet_bits gone ∙ ap (λ (k : ℕ). 8 * k) (length-take-le past octets (omega (arith, order, there))) in
    ap (λ (zs : List ℕ). drop (8 * past + more) (octet_bits zs ++ behind)) (sym joined)
    ∙ ap (λ (zs : List Bool). drop (8 * past + more) (zs ++ behind)) (octet_bits-append gone front)
    ∙ ap (drop (8 * past + more)) (append_assoc (octet_bits gone) (octet_bits front) behind)
    ∙ drop_behind (8 * past) more (octet_bits gone) (octet_bits front ++ behind) long

-- octets are left that were appended, if no dibits wait
pub appended-bits : (octets more behind : List ℕ) (held room count back waiting : ℕ) → held ≤ length octets → count ≡ length (take room more)
    → back ≤ 8 * held
    → drop back (octet_bits (take (held + count) (take held octets ++ take room more ++ behind)) ++ bits_of 0 waiting)
    ≡ drop back (octet_bits (take held octets) ++ bits_of 0 waiting) ++ octet_bits (take room more)
appended-bits octets more behind held room count back waiting there long within =
    let front = take held octets in
    let new = take room more in
    let sized : length (front ++ new) ≡ held + count = length-append front new ∙ ap₂ (λ (a b : ℕ). a + b) (length-take-le held octets there) (sym long) in
    let none = bits_of-zero waiting in
    let front_long : length (octet_bits front) ≡ 8 * held = length-octet_bits front ∙ ap (λ (k : ℕ). 8 * k) (length-take-le held octets there) in
    ap (λ (zs : List ℕ). drop back (octet_bits zs ++ bits_of 0 waiting)) (take_at (front ++ new) behind (held + count) sized)
    ∙ ap (λ (zs : List Bool). drop back (octet_bits (front ++ new) ++ zs)) none
    ∙ ap (drop back) (append-nil (octet_bits (front ++ new)) ∙ octet_bits-append front new)
    ∙ drop-append-le back (octet_bits front) (octet_bits new) (omega (arith, front_long, within))
    ∙ ap (λ (zs : List Bool). drop back zs ++ octet_bits new) (sym (ap (λ (zs : List Bool). octet_bits front ++ zs) none ∙ append-nil (octet_bits front)))

-- one buffer takes as many as another, if both have capacity for as many
pub take_alike : (octets : List ℕ) (a b : ℕ) → min (length octets) a ≡ min (length octets) b → take a octets ≡ take b octets
take_alike octets a b same =
    let turned : min a (length octets) ≡ min b (length octets) = omega (arith, same) in
    sym (take_min a octets) ∙ ap (λ (k : ℕ). take k octets) turned ∙ take_min b octets

-- octets that were appended once there was capacity are taken
pub appended-taken : (before made after : Stream) (octets : List ℕ) → HasSameBits before made → before.dibits ≡ 0 → length made.octets ≡ 8168
    → after
    ≡ record made {
      held = made.held + min (length octets) (8168 - made.held);
      octets = take made.held made.octets ++ take (8168 - made.held) octets ++ drop (made.held + min (length octets) (8168 - made.held)) made.octets;
    }
    → min (length octets) (8168 - made.held) ≡ min (length octets) (stream_room before)
    → HasTaken (octet_bits (take (stream_room before) octets)) before after
appended-taken before made after octets same none full is room =
    let fits = fits-of made same.fits in
    let count = min (length octets) (8168 - made.held) in
    let behind = drop (made.held + count) made.octets in
    let new : Stream = record made { held = made.held + count; octets = take made.held made.octets ++ take (8168 - made.held) octets ++ behind } in
    let back = made.from - made.begin in
    let quiet : made.dibits ≡ 0 = same.dibits ∙ none in
    let there : made.held ≤ length made.octets = omega (arith, fits.few, full) in
    let long : count ≡ length (take (8168 - made.held) octets) = omega (arith, length-take (8168 - made.held) octets) in
    let fit : is_stream new ≡ true = stream-of new (record {
      few = omega (arith, fits.few);
      dibits = fits.dibits;
      waiting = fits.waiting;
      whole = fits.whole;
      order = fits.order;
      there = omega (arith, fits.there);
      most = fits.most;
    }) in
    let joined : bits_left new ≡ bits_left made ++ octet_bits (take (8168 - made.held) octets)
    = ap (λ (d : ℕ). drop back (octet_bits (take (made.held + count) new.octets) ++ bits_of (2 * d) made.waiting)) quiet
    ∙ appended-bits made.octets octets behind made.held (8168 - made.held) count back made.waiting there long (omega (arith, fits.there, fits.order))
    ∙ ap (λ (d : ℕ). drop back (octet_bits (take made.held made.octets) ++ bits_of (2 * d) made.waiting) ++ octet_bits (take (8168 - made.held) octets)) (sym quiet) in
    let taken : HasTaken (octet_bits (take (stream_room before) octets)) before new = record {
      fits = fit;
      bits
          = joined
          ∙ ap (λ (xs : List Bool). xs ++ octet_bits (take (8168 - made.held) octets)) same.bits
          ∙ ap (λ (zs : List ℕ). bits_left before ++ octet_bits zs) (take_alike octets (8168 - made.held) (stream_room before) room);
      from = same.from;
      ended = same.ended;
    } in
    subst (λ (s : Stream). HasTaken (octet_bits (take (stream_room before) octets)) before s) (sym is) taken

-- bits are taken once octets were let go
pub taken-after : (more : List Bool) (before made after : Stream) → HasSameBits before made → HasTaken more made after → HasTaken more before after
taken-after more before made after same taken = record {
  fits = taken.fits;
  bits = taken.bits ∙ ap (λ (xs : List Bool). xs ++ more) same.bits;
  from = taken.from ∙ same.from;
  ended = taken.ended ∙ same.ended;
}
