-- A stretch decided unit by unit: what is written so far together with what is still to be written is always the same. The soft symbols of a unit are
-- those at its position, wherever those that are held begin.
use Rattle.std.proofs.Common.{◌≡◌, ◌≢◌, ℕ, ◌+◌, ◌*◌, ◌/◌, ◌%◌, ◌≤◌, ◌||◌, Bool, true, false, nat_le, inl, inr, List, [], ◌++◌, length, take, drop, Option, Some, None, refl, ap, ap₂, sym, ◌∙◌, arith, append_assoc, length-append, ℤ}
use Rattle.std.proofs.lemmas.{Bool.{cases_Bool, cases_lt, le-leb, leb-true, ne_eqb}, List.{length-take-le, drop_at, take_at}}
use Rattle.p25_bits.specs.Bits.{part}
use Rattle.p25_bits.proofs.PartLaws.{part-part}
use Rattle.p25_units.specs.{Units.{body_duid}, declared.item.Item.{Item}, declared.item.Item.TheVariants.{Whole, Broken}}
use Rattle.p25_units.proofs.{NeedsLaws.{voice-other}, UnitsLaws.{IsSentLength-voice}}
use Rattle.p25_follow.specs.{Chains.{chain_by, with_front}, Expected.{kind_length}, Followed.{unit_name}, Steps.{step_of}}
use Rattle.p25_follow.proofs.{AfterUnitLaws.{Sound, sound-some}, ChainLaws.{chain_by-none, chain_by-step, chain_by-stop, chain_by-waits}, FoundLaws.{IsVoice-kind, written-found}}
use Rattle.p25_follow.proofs.StepLaws.{step_of-end, step_of-there}
use Rattle.p25_decide.specs.{DecidedRecordings.{item_decided, unit_decided}, DecidedUnits.{decided_sent}}
use Rattle.p25_decide.specs.DecidedTaking.{AreFrom, over_by, over_left, settled_kind, voice_decided}
use Rattle.p25_decide.proofs.UnitHeardLaws.{HasVoiceLength, has-length}
use Rattle.p25_decide.proofs.SettledLaws.{chain-next, chain-none, chain-stops, is-unit, settled-next, settled-none, settled-stops, settled-waits, unit_at}

-- ---- the soft symbols of a part

pub levels-from : (first at count : ℕ) (levels all : List ℤ) → AreFrom first levels all → at + count ≤ length levels → part (first + at) count all ≡ part at count levels
levels-from first at count levels all from inside = sym (part-part first (length levels) at count all inside) ∙ ap (part at count) from

-- ---- a unit of a type

pub voice-fits : (kind : ℕ) → 144 ≤ kind_length kind → HasVoiceLength kind (kind_length kind / 2) × (kind_length kind ≡ 2 * (kind_length kind / 2))
voice-fits kind few =
    let voice = IsVoice-kind kind few in
    let twice : kind_length kind ≡ 2 * (kind_length kind / 2) = omega (arith, voice.long, (IsSentLength-voice kind voice.bare voice.is).sent) in
    (has-length kind voice.bare (kind_length kind) (kind_length kind / 2) voice.is voice.long twice, twice)

-- the unit decided
pub voice-even : (first from kind : ℕ) (levels all : List ℤ) (sent now : List Bool) → AreFrom first levels all → from % 2 ≡ 0 → from / 2 + kind_length kind / 2 ≤ length levels
    → now ≡ decided_sent kind (part (from / 2) (kind_length kind / 2) levels) sent → now ≡ voice_decided all (2 * first + from) kind sent
unfolding voice_decided
voice-even first from kind levels all sent now are even inside is =
    let even_there : (2 * first + from) % 2 ≡ 0 = omega arith in
    let half : (2 * first + from) / 2 ≡ first + from / 2 = omega arith in
    is ∙ sym (rw (even_there, half, levels-from first (from / 2) (kind_length kind / 2) levels all are inside) refl)

pub voice-odd : (first from kind : ℕ) (all : List ℤ) (sent : List Bool) → from % 2 ≢ 0 → voice_decided all (2 * first + from) kind sent ≡ sent
unfolding voice_decided
voice-odd first from kind all sent odd =
    let odd_there : (2 * first + from) % 2 ≢ 0 = λ is. odd (omega arith) in
    rw (ne_eqb ((2 * first + from) % 2) 0 odd_there) refl

-- ---- a unit whose sync and NID are restored

duid_in : Option (ℕ × ℕ) → ℕ
duid_in None = 0
duid_in (Some name) = name.1

named-decided : (levels : List ℤ) (item : Item) (sent : List Bool) (name : ℕ × ℕ) → unit_name item ≡ Some name → name.1 ≢ 0xC → unit_decided levels item sent ≡ decided_sent name.1 levels sent
unfolding unit_decided duid_in
named-decided levels (Whole place frame fixes) sent name is other =
    let same : body_duid frame.unit.body ≡ name.1 = ap duid_in is in
    ap (λ d. decided_sent d levels sent) same
named-decided levels (Broken place count nac duid fields) sent name is other =
    let same : duid ≡ name.1 = ap duid_in is in
    let unpacked : duid ≢ 0xC = λ packet. other (sym same ∙ packet) in
    rw (ne_eqb duid 0xC unpacked) (ap (λ d. decided_sent d levels sent) same)
named-decided levels item sent name is other = absurd (cc)

unit-named : (at : ℕ) (before : ℕ × ℕ) (kind : ℕ) (bits : List Bool) (end : Option (ℕ × ℕ)) → Sound (Some before) → step_of before bits end ≡ Some kind
    → unit_name (unit_at at before kind bits) ≡ Some (before.0, kind)
unit-named at before kind bits end sound is =
    let there = step_of-there before bits end kind is in
    let found = written-found at before.0 kind (take (kind_length kind) bits) [] (sound-some before sound) there.few (omega (arith, there.fits)) (length-take-le (kind_length kind) bits there.there) in
    ap unit_name (sym found.item_is) ∙ found.name_is

unit-voice : (levels : List ℤ) (at : ℕ) (before : ℕ × ℕ) (kind : ℕ) (bits : List Bool) (end : Option (ℕ × ℕ)) (sent : List Bool) → Sound (Some before) → step_of before bits end ≡ Some kind
    → item_decided levels (unit_at at before kind bits) sent ≡ voice_decided levels at kind sent
unfolding item_decided voice_decided
unit-voice levels at before kind bits end sent sound is =
    let unit = is-unit at before kind bits end sound is in
    let voice = IsVoice-kind kind (step_of-there before bits end kind is).few in
    rw (
      unit.place,
      unit.covers,
      named-decided (part (at / 2) (kind_length kind / 2) levels) (unit_at at before kind bits) sent (before.0, kind) (unit-named at before kind bits end sound is) (voice-other kind voice.bare voice.is),
    ) refl

-- ---- a step

over-none : (whole : Bool) (change : Item → List Bool → List Bool) (at : ℕ) (bits : List Bool) (end : Option (ℕ × ℕ)) → over_by whole change at None bits end ≡ bits
unfolding over_by
over-none true change at bits end = chain-none change at bits end
over-none false change at bits end = settled-none change at bits

-- what is settled first, if a step is made and if none is
pub kind-goes : (whole : Bool) (before : ℕ × ℕ) (bits : List Bool) (end : Option (ℕ × ℕ)) → (whole || nat_le 6912 (length bits)) ≡ true → settled_kind whole before bits end ≡ step_of before bits end
unfolding settled_kind
kind-goes whole before bits end goes = rw goes refl

pub kind-waits : (whole : Bool) (before : ℕ × ℕ) (bits : List Bool) (end : Option (ℕ × ℕ)) → (whole || nat_le 6912 (length bits)) ≡ false → settled_kind whole before bits end ≡ None
unfolding settled_kind
kind-waits whole before bits end waits = rw waits refl

-- no unit begins the bits, or it is not settled
over-last : (whole : Bool) (change : Item → List Bool → List Bool) (at : ℕ) (before : ℕ × ℕ) (bits : List Bool) (end : Option (ℕ × ℕ)) → settled_kind whole before bits end ≡ None
    → over_by whole change at (Some before) bits end ≡ chain_by whole (Some before) bits end
unfolding over_by settled_kind
over-last true change at before bits end is = chain-stops change at before bits end is ∙ sym (chain_by-stop true before bits end refl is)
over-last false change at before bits end is =
    elim (cases_lt (length bits) 6912) [
      | inl short ↦ settled-waits change at before bits short ∙ sym (chain_by-waits before bits end short)
      | inr long ↦
          let goes : nat_le 6912 (length bits) ≡ true = le-leb 6912 (length bits) long in
          let stops : step_of before bits end ≡ None = rw goes at is in
          settled-stops change at before bits long (sym (step_of-end before bits end long) ∙ stops) ∙ sym (chain_by-stop false before bits end goes stops)
    ]

-- a unit that is settled
pub record IsSettled (whole : Bool) (before : ℕ × ℕ) (bits : List Bool) (end : Option (ℕ × ℕ)) (kind : ℕ) : Type 0 where
  pub goes : (whole || nat_le 6912 (length bits)) ≡ true
  pub steps : step_of before bits end ≡ Some kind

pub is-settled : (whole : Bool) (before : ℕ × ℕ) (bits : List Bool) (end : Option (ℕ × ℕ)) (kind : ℕ) → settled_kind whole before bits end ≡ Some kind → IsSettled whole before bits end kind
unfolding settled_kind
is-settled whole before bits end kind is =
    elim (cases_Bool (whole || nat_le 6912 (length bits))) [
      | inl goes ↦ record { goes = goes; steps = rw goes at is }
      | inr stops ↦ absurd (let two : None ≡ Some kind = rw stops at is in cc)
    ]

over-step-by : (whole : Bool) (change : Item → List Bool → List Bool) (at : ℕ) (before : ℕ × ℕ) (bits : List Bool) (end : Option (ℕ × ℕ)) (kind : ℕ) → IsSettled whole before bits end kind → Sound (Some before)
    → over_by whole change at (Some before) bits end
    ≡ change (unit_at at before kind bits) (with_front (before.0, kind) (take (kind_length kind) bits)) ++ over_by whole change (at + kind_length kind) (Some (before.0, kind)) (drop (kind_length kind) bits) end
unfolding over_by
over-step-by true change at before bits end kind is sound = chain-next change at before bits end kind is.steps sound
over-step-by false change at before bits end kind is sound =
    let long : 6912 ≤ length bits = leb-true 6912 (length bits) is.goes in
    settled-next change at before bits kind long (sym (step_of-end before bits end long) ∙ is.steps) sound

-- ---- the invariant of the loop

-- before the first unit
pub over-begins : (whole : Bool) (change : Item → List Bool → List Bool) (at : ℕ) (before : Option (ℕ × ℕ)) (bits : List Bool) (end : Option (ℕ × ℕ)) (settled : List Bool)
    → settled ≡ chain_by whole before bits end → over_left whole change at before bits end settled ≡ over_by whole change at before bits end
unfolding over_left
over-begins whole change at None bits end settled is = is ∙ chain_by-none whole bits end ∙ sym (over-none whole change at bits end)
over-begins whole change at (Some before) bits end settled is = refl

-- after the last one
pub over-ends : (whole : Bool) (change : Item → List Bool → List Bool) (at : ℕ) (before : ℕ × ℕ) (bits : List Bool) (end : Option (ℕ × ℕ)) (settled : List Bool) → settled_kind whole before bits end ≡ None
    → settled ≡ chain_by whole (Some before) bits end → over_left whole change at (Some before) bits end settled ≡ settled
unfolding over_left
over-ends whole change at before bits end settled none is = over-last whole change at before bits end none ∙ sym is

pub over-nothing : (whole : Bool) (change : Item → List Bool → List Bool) (at : ℕ) (bits : List Bool) (end : Option (ℕ × ℕ)) (settled : List Bool) → over_left whole change at None bits end settled ≡ settled
unfolding over_left
over-nothing whole change at bits end settled = refl

-- a unit that is settled, among the settled bits
pub record IsAmongSettled (whole : Bool) (before : ℕ × ℕ) (bits : List Bool) (end : Option (ℕ × ℕ)) (kind : ℕ) (settled : List Bool) : Type 0 where
  pub there : kind_length kind ≤ length bits
  pub few : 144 ≤ kind_length kind
  pub fits : kind ≤ 15
  pub among : kind_length kind ≤ length settled
  pub left : drop (kind_length kind) settled ≡ chain_by whole (Some (before.0, kind)) (drop (kind_length kind) bits) end
  pub own : take (kind_length kind) settled ≡ with_front (before.0, kind) (take (kind_length kind) bits)

pub is-among : (whole : Bool) (before : ℕ × ℕ) (bits : List Bool) (end : Option (ℕ × ℕ)) (kind : ℕ) (settled : List Bool) → settled_kind whole before bits end ≡ Some kind → Sound (Some before)
    → settled ≡ chain_by whole (Some before) bits end → IsAmongSettled whole before bits end kind settled
is-among whole before bits end kind settled settles sound is =
    let unit = is-settled whole before bits end kind settles in
    let there = step_of-there before bits end kind unit.steps in
    let own = with_front (before.0, kind) (take (kind_length kind) bits) in
    let rest = chain_by whole (Some (before.0, kind)) (drop (kind_length kind) bits) end in
    let split : settled ≡ own ++ rest = is ∙ chain_by-step whole before bits end kind unit.goes unit.steps in
    let long : length own ≡ kind_length kind = (is-unit 0 before kind bits end sound unit.steps).long in
    record {
      there = there.there;
      few = there.few;
      fits = there.fits;
      among = omega (arith, ap length split, length-append own rest, long);
      left = ap (drop (kind_length kind)) split ∙ drop_at own rest (kind_length kind) long;
      own = ap (take (kind_length kind)) split ∙ take_at own rest (kind_length kind) long;
    }

pub over-goes : (whole : Bool) (levels : List ℤ) (at : ℕ) (before next : ℕ × ℕ) (bits left : List Bool) (end : Option (ℕ × ℕ)) (kind : ℕ) (settled later out now all : List Bool)
    → settled_kind whole before bits end ≡ Some kind → Sound (Some before) → settled ≡ chain_by whole (Some before) bits end → next ≡ (before.0, kind) → left ≡ drop (kind_length kind) bits
    → now ≡ out ++ voice_decided levels at kind (take (kind_length kind) settled)
    → out ++ over_left whole (item_decided levels) at (Some before) bits end settled ≡ all
    → now ++ over_left whole (item_decided levels) (at + kind_length kind) (Some next) left end later ≡ all
unfolding over_left
over-goes whole levels at before next bits left end kind settled later out now all settles sound is is_next is_left is_now before_is =
    let unit = is-settled whole before bits end kind settles in
    let among = is-among whole before bits end kind settled settles sound is in
    let sent = with_front (before.0, kind) (take (kind_length kind) bits) in
    let rest = over_by whole (item_decided levels) (at + kind_length kind) (Some (before.0, kind)) (drop (kind_length kind) bits) end in
    let own : voice_decided levels at kind (take (kind_length kind) settled) ≡ item_decided levels (unit_at at before kind bits) sent
    = ap (voice_decided levels at kind) among.own ∙ sym (unit-voice levels at before kind bits end sent sound unit.steps) in
    ap₂ (λ (xs : List Bool) (n : ℕ × ℕ). xs ++ over_by whole (item_decided levels) (at + kind_length kind) (Some n) left end) (is_now ∙ ap (λ (xs : List Bool). out ++ xs) own) is_next
    ∙ ap (λ (ls : List Bool). (out ++ item_decided levels (unit_at at before kind bits) sent) ++ over_by whole (item_decided levels) (at + kind_length kind) (Some (before.0, kind)) ls end) is_left
    ∙ append_assoc out (item_decided levels (unit_at at before kind bits) sent) rest
    ∙ ap (λ (xs : List Bool). out ++ xs) (sym (over-step-by whole (item_decided levels) at before bits end kind unit sound))
    ∙ before_is
