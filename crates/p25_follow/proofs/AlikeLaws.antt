-- Lists of bits of the same length with the same first 316 bits have the same need at their beginning, so a data unit that begins there is the same. By the
-- decodings of the sync, the NID and the header.
use Rattle.std.proofs.Common.{◌≡◌, ℕ, ◌+◌, ◌≤◌, Bool, true, false, inl, inr, List, ◌++◌, length, take, Option, Some, None, sym, ap, ◌∙◌, arith}
use Rattle.std.proofs.{lemmas.Bool.{cases_Bool, cases_lt, eqb-false, eqb-true}, lemmas.List.{take-take, take_all}, Math.Seq.{take-append-add}}
use Rattle.std.specs.Prelude.{nat_eq}
use Rattle.p25_status.specs.Sync.{has_sync}
use Rattle.p25_status.proofs.SyncLaws.{has_sync-take}
use Rattle.p25_unit_front.specs.Front.{identifier_of}
use Rattle.p25_unit_front.proofs.FrontLaws.{identifier_of-take}
use Rattle.p25_packet_blocks.specs.UnitReading.{sent_head_of}
use Rattle.p25_packet_blocks.proofs.UnitLaws.{sent_head_of-take}
use Rattle.p25_units.specs.{Items.{covered, unit_item_of}, Needs.{identified_need, kind_need, need_of}}
use Rattle.p25_units.specs.declared.needs.Need.TheVariants.{Length, More}
use Rattle.p25_units.proofs.ItemsLaws.{covered-unit_item_of}
use Rattle.p25_units.proofs.NeedsLaws.{identified_need-none, identified_need-some, kind_need-packet, kind_need-unpacked, need_of-synced, packet_need-long, synced_need-long}
use Rattle.p25_stream.specs.Items.{first_item}
use Rattle.p25_stream.proofs.ItemsLaws.{first_item-cases, first_item-synced}
use Rattle.p25_follow.specs.Followed.{is_rest}
use Rattle.p25_follow.proofs.PlaceLaws.{place-few}

-- ---- bits that begin alike

-- the first `count` bits are the same
abbrev pub Agree : ℕ → List Bool → List Bool → Type 0
Agree count bits others = take count bits ≡ take count others

pub agree-less : (few count : ℕ) (bits others : List Bool) → few ≤ count → Agree count bits others → Agree few bits others
agree-less few count bits others less same = rw (take-take few count bits less, take-take few count others less) at (ap (take few) same)

pub agree-append : (count : ℕ) (first bits others : List Bool) → Agree count bits others → Agree (length first + count) (first ++ bits) (first ++ others)
agree-append count first bits others same = rw (take-append-add first bits count, take-append-add first others count, same)

pub agree-all : (count : ℕ) (bits others : List Bool) → length bits ≤ count → length bits ≡ length others → Agree count bits others → bits ≡ others
agree-all count bits others few long same = rw (take_all count bits few, take_all count others (omega (arith, few, long))) at same

pub record Alike (bits others : List Bool) : Type 0 where
  pub long : length bits ≡ length others
  pub same : Agree 316 bits others

-- ---- needs

kind-same : (kind : ℕ) (bits others : List Bool) → 316 ≤ length bits → length bits ≡ length others → sent_head_of bits ≡ sent_head_of others → kind_need kind bits ≡ kind_need kind others
kind-same kind bits others long as_long head =
    elim (cases_Bool (nat_eq kind 0xC)) [
      | inl packet ↦
          rw (eqb-true kind 0xC packet, kind_need-packet bits, kind_need-packet others, packet_need-long bits long, packet_need-long others (omega (arith, long, as_long)), head, as_long)
      | inr other ↦
          let is_none = eqb-false kind 0xC other in
          rw (kind_need-unpacked kind bits is_none, kind_need-unpacked kind others is_none, as_long)
    ]

identified-same : (read : Option (ℕ × ℕ)) (bits others : List Bool) → 316 ≤ length bits → length bits ≡ length others → sent_head_of bits ≡ sent_head_of others
    → identified_need read bits ≡ identified_need read others
identified-same None bits others long as_long head = rw (identified_need-none bits, identified_need-none others)
identified-same (Some nid) bits others long as_long head = rw (identified_need-some nid bits, identified_need-some nid others) (kind-same nid.1 bits others long as_long head)

sync-same : (bits others : List Bool) → 316 ≤ length bits → Alike bits others → has_sync bits ≡ has_sync others
sync-same bits others long alike = rw (has_sync-take bits 316 (omega arith) long, has_sync-take others 316 (omega arith) (omega (arith, long, alike.long))) at (ap has_sync alike.same)

need-long : (bits others : List Bool) → 316 ≤ length bits → Alike bits others → has_sync bits ≡ true → need_of bits ≡ need_of others
need-long bits others long alike yes' =
    let also : 316 ≤ length others = omega (arith, long, alike.long) in
    let read = rw (identifier_of-take 316 bits (omega arith), identifier_of-take 316 others (omega arith)) at (ap identifier_of alike.same) in
    let head = rw (sent_head_of-take 316 bits (omega arith), sent_head_of-take 316 others (omega arith)) at (ap sent_head_of alike.same) in
    rw (need_of-synced bits yes', need_of-synced others (sym (sync-same bits others long alike) ∙ yes'), synced_need-long bits (omega (arith, long)), synced_need-long others (omega (arith, also)), ← read)
    (identified-same (identifier_of bits) bits others long alike.long head)

-- the data unit there
record SameThere (bits others : List Bool) : Type 0 where
  sync : has_sync bits ≡ has_sync others
  need : has_sync bits ≡ true → need_of bits ≡ need_of others

same-there : (bits others : List Bool) → Alike bits others → SameThere bits others
same-there bits others alike =
    elim (cases_lt (length bits) 316) [
      | inl short ↦
          let all : bits ≡ others = agree-all 316 bits others (omega (arith, short)) alike.long alike.same in
          record { sync = ap has_sync all; need = λ yes'. ap need_of all }
      | inr long ↦ record { sync = sync-same bits others long alike; need = need-long bits others long alike }
    ]

-- whether a data unit begins
pub rest-alike : (at other : ℕ) (bits others : List Bool) → 316 ≤ length bits → Alike bits others → is_rest (first_item at bits) ≡ is_rest (first_item other others)
rest-alike at other bits others long alike = place-few at other bits others long (omega (arith, long, alike.long)) alike.same

pub rest-begins : (at : ℕ) (bits others : List Bool) → Alike bits others → is_rest (first_item at bits) ≡ is_rest (first_item at others)
rest-begins at bits others alike =
    elim (cases_lt (length bits) 316) [
      | inl short ↦ rw (agree-all 316 bits others (omega (arith, short)) alike.long alike.same)
      | inr long ↦ rest-alike at at bits others long alike
    ]

-- ---- the data unit there

-- the data unit with which alike bits begin is the same if its bits are
pub unit-alike : (at : ℕ) (bits others : List Bool) → Alike bits others → is_rest (first_item at bits) ≡ false → Agree (covered (first_item at bits)) bits others
    → first_item at others ≡ first_item at bits
unit-alike at bits others alike =
    let there = same-there bits others alike in
    first_item-cases (λ item. is_rest item ≡ false → Agree (covered item) bits others → first_item at others ≡ item) at bits
    (λ no' unit own. absurd (cc))
    (λ count yes' need unit own. rw (first_item-synced at others (More count) (sym there.sync ∙ yes') (sym (there.need yes') ∙ need), alike.long))
    (λ count yes' need unit own.
    rw (first_item-synced at others (Length count) (sym there.sync ∙ yes') (sym (there.need yes') ∙ need)) (ap (unit_item_of at) (sym (rw (covered-unit_item_of at bits count need) at own))))
    (λ field yes' need unit own. absurd (cc))
