-- The invariant of a caller: the open run ends at or before the end of the last item, has no more data units than there were items, and a network
-- access code of 12 bits. By the cases of an open run and a data unit that joins it.
use Rattle.std.proofs.Common.{◌≡◌, ℕ, ◌+◌, ◌<◌, ◌≤◌, Bool, true, false, cond, not, ◌&&◌, Option, Some, None, sym, ap, subst, ◌∙◌, arith}
use Rattle.std.specs.{Prelude.{IfSome, nat_lt}, Option.{option_or}}
use Rattle.p25_units.specs.{Items.{covered, place_of}, declared.item.Item.{Item}, declared.item.Item.TheVariants.{Whole, Broken}}
use Rattle.p25_calls.specs.{declared.call.Call.{Call}, declared.seen.UnitSeen.{UnitSeen}, Seen.{is_link_unit, is_terminator, is_voice, unit_end, unit_of}, Calls.{call_of}}
use Rattle.p25_calls.specs.Taking.{IsPending, broken_off, call_of_one, extended, goes_on, if_linked, pending_run, run_with, terminated, unit_answer, unit_pending}
use Rattle.p25_calls.proofs.LastRunLaws.{alone-end, alone-nac}

-- the data unit of an item begins and ends with the item
unit-there : (item : Item) (place end : ℕ) → place_of item ≡ place → end ≡ place_of item + covered item → IfSome (unit_of item) (λ (unit : UnitSeen). (unit.place ≡ place) × (unit_end unit ≡ end))
unit-there (Whole at frame fixes) place end is ends = (is, sym ends)
unit-there (Broken at count nac duid fields) place end is ends = (is, sym ends)
unit-there item place end is ends = tt

-- ---- the invariant of every caller

one-few : (b : Bool) (taken : ℕ) → 0 + cond b 1 0 ≤ taken + 1
one-few true taken = omega arith
one-few false taken = omega arith

more-few : (b : Bool) (count taken : ℕ) → count ≤ taken → count + cond b 1 0 ≤ taken + 1
more-few true count taken few = omega arith
more-few false count taken few = omega arith

alone-links : (unit : UnitSeen) (taken : ℕ) → (call_of_one unit).links ≤ taken + 1
unfolding call_of
alone-links unit taken = one-few (is_link_unit unit) taken

alone-broken : (unit : UnitSeen) (taken : ℕ) → (call_of_one unit).broken ≤ taken + 1
unfolding call_of
alone-broken unit taken = one-few unit.broken taken

alone-pending : (unit : UnitSeen) (taken : ℕ) → IsPending (unit_end unit) (taken + 1) (call_of_one unit)
alone-pending unit taken = record { before = omega (arith, alone-end unit); links = alone-links unit taken; broken = alone-broken unit taken }

extended-pending : (reached taken : ℕ) (call : Call) → IsPending reached taken call → (unit : UnitSeen) → unit.place ≡ reached → IsPending (unit_end unit) (taken + 1) (extended call unit)
extended-pending reached taken call held unit at = record {
  before = omega (arith, held.before, at);
  links = more-few (is_link_unit unit) call.links taken held.links;
  broken = more-few unit.broken call.broken taken held.broken;
}

run-pending : (reached taken : ℕ) (pending : Option Call) → IfSome pending (IsPending reached taken)
    → (unit : UnitSeen) → unit.place ≡ reached → IsPending (unit_end unit) (taken + 1) (run_with pending unit)
run-pending reached taken None held unit at = alone-pending unit taken
run-pending reached taken (Some call) held unit at =
    elim (goes_on call unit) as (λ (b : Bool). IsPending (unit_end unit) (taken + 1) (cond b (extended call unit) (call_of_one unit))) [
      | true ↦ extended-pending reached taken call held unit at
      | false ↦ alone-pending unit taken
    ]

-- a property of a run also holds for the part of it that a data unit leaves open
left-if : (P : Call → Type 0) (run : Call) (unit : UnitSeen) → P run → IfSome (pending_run run unit) P
left-if P run unit holds = elim (is_voice unit && not (is_terminator unit)) as (λ (b : Bool). IfSome (cond b (Some run) None) P) [ true ↦ holds | false ↦ tt ]

pending-later : (reached taken end most : ℕ) (pending : Option Call) → IfSome pending (IsPending reached taken) → reached ≤ end → taken ≤ most → IfSome pending (IsPending end most)
pending-later reached taken end most None held later few = tt
pending-later reached taken end most (Some call) held later few =
    record { before = omega (arith, held.before); links = omega (arith, held.links); broken = omega (arith, held.broken) }

-- before a data unit
pub pending-before : (reached taken most place : ℕ) (pending : Option Call) (unit : Option UnitSeen) → IfSome pending (IsPending reached taken) → reached ≤ place → taken ≤ most
    → IfSome unit (λ (unit : UnitSeen). unit.place ≡ place) → IfSome unit (λ (unit : UnitSeen). IfSome pending (IsPending unit.place most))
pending-before reached taken most place pending None held before few is = tt
pending-before reached taken most place pending (Some unit) held before few is = pending-later reached taken unit.place most pending held (omega (arith, is)) few

-- and after one
pending-after : (reached taken end : ℕ) (pending : Option Call) (unit : Option UnitSeen) → IfSome pending (IsPending reached taken) → reached ≤ end
    → IfSome unit (λ (unit : UnitSeen). (unit.place ≡ reached) × (unit_end unit ≡ end)) → IfSome (unit_pending pending unit) (IsPending end (taken + 1))
pending-after reached taken end pending None held later is = pending-later reached taken end (taken + 1) pending held later (omega arith)
pending-after reached taken end pending (Some unit) held later is =
    left-if (IsPending end (taken + 1)) (run_with pending unit) unit
    (subst (λ (e : ℕ). IsPending e (taken + 1) (run_with pending unit)) is.1 (run-pending reached taken pending held unit is.0))

pub pending-kept : (reached taken end : ℕ) (pending : Option Call) (item : Item) (unit : Option UnitSeen) (left : Option Call) → IfSome pending (IsPending reached taken)
    → place_of item ≡ reached → end ≡ place_of item + covered item → unit ≡ unit_of item → left ≡ unit_pending pending unit → IfSome left (IsPending end (taken + 1))
pending-kept reached taken end pending item unit left held at ends is is_left =
    subst (λ (o : Option Call). IfSome o (IsPending end (taken + 1))) (sym (is_left ∙ ap (unit_pending pending) is))
    (pending-after reached taken end pending (unit_of item) held (omega arith) (unit-there item reached end at ends))

-- ---- network access codes

abbrev HasNac : Call → Type 0
HasNac call = call.nac < 4096

run-nac : (pending : Option Call) → IfSome pending HasNac → (unit : UnitSeen) → unit.nac < 4096 → HasNac (run_with pending unit)
run-nac None held unit fits = subst (λ (n : ℕ). n < 4096) (alone-nac unit) fits
run-nac (Some call) held unit fits =
    elim (goes_on call unit) as (λ (b : Bool). HasNac (cond b (extended call unit) (call_of_one unit))) [
      | true ↦ held
      | false ↦ subst (λ (n : ℕ). n < 4096) (alone-nac unit) fits
    ]

pub pending-nac : (pending : Option Call) (unit : Option UnitSeen) → IfSome pending HasNac → IfSome unit (λ (unit : UnitSeen). unit.nac < 4096) → IfSome (unit_pending pending unit) HasNac
pending-nac pending None held fits = held
pending-nac pending (Some unit) held fits = left-if HasNac (run_with pending unit) unit (run-nac pending held unit fits)

linked-nac : (call : Call) → HasNac call → IfSome (if_linked call) HasNac
linked-nac call fits = elim (nat_lt 0 call.links) as (λ (b : Bool). IfSome (cond b (Some call) None) HasNac) [ true ↦ fits | false ↦ tt ]

broken_off-nac : (pending : Option Call) (unit : UnitSeen) → IfSome pending HasNac → IfSome (broken_off pending unit) HasNac
broken_off-nac None unit held = tt
broken_off-nac (Some call) unit held = elim (goes_on call unit) as (λ (b : Bool). IfSome (cond b None (if_linked call)) HasNac) [ true ↦ tt | false ↦ linked-nac call held ]

terminated-nac : (run : Call) (unit : UnitSeen) → HasNac run → IfSome (terminated run unit) HasNac
terminated-nac run unit fits = elim (is_terminator unit) as (λ (b : Bool). IfSome (cond b (if_linked run) None) HasNac) [ true ↦ linked-nac run fits | false ↦ tt ]

either-nac : (first second : Option Call) → IfSome first HasNac → IfSome second HasNac → IfSome (option_or first second) HasNac
either-nac None second held other = other
either-nac (Some call) second held other = held

pub ended-nac : (pending : Option Call) (unit : Option UnitSeen) → IfSome pending HasNac → IfSome unit (λ (unit : UnitSeen). unit.nac < 4096) → IfSome (unit_answer pending unit) HasNac
ended-nac pending None held fits = tt
ended-nac pending (Some unit) held fits =
    either-nac (broken_off pending unit) (terminated (run_with pending unit) unit) (broken_off-nac pending unit held) (terminated-nac (run_with pending unit) unit (run-nac pending held unit fits))
