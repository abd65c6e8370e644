-- One pass decides: the settled bits of a stretch come first, with their units changed, whatever bits come after them; and so item by item.
use Rattle.std.proofs.Common.{◌≡◌, ℕ, zero, suc, ◌+◌, ◌<◌, ◌≤◌, ◌||◌, Bool, true, false, nat_le, inl, inr, List, [], ◌∷◌, ◌++◌, length, take, drop, Option, Some, None, refl, ap, ap₂, sym, ◌∙◌, arith, append_assoc, append-nil, length-append, length-drop}
use Rattle.std.proofs.lemmas.{Bool.{cases_lt, le-leb, lt-leb}, List.{take-append-le, drop-append-le, length-take-le, take_at, drop_at}}
use Rattle.p25_units.specs.{Items.{covered, place_of, unit_item_of}, declared.item.Item.{Item}}
use Rattle.p25_units.proofs.ItemsLaws.{place_of-unit_item_of}
use Rattle.p25_follow.specs.{Chains.{chain_by, settled_of, with_front}, Expected.{kind_length}, FollowedUnits.{units_step, written_units, written_units_in}}
use Rattle.p25_follow.specs.{Following.{left_of}, Steps.{step_of}}
use Rattle.p25_follow.proofs.{AfterUnitLaws.{Sound, sound-some, some-sound}, ChainLaws.{chain_by-none, chain_by-step, chain_by-stop, chain_by-waits, chain-settles, left_of-none, left_of-step, left_of-stop, left_of-waits}}
use Rattle.p25_follow.proofs.{LengthLaws.{length-chain_of, length-with_front}, StepLaws.{step_of-append, step_of-there}, WrittenUnitsLaws.{written-step}}
use Rattle.p25_decide.specs.{DecidedFollowing.{settled_over, settled_units_in}, DecidedStretches.{chain_over, over_units}}
use Rattle.p25_decide.proofs.OverLaws.{covers-written, over-first}

-- as many bits as there are: those that are settled, and those that are left
pub length-settled : (before : Option (ℕ × ℕ)) (bits : List Bool) → length (settled_of before bits) + length (left_of before bits).stretch ≡ length bits
length-settled before bits =
    let left = left_of before bits in
    let split : length (chain_by true before (bits ++ []) None) ≡ length (settled_of before bits) + length (chain_by true left.before (left.stretch ++ []) None)
    = ap length (chain-settles true before bits [] None) ∙ length-append (settled_of before bits) (chain_by true left.before (left.stretch ++ []) None) in
    omega (arith, split, length-chain_of before (bits ++ []) None, length-chain_of left.before (left.stretch ++ []) None, ap length (append-nil bits), ap length (append-nil left.stretch))

units-after-none : (at : ℕ) (bits : List Bool) (end : Option (ℕ × ℕ)) → written_units at None bits end ≡ []
unfolding written_units written_units_in
units-after-none at [] end = refl
units-after-none at (bit ∷ bits) end = refl

units-stopped : (at : ℕ) (before : ℕ × ℕ) (bits : List Bool) (end : Option (ℕ × ℕ)) → step_of before bits end ≡ None → written_units at (Some before) bits end ≡ []
unfolding written_units written_units_in units_step
units-stopped at before [] end is = refl
units-stopped at before (bit ∷ bits) end is = rw is

pub chain-none : (change : Item → List Bool → List Bool) (at : ℕ) (bits : List Bool) (end : Option (ℕ × ℕ)) → chain_over change at None bits end ≡ bits
unfolding chain_over over_units
chain-none change at bits end = ap₂ (λ (us : List Item) (xs : List Bool). over_units change at us xs) (units-after-none at bits end) (chain_by-none true bits end)

pub chain-stops : (change : Item → List Bool → List Bool) (at : ℕ) (before : ℕ × ℕ) (bits : List Bool) (end : Option (ℕ × ℕ)) → step_of before bits end ≡ None → chain_over change at (Some before) bits end ≡ bits
unfolding chain_over over_units
chain-stops change at before bits end is =
    ap₂ (λ (us : List Item) (xs : List Bool). over_units change at us xs) (units-stopped at before bits end is) (chain_by-stop true before bits end refl is)

-- the first unit of a chain
abbrev pub unit_at : ℕ → ℕ × ℕ → ℕ → List Bool → Item
unit_at at before kind bits = unit_item_of at (with_front (before.0, kind) (take (kind_length kind) bits))

pub record IsUnit (at : ℕ) (before : ℕ × ℕ) (kind : ℕ) (bits : List Bool) : Type 0 where
  pub place : place_of (unit_at at before kind bits) ≡ at
  pub covers : covered (unit_at at before kind bits) ≡ kind_length kind
  pub long : length (with_front (before.0, kind) (take (kind_length kind) bits)) ≡ kind_length kind
  pub there : kind_length kind ≤ length bits
  pub some : 0 < kind_length kind

pub is-unit : (at : ℕ) (before : ℕ × ℕ) (kind : ℕ) (bits : List Bool) (end : Option (ℕ × ℕ)) → Sound (Some before) → step_of before bits end ≡ Some kind → IsUnit at before kind bits
is-unit at before kind bits end sound is =
    let there = step_of-there before bits end kind is in
    let raw = take (kind_length kind) bits in
    let raw_long : length raw ≡ kind_length kind = length-take-le (kind_length kind) bits there.there in
    record {
      place = place_of-unit_item_of at (with_front (before.0, kind) raw);
      covers = covers-written at before.0 kind raw (sound-some before sound) there.few (omega (arith, there.fits)) raw_long;
      long = length-with_front (before.0, kind) raw (omega (arith, raw_long, there.few)) ∙ raw_long;
      there = there.there;
      some = omega (arith, there.few);
    }

-- the first unit of some bits that begin with it, changed, and those after it
over-step : (change : Item → List Bool → List Bool) (at : ℕ) (before : ℕ × ℕ) (kind : ℕ) (bits rest : List Bool) (units : List Item) → IsUnit at before kind bits
    → over_units change at (unit_at at before kind bits ∷ units) (with_front (before.0, kind) (take (kind_length kind) bits) ++ rest)
    ≡ change (unit_at at before kind bits) (with_front (before.0, kind) (take (kind_length kind) bits)) ++ over_units change (at + kind_length kind) units rest
over-step change at before kind bits rest units is =
    let unit = unit_at at before kind bits in
    let sent = with_front (before.0, kind) (take (kind_length kind) bits) in
    over-first change at unit units (sent ++ rest) is.place
    ∙ ap (λ c. change unit (take c (sent ++ rest)) ++ over_units change (at + c) units (drop c (sent ++ rest))) is.covers
    ∙ ap₂ (λ (xs ys : List Bool). change unit xs ++ over_units change (at + kind_length kind) units ys) (take_at sent rest (kind_length kind) is.long) (drop_at sent rest (kind_length kind) is.long)

-- the settled bits come first
abbrev Settles : (Item → List Bool → List Bool) → ℕ → ℕ → Option (ℕ × ℕ) → List Bool → List Bool → Option (ℕ × ℕ) → Type 0
Settles change turns at before bits more end =
    chain_over change at before (bits ++ more) end
    ≡ over_units change at (settled_units_in turns at before bits) (settled_of before bits)
    ++ chain_over change (at + length (settled_of before bits)) (left_of before bits).before ((left_of before bits).stretch ++ more) end

-- the first unit of a chain, changed, and the chain after it
pub chain-next : (change : Item → List Bool → List Bool) (at : ℕ) (before : ℕ × ℕ) (bits : List Bool) (end : Option (ℕ × ℕ)) (kind : ℕ) → step_of before bits end ≡ Some kind → Sound (Some before)
    → chain_over change at (Some before) bits end
    ≡ change (unit_at at before kind bits) (with_front (before.0, kind) (take (kind_length kind) bits)) ++ chain_over change (at + kind_length kind) (Some (before.0, kind)) (drop (kind_length kind) bits) end
unfolding chain_over
chain-next change at before bits end kind is sound =
    ap₂ (λ (us : List Item) (xs : List Bool). over_units change at us xs) (written-step at before bits end kind is) (chain_by-step true before bits end kind refl is)
    ∙ over-step change at before kind bits _ _ (is-unit at before kind bits end sound is)

pub units-none : (turns at : ℕ) (bits : List Bool) → settled_units_in turns at None bits ≡ []
unfolding settled_units_in
units-none zero at bits = refl
units-none (suc turns) at bits = refl

pub units-short : (turns at : ℕ) (before : ℕ × ℕ) (bits : List Bool) → length bits < 6912 → settled_units_in turns at (Some before) bits ≡ []
unfolding settled_units_in
units-short zero at before bits short = refl
units-short (suc turns) at before bits short = rw (lt-leb 6912 (length bits) short)

pub units-stop : (turns at : ℕ) (before : ℕ × ℕ) (bits : List Bool) → 6912 ≤ length bits → step_of before bits None ≡ None → settled_units_in (suc turns) at (Some before) bits ≡ []
unfolding settled_units_in units_step
units-stop turns at before bits long is = rw (le-leb 6912 (length bits) long, is)

pub units-next : (turns at : ℕ) (before : ℕ × ℕ) (bits : List Bool) (kind : ℕ) → 6912 ≤ length bits → step_of before bits None ≡ Some kind
    → settled_units_in (suc turns) at (Some before) bits ≡ unit_at at before kind bits ∷ settled_units_in turns (at + kind_length kind) (Some (before.0, kind)) (drop (kind_length kind) bits)
unfolding settled_units_in units_step
units-next turns at before bits kind long is = rw (le-leb 6912 (length bits) long, is)

over-nil : (change : Item → List Bool → List Bool) (at : ℕ) (bits : List Bool) → over_units change at [] bits ≡ bits
unfolding over_units
over-nil change at bits = refl

settles-long : (change : Item → List Bool → List Bool) (turns at : ℕ) (before : ℕ × ℕ) (bits more : List Bool) (end : Option (ℕ × ℕ)) → 6912 ≤ length bits → Sound (Some before)
    → (kind : Option ℕ) → step_of before bits None ≡ kind
    → ((name : ℕ × ℕ) (place : ℕ) (left : List Bool) → length left < length bits → Sound (Some name) → Settles change turns place (Some name) left more end)
    → Settles change (suc turns) at (Some before) bits more end
settles-long change turns at before bits more end long sound None is later =
    let goes : (false || nat_le 6912 (length bits)) ≡ true = le-leb 6912 (length bits) long in
    chain-stops change at before (bits ++ more) end (step_of-append before bits more end None long ∙ is)
    ∙ sym (rw (units-stop turns at before bits long is, chain_by-stop false before bits None goes is, left_of-stop before bits long is, over-nil change at bits, chain-none) refl)
settles-long change turns at before bits more end long sound (Some kind) is later =
    let goes : (false || nat_le 6912 (length bits)) ≡ true = le-leb 6912 (length bits) long in
    let k = kind_length kind in
    let on : step_of before (bits ++ more) end ≡ Some kind = step_of-append before bits more end None long ∙ is in
    let unit = is-unit at before kind bits None sound is in
    let name : ℕ × ℕ = (before.0, kind) in
    let left = drop k bits in
    let front = with_front (before.0, kind) (take k bits) in
    let own = change (unit_at at before kind bits) front in
    let mine = over_units change (at + k) (settled_units_in turns (at + k) (Some name) left) (settled_of (Some name) left) in
    let next = left_of (Some name) left in
    let inner = later name (at + k) left (omega (arith, length-drop k bits, unit.there, unit.some)) (some-sound name (sound-some before sound)) in
    let same : length (front ++ settled_of (Some name) left) ≡ k + length (settled_of (Some name) left) = omega (arith, length-append front (settled_of (Some name) left), unit.long) in
    let position : at + k + length (settled_of (Some name) left) ≡ at + length (front ++ settled_of (Some name) left) = omega (arith, same) in
    chain-next change at before (bits ++ more) end kind on sound
    ∙ ap₂ (λ (xs ys : List Bool). change (unit_item_of at (with_front (before.0, kind) xs)) (with_front (before.0, kind) xs) ++ chain_over change (at + k) (Some name) ys end)
    (take-append-le k bits more unit.there) (drop-append-le k bits more unit.there)
    ∙ ap (λ (xs : List Bool). own ++ xs) (inner ∙ ap (λ p. mine ++ chain_over change p next.before (next.stretch ++ more) end) position)
    ∙ sym (append_assoc own mine (chain_over change (at + length (front ++ settled_of (Some name) left)) next.before (next.stretch ++ more) end))
    ∙ ap (λ (xs : List Bool). xs ++ chain_over change (at + length (front ++ settled_of (Some name) left)) next.before (next.stretch ++ more) end)
    (sym (over-step change at before kind bits (settled_of (Some name) left) (settled_units_in turns (at + k) (Some name) left) unit))
    ∙ sym (rw (units-next turns at before bits kind long is, chain_by-step false before bits None kind goes is, left_of-step before bits kind long is) refl)

settles-in : (change : Item → List Bool → List Bool) (turns at : ℕ) (before : Option (ℕ × ℕ)) (bits more : List Bool) (end : Option (ℕ × ℕ)) → length bits ≤ turns → Sound before
    → Settles change turns at before bits more end
settles-in change turns at None bits more end few sound =
    chain-none change at (bits ++ more) end ∙ sym (rw (units-none turns at bits, chain_by-none false bits None, left_of-none bits, over-nil change at bits, chain-none) refl)
settles-in change zero at (Some before) bits more end few sound =
    let short : length bits < 6912 = omega arith in
    let position : at ≡ at + 0 = omega arith in
    rw (units-short zero at before bits short, chain_by-waits before bits None short, left_of-waits before bits short, over-nil change at []) (ap (λ p. chain_over change p (Some before) (bits ++ more) end) position)
settles-in change (suc turns) at (Some before) bits more end few sound =
    elim (cases_lt (length bits) 6912) [
      | inl short ↦
          let position : at ≡ at + 0 = omega arith in
          rw (units-short (suc turns) at before bits short, chain_by-waits before bits None short, left_of-waits before bits short, over-nil change at []) (ap (λ p. chain_over change p (Some before) (bits ++ more) end) position)
      | inr long ↦
          settles-long change turns at before bits more end long sound (step_of before bits None) refl
          (λ name place left fewer known. settles-in change turns place (Some name) left more end (omega arith) known)
    ]

pub chain-over-settles : (change : Item → List Bool → List Bool) (at : ℕ) (before : Option (ℕ × ℕ)) (bits more : List Bool) (end : Option (ℕ × ℕ)) → Sound before
    → chain_over change at before (bits ++ more) end
    ≡ settled_over change at before bits ++ chain_over change (at + length (settled_of before bits)) (left_of before bits).before ((left_of before bits).stretch ++ more) end
unfolding settled_over
chain-over-settles change at before bits more end sound = settles-in change (length bits) at before bits more end (omega arith) sound

-- ---- what is settled, unit by unit

units_step-same : (f g : ℕ → ℕ × ℕ → List Bool → List Item) (at : ℕ) (before : ℕ × ℕ) (bits : List Bool) (kind : Option ℕ)
    → ((k : ℕ) → kind ≡ Some k → f (at + kind_length k) (before.0, k) (drop (kind_length k) bits) ≡ g (at + kind_length k) (before.0, k) (drop (kind_length k) bits))
    → units_step f at before bits kind ≡ units_step g at before bits kind
unfolding units_step
units_step-same f g at before bits None same = refl
units_step-same f g at before bits (Some kind) same = rw (same kind refl)

-- with turns enough for every bit it does not matter how many there are
units-enough : (more turns at : ℕ) (before : ℕ × ℕ) (bits : List Bool) → length bits ≤ more → length bits ≤ turns → settled_units_in more at (Some before) bits ≡ settled_units_in turns at (Some before) bits
unfolding settled_units_in
units-enough zero turns at before bits a b =
    let short : length bits < 6912 = omega arith in
    units-short zero at before bits short ∙ sym (units-short turns at before bits short)
units-enough (suc more) zero at before bits a b =
    let short : length bits < 6912 = omega arith in
    units-short (suc more) at before bits short ∙ sym (units-short zero at before bits short)
units-enough (suc more) (suc turns) at before bits a b =
    rw (units_step-same (λ position name left. settled_units_in more position (Some name) left) (λ position name left. settled_units_in turns position (Some name) left) at before bits (step_of before bits None)
    (λ kind is. let there = step_of-there before bits None kind is in
    let less : length (drop (kind_length kind) bits) + 144 ≤ length bits = omega (arith, length-drop (kind_length kind) bits, there.few, there.there) in
    units-enough more turns (at + kind_length kind) (before.0, kind) (drop (kind_length kind) bits) (omega arith) (omega arith)))

pub settled-none : (change : Item → List Bool → List Bool) (at : ℕ) (bits : List Bool) → settled_over change at None bits ≡ bits
unfolding settled_over
settled-none change at bits =
    ap₂ (λ (us : List Item) (xs : List Bool). over_units change at us xs) (units-none (length bits) at bits) (chain_by-none false bits None) ∙ over-nil change at bits

pub settled-waits : (change : Item → List Bool → List Bool) (at : ℕ) (before : ℕ × ℕ) (bits : List Bool) → length bits < 6912 → settled_over change at (Some before) bits ≡ []
unfolding settled_over
settled-waits change at before bits short =
    ap₂ (λ (us : List Item) (xs : List Bool). over_units change at us xs) (units-short (length bits) at before bits short) (chain_by-waits before bits None short) ∙ over-nil change at []

pub settled-stops : (change : Item → List Bool → List Bool) (at : ℕ) (before : ℕ × ℕ) (bits : List Bool) → 6912 ≤ length bits → step_of before bits None ≡ None
    → settled_over change at (Some before) bits ≡ bits
unfolding settled_over
settled-stops change at before bits long is =
    let goes : (false || nat_le 6912 (length bits)) ≡ true = le-leb 6912 (length bits) long in
    let units = units-enough (length bits) (suc (length bits)) at before bits (omega arith) (omega arith) ∙ units-stop (length bits) at before bits long is in
    ap₂ (λ (us : List Item) (xs : List Bool). over_units change at us xs) units (chain_by-stop false before bits None goes is) ∙ over-nil change at bits

pub settled-next : (change : Item → List Bool → List Bool) (at : ℕ) (before : ℕ × ℕ) (bits : List Bool) (kind : ℕ) → 6912 ≤ length bits → step_of before bits None ≡ Some kind → Sound (Some before)
    → settled_over change at (Some before) bits
    ≡ change (unit_at at before kind bits) (with_front (before.0, kind) (take (kind_length kind) bits)) ++ settled_over change (at + kind_length kind) (Some (before.0, kind)) (drop (kind_length kind) bits)
unfolding settled_over
settled-next change at before bits kind long is sound =
    let goes : (false || nat_le 6912 (length bits)) ≡ true = le-leb 6912 (length bits) long in
    let k = kind_length kind in
    let left = drop k bits in
    let name : ℕ × ℕ = (before.0, kind) in
    let fewer : length left ≤ length bits = omega (arith, length-drop k bits) in
    let units = units-enough (length bits) (suc (length bits)) at before bits (omega arith) (omega arith) ∙ units-next (length bits) at before bits kind long is
    ∙ ap (λ (us : List Item). unit_at at before kind bits ∷ us) (units-enough (length bits) (length left) (at + k) name left fewer (omega arith)) in
    ap₂ (λ (us : List Item) (xs : List Bool). over_units change at us xs) units (chain_by-step false before bits None kind goes is)
    ∙ over-step change at before kind bits (settled_of (Some name) left) (settled_units_in (length left) (at + k) (Some name) left) (is-unit at before kind bits None sound is)
