-- A joiner that takes the parts of a long message in order. By the tests of a part, each at the arriving part.
use Rattle.std.proofs.{Common.{◌≡◌, ℕ, ◌+◌, ◌*◌, ◌%◌, ◌<◌, ◌≤◌, Bool, true, false, List, ◌∷◌, ◌++◌, length, take, drop, refl, ap, sym, ◌∙◌, arith, length-drop}, lemmas.Bool.{cond-true, cond-false}}
use Rattle.std.proofs.{lemmas.Bool.Decides.{nat_tests}, lemmas.List.{take_all, length-take}, Math.Seq.{take-add}}
use Rattle.std.specs.Prelude.{nat_le}
use Rattle.p25_bits.specs.Bits.{part}
use Rattle.p25_fragments.specs.{declared.joiner.Joined.TheVariants.{Whole, Part}, Joining.{Joining, first_joining, is_refused, taken_as, part_taken, message_taken}}
use Rattle.p25_messages.specs.LongMessages.{part_count, part_mark, part_of}

-- a joiner that holds the first parts of a message
abbrev pub joined_at : List ℕ → ℕ → Joining
joined_at message number = record { next = number; octets = take (500 * number) message }

pub joined-none : (message : List ℕ) → first_joining ≡ joined_at message 0
joined-none message = refl

mark-inner : (count number : ℕ) → number + 1 < count → part_mark count number ≡ number
mark-inner count number h = cond-false _ (number + 128) number (grind (arith, nat_tests))

mark-last : (count number : ℕ) → number + 1 ≡ count → part_mark count number ≡ number + 128
mark-last count number h = cond-true _ (number + 128) number (grind (arith, nat_tests))

inner-accepted : (number count : ℕ) → number < 7 → count ≡ 500 → is_refused number false number count ≡ false
inner-accepted number count n c = grind (arith, nat_tests)

last-accepted : (number count : ℕ) → count ≤ 500 → (0 < number → 0 < count) → is_refused number true number count ≡ false
last-accepted number count c n = grind (arith, nat_tests)

-- the octets of one more part
more-octets : (message : List ℕ) (number : ℕ) → take (500 * number) message ++ part (500 * number) 500 message ≡ take (500 * (number + 1)) message
more-octets message number =
    let e : 500 * (number + 1) ≡ 500 * number + 500 = omega arith in
    sym (ap (λ (n : ℕ). take n message) e ∙ take-add (500 * number) 500 message)

inner-length : (message : List ℕ) (number : ℕ) → number + 1 < part_count (length message) → length (part (500 * number) 500 message) ≡ 500
inner-length message number h = omega (arith, length-take 500 (drop (500 * number) message), length-drop (500 * number) message)

last-length : (message : List ℕ) (number : ℕ) → number + 1 ≡ part_count (length message)
    → (length (part (500 * number) 500 message) ≤ 500) × (0 < number → 0 < length (part (500 * number) 500 message))
last-length message number h =
    (omega (arith, length-take 500 (drop (500 * number) message)), λ n. omega (arith, length-take 500 (drop (500 * number) message), length-drop (500 * number) message))

by-mark : (j : Joining) (last : Bool) (mark number : ℕ) (octets : List ℕ) → nat_le 128 mark ≡ last → mark % 128 ≡ number → message_taken j (mark ∷ octets) ≡ part_taken last j number octets
unfolding message_taken
by-mark j last mark number octets l n = cc

accepted : (j : Joining) (last : Bool) (number : ℕ) (octets : List ℕ) → is_refused j.next last number (length octets) ≡ false → part_taken last j number octets ≡ taken_as false last j number octets
unfolding part_taken
accepted j last number octets e = cc

-- a part that is not the last
pub join-inner : (message : List ℕ) (number : ℕ) → length message ≤ 4000 → number + 1 < part_count (length message)
    → message_taken (joined_at message number) (part_of message number) ≡ (joined_at message (number + 1), Part number)
unfolding part_of taken_as
join-inner message number short h =
    let j = joined_at message number in
    let octets = part (500 * number) 500 message in
    let mark : part_mark (part_count (length message)) number ≡ number = mark-inner (part_count (length message)) number h in
    let few : number < 7 = omega arith in
    let test : nat_le 128 number ≡ false = grind (arith, nat_tests) in
    cc (by-mark j false number number octets test (omega arith), accepted j false number octets (inner-accepted number (length octets) few (inner-length message number h)), more-octets message number)

-- the last part
pub join-last : (message : List ℕ) (number : ℕ) → length message ≤ 4000
    → number + 1 ≡ part_count (length message) → message_taken (joined_at message number) (part_of message number) ≡ (first_joining, Whole message)
unfolding part_of taken_as
join-last message number short h =
    let j = joined_at message number in
    let octets = part (500 * number) 500 message in
    let mark : part_mark (part_count (length message)) number ≡ number + 128 = mark-last (part_count (length message)) number h in
    let test : nat_le 128 (number + 128) ≡ true = grind (arith, nat_tests) in
    let sizes = last-length message number h in
    let all : take (500 * (number + 1)) message ≡ message = take_all (500 * (number + 1)) message (omega arith) in
    cc (by-mark j true (number + 128) number octets test (omega arith), accepted j true number octets (last-accepted number (length octets) sizes.0 sizes.1), more-octets message number)
