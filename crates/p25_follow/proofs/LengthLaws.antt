-- The output has as many bits as the input. Along the data units of a chain, and along the items.
use Rattle.std.proofs.Common.{◌≡◌, ℕ, ◌+◌, ◌≤◌, Bool, true, List, [], length, take, drop, Option, None, refl, arith, length-append, length-drop}
use Rattle.std.proofs.lemmas.List.{length-take-le}
use Rattle.p25_unit_front.specs.Front.{unit_front}
use Rattle.p25_unit_front.proofs.FrontLaws.{length-unit_front}
use Rattle.p25_units.specs.Items.{covered}
use Rattle.p25_stream.specs.Items.{items_of}
use Rattle.p25_follow.specs.{Chains.{chain_by, with_front}, Expected.{kind_length}, Followed.{follow_of, followed_by}}
use Rattle.p25_follow.proofs.{ChainLaws.{along-chain, chain-stop, chain_by-step}, FollowingLaws.{along-items, followed-end, followed-rest, followed-unit}, StepLaws.{step_of-there}}

pub length-with_front : (name : ℕ × ℕ) (bits : List Bool) → 114 ≤ length bits → length (with_front name bits) ≡ length bits
unfolding with_front
length-with_front name bits long =
    let front = unit_front name.0 name.1 in
    let whole = length-unit_front name.0 name.1 in
    rw (length-append, length-append, length-append)
    (omega (arith, length-take-le 70 front (omega arith), length-take-le 2 (drop 70 bits) (omega (arith, length-drop 70 bits)), length-drop 70 front, length-drop 114 bits))

pub length-chain_of : (before : Option (ℕ × ℕ)) (bits : List Bool) (end : Option (ℕ × ℕ)) → length (chain_by true before bits end) ≡ length bits
length-chain_of before bits end =
    along-chain end (λ at name left. length (chain_by true name left end) ≡ length left)
    (λ at name left is. rw (chain-stop name left end is))
    (λ at name left kind is later.
    let there = step_of-there name left end kind is in
    let count = kind_length kind in
    let unit : length (take count left) ≡ count = length-take-le count left there.there in
    rw (chain_by-step true name left end kind refl is, length-append, later, length-with_front (name.0, kind) (take count left) (omega (arith, there.few)))
    (omega (arith, length-drop count left, there.there)))
    0 before bits

-- the output for a stretch and for the items after it has as many bits as they
pub length-followed : (at : ℕ) (before : Option (ℕ × ℕ)) (stretch bits : List Bool) → length (followed_by true before stretch (items_of at bits) bits) ≡ length stretch + length bits
length-followed =
    along-items (λ at before stretch items bits. length (followed_by true before stretch items bits) ≡ length stretch + length bits)
    (λ at before stretch. rw (followed-end, length-chain_of) (omega arith))
    (λ at before stretch item items bits starts rest later.
    rw (followed-rest true before stretch item items bits rest, later, length-append) (omega (arith, length-take-le (covered item) bits starts.there, length-drop (covered item) bits, starts.there)))
    (λ at before stretch item items bits starts unit later.
    rw (followed-unit true before stretch item items bits unit, length-append, length-append, later, length-chain_of)
    (omega (arith, length-take-le (covered item) bits starts.there, length-drop (covered item) bits, starts.there)))

pub length-follow_of : (bits : List Bool) → length (follow_of bits) ≡ length bits
unfolding follow_of
length-follow_of bits = rw (length-followed 0 None [] bits) (omega arith)
