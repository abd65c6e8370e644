-- The distance of transmitted bits as a sum over nibbles.
use Rattle.std.proofs.{Common.{◌≡◌, ℕ, suc, ◌+◌, ◌<◌, ◌≤◌, Bool, List, [], ◌∷◌, length, drop, get_or, refl, ap₂, sym, ◌∙◌, arith, All}, lemmas.List.{drop_more}}
use Rattle.std.proofs.lemmas.List.Elements.{All-cons, All-nil, All-head, All-tail}
use Rattle.std.specs.Bool.{beq}
use Rattle.p25_bits.specs.{Distance.{distance_of}, Numbers.{number_bits}}
use Rattle.p25_bits.proofs.{BitsLaws.{length-bits_of}, DistanceLaws.{distance_by-append, distance_by-nil, distance_by-le}}
use Rattle.p25_trellis.specs.{Interleave.{interleaved}, Tables.{nibble_distance}, Trellis.{nibbles_from, sent_bits, distance_from, IsPath, IsFirstLeastReading}}
use Rattle.p25_trellis.specs.Costs.{total_cost, symbols_cost, path_cost, received_cost}
use Rattle.p25_trellis.proofs.{InterleaveLaws.{weighed, weighed-interleaved, length-interleaved}, PathLaws.{length-nibbles_from}}

-- two nibbles differ in at most four bits
pub nibble_distance-le : (a b : ℕ) → nibble_distance a b ≤ 4
unfolding nibble_distance
nibble_distance-le a b = omega (arith, distance_by-le, length-bits_of)

-- bits of nibbles differ as the nibbles do
distance_of-nibbles : (xs ys : List ℕ) → length xs ≡ length ys → distance_of (number_bits 4 xs) (number_bits 4 ys) ≡ weighed nibble_distance xs ys
unfolding number_bits weighed nibble_distance
distance_of-nibbles [] [] long = distance_by-nil beq []
distance_of-nibbles (x ∷ xs) (y ∷ ys) long =
    cc (distance_by-append beq _ _ _ _ (length-bits_of 4 x ∙ sym (length-bits_of 4 y)), distance_of-nibbles xs ys (omega arith))
distance_of-nibbles xs ys long = absurd (omega arith)

-- and so do interleaved ones
pub distance_of-interleaved : (xs ys : List ℕ) → length xs ≡ length ys → distance_of (number_bits 4 (interleaved xs)) (number_bits 4 (interleaved ys)) ≡ weighed nibble_distance xs ys
distance_of-interleaved xs ys long =
    distance_of-nibbles _ _ (simp (length-interleaved, long)) ∙ weighed-interleaved nibble_distance xs ys long

-- the nibbles of small symbols are small
pub All-nibbles_from : (states : ℕ) (point : ℕ → ℕ → ℕ) → ((state symbol : ℕ) → state < states → symbol < states → point state symbol < 16)
    → (state : ℕ) (path : List ℕ) → state < states → All (λ n. n < states) path → All (λ n. n < 16) (nibbles_from point state path)
unfolding nibbles_from
All-nibbles_from states point small state [] row all = All-nil _
All-nibbles_from states point small state (symbol ∷ path) row all =
    let P : ℕ → Type 0 = λ n. n < states in
    let here = All-head P symbol path all in
    All-cons (λ n. n < 16) (point state symbol) (nibbles_from point symbol path) (small state symbol row here) (All-nibbles_from states point small symbol path here (All-tail P symbol path all))

-- the first nibble is weighed against the received one of its step
pub weighed-drop : {Y : Type 0} (weight : ℕ → Y → ℕ) (nibble : ℕ) (nibbles : List ℕ) (received : List Y) (step : ℕ) (d : Y) → step < length received
    → weighed weight (nibble ∷ nibbles) (drop step received) ≡ weight nibble (get_or received step d) + weighed weight nibbles (drop (suc step) received)
unfolding weighed
weighed-drop weight nibble nibbles received step d inside =
    let more : step + 1 ≡ suc step = omega arith in
    cc (drop_more received step d inside, more)

-- the cost of nibbles in a table is their weight against the received ones, if each cost in the table is a weight
pub total_cost-weighed : {Y : Type 0} (weight : ℕ → Y → ℕ) (received : List Y) (d : Y) (cost : ℕ → ℕ → ℕ)
    → ((step nibble : ℕ) → step < 49 → nibble < 16 → cost step nibble ≡ weight nibble (get_or received step d)) → length received ≡ 49
    → (step : ℕ) (nibbles : List ℕ) → step + length nibbles ≡ 49 → All (λ n. n < 16) nibbles
    → total_cost cost step nibbles ≡ weighed weight nibbles (drop step received)
unfolding total_cost weighed
total_cost-weighed weight received d cost table long step [] place small = refl
total_cost-weighed weight received d cost table long step (nibble ∷ nibbles) place small =
    let P : ℕ → Type 0 = λ n. n < 16 in
    ap₂ ◌+◌ (table step nibble (omega arith) (All-head P nibble nibbles small)) (total_cost-weighed weight received d cost table long (suc step) nibbles (omega arith)
    (All-tail P nibble nibbles small))
    ∙ sym (weighed-drop weight nibble nibbles received step d (omega arith))

-- the cost of a path against received nibbles is its distance from them
pub path_cost-distance : (states : ℕ) (point : ℕ → ℕ → ℕ) (received : List ℕ) (bits : List Bool) → 0 < states
    → ((state symbol : ℕ) → state < states → symbol < states → point state symbol < 16) → length received ≡ 49
    → bits ≡ number_bits 4 (interleaved received) → (path : List ℕ) → IsPath states path → path_cost point (received_cost received) path ≡ distance_from point bits path
unfolding symbols_cost sent_bits received_cost
path_cost-distance states point received bits some small long are path is =
    let nibbles = nibbles_from point 0 path in
    let count = length-nibbles_from point 0 path ∙ is.long in
    cc (
      total_cost-weighed nibble_distance received 0 _ (λ step nibble early low. refl) long 0 nibbles (omega arith) (All-nibbles_from states point small 0 path some is.below),
      distance_of-interleaved nibbles received (count ∙ sym long),
      are,
    )

-- costs that are the same for every path have the same first least path
pub IsFirstLeastReading-same : {states width : ℕ} {f g : List ℕ → ℕ} {octets : List ℕ} {total : ℕ} → ((path : List ℕ) → IsPath states path → f path ≡ g path)
    → IsFirstLeastReading states width f octets total → IsFirstLeastReading states width g octets total
IsFirstLeastReading-same {states} {f = f} {g} same reading =
    let first = reading.first_least in
    let here = same reading.path first.is_path in record {
      path = reading.path;
      first_least = record {
        is_path = first.is_path;
        least = λ other is. omega (arith, first.least other is, same other is, here);
        first = λ other is equal. first.first other is (same other is ∙ equal ∙ sym here);
      };
      carries = reading.carries;
      total_is = reading.total_is ∙ here;
    }
