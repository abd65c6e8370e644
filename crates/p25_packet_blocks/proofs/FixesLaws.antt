-- Blocks and their decodings: the block of the decoded octets differs from the received bits as the nearest path does.
use Rattle.std.proofs.Common.{◌≡◌, ℕ, zero, suc, ◌+◌, ◌*◌, ◌<◌, ◌≤◌, inl, inr, Bool, eqb, List, ◌++◌, length, refl, ap, sym, ◌∙◌, arith, add-one, append_assoc, length-append}
use Rattle.std.proofs.lemmas.Bool.{cond-true, eq-eqb}
use Rattle.std.specs.Bool.{beq}
use Rattle.p25_bits.specs.{Bits.{part}, Distance.{distance_of}, Numbers.{joined_below}}
use Rattle.p25_bits.proofs.{DistanceLaws.{distance_by-append, distance_by-nil, distance_of-sym}, NumbersLaws.{joined_below-suc, joined_below-zero, joined_below-parts, length-joined_below}}
use Rattle.p25_bits.proofs.PartLaws.{part_add, part_joined, length-part}
use Rattle.p25_trellis.specs.{Nearest.{nearest_distance, half_octets, three_quarter_octets, half_block, three_quarter_block}, Tables.{half_point, three_quarter_point}}
use Rattle.p25_trellis.proofs.{ApartLaws.{length-block}, NearestLaws.{IsBlock-block_from}, NearestBlockLaws.{All-nearest_octets, nearest_distance-block, nearest_distance-le}}
use Rattle.p25_packet_blocks.specs.{declared.head.PacketHead.{PacketHead}, Reading.{block_bits}, Fixes.{blocks_distance, half_distance, three_quarter_distance}}
use Rattle.p25_packet_blocks.specs.{Heads.{confirmed_format, head_format, head_blocks}, Kinds.{IsPlainFormat}, Outcomes.{body_distance}}
use Rattle.p25_packet_blocks.proofs.ReadingLaws.{length-half_octets, length-three_quarter_octets}

-- Blocks compared with their decodings.

pub half_fixes : (received : List Bool) → distance_of received (half_block (half_octets received)) ≡ nearest_distance 4 half_point received
half_fixes received = distance_of-sym received (half_block (half_octets received)) ∙ sym (nearest_distance-block 4 2 half_point received (omega arith) refl)

pub three_quarter_fixes : (received : List Bool) → distance_of received (three_quarter_block (three_quarter_octets received)) ≡ nearest_distance 8 three_quarter_point received
three_quarter_fixes received = distance_of-sym received (three_quarter_block (three_quarter_octets received)) ∙ sym (nearest_distance-block 8 3 three_quarter_point received (omega arith) refl)

pub length-half : (received : List Bool) → length (half_block (half_octets received)) ≡ 196
length-half received =
    length-block 4 2 half_point (half_octets received) (half_block (half_octets received))
    (IsBlock-block_from 4 2 half_point (half_octets received) refl (length-half_octets received) (All-nearest_octets 4 2 half_point received (omega arith)))

pub length-three_quarter : (received : List Bool) → length (three_quarter_block (three_quarter_octets received)) ≡ 196
length-three_quarter received =
    length-block 8 3 three_quarter_point (three_quarter_octets received) (three_quarter_block (three_quarter_octets received))
    (IsBlock-block_from 8 3 three_quarter_point (three_quarter_octets received) refl (length-three_quarter_octets received) (All-nearest_octets 8 3 three_quarter_point received (omega arith)))

pub blocks_distance-zero : (states : ℕ) (point : ℕ → ℕ → ℕ) (bare : List Bool) → blocks_distance states point 0 bare ≡ 0
unfolding blocks_distance
blocks_distance-zero states point bare = refl

pub blocks_distance-more : (states : ℕ) (point : ℕ → ℕ → ℕ) (n : ℕ) (bare : List Bool)
    → blocks_distance states point (n + 1) bare ≡ blocks_distance states point n bare + nearest_distance states point (block_bits bare n)
unfolding blocks_distance
blocks_distance-more states point n bare = rw add-one refl

-- n blocks have at most 196 bits each
pub half_distance-le : (n : ℕ) (bare : List Bool) → blocks_distance 4 half_point n bare ≤ 196 * n
unfolding blocks_distance
half_distance-le zero bare = omega arith
half_distance-le (suc n) bare = omega (arith, half_distance-le n bare, nearest_distance-le 4 2 half_point (block_bits bare n) (omega arith))

pub three_quarter_distance-le : (n : ℕ) (bare : List Bool) → blocks_distance 8 three_quarter_point n bare ≤ 196 * n
unfolding blocks_distance
three_quarter_distance-le zero bare = omega arith
three_quarter_distance-le (suc n) bare = omega (arith, three_quarter_distance-le n bare, nearest_distance-le 8 3 three_quarter_point (block_bits bare n) (omega arith))

-- blocks, one after the other, differ from those received in as many bits as each does
blocks_fixes : (states : ℕ) (point : ℕ → ℕ → ℕ) (n : ℕ) (bare : List Bool) (sent : ℕ → List Bool) → 308 + 196 * n ≤ length bare → ((j : ℕ) → j < n → length (sent j) ≡ 196)
    → ((j : ℕ) → j < n → distance_of (block_bits bare j) (sent j) ≡ nearest_distance states point (block_bits bare j))
    → distance_of (joined_below n (block_bits bare)) (joined_below n sent) ≡ blocks_distance states point n bare
unfolding blocks_distance
blocks_fixes states point zero bare sent there long each = simp (joined_below-zero, distance_by-nil)
blocks_fixes states point (suc n) bare sent there long each =
    let before = length-joined_below 196 n (block_bits bare) (λ j inside. length-part (308 + 196 * j) 196 bare (omega arith)) in
    let after = length-joined_below 196 n sent (λ j inside. long j (omega arith)) in
    cc (
      joined_below-suc n (block_bits bare),
      joined_below-suc n sent,
      distance_by-append beq (joined_below n (block_bits bare)) (block_bits bare n) (joined_below n sent) (sent n) (before
          ∙ sym after),
      blocks_fixes states point n bare sent (omega arith) (λ j inside. long j (omega arith)) (λ j inside. each j (omega arith)),
      each n (omega arith),
    )

-- the header block and the blocks to follow compared with the transmitted ones
pub all_fixes : (states : ℕ) (point : ℕ → ℕ → ℕ) (n : ℕ) (bare front nulls header : List Bool) (sent : ℕ → List Bool) → 308 + 196 * n ≤ length bare → length front ≡ 112
    → header ≡ half_block (half_octets (part 112 196 bare)) → ((j : ℕ) → j < n → length (sent j) ≡ 196)
    → ((j : ℕ) → j < n → distance_of (block_bits bare j) (sent j) ≡ nearest_distance states point (block_bits bare j))
    → distance_of (part 112 (196 * (1 + n)) bare) (part 112 (196 * (1 + n)) (front ++ header ++ joined_below n sent ++ nulls)) ≡ nearest_distance 4 half_point
    (part 112 196 bare) + blocks_distance states point n bare
all_fixes states point n bare front nulls header sent there long_front is long each =
    let body = joined_below n sent in
    let received = part 112 196 bare in
    let long_header : length header ≡ 196 = ap length is ∙ length-half received in
    let whole : length (header ++ body) ≡ 196 * (1 + n) = length-append header body ∙ omega (arith, long_header, length-joined_below 196 n sent long) in
    let image : part 112 (196 * (1 + n)) (front ++ header ++ body ++ nulls) ≡ header ++ body = ap (part 112 (196 * (1 + n))) (ap (λ (xs : List Bool). xs ++ nulls) (append_assoc front header body)
    ∙ append_assoc front (header ++ body) nulls)
    ∙ part_joined 112 (196 * (1 + n)) front (header ++ body) nulls long_front whole in
    let bits : part 112 (196 * (1 + n)) bare ≡ received ++ joined_below n (block_bits bare)
    = sym (part_add 112 196 (196 * n) bare ∙ ap (λ k. part 112 k bare) (omega arith)) ∙ ap (λ xs. received ++ xs) (sym (joined_below-parts 308 196 n bare)) in
    cc (
      bits,
      image,
      distance_by-append beq received (joined_below n (block_bits bare)) header body (length-part 112 196 bare (omega arith) ∙ sym long_header),
      is,
      half_fixes received,
      blocks_fixes states point n bare sent there long each,
    )

-- The bit errors of the blocks, by the format.

pub body_distance-confirmed : (head : PacketHead) (bare : List Bool) → head_format head ≡ confirmed_format → body_distance head bare ≡ three_quarter_distance (head_blocks head) bare
unfolding body_distance
body_distance-confirmed head bare is = cond-true (eqb (head_format head) confirmed_format) _ _ (eq-eqb _ _ is)

pub body_distance-plain : (head : PacketHead) (bare : List Bool) → IsPlainFormat (head_format head) → body_distance head bare ≡ half_distance (head_blocks head) bare
unfolding body_distance
body_distance-plain head bare (inl is) = rw is refl
body_distance-plain head bare (inr is) = rw is refl
