use Rattle.std.proofs.{Common.{◌≡◌, ◌/◌, ◌%◌, ◌≤◌, ℕ, List, [], ◌∷◌, ◌++◌, take, replicate, length, ap, ap₂, ◌∙◌, arith}, lemmas.List.{take-replicate}}
use Rattle.p25_crc.{specs.Values.{crc32_of}, proofs.ChecksLaws.{crc32_of-lt}}
use Rattle.p25_packet_blocks.{specs.Image.{checked_octets}, proofs.ImageSteps.{put_four}}
use Rattle.p25_delivery.specs.MessageBlocks.{message_octets, pad_count, padded_octets}
use Rattle.p25_delivery.proofs.message_octets.MessageOctets.of.Goals as goal

pub returns-clause-list : goal.returns-clause-list
unfolding message_octets checked_octets
returns-clause-list c =
    let message = c.args.message.now in
    let join : List ℕ → List ℕ → List ℕ = λ xs ys. xs ++ ys in
    let pad = c.pad_for-pad.result in
    let first = (rw c.unwrap.ensures at c.try_extend_from_slice.ensures.ok) ∙ ap₂ join c.new-items.ensures c.octets.ensures.octets in
    let few : pad ≤ 16 = omega (arith, c.pad_for-pad.ensures.most) in
    let zeros : take pad (replicate 16 0) ≡ replicate (pad_count (length message)) 0 = take-replicate pad 16 0 few ∙ ap (λ (n : ℕ). replicate n 0) c.pad_for-pad.ensures.value in
    let padded : c.try_extend_from_slice-2.new.self.items ≡ padded_octets message = (rw c.unwrap-2.ensures at c.try_extend_from_slice-2.ensures.ok) ∙ ap₂ join first zeros in
    let check = c.crc32-check.ensures.value ∙ ap crc32_of (c.as_slice.ensures.value ∙ padded) in
    let last = c.to_be_bytes.ensures ∙ ap (λ (n : ℕ). n / 16777216 % 256 ∷ n / 65536 % 256 ∷ n / 256 % 256 ∷ n % 256 ∷ []) check
    ∙ put_four (crc32_of (padded_octets message)) (crc32_of-lt (padded_octets message)) in
    cc (rw c.unwrap-3.ensures at c.try_extend_from_slice-3.ensures.ok)
