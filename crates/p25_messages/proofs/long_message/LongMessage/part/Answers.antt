use Rattle.std.proofs.Common.{◌≡◌, List, [], ◌∷◌, ◌++◌, ℕ, ◌*◌, ◌-◌, ◌≤◌, length, ap, ap₂, take, drop, ◌∙◌, arith}
use Rattle.p25_messages.specs.LongMessages.{part_mark, part_of}
use Rattle.p25_messages.proofs.PartsLaws.{take-least}
use Rattle.p25_messages.proofs.long_message.LongMessage.part.Goals as goal

pub returns : goal.returns
unfolding part_of
returns c =
    let octets = c.octets-octets.result.now in
    let i = c.args.i in
    let start : 500 * i ≤ length octets = omega (arith, ap length c.octets-octets.ensures.octets) in
    let least = take-least octets (500 * i) 500 c.min-end.result start c.min-end.ensures in
    let cut = least ∙ ap (λ (xs : List ℕ). take 500 (drop (500 * i) xs)) c.octets-octets.ensures.octets in
    let made : c.unwrap-2.result ≡ c.as_slice.result.now = rw c.unwrap-2.ensures at c.new.ensures.message in
    let extended = rw c.unwrap.ensures at c.try_extend_from_slice.ensures.ok in
    let mark = c.mark_of.ensures ∙ ap (λ (count : ℕ). part_mark count i) c.parts.ensures.parts in
    made ∙ c.as_slice.ensures.value ∙ extended ∙ ap (λ (xs : List ℕ). xs ++ take (c.min-end.result - 500 * i) (drop (500 * i) octets))
    (c.push.ensures.items ∙ ap (λ (xs : List ℕ). xs ++ c.mark_of.result ∷ []) c.new-part.ensures) ∙
    ap₂ (λ (m : ℕ) (xs : List ℕ). m ∷ xs) mark cut
