use Rattle.std.proofs.Common.{◌≡◌, ◌<◌, ◌^◌, ◌+◌, ◌*◌, List, ℕ, ◌/◌, ◌%◌, [], ◌∷◌, ◌++◌, ap, ap₂, sym, ◌∙◌, arith}
use Rattle.p25_crc.specs.Values.{crc9_of}
use Rattle.p25_crc.proofs.ChecksLaws.{crc9_of-lt}
use Rattle.p25_trellis.specs.Nearest.{three_quarter_block}
use Rattle.p25_packet_blocks.proofs.{ImageLaws.{confirmed_octets-is}, ImageSteps.{put_two}}
use Rattle.p25_packet_blocks.proofs.image.put_block.Goals as goal

pub returns-clause-list : goal.returns-clause-list
returns-clause-list c =
    let block = c.args.block.now in
    let carried = c.octets-carried.ensures.value in
    let first : 512 * c.from.result + c.crc9.result ≡ 512 * block.serial + crc9_of block.serial block.octets
    = ap₂ (λ a b. 512 * a + b) (c.from.ensures ∙ c.serial.ensures.value) (c.crc9.ensures.value ∙ ap₂ crc9_of c.serial-2.ensures.value carried) in
    let small : 512 * block.serial + crc9_of block.serial block.octets < 2 ^ 16 = omega (arith, crc9_of-lt block.serial block.octets, c.serial.ensures) in
    let check = c.to_be_bytes.ensures ∙ ap (λ n. n / 256 % 256 ∷ n % 256 ∷ []) first ∙ put_two (512 * block.serial + crc9_of block.serial block.octets) small in
    let octets = c.as_slice.ensures.value ∙ c.extend-2.ensures.list ∙ ap₂ (λ (xs ys : List ℕ). xs ++ ys) (c.extend.ensures.list ∙ ap₂ (λ (xs ys : List ℕ). xs ++ ys) c.new-octets.ensures check) carried
    ∙ sym (confirmed_octets-is block) in
    c.encode_block.ensures.value ∙ ap (λ xs. c.args.out.now ++ three_quarter_block xs) octets
