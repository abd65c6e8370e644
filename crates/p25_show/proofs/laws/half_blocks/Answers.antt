use Rattle.p25_trellis.specs.{Nearest.{nearest_octets, nearest_distance}, Tables.{half_point}}
use Rattle.p25_show.proofs.ReadingsLaws.{block-read}
use Rattle.p25_show.proofs.laws.half_blocks.Goals as goal

pub returns : goal.returns
returns c =
    record {
      read = λ received.
          block-read 4 2 half_point received (nearest_octets 4 2 half_point received) (nearest_distance 4 half_point received) (c.nearest_laws.ensures.reading received);
    }
