use Rattle.p25_trellis.specs.{Nearest.{nearest_octets, nearest_distance}, Tables.{three_quarter_point}}
use Rattle.p25_show.proofs.ReadingsLaws.{block-read}
use Rattle.p25_show.proofs.laws.three_quarter_blocks.Goals as goal

pub returns : goal.returns
returns c =
    record {
      read = λ received.
          block-read 8 3 three_quarter_point received (nearest_octets 8 3 three_quarter_point received) (nearest_distance 8 three_quarter_point received) (c.nearest_laws.ensures.reading received);
    }
