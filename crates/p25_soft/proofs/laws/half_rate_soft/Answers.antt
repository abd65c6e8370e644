use Rattle.std.proofs.Common.{◌≡◌, ◌*◌, ◌<◌, length, refl, arith}
use Rattle.p25_bits.proofs.DistanceLaws.{distance_of-same}
use Rattle.p25_trellis.proofs.{ApartLaws.{length-block}, NearestLaws.{IsBlock-block_from}}
use Rattle.p25_trellis.specs.{Nearest.{half_block}, Tables.{half_point}}
use Rattle.p25_soft.specs.Levels.{bits_deviation, nominal_levels}
use Rattle.p25_soft.proofs.SoftLaws.{nominal_octets}
use Rattle.p25_soft.proofs.laws.half_rate_soft.Goals as goal

pub returns-clause-near : goal.returns-clause-near
returns-clause-near c = λ octets levels count small long near. c.soft_laws.ensures.near octets levels count small long near

pub returns-clause-nominal : goal.returns-clause-nominal
returns-clause-nominal c =
    λ octets count small.
    let block = half_block octets in
    let is = nominal_octets 4 2 half_point octets refl count small in
    let near : bits_deviation block (nominal_levels block) < 1024 * 5 = omega (arith, is.1) in
    let same : length block ≡ 196 = length-block 4 2 half_point octets block (IsBlock-block_from 4 2 half_point octets refl count small) in
    (is.2, c.soft_laws.ensures.near octets (nominal_levels block) count small is.0 near, (c.nearest_laws.ensures.near octets block count small same (omega (arith, distance_of-same block))).0)
