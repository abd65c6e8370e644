use Rattle.std.proofs.Common.{sym, ◌∙◌, mod-eq_of_lt, arith}
use Rattle.std.specs.Bool.{beq}
use Rattle.p25_bits.specs.Bits.{bits_of}
use Rattle.p25_bits.proofs.{BitsLaws.{length-bits_of, field_of-bits_of}, DistanceLaws.{distance_by-le}}
use Rattle.p25_status.specs.Sync.{sync_bits}
use Rattle.p25_status.proofs.SyncLaws.{sync_distance-is, sync_bits-is}
use Rattle.p25_status.proofs.frame_sync.sync_distance.Goals as goal

is_distance : goal.returns-clause-distance
is_distance c =
    sync_distance-is (bits_of 48 c.args.window) c.args.window (length-bits_of 48 c.args.window) (sym (field_of-bits_of 48 c.args.window ∙ mod-eq_of_lt c.requires))

pub returns-clause-distance : goal.returns-clause-distance
returns-clause-distance c = is_distance c

-- two lists differ in at most as many positions as they have
pub returns-clause-most : goal.returns-clause-most
returns-clause-most c = omega (arith, is_distance c, distance_by-le beq (bits_of 48 c.args.window) sync_bits, length-bits_of 48 c.args.window)

pub returns-clause-sync : goal.returns-clause-sync
returns-clause-sync c = sync_bits-is
