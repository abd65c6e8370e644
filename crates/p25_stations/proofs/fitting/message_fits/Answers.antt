use Rattle.std.proofs.Common.{ℕ, ◌≤◌, List, length, subst}
use Rattle.p25_packet_blocks.specs.Sendable.{AreOctets}
use Rattle.p25_stations.proofs.fitting.message_fits.Goals as goal

pub returns : goal.returns
returns c =
    record {
      short = rw c.octets.ensures.octets at c.octets.ensures.most;
      octets = subst AreOctets c.octets.ensures.octets c.octets_fit.ensures;
    }
