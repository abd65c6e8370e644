use Rattle.std.proofs.Common.{refl}
use Rattle.p25_crc.proofs.ApartLaws.{header_zeros, header_one, block_zeros, packet_zeros, packet_three}
use Rattle.p25_crc.proofs.ApartLaws.{header_words_apart, header_words_near, block_words_apart, block_words_near, packet_words_apart, packet_words_near}
use Rattle.p25_crc.proofs.laws.words_apart.Goals as goal

pub returns : goal.returns
returns c = record {
  header = header_words_apart;
  block = block_words_apart;
  packet = packet_words_apart;
  header_reached = (header_zeros, header_one, refl, refl, header_words_near);
  block_reached = (0, 8, block_zeros, block_zeros, refl, refl, block_words_near);
  packet_reached = (packet_zeros, packet_three, refl, refl, packet_words_near);
}
