use Rattle.p25_crc.specs.Values.{crc9_of, crc16_of, crc32_of, IsCrc9-crc9_of, IsCrc16-crc16_of, IsCrc32-crc32_of}
use Rattle.p25_crc.proofs.ChecksLaws.{IsCrc9-unique, IsCrc16-unique, IsCrc32-unique}
use Rattle.p25_crc.proofs.laws.check_laws.Goals as goal

pub returns : goal.returns
returns c = record {
  crc9 = IsCrc9-crc9_of;
  crc16 = IsCrc16-crc16_of;
  crc32 = IsCrc32-crc32_of;
  only_crc9 = λ serial octets check is. IsCrc9-unique serial octets check (crc9_of serial octets) is (IsCrc9-crc9_of serial octets);
  only_crc16 = λ octets check is. IsCrc16-unique octets check (crc16_of octets) is (IsCrc16-crc16_of octets);
  only_crc32 = λ octets check is. IsCrc32-unique octets check (crc32_of octets) is (IsCrc32-crc32_of octets);
}
