use Rattle.p25_delivery.proofs.{AtOnceLaws.{opens-down}, DeliveryLaws.{run-delivers}}
use Rattle.p25_delivery.proofs.laws.undamaged_packets_do.Goals as goal

pub returns : goal.returns
returns c = record { delivered = run-delivers; opened = opens-down }
