use Rattle.std.proofs.Common.{◌-◌, ap}
use Rattle.p25_follow.proofs.RelaySteps.{broken-written}
use Rattle.p25_follow.proofs.relay.relay_broken.Goals as goal

pub returns : goal.returns
returns c =
    broken-written _ _ _ _ _ _ _ _ _ _ _ _ _ _ c.len.ensures.value c.unweave.ensures.bare c.unweave.ensures.statuses c.new-fronted.ensures c.put_front.ensures.list
    (ap (λ (n : _). n - 112) c.len-2.ensures.value) c.append.ensures.list c.len-3.ensures.value c.filled.ensures.list c.weave.ensures.list
