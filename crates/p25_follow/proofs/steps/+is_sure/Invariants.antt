use Rattle.p25_follow.proofs.steps.+is_sure.Given as goal

abbrev pub decreases-is_sure : goal.decreases-is_sure
decreases-is_sure l = l.links
