use Rattle.std.proofs.Common.{ℕ, ℤ, List, Result, rules, subst, to_z, of_z, w32}
use Rattle.p25_c.specs.Rooms.{IsWriting}
use Rattle.p25_c.proofs.BuildingSteps.{repaired-first, writing-told}
use Rattle.p25_c.proofs.building.p25_repair.Goals as goal

pub returns : goal.returns
returns c =
    subst (λ (r : Result (List ℕ) ℤ). IsWriting r c.args.into.now c.p25_repair_at.new.into (to_z w32 (of_z w32 c.p25_repair_at.result))) (repaired-first c.args.octets.now)
    (writing-told _ _ _ c.p25_repair_at.result (search rules) c.p25_repair_at.ensures)
