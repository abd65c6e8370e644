-- The parts of a long message.
use Rattle.std.proofs.{Common.{◌≡◌, ℕ, ◌+◌, ◌-◌, ◌≤◌, List, length, take, drop, min, arith, length-drop}, lemmas.List.{take_all}}

-- the rest, if a part would go past the end
pub take-least : (octets : List ℕ) (start count end : ℕ) → start ≤ length octets → end ≡ min (length octets) (start + count) → take (end - start) (drop start octets) ≡ take count (drop start octets)
take-least octets start count end s e = grind (arith, take_all, length-drop)
