-- The position of an item that a follower may take.
use Rattle.std.proofs.{Common.{◌≡◌, ℕ, ◌+◌, ◌-◌, ◌*◌, ◌^◌, ◌≤◌, Bool, true, List, length, arith}, lemmas.Bool.{leb-true}}
use Rattle.std.specs.Cmp.{first_so, second_so}
use Rattle.p25_c.specs.{Followers.{is_item_told, may_follow}, declared.followers.FollowerState.{FollowerState}, declared.items.ItemParts.{ItemParts}}
use Rattle.p25_c.proofs.RelaysSteps.{placed-of}

pub record CanFollow (item : ItemParts) (begin count : ℕ) : Type 0 where
  pub told : is_item_told item ≡ true
  pub few : item.bits ≤ 25920
  pub order : begin ≤ item.place
  pub near : item.place ≤ 2 ^ 59
  pub there : item.place + item.bits ≤ begin + 8 * count

pub can-follow : (state : FollowerState) (item : ItemParts) (begin count : ℕ) → may_follow state item begin count ≡ true → CanFollow item begin count
can-follow state item begin count yes' =
    let there = second_so _ _ yes' in
    let front = first_so _ _ there in
    let placed = placed-of begin item.place count (second_so _ _ front) in
    record {
      told = second_so _ _ (first_so _ _ yes');
      few = leb-true item.bits 25920 (first_so _ _ front);
      order = placed.order;
      near = placed.near;
      there = leb-true (item.place + item.bits) (begin + 8 * count) (second_so _ _ there);
    }
