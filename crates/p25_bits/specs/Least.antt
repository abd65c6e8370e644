-- The least of the values that the numbers below a bound have.
use Rattle.std.specs.Prelude.{◌≡◌, ◌≢◌, ℕ, zero, suc, ◌-◌, ◌<◌, ◌≤◌, if◌then◌else◌, nat_lt}

-- the lowest of the numbers below a bound that have the least value
unfoldable pub lowest_least : ℕ → (ℕ → ℕ) → ℕ
lowest_least zero value = 0
lowest_least (suc n) value = if nat_lt (value n) (value (lowest_least n value)) then n else lowest_least n value

-- a number is the lowest of those below a bound that have the least value
pub record IsLowestLeast (bound : ℕ) (value : ℕ → ℕ) (number least : ℕ) : Type 0 where
  pub below : number < bound
  pub is : value number ≡ least
  pub none_less : (other : ℕ) → other < bound → least ≤ value other
  pub lowest : (other : ℕ) → other < number → least < value other

-- all numbers but one, in order
unfoldable pub numbers_beside : ℕ → ℕ → ℕ
numbers_beside one j = if nat_lt j one then j else suc j

-- the least value of the numbers below a bound other than one of them
unfoldable pub least_beside : ℕ → (ℕ → ℕ) → ℕ → ℕ
least_beside bound value one = let others : ℕ → ℕ = λ j. value (numbers_beside one j) in others (lowest_least (bound - 1) others)

-- a value is the least of the numbers below a bound other than one of them
pub record IsLeastBeside (bound : ℕ) (value : ℕ → ℕ) (one least : ℕ) : Type 0 where
  pub number : ℕ
  pub below : number < bound
  pub other : number ≢ one
  pub is : value number ≡ least
  pub none_less : (j : ℕ) → j < bound → j ≢ one → least ≤ value j
