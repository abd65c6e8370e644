-- Counts of faults: each rises by one at a fault, and saturates at 2^64 - 1.
use Rattle.std.specs.Prelude.{◌≡◌, ℕ, ◌+◌, ◌-◌, ◌^◌, ◌≤◌, min, Result, Ok, Err, OnErr}
use Rattle.p25_io.specs.declared.failed.Failed.{Failed}

-- one more, but no more than 2^64 - 1
abbrev pub counted : ℕ → ℕ
counted n = min (n + 1) (2 ^ 64 - 1)

-- a count rose from before to now, or it is at 2^64 - 1
abbrev pub Rose : ℕ → ℕ → Type 0
Rose before now = counted before ≤ now

-- a count after a call: one more if the call failed
abbrev pub faults_after : {T : Type 0} → Result T Failed → ℕ → ℕ
faults_after (Ok value) before = before
faults_after (Err fault) before = counted before

-- a count of faults never falls, a call fails only if it rose, and each call that fails counts once
pub record HasCause {T : Type 0} (before now : ℕ) (result : Result T Failed) : Type 0 where
  pub later : before ≤ now
  pub failed : OnErr result (Rose before now)
  pub counts : now ≡ faults_after result before
