-- For the tests: the rules of a machine that returns each line unchanged, and refuses an empty line and one that is too long.
use Rattle.std.specs.Prelude.{◌≡◌, ℕ, ◌<◌, if◌then◌else◌, false, nat_lt, List, [], length, Result, Ok, Err}
use Rattle.std.proofs.{Common.{ap}, lemmas.Bool.{lt-ltb}}
use Rattle.p25_line.specs.{declared.fault.LineFault.{LineFault}, declared.fault.LineFault.TheVariants.{Form, Long}}
use Rattle.p25_filter.specs.LineRules.{LineRules}

-- the line itself; an empty line has the fault form, and one of more than 8,192 octets the fault long
abbrev pub echo_of : {M : Type 0} → M → List ℕ → Result (M × List ℕ) LineFault
echo_of machine line = if nat_lt 8192 (length line) then Err Long else (if nat_lt 0 (length line) then Ok (machine, line) else Err Form)

-- each line is returned unchanged, nothing closes them, and no memory is allocated
abbrev pub echo_rules : {M : Type 0} → LineRules M
echo_rules = record { take = echo_of; closing = λ machine. []; wants = false }

pub echo_long : {M : Type 0} → (machine : M) (line : List ℕ) → 8192 < length line → echo_of machine line ≡ Err Long
echo_long machine line long =
    ap (λ b. if b then Err Long else if nat_lt 0 (length line) then Ok (machine, line) else Err Form) (lt-ltb 8192 (length line) long)
