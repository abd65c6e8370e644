-- The number of a word, and the status symbol of one of its digits.
use Rattle.std.proofs.Common.{◌≡◌, ◌≢◌, ℕ, ◌+◌, ◌<◌, ◌≤◌, List, Option, Some, None, refl, ap, sym, subst, ◌∙◌, arith, false, true}
use Rattle.std.specs.Prelude.{IfSome, IsSome, MatchOption, decimal, option_map, ◌↔◌}
use Rattle.p25_status.specs.{Status.{same_status, status_modulo, status_number}, declared.symbols.Status.{Status}}
use Rattle.p25_line.specs.Values.{number_below}
use Rattle.p25_line.proofs.NumberLaws.{number_below-decimal, number_below-none}
use Rattle.p25_tool.specs.Words.{status_in}

-- the result of decoding a number of at most `most`
abbrev pub IsNumberRead : ℕ → List ℕ → Option ℕ → Type 0
IsNumberRead most word result = MatchOption result ((number : ℕ) → number ≤ most → decimal number ≢ word) (λ number. (number ≤ most) × (decimal number ≡ word))

pub number-read : (most bound : ℕ) (word : List ℕ) (result : Option ℕ) → bound ≡ most + 1 → bound ≤ 10001 → IsNumberRead most word result → result ≡ number_below bound word
number-read most bound word None is few refused = sym (number_below-none bound word (λ number below same. refused number (omega (arith, below, is)) same))
number-read most bound word (Some number) is few read =
    sym (ap (number_below bound) (sym read.1) ∙ number_below-decimal bound number (omega (arith, read.0, is)) (omega (arith, few)))

-- the symbol that is made of a number below 4 is that of the number
status-made : (number : ℕ) (result : Option Status) → number < 4 → (IsSome result ↔ (number < 4)) → IfSome result (λ status. status_number status ≡ number)
    → result ≡ Some (status_modulo number)
unfolding status_modulo
status-made number None below some is = let e : false ≡ true = some.1 below in cc
status-made number (Some status) below some is = ap Some (same_status status (status_modulo number) (omega (arith, is, below)))

pub status-read : (word : List ℕ) (read : Option ℕ) (number : ℕ) (result : Option Status) → IsNumberRead 3 word read → read ≡ Some number
    → (IsSome result ↔ (number < 4)) → IfSome result (λ status. status_number status ≡ number) → result ≡ status_in word
status-read word read number result numbers is some value =
    let most : number ≤ 3 = (subst (IsNumberRead 3 word) is numbers).0 in
    status-made number result (omega (arith, most)) some value ∙ ap (option_map status_modulo) (sym is ∙ number-read 3 4 word read refl (omega arith) numbers)

-- every other word is none
pub status-none : (word : List ℕ) (read : Option ℕ) → IsNumberRead 3 word read → read ≡ None → None ≡ status_in word
status-none word read numbers is = ap (option_map status_modulo) (sym is ∙ number-read 3 4 word read refl (omega arith) numbers)
