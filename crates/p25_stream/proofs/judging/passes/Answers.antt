use Rattle.std.proofs.Common.{◌≡◌, ℕ, ◌+◌, ◌*◌, ◌/◌, ◌≤◌, Bool, List, sym, subst, arith}
use Rattle.p25_stream.specs.Items.{sync_place}
use Rattle.p25_stream.proofs.JudgementsLaws.{judged-searching, was-searching, searched-more}
use Rattle.p25_stream.proofs.judging.passes.Goals as goal

pub overflow_add-clear : goal.overflow_add-clear
overflow_add-clear c =
    let is = was-searching c.args.judged.now c.requires.before c.in-Searching.clear c.requires.known c.in-Searching.is in
    omega (arith, is.few)

pub none_of_many-requires-clause-before : goal.none_of_many-requires-clause-before
none_of_many-requires-clause-before c =
    let clear = c.in-Searching.clear in
    let was = c.requires in
    let is = was-searching c.args.judged.now was.before clear was.known c.in-Searching.is in
    subst (λ (bits : List Bool). clear ≤ sync_place bits) (sym was.is) (searched-more was.before was.more clear is).0

pub returns-then-none_of_many-clause-passed : goal.returns-then-none_of_many-clause-passed
returns-then-none_of_many-clause-passed c = λ passed.
    judged-searching c.args.held.now (c.in-Searching.clear + c.saturating_sub-places.result) (omega arith) (omega (arith, c.saturating_sub-places.ensures))
    (let here : c.in-Searching.clear + 8 * (c.saturating_sub-places.result / 8) ≡ c.in-Searching.clear + c.saturating_sub-places.result = omega arith in
    subst (λ (n : ℕ). n ≤ sync_place c.args.held.now) here (c.none_of_many.ensures c.if-none_of_many.true))
