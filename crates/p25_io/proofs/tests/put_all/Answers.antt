use Rattle.std.proofs.{Common.{◌≡◌, ℕ, ◌<◌, suc, List, ◌++◌, length, take, drop, get_or, arith, sym, ap, ◌∙◌, Result, Ok, Err, append_assoc, take-append-drop}, lemmas.Grind.{flat_map-append}}
use Rattle.std.proofs.{lemmas.List.Concat.{flat_map-cons}, Math.Seq.{drop-cons}}
use Rattle.std.specs.Prelude.{flat_map, OnErr}
use Rattle.p25_io.proofs.OctetsLaws.{AppendedBeginning-same, AppendedBeginning-next, AppendedBeginning-longer}
use Rattle.p25_io.proofs.tests.put_all.Goals as goal

-- the chunks before one, that chunk, and those after it
flat_map-around : {X : Type 0} (f : X → List ℕ) (xs : List X) (i : ℕ) (d : X) → i < length xs
    → flat_map f xs ≡ (flat_map f (take i xs) ++ f (get_or xs i d)) ++ flat_map f (drop (suc i) xs)
flat_map-around f xs i d below =
    ap (flat_map f) (sym (take-append-drop i xs)) ∙ flat_map-append f (take i xs) (drop i xs)
    ∙ ap (λ l. flat_map f (take i xs) ++ flat_map f l) (drop-cons xs i d below)
    ∙ ap (λ l. flat_map f (take i xs) ++ l) (flat_map-cons f (get_or xs i d) (drop (suc i) xs))
    ∙ sym (append_assoc (flat_map f (take i xs)) (f (get_or xs i d)) (flat_map f (drop (suc i) xs)))

on_err : {T E P : Type 0} (r : Result T E) → P → OnErr r P
on_err (Ok value) p = tt
on_err (Err fault) p = p

pub returns-in_err-write-clause-err : goal.returns-in_err-write-clause-err
returns-in_err-write-clause-err g c =
    let beginning = AppendedBeginning-next c.loop-piece.invariant.0 c.in_err-write.ensures.err in
    let split = flat_map-around (λ piece. piece.now) c.args.pieces.now c.loop-piece.piece-index _ (omega arith) in
    on_err c.from_residual.result (AppendedBeginning-same (sym split) (AppendedBeginning-longer _ beginning))
