use Rattle.std.proofs.{Common.{◌≡◌, ℕ, ◌+◌, ◌-◌, ◌≤◌, List, ◌++◌, length, take, arith, sym, subst, ap, ◌∙◌, length-append, length-take}, lemmas.List.{take-append-le}, Math.Seq.{take-append-add}}
use borrow.Rule.Slice.PartMut.{put_mid, post_of}
use Rattle.p25_io.proofs.OctetsLaws.{Taken-same, Taken-trans}
use Rattle.p25_io.proofs.tests.gather.Goals as goal

-- the octets held after a read into the rest of the buffer
take-put_rest : (room buf : List ℕ) (held count : ℕ) → held ≤ length room → count ≤ length buf
    → take (held + count) (put_mid held (length room - held) room buf) ≡ take held room ++ take count buf
take-put_rest room buf held count within fits =
    let beginning : length (take held room) ≡ held = simp length-take (omega arith) in
    let rest = post_of held (length room - held) room in
    subst (λ n. take (n + count) (take held room ++ (buf ++ rest)) ≡ take held room ++ take count buf) beginning
    (take-append-add (take held room) (buf ++ rest) count ∙ ap (λ l. take held room ++ l) (take-append-le count buf rest fits))

-- they fit into the buffer
put_rest_fits : (room buf : List ℕ) (held count : ℕ) → held ≤ length room → count ≤ length buf
    → held + count ≤ length (put_mid held (length room - held) room buf)
put_rest_fits room buf held count within fits = simp (length-append, length-take) (omega arith)

pub loop-held-preserved : goal.loop-held-preserved
loop-held-preserved g c =
    let (within, taken, risen) = c.loop-held.invariant in
    let given = c.in_ok-count.ensures.given in
    let held = take-put_rest _ _ _ _ within given.fits in
    (put_rest_fits _ _ _ _ within given.fits, Taken-same (sym held) (Taken-trans taken given.octets), omega (arith, c.in_ok-count.ensures.cause.counts, risen))
