-- Laws for a loop that reads to the end, or that writes chunk after chunk.
use Rattle.std.proofs.Common.{ℕ, ◌+◌, ◌-◌, ◌≡◌, ◌≤◌, Option, None, Some, List, [], ◌++◌, length, take, min, refl, sym, ap, subst, ◌∙◌, arith, append_assoc, append-nil, length-append, length-take}
use Rattle.std.proofs.{lemmas.List.{take_min, take-append-le}, Math.Seq.{take-append-add}}
use Rattle.std.specs.Io.KnownBytes.{prepend_known, append_known}
use Rattle.p25_io.specs.{Faults.{Rose}, Octets.{Taken, Appended, AppendedBeginning}}

-- equal octets can replace each other
pub Taken-same : {first now : Option (List ℕ)} {xs ys : List ℕ} → xs ≡ ys → Taken first xs now → Taken first ys now
Taken-same {first = first} {now = now} same p = subst (λ l. Taken first l now) same p

pub Appended-same : {first now : Option (List ℕ)} {xs ys : List ℕ} → xs ≡ ys → Appended first xs now → Appended first ys now
Appended-same {first = first} {now = now} same p = subst (λ l. Appended first l now) same p

pub AppendedBeginning-same : {first now : Option (List ℕ)} {xs ys : List ℕ} → xs ≡ ys → AppendedBeginning first xs now → AppendedBeginning first ys now
AppendedBeginning-same {first = first} {now = now} same p = subst (λ l. AppendedBeginning first l now) same p

-- before the first read nothing is taken
pub Taken-none : (left : Option (List ℕ)) → Taken left [] left
Taken-none None = record { left = refl }
Taken-none (Some octets) = record { left = refl }

-- the octets that one read takes and then those of another
pub Taken-trans : {first second third : Option (List ℕ)} {xs ys : List ℕ} → Taken first xs second → Taken second ys third → Taken first (xs ++ ys) third
Taken-trans {third = None} {xs = xs} p q = record { left = p.left ∙ ap (prepend_known xs) q.left }
Taken-trans {third = Some zs} {xs = xs} {ys = ys} p q =
    record { left = p.left ∙ ap (prepend_known xs) q.left ∙ ap Some (sym (append_assoc xs ys zs)) }

-- the taken octets are the first of the exposed ones, and the others are left
pub Taken-told : {all xs : List ℕ} {now : Option (List ℕ)} → Taken (Some all) xs now → (rest : List ℕ) × (now ≡ Some rest) × (all ≡ xs ++ rest)
Taken-told {all = all} {now = None} p = let wrong : Some all ≡ None = p.left in cc
Taken-told {all = all} {xs = xs} {now = Some rest} p =
    let same : Some all ≡ Some (xs ++ rest) = p.left in
    (rest, refl, cc)

-- before the first write nothing is added
pub Appended-none : (written : Option (List ℕ)) → Appended written [] written
Appended-none None = record { written = refl }
Appended-none (Some octets) = record { written = ap Some (sym (append-nil octets)) }

-- the octets that one write adds and then those of another
pub Appended-trans : {first second third : Option (List ℕ)} {xs ys : List ℕ} → Appended first xs second → Appended second ys third → Appended first (xs ++ ys) third
Appended-trans {first = None} {ys = ys} p q = record { written = q.written ∙ ap (λ w. append_known w ys) p.written }
Appended-trans {first = Some zs} {xs = xs} {ys = ys} p q =
    record { written = q.written ∙ ap (λ w. append_known w ys) p.written ∙ ap Some (append_assoc zs xs ys) }

-- a whole chunk, and then a beginning of the next
pub AppendedBeginning-next : {first second third : Option (List ℕ)} {xs ys : List ℕ} → Appended first xs second → AppendedBeginning second ys third → AppendedBeginning first (xs ++ ys) third
AppendedBeginning-next {xs = xs} {ys = ys} p q =
    record { count = length xs + q.count; beginning = Appended-same (sym (take-append-add xs ys q.count)) (Appended-trans p q.beginning) }

-- a beginning of a chunk is a beginning of a longer one
pub AppendedBeginning-longer : {first now : Option (List ℕ)} {xs : List ℕ} (ys : List ℕ) → AppendedBeginning first xs now → AppendedBeginning first (xs ++ ys) now
AppendedBeginning-longer {xs = xs} ys p =
    let count = min p.count (length xs) in
    let same : take count (xs ++ ys) ≡ take p.count xs = take-append-le count xs ys (omega arith) ∙ take_min p.count xs in
    record { count = count; beginning = Appended-same (sym same) p.beginning }

-- a count that rose within a run of calls rose over the whole run
pub Rose-within : (first before now last : ℕ) → first ≤ before → Rose before now → now ≤ last → Rose first last
Rose-within first before now last earlier rose later = omega arith

-- a beginning of a chunk is as long as the growth of the written octets
pub beginning-grown : (before piece now : List ℕ) (count : ℕ) → count ≡ length now - length before → AppendedBeginning (Some before) piece (Some now)
    → (count ≤ length piece) × Appended (Some before) (take count piece) (Some now)
beginning-grown before piece now count grown begun =
    let same : now ≡ before ++ take begun.count piece = cc begun.beginning.written in
    let long : count ≡ min begun.count (length piece) =
    omega (arith, grown, ap length same, length-append before (take begun.count piece), length-take begun.count piece) in
    (omega (arith, long), Appended-same (sym (ap (λ (n : ℕ). take n piece) long ∙ take_min begun.count piece)) begun.beginning)
