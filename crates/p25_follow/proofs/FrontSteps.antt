-- The bits of sync and NID written in parts.
use Rattle.std.proofs.Common.{◌≡◌, ℕ, ◌+◌, ◌-◌, ◌/◌, ◌%◌, ◌^◌, ◌≤◌, Bool, List, ◌++◌, take, drop, refl, arith, append_assoc, length-append, length-drop}
use Rattle.std.proofs.{lemmas.List.{drop-drop, drop-take, drop_at, take_all, take_at}}
use Rattle.p25_bits.specs.Bits.{bits_of, part}
use Rattle.p25_bits.proofs.{BitsLaws.{bits_of-add, bits_of-mod, length-bits_of}, PartLaws.{part-drop, part-take}}
use Rattle.p25_bch_nid.specs.NidWord.{nid_word}
use Rattle.p25_status.specs.Sync.{sync_bits}
use Rattle.p25_status.proofs.SyncLaws.{length-sync_bits}
use Rattle.p25_unit_front.specs.Front.{unit_front}
use Rattle.p25_unit_front.proofs.FrontLaws.{drop-unit_front, length-unit_front}
use Rattle.p25_follow.specs.Chains.{with_front}

last-part : (nac kind : ℕ) → part 70 42 (unit_front nac kind) ≡ drop 70 (unit_front nac kind)
last-part nac kind = let front = unit_front nac kind in take_all 42 (drop 70 front) (omega (arith, length-drop 70 front, length-unit_front nac kind))

drop-count : (count : ℕ) (bits : List Bool) → 114 ≤ count → drop 114 (take count bits) ≡ part 114 (count - 114) bits
drop-count count bits long =
    let split : 114 + (count - 114) ≡ count = omega arith in rw split at (drop-take 114 (count - 114) bits)

front-written : (nac kind count : ℕ) (bits out front first second third : List Bool) → 114 ≤ count → front ≡ unit_front nac kind
    → first ≡ out ++ part 0 70 front → second ≡ first ++ part 70 2 bits → third ≡ second ++ part 70 42 front
    → third ++ part 114 (count - 114) bits ≡ out ++ with_front (nac, kind) (take count bits)
unfolding with_front
front-written nac kind count bits out front first second third long is_front is_first is_second is_third =
    rw (is_third, is_second, is_first, is_front, last-part nac kind, append_assoc, append_assoc, append_assoc, part-take 70 2 count bits (omega arith), drop-count count bits long)

-- ---- sync and NID by the numbers of the sync and the identifier

front-first : (nac kind number : ℕ) → bits_of 64 number ≡ nid_word nac kind → part 0 70 (unit_front nac kind) ≡ sync_bits ++ bits_of 22 (number / 2 ^ 42)
unfolding unit_front
front-first nac kind number is =
    let high = bits_of 22 (number / 2 ^ 42) in
    rw (← is, bits_of-add 22 42 number, ← append_assoc)
    (take_at (sync_bits ++ high) (bits_of 42 number) 70 (rw length-append (omega (arith, length-sync_bits, length-bits_of 22 (number / 2 ^ 42)))))

front-last : (nac kind number : ℕ) → bits_of 64 number ≡ nid_word nac kind → part 70 42 (unit_front nac kind) ≡ bits_of 42 number
front-last nac kind number is =
    rw (last-part nac kind, ← drop-drop 22 48 (unit_front nac kind), drop-unit_front nac kind, ← is, bits_of-add 22 42 number)
    (drop_at (bits_of 22 (number / 2 ^ 42)) (bits_of 42 number) 22 (length-bits_of 22 (number / 2 ^ 42)))

pub front-fields : (nac kind at count number : ℕ) (bits out sync first second third fourth : List Bool) → 114 ≤ count → sync ≡ sync_bits → bits_of 64 number ≡ nid_word nac kind
    → first ≡ out ++ sync → second ≡ first ++ bits_of 22 (number / 2 ^ 42) → third ≡ second ++ part (at + 70) 2 bits → fourth ≡ third ++ bits_of 42 (number % 2 ^ 42)
    → fourth ++ part (at + 114) (count - 114) bits ≡ out ++ with_front (nac, kind) (take count (drop at bits))
front-fields nac kind at count number bits out sync first second third fourth long is_sync is_number is_first is_second is_third is_fourth =
    rw (← part-drop 114 (count - 114) at bits)
    (front-written nac kind count (drop at bits) out (unit_front nac kind) second third fourth long refl
    (rw (is_second, is_first, is_sync, append_assoc, front-first nac kind number is_number)) (rw (is_third, part-drop 70 2 at bits)) (rw (is_fourth, bits_of-mod, front-last nac kind number is_number)))
