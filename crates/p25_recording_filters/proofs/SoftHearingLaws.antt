-- The bits that a scanner holds after one more level: those of the last group after those that it held, if the level fills one.
use Rattle.std.proofs.Common.{◌≡◌, ◌≢◌, ℕ, ◌+◌, ◌-◌, ◌*◌, ◌%◌, ◌^◌, ◌<◌, ◌≤◌, true, false, List, [], ◌∷◌, ◌++◌, length, drop, get_or, refl, ap, sym, ◌∙◌, arith, length-append, ℤ, pos}
use Rattle.std.proofs.lemmas.List.{drop-append-le}
use Rattle.p25_bits.specs.{Bits.{bits_of, part}}
use Rattle.p25_bits.proofs.{BitsLaws.{bits_of-joined}, NumbersLaws.{number_bits-cons, number_bits-one}}
use Rattle.p25_stream.specs.Scan.{Scan}
use Rattle.p25_soft.specs.Levels.{hard_bits, hard_dibit}
use Rattle.p25_soft.proofs.HardBitsLaws.{hard_bits-append, length-hard_bits}
use Rattle.p25_recording_filters.specs.{SoftLevels.{grouped}, Softs.{IsHoldingAfter}}
use Rattle.p25_recording_filters.proofs.SoftLevelsLaws.{grouped-last, grouped-more, length-grouped}

-- a level that does not fill its group
pub holding-open : (scan : Scan) (levels : List ℤ) (level : ℤ) → scan.finished ≡ false → length (levels ++ level ∷ []) % 4 ≢ 0
    → (ahead : ℕ) → IsHoldingAfter ahead scan levels → IsHoldingAfter ahead scan (levels ++ level ∷ [])
holding-open scan levels level going open_group ahead holding =
    let same = grouped-more levels level open_group in record {
      held = rw same holding.held;
      placed = omega (arith, holding.placed, ap length same);
      full = λ done. let two : false ≡ true = sym going ∙ done in absurd (cc);
    }

-- one that does
pub holding-group : (scan next : Scan) (levels : List ℤ) (level : ℤ) (octet : ℕ) → scan.finished ≡ false → length (levels ++ level ∷ []) % 4 ≡ 0
    → bits_of 8 octet ≡ hard_bits (part (length (levels ++ level ∷ []) - 4) 4 (levels ++ level ∷ []))
    → next ≡ record scan { held = scan.held ++ bits_of 8 octet } → (ahead : ℕ) → IsHoldingAfter ahead scan levels → IsHoldingAfter ahead next (levels ++ level ∷ [])
holding-group scan next levels level octet going whole bits is ahead holding =
    let all = levels ++ level ∷ [] in
    let last = part (length all - 4) 4 all in
    let there : ahead ≤ length (hard_bits (grouped levels)) = omega (arith, holding.placed, length-hard_bits (grouped levels)) in
    let held : next.held ≡ drop ahead (hard_bits (grouped all))
    = rw (is, holding.held, bits, ← drop-append-le ahead (hard_bits (grouped levels)) (hard_bits last) there, ← hard_bits-append, grouped-last levels level whole) in record {
      held = held;
      placed = omega (arith, holding.placed, length-grouped levels, length-grouped all, length-append levels (level ∷ []));
      full = λ done. let two : false ≡ true = sym going ∙ sym (ap (λ (s : Scan). s.finished) is) ∙ done in absurd (cc);
    }

-- the bits of an octet by its four dibits
octet-dibits : (a b c d : ℕ) → b < 4 → c < 4 → d < 4 → bits_of 8 (64 * a + 16 * b + 4 * c + d) ≡ bits_of 2 a ++ (bits_of 2 b ++ (bits_of 2 c ++ bits_of 2 d))
octet-dibits a b c d hb hc hd =
    let low : 16 * b + 4 * c + d < 2 ^ 6 = omega arith in
    let middle : 4 * c + d < 2 ^ 4 = omega arith in
    let first : 64 * a + 16 * b + 4 * c + d ≡ a * 2 ^ 6 + (16 * b + 4 * c + d) = omega arith in
    let second : 16 * b + 4 * c + d ≡ b * 2 ^ 4 + (4 * c + d) = omega arith in
    let third : 4 * c + d ≡ c * 2 ^ 2 + d = omega arith in
    rw (first, bits_of-joined 2 6 a (16 * b + 4 * c + d) low, second, bits_of-joined 2 4 b (4 * c + d) middle, third, bits_of-joined 2 2 c d hd)

pub four-levels : (levels : List ℤ) → length levels ≡ 4 → levels ≡ get_or levels 0 (pos 0) ∷ get_or levels 1 (pos 0) ∷ get_or levels 2 (pos 0) ∷ get_or levels 3 (pos 0) ∷ []
four-levels (a ∷ b ∷ c ∷ d ∷ []) long = refl
four-levels levels long = absurd (omega arith)

-- the bits of four levels
pub group-bits : (levels : List ℤ) (a b c d octet : ℕ) → length levels ≡ 4 → a ≡ hard_dibit (get_or levels 0 (pos 0)) → b ≡ hard_dibit (get_or levels 1 (pos 0))
    → c ≡ hard_dibit (get_or levels 2 (pos 0)) → d ≡ hard_dibit (get_or levels 3 (pos 0))
    → b < 4 → c < 4 → d < 4 → octet ≡ 64 * a + 16 * b + 4 * c + d → bits_of 8 octet ≡ hard_bits levels
unfolding hard_bits
group-bits levels a b c d octet long ha hb hc hd fb fc fd is =
    rw (
      is,
      octet-dibits a b c d fb fc fd,
      ← number_bits-one 2 d,
      ← number_bits-cons 2 c (d ∷ []),
      ← number_bits-cons 2 b (c ∷ d ∷ []),
      ← number_bits-cons 2 a (b ∷ c ∷ d ∷ []),
      four-levels levels long,
      ha,
      hb,
      hc,
      hd,
    )
