-- In a stretch, a data unit that may follow with a near NID is output with its sync and NID. It lies directly after a data unit that is found, or whose sync
-- and NID are written. By the data units that are written before it.
use Rattle.std.proofs.Common.{◌≡◌, ℕ, ◌+◌, ◌-◌, ◌<◌, ◌≤◌, Bool, true, List, [], ◌∷◌, ◌++◌, length, take, drop, Option, Some, refl, sym, ◌∙◌, arith, length-drop}
use Rattle.std.proofs.lemmas.List.{drop-drop, length-take-le, take_at}
use Rattle.p25_bits.specs.Bits.{part}
use Rattle.p25_bits.proofs.PartLaws.{length-part, part-drop, part-part, part_right}
use Rattle.p25_units.specs.Items.{covered}
use Rattle.p25_stream.proofs.{ItemLaws.{item-among}, WrittenLaws.{items-there}}
use Rattle.p25_follow.specs.{Chains.{chain_by, with_front}, Expected.{is_expected, kind_length}, Followed.{follow_of}, FollowedUnits.{IsWrittenUpTo, end_name}, RecordingLaws.{CompleteInStretches}}
use Rattle.p25_follow.specs.{StretchLaws.{bits_in}, Told.{name_errors_of}}
use Rattle.p25_follow.proofs.{ChainLaws.{chain_by-step}, KindLaws.{IsKind, expected-kinds, is_expected-all}, LengthLaws.{length-with_front}, StepLaws.{step_of-there}}
use Rattle.p25_follow.proofs.{StretchesLaws.{by-stretches}, TellsLaws.{step-near}}

-- a data unit that may follow one with a network access code (NAC) and a type
module _ (nac last kind : ℕ) (nac_fits : nac < 4096) (may : is_expected last kind ≡ true) where
  known : IsKind kind
  known = is_expected-all IsKind last kind (expected-kinds last) may

  at_first : (bits : List Bool) (end : Option (ℕ × ℕ)) → kind_length kind ≤ length bits → name_errors_of (nac, kind) (drop 0 bits) ≤ 11
      → part 0 (kind_length kind) (chain_by true (Some (nac, last)) bits end) ≡ with_front (nac, kind) (part 0 (kind_length kind) bits)
  at_first bits end there near =
      let count = kind_length kind in
      let raw = take count bits in
      let raw_long : length raw ≡ count = length-take-le count bits there in
      let unit = with_front (nac, kind) raw in
      let unit_long : length unit ≡ count = length-with_front (nac, kind) raw (omega (arith, raw_long, known.few)) ∙ raw_long in
      rw (chain_by-step true (nac, last) bits end kind refl (step-near nac last kind bits end nac_fits (omega (arith, known.fits)) may (omega (arith, known.few)) there near))
      (take_at unit (chain_by true (Some (nac, kind)) (drop count bits) end) count unit_long)

  after-written : (kinds : List ℕ) (before : ℕ × ℕ) (bits : List Bool) (end : Option (ℕ × ℕ)) (place : ℕ) → IsWrittenUpTo kinds before bits end place (nac, last)
      → place + kind_length kind ≤ length bits → name_errors_of (nac, kind) (drop place bits) ≤ 11
      → part place (kind_length kind) (chain_by true (Some before) bits end) ≡ with_front (nac, kind) (part place (kind_length kind) bits)
  unfolding IsWrittenUpTo
  after-written [] before bits end place is there near = rw (is.0, is.1) (at_first bits end (omega (arith, there)) (rw is.0 at near))
  after-written (other ∷ kinds) before bits end place is there near =
      let count = kind_length kind in
      let length_of = kind_length other in
      let step = step_of-there before bits end other is.0 in
      let name : ℕ × ℕ = (before.0, other) in
      let raw = take length_of bits in
      let left = drop length_of bits in
      let raw_long : length raw ≡ length_of = length-take-le length_of bits step.there in
      let unit = with_front name raw in
      let unit_long : length unit ≡ length_of = length-with_front name raw (omega (arith, raw_long, step.few)) ∙ raw_long in
      let next = chain_by true (Some name) left end in
      let less = place - length_of in
      let split : length_of + less ≡ place = omega (arith, is.1) in
      let later = after-written kinds name left end less is.2 (omega (arith, there, split, length-drop length_of bits)) (rw (drop-drop, split) near) in
      rw (chain_by-step true before bits end other refl is.0)
      (part_right place count unit next (omega (arith, unit_long, is.1)) ∙ rw (unit_long, later, part-drop less count length_of bits, split))

pub complete-in : CompleteInStretches
complete-in bits first unit stretch after is is_unit all no' kinds name place nac last kind named written nac_fits may there near =
    let start = bits_in first + covered unit in
    let n = bits_in stretch in
    let count = kind_length kind in
    let s = part start n bits in
    let there_in = item-among true 0 bits first unit (stretch ++ after) is in
    let enough : start + n ≤ length bits
    = omega (
      arith,
      items-there stretch after true (0 + bits_in first + covered unit) (drop (covered unit) (drop (bits_in first) bits)) (sym there_in.2),
      length-drop (covered unit) (drop (bits_in first) bits),
      length-drop (bits_in first) bits,
    ) in
    let s_long : length s ≡ n = length-part start n bits enough in
    rw (
      ← part-part start n place count (follow_of bits) there,
      (by-stretches bits first unit stretch after is is_unit all no').1,
      named,
      after-written nac last kind nac_fits may kinds name s (end_name after) place written (omega (arith, there, s_long)) near,
      part-part start n place count bits there,
    )
