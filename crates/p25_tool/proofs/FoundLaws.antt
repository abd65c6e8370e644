-- A data unit within the correction radius among any bits: the items before it and after it are written before its own and after it. `repair` keeps
-- the number of bits of each item, so the image of the data unit is at its position.
use Rattle.std.proofs.Common.{◌≡◌, ℕ, ◌+◌, ◌/◌, ◌%◌, ◌⊎◌, inl, inr, Bool, true, List, ◌++◌, length, ◌∙◌, arith}
use Rattle.std.proofs.lemmas.Grind.{flat_map-append}
use Rattle.std.specs.List.{flat_map, sum_by}
use Rattle.p25_bits.specs.Bits.{octet_bits}
use Rattle.p25_bits.proofs.{BitsLaws.{length-octet_bits}, NumbersLaws.{length-numbers_from}}
use Rattle.p25_units.specs.Items.{covered}
use Rattle.p25_stream.specs.{Arrivals.{Arrival, IsFound, IsHidden, IsNearArrival, whole_of}, Items.{items_of}, Repeats.{repaired}, Written.{written}}
use Rattle.p25_stream.proofs.{ArrivalLaws.{covered-whole_of, unit-found}, WrittenLaws.{part-written, repaired-keeps, written-all}}
use Rattle.p25_recording_filters.specs.ItemOutputs.{shown}
use Rattle.p25_tool.specs.Recorded.{RepairKeepsLength, RepairsEachUnit, ShowsEachUnit}
use Rattle.p25_tool.proofs.RecordedLaws.{octet_bits-whole}

-- the data unit is hidden or found among the items of octets
found-octets : (octets : List ℕ) (bits : List Bool) (arrival : Arrival) (more : List Bool) → IsNearArrival arrival → octet_bits octets ≡ bits ++ (arrival.bits ++ more)
    → IsHidden (length bits) (items_of 0 (octet_bits octets)) ⊎ IsFound 0 (length bits) arrival more (items_of 0 (octet_bits octets))
found-octets octets bits arrival more is all =
    let here : 0 + length bits ≡ length bits = omega arith in
    rw all (rw here at (unit-found 0 bits arrival more is))

pub shows-each_unit : ShowsEachUnit
shows-each_unit octets bits arrival more is all =
    elim (found-octets octets bits arrival more is all) [
      | inl hidden ↦ inl hidden
      | inr found ↦
          let after = items_of (length bits + length arrival.bits) more in
          inr (record {
            before = found.before;
            after = after;
            among = rw (found.among, flat_map-append);
          })
    ]

pub repair-keeps_length : RepairKeepsLength
repair-keeps_length octets =
    let bits = octet_bits octets in
    let all = written repaired (items_of 0 bits) bits in
    length-numbers_from 8 (length all / 8) all ∙ omega (arith, written-all repaired repaired-keeps 0 bits, length-octet_bits octets)

pub repairs-each_unit : RepairsEachUnit
repairs-each_unit octets bits arrival more is all =
    elim (found-octets octets bits arrival more is all) [
      | inl hidden ↦ inl hidden
      | inr found ↦
          let input = octet_bits octets in
          let place = length bits in
          let unit = whole_of place arrival in
          let whole : length (written repaired (items_of 0 input) input) % 8 ≡ 0 = omega (arith, written-all repaired repaired-keeps 0 input, length-octet_bits octets) in
          let ends : sum_by covered found.before ≡ place = omega (arith, found.ends) in
          inr (rw (octet_bits-whole (written repaired (items_of 0 input) input) whole)
          (rw (ends, covered-whole_of place arrival is) at (part-written repaired repaired-keeps true 0 input found.before unit (items_of (place + length arrival.bits) more) found.among)))
    ]
